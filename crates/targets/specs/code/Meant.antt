-- What code's values stand for, and the bounds that code leans on. Assumes nothing.
use Rattle.std.specs.Prelude.{None, Option, Some, ℕ, ◌<◌, ℤ}
use Rattle.ints.specs.code.Signed.{val}
use Rattle.answers.specs.code.Neighbours.{Before as NeighbourBefore}
use Rattle.targets.specs.declared.place.Way.{Way}
use Rattle.targets.specs.declared.place.Way.TheVariants.{Search, Earlier}

-- a slot found is before slot idx
abbrev pub Before : ℕ → Option ℕ → Type 0
Before idx (Some i) = i < idx
Before idx None = Unit {0}

-- an earlier slot that the caller names is before slot idx
abbrev pub WayBefore : ℕ → Way → Type 0
WayBefore idx (Search target) = Unit {0}
WayBefore idx (Earlier earlier) = NeighbourBefore idx earlier

-- the sum of a walk, if it ends
abbrev pub walk_of : Option ℕ → Option ℤ
walk_of (Some v) = Some (val v)
walk_of None = None
