-- Where a neighbour that the caller names is, once refusal 5 has found no fault with it. Assumes nothing.
use Rattle.std.specs.Prelude.{ℕ, ◌<◌}
use Rattle.answers.specs.declared.Neighbour.{Neighbour}
use Rattle.answers.specs.declared.Neighbour.TheVariants.{Named, Missing}

-- a neighbour that is named is before slot idx
abbrev pub Before : ℕ → Neighbour → Type 0
Before idx (Named i) = i < idx
Before idx (Missing f) = Unit {0}
