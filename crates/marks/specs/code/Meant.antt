-- What code's values stand for, and the bounds that code leans on. Assumes nothing.
use Rattle.std.specs.Prelude.{Result, Ok, Err, [], ◌∷◌, ℕ, ◌+◌, ◌-◌, ◌≤◌, ◌<◌}
use Rattle.ints.specs.code.Signed.{val}
use Rattle.slots.specs.Parent.{chain_limit}
use Rattle.tables.specs.code.Meant.{point_of}
use Rattle.answers.specs.Said.{unsafe_to_concat}
use Rattle.marks.specs.Anchors.{Anchors, both, missing, empty}
use Rattle.marks.specs.Plan.{Plan, stop, endless, hang}
use Rattle.marks.specs.declared.anchors.Anchors.{Anchors as CodeAnchors}
use Rattle.marks.specs.declared.anchors.NoAnchors.{NoAnchors}
use Rattle.marks.specs.declared.anchors.NoAnchors.TheVariants.{Missing, Empty}
use Rattle.marks.specs.declared.plan.Hang.{Hang}
use Rattle.marks.specs.declared.plan.Stop.{Stop}
use Rattle.marks.specs.declared.plan.Stop.TheVariants.{Nothing, Miss, Endless}

-- the anchors found
abbrev pub anchors_of : Result CodeAnchors NoAnchors → Anchors
anchors_of (Ok a) = both (point_of a.base) (point_of a.mark)
anchors_of (Err Missing) = missing
anchors_of (Err Empty) = empty

-- the plan for slot idx where it isn't to hang
abbrev pub stopped : ℕ → Stop → Plan
stopped idx Nothing = stop []
stopped idx (Miss f) = stop (unsafe_to_concat f (idx + 1) ∷ [])
stopped idx Endless = endless

-- the plan for slot idx that code's plan stands for
abbrev pub meant : ℕ → Result Hang Stop → Plan
meant idx (Ok h) = hang h.base_slot (point_of h.anchors.base) (point_of h.anchors.mark) (val h.walk)
meant idx (Err e) = stopped idx e

-- the slot to hang on is before slot idx
abbrev pub Sound : ℕ → Result Hang Stop → Type 0
Sound idx (Ok h) = h.base_slot < idx
Sound idx (Err e) = Unit {0}

-- slot b is near enough to slot idx for a chain of 16 bits
abbrev pub InReach : ℕ → ℕ → Type 0
InReach idx b = idx - b ≤ chain_limit
