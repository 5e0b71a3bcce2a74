-- A walk that never ends, by its steps: what refusal 7 comes to. No contract speaks of it, only the law of the walk.
-- Assumes nothing.
use Rattle.std.specs.Prelude.{Bool, true, false, List, ◌≡◌, ℕ}
use Rattle.ints.specs.theorems.Steps.{steps}
use Rattle.slots.specs.Slot.{Slot}
use Rattle.slots.specs.Parent.{by_parent}
use Rattle.targets.specs.Walk.{climb}

-- the walk ends at slot i: it goes on nowhere, or outside the line
unfoldable pub ends_at : List Slot → ℕ → Bool
ends_at ss i = by_parent (climb ss i) true true (λ j. false)

-- the slot to which the walk goes on from slot i: slot i itself where it ends
unfoldable pub next : List Slot → ℕ → ℕ
next ss i = by_parent (climb ss i) i i (λ j. j)

-- the slot k steps up from slot i
abbrev pub up : List Slot → ℕ → ℕ → ℕ
up ss i k = steps (next ss) i k

-- the walk from slot i never ends: after no number of steps has it ended
abbrev pub Endless : List Slot → ℕ → Type 0
Endless ss i = (k : ℕ) → ends_at ss (up ss i k) ≡ false
