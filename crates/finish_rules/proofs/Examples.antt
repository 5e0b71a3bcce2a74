-- Sums worked by hand, as statements about the definitions. Assumes nothing.
use mathlib.Core.Bool.{true, false}
use mathlib.Core.List.{List, [], ◌∷◌}
use mathlib.Core.Path.{◌≡◌, refl}
use Prim.Native.Nat.{ℕ}
use lib.IntN.{ℤ, pos}
use Rattle.ints.specs.Saturating.{clamp32, minus}
use Rattle.ints.specs.Sums.{stepwise}
use Rattle.slots.specs.Slot.{Slot, no_slot}
use Rattle.slots.specs.Line.{update}
use Rattle.slots.specs.Fields.{attached, with_place}
use Rattle.slots.specs.Parent.{cleared, parent}
use Rattle.slots.specs.declared.axis.Direction.TheVariants.{LeftToRight, RightToLeft, TopToBottom}
use Rattle.finish_rules.specs.Finish.{finished, taken_in, settled, settled_down, settled_up, shifted}

-- a slot of the type k, with chain c, x advance a and offsets
abbrev pub made : ℕ → ℤ → ℤ → ℤ → ℤ → Slot
made k c a ox oy = attached k c (with_place a (pos 0) ox oy no_slot)

-- the example of the finishing program: a base, a mark on it, and a mark on that mark
abbrev pub example : List Slot
example = made 0 (pos 0) (pos 600) (pos 0) (pos 0) ∷ made 1 (minus 1) (pos 0) (pos 250) (pos 40) ∷ made 1 (minus 1) (pos 0) (pos 10) (pos 700) ∷ []

pub program : finished LeftToRight 64 true example
    ≡ made 0 (pos 0) (pos 600) (pos 0) (pos 0) ∷ made 1 (pos 0) (pos 0) (minus 350) (pos 40) ∷ made 1 (pos 0) (pos 0) (minus 340) (pos 700) ∷ []
unfolding finished settled_up settled taken_in cleared update parent shifted stepwise clamp32
program = refl

-- two cursive slots that point at each other, right to left: the last is settled first
abbrev pair : ℤ → ℤ → ℤ → ℤ → List Slot
pair c e a b = made 2 c (pos 0) (pos 0) a ∷ made 2 e (pos 0) (pos 0) b ∷ []

pub loop_backward : finished RightToLeft 64 true (pair (pos 1) (minus 1) (pos 5) (pos 7)) ≡ pair (pos 0) (pos 0) (pos 12) (pos 19)
unfolding finished settled_down settled taken_in cleared update parent shifted stepwise clamp32
loop_backward = refl

-- a mark after its base, right to left: the advances from after the base to the mark are added
abbrev far : ℤ → ℤ → List Slot
far c ox = made 0 (pos 0) (pos 600) (pos 3) (pos 0) ∷ made 0 (pos 0) (pos 50) (pos 0) (pos 0) ∷ made 1 c (pos 7) ox (pos 40) ∷ []

pub backward : finished RightToLeft 64 true (far (minus 2) (pos 250)) ≡ far (pos 0) (pos 310)
unfolding finished settled_down settled taken_in cleared update parent shifted stepwise clamp32
backward = refl

-- ---- at the ends
-- a slot of the type k hangs on a cursive one with the y offset b, and that on a slot with y offset 4
abbrev third : ℕ → ℤ → ℤ → List Slot
third k c b = made k c (pos 0) (pos 0) (pos 1) ∷ made 2 c (pos 0) (pos 0) b ∷ made 0 (pos 0) (pos 0) (pos 0) (pos 4) ∷ []

-- limit 0 clears every chain and moves nothing; without the flag even the chains stay
pub limit_0 : finished LeftToRight 0 true (third 2 (pos 1) (pos 2)) ≡ third 2 (pos 0) (pos 2)
unfolding finished settled_up settled taken_in cleared update parent shifted stepwise clamp32
limit_0 = refl

pub no_flag : finished LeftToRight 64 false (third 2 (pos 1) (pos 2)) ≡ third 2 (pos 1) (pos 2)
unfolding finished
no_flag = refl

-- a parent outside the line, by one or by far: the chain is cleared and the offsets stay
pub outside : finished LeftToRight 64 true (pair (minus 1) (pos 32767) (pos 5) (pos 7)) ≡ pair (pos 0) (pos 0) (pos 5) (pos 7)
unfolding finished settled_up settled taken_in cleared update parent shifted stepwise clamp32
outside = refl

-- type 3 adds nothing to itself, but its parent is settled first, by one less: at limit 1 that only clears the parent's chain
pub type_3 : (finished LeftToRight 1 true (third 3 (pos 1) (pos 2)) ≡ third 3 (pos 0) (pos 2)) × (finished LeftToRight 2 true (third 3 (pos 1) (pos 2)) ≡ third 3 (pos 0) (pos 6))
unfolding finished settled_up settled taken_in cleared update parent shifted stepwise clamp32
type_3 = (refl, refl)

-- a mark before its base, whose x offset is 3: forward the mark's own advance, 7, is added; backward the base's, 600, is subtracted
abbrev ahead : ℤ → ℤ → List Slot
ahead c ox = made 1 c (pos 7) ox (pos 40) ∷ made 0 (pos 0) (pos 600) (pos 3) (pos 9) ∷ []

pub mark_first : (finished LeftToRight 64 true (ahead (pos 1) (pos 5)) ≡ ahead (pos 0) (pos 15)) × (finished RightToLeft 64 true (ahead (pos 1) (pos 5)) ≡ ahead (pos 0) (minus 592))
unfolding finished settled_up settled_down settled taken_in cleared update parent shifted stepwise clamp32
mark_first = (refl, refl)

-- it saturates step by step: the base's offset goes past 2147483647 and is lost, then 600 is subtracted
abbrev high : ℤ → ℤ → List Slot
high c ox = made 0 (pos 0) (pos 600) (pos 100) (pos 0) ∷ made 1 c (pos 0) ox (pos 0) ∷ []

pub steps : finished LeftToRight 64 true (high (minus 1) (pos 2147483647)) ≡ high (pos 0) (pos 2147483047)
unfolding finished settled_up settled taken_in cleared update parent shifted stepwise clamp32
steps = refl

-- down the page a mark takes the base's y offset, 4, and both advances, -1000 and 30, off; its x offset doesn't take the base's, 8
abbrev down : ℤ → ℤ → ℤ → List Slot
down c ox oy = with_place (pos 30) (minus 1000) (pos 8) (pos 4) no_slot ∷ attached 1 c (with_place (pos 0) (pos 0) ox oy no_slot) ∷ []

pub vertical : finished TopToBottom 64 true (down (minus 1) (pos 10) (pos 20)) ≡ down (pos 0) (minus 20) (pos 1024)
unfolding finished settled_up settled taken_in cleared update parent shifted stepwise clamp32
vertical = refl
