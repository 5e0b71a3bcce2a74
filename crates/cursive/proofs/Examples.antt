-- Sums worked by hand, computed from the definitions: joins in other directions, and plans. Assumes nothing.
use mathlib.Core.List.{List, [], ◌∷◌}
use mathlib.Core.Path.{◌≡◌, refl}
use Prim.Native.Nat.{ℕ}
use lib.IntN.{ℤ, pos}
use Rattle.ints.specs.BigEndian.{nat_at}
use Rattle.ints.specs.Saturating.{clamp32, minus}
use Rattle.ints.specs.Scale.{scaled}
use Rattle.ints.specs.Signed.{int_at, signed}
use Rattle.ints.specs.Tally.{bit, tally}
use Rattle.slots.specs.Line.{update}
use Rattle.slots.specs.Parent.{cleared, parent}
use Rattle.slots.specs.declared.axis.Direction.TheVariants.{BottomToTop, LeftToRight, RightToLeft}
use Rattle.tables.specs.Anchor.{Point}
use Rattle.tables.specs.Spans.{first_holding, span_at, spans_from}
use Rattle.answers.specs.Said.{unsafe_to_concat}
use Rattle.answers.specs.declared.Neighbour.{Neighbour}
use Rattle.answers.specs.declared.Neighbour.TheVariants.{Named, Missing}
use Rattle.chains.specs.Chains.{attached_count}
use Rattle.chains.specs.Reversal.{reversed, reversed_in, turned}
use Rattle.chains.proofs.Examples.{glyph_slot}
use Rattle.cursive.specs.Attachment.{joined_at, separated_by, tied}
use Rattle.cursive.specs.CursivePos.{join, Plan, plan_of, stop}

abbrev spot_at : ℤ → ℤ → Point
spot_at x y = record { x = x; y = y }

-- bottom to top, flag clear, exit (20, 500), entry (5, 30): slot 0 is pulled back by 500, and slot 1's y advance is the entry's y alone
pub bottom_to_top : joined_at 1000 1000 BottomToTop 0 0 1 (spot_at (pos 20) (pos 500)) (spot_at (pos 5) (pos 30))
    (glyph_slot 5 0 (pos 0) (pos 0) (pos 600) (pos 0) (pos 0) ∷ glyph_slot 6 0 (pos 0) (pos 0) (pos 600) (pos 0) (pos 7) ∷ [])
    ≡ glyph_slot 5 0 (pos 0) (pos 0) (pos 100) (pos 0) (minus 500) ∷ glyph_slot 6 2 (minus 1) (pos 0) (pos 30) (pos 15) (pos 7) ∷ []
unfolding joined_at tied separated_by reversed reversed_in turned cleared attached_count tally bit update parent scaled clamp32
bottom_to_top = refl

-- ---- at the ends
-- covers glyphs 5 and 6: 5 has an exit anchor alone, 6 an entry anchor alone; both lead to the anchor (3, 4)
abbrev halves : List ℕ
halves =
    0 ∷ 1 ∷ 0 ∷ 14 ∷ 0 ∷ 2 ∷ 0 ∷ 0 ∷ 0 ∷ 22 ∷ 0 ∷ 22 ∷ 0 ∷ 0
    ∷ 0 ∷ 1 ∷ 0 ∷ 2 ∷ 0 ∷ 5 ∷ 0 ∷ 6
    ∷ 0 ∷ 1 ∷ 0 ∷ 3 ∷ 0 ∷ 4
    ∷ []

-- the plan for glyph h in slot 1, after glyph g in slot 0
abbrev after : ℕ → ℕ → Neighbour → Plan
after g h n = plan_of halves (glyph_slot g 0 (pos 0) (pos 0) (pos 0) (pos 0) (pos 0) ∷ glyph_slot h 0 (pos 0) (pos 0) (pos 0) (pos 0) (pos 0) ∷ []) 1 n

-- no entry anchor declines before a missing previous is told of; previous missing, from the end; previous uncovered; no exit anchor; both there
pub plans : after 5 5 (Missing 0) ∷ after 5 6 (Missing 2) ∷ after 4 6 (Named 0) ∷ after 6 6 (Named 0) ∷ after 5 6 (Named 0) ∷ []
    ≡ (stop [] ∷ stop (unsafe_to_concat 2 2 ∷ []) ∷ stop [] ∷ stop (unsafe_to_concat 0 2 ∷ []) ∷ join 0 (spot_at (pos 3) (pos 4)) (spot_at (pos 3) (pos 4)) ∷ [])
unfolding plan_of nat_at int_at signed spans_from span_at first_holding
plans = refl

-- the parent hangs on the child, by type 1: it is separated, whatever its type, and its type byte stays
pub separates : joined_at 1000 1000 LeftToRight 0 0 1 (spot_at (pos 500) (pos 20)) (spot_at (pos 30) (pos 5))
    (glyph_slot 5 1 (pos 1) (pos 600) (pos 0) (pos 0) (pos 9) ∷ glyph_slot 6 0 (pos 0) (pos 600) (pos 0) (pos 0) (pos 0) ∷ [])
    ≡ glyph_slot 5 1 (pos 0) (pos 500) (pos 0) (pos 0) (pos 0) ∷ glyph_slot 6 2 (minus 1) (pos 570) (pos 0) (minus 30) (pos 15) ∷ []
unfolding joined_at tied separated_by reversed reversed_in turned cleared attached_count tally bit update parent scaled clamp32
separates = refl

-- right to left, RIGHT_TO_LEFT set among other flags: slot 0, the child, is pulled back by 40 + 10, slot 1's advance is 300 + 7; each of the four numbers is scaled
-- by itself: at half size the exit y 3 is 2 and the entry y -1 is -1, so that the difference is -3; scaled once it would be -2
pub right_to_left_lem : joined_at 500 1000 RightToLeft 65535 0 1 (spot_at (pos 80) (pos 3)) (spot_at (pos 600) (minus 1))
    (glyph_slot 5 0 (pos 0) (pos 600) (pos 0) (pos 10) (pos 1) ∷ glyph_slot 6 0 (pos 0) (pos 500) (pos 0) (pos 7) (pos 1) ∷ [])
    ≡ glyph_slot 5 2 (pos 1) (pos 550) (pos 0) (minus 40) (minus 3) ∷ glyph_slot 6 0 (pos 0) (pos 307) (pos 0) (pos 7) (pos 1) ∷ []
unfolding joined_at tied separated_by reversed reversed_in turned cleared attached_count tally bit update parent scaled clamp32
right_to_left_lem = refl
