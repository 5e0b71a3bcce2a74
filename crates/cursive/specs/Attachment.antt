-- Cursive attachment: what joining two glyphs does to the line. Assumes nothing.
use Rattle.std.specs.Prelude.{Bool, true, false, List, ℕ, ◌%◌, eqb, ℤ, pos, neg_ℤ, if◌then◌else◌}
use Rattle.ints.specs.Saturating.{sat_sub, sat_neg, sat_add}
use Rattle.ints.specs.Scale.{scaled}
use Rattle.ints.specs.Signed.{same_as}
use Rattle.slots.specs.Axis.{cross, main}
use Rattle.slots.specs.Slot.{Slot}
use Rattle.slots.specs.Line.{slot, update}
use Rattle.slots.specs.Fields.{advance, attached, offset, with_chain, with_measure}
use Rattle.slots.specs.Parent.{cursive_type}
use Rattle.slots.specs.declared.axis.Axis.{Axis}
use Rattle.slots.specs.declared.axis.Axis.TheVariants.{X, Y}
use Rattle.slots.specs.declared.axis.Direction.{Direction}
use Rattle.slots.specs.declared.axis.Direction.TheVariants.{LeftToRight, RightToLeft, TopToBottom, BottomToTop}
use Rattle.slots.specs.declared.fields.Measure.TheVariants.{Advance, Offset}
use Rattle.tables.specs.Anchor.{Point, coordinate}
use Rattle.answers.specs.Outcome.{Call}
use Rattle.answers.specs.declared.Neighbour.{Neighbour}
use Rattle.chains.specs.Chains.{chain_to}
use Rattle.chains.specs.Reversal.{reversed}
use Rattle.cursive.specs.CursivePos.{Plan, stop, join, plan_of, plan_said}

-- a coordinate of an anchor, scaled by itself
abbrev pub scaled_at : ℕ → ℕ → Axis → Point → ℤ
scaled_at s u a p = scaled (coordinate a p) s u

-- ---- along the line, on the axis a, by an anchor at z
-- the glyph ends at its anchor: the advance becomes the anchor plus the glyph's offset
abbrev pub ended : Axis → ℤ → Slot → Slot
ended a z s = with_measure Advance a (sat_add z (offset a s)) s

-- the glyph is pulled back to its anchor: advance and offset shrink by the anchor plus the offset
abbrev pub pulled : Axis → ℤ → Slot → Slot
pulled a z s =
    with_measure Offset a (sat_sub (offset a s) (sat_add z (offset a s)))
    (with_measure Advance a (sat_sub (advance a s) (sat_add z (offset a s))) s)

-- the advance becomes the anchor alone
abbrev pub advanced_to : Axis → ℤ → Slot → Slot
advanced_to a z s = with_measure Advance a z s

-- what becomes of the previous glyph, by its exit anchor: forward it ends there, backward it is pulled back
abbrev pub previous_joined : Direction → ℤ → Slot → Slot
previous_joined LeftToRight z s = ended X z s
previous_joined RightToLeft z s = pulled X z s
previous_joined TopToBottom z s = ended Y z s
previous_joined BottomToTop z s = pulled Y z s

-- and of this glyph, by its entry anchor: the other way round. Bottom to top its advance becomes the entry alone: right
-- to left, its mirror image, the glyph's offset is added, but HarfBuzz leaves it out here, and of results the source
-- decides.
abbrev pub this_joined : Direction → ℤ → Slot → Slot
this_joined LeftToRight z s = pulled X z s
this_joined RightToLeft z s = ended X z s
this_joined TopToBottom z s = pulled Y z s
this_joined BottomToTop z s = advanced_to Y z s

-- ---- across the line
-- is RIGHT_TO_LEFT, 0x0001, set in the lookup's flag?
abbrev pub right_to_left : ℕ → Bool
right_to_left flag = eqb (flag % 2) 1

-- The child hung on the parent with a cross offset. A slot has room for one chain: where the child hung on another
-- glyph already, that chain is reversed first, so that the glyphs it led to hang on the child, and through it on the
-- new parent, and keep their places among themselves.
abbrev pub child_attached : Axis → ℕ → ℕ → ℤ → List Slot → List Slot
child_attached a child parent z ss =
    update child (λ s. attached cursive_type (chain_to child parent) (with_measure Offset a z s))
    (reversed a ss child parent)

-- The parent separated, whatever its type, if it was attached to a child that hangs on it by the chain c: else the two
-- would hang on each other (harfbuzz #2469). Its type byte stays.
unfoldable pub separated_by : Axis → ℤ → ℕ → List Slot → List Slot
separated_by a c parent ss =
    if same_as (slot ss parent).chain (neg_ℤ c)
    then update parent (λ s. with_chain (pos 0) (with_measure Offset a (pos 0) s)) ss
    else ss

-- a child hung on a parent, and the parent separated from it
unfoldable pub tied : Axis → ℕ → ℕ → ℤ → List Slot → List Slot
tied a child parent z ss = separated_by a (chain_to child parent) parent (child_attached a child parent z ss)

-- The parent stays on the baseline: the later glyph when the flag is set, the common case of Arabic, the earlier one
-- when it is clear. The cross offset is entry less exit, negated when the flag is clear.
abbrev pub crossed : Axis → Bool → ℕ → ℕ → ℤ → ℤ → List Slot → List Slot
crossed a true i idx exit entry ss = tied a i idx (sat_sub entry exit) ss
crossed a false i idx exit entry ss = tied a idx i (sat_neg (sat_sub entry exit)) ss

-- ---- both
-- slot i, previous, and slot idx, this one, joined by exit and entry anchor at the scale s / u
unfoldable pub joined_at : ℕ → ℕ → Direction → ℕ → ℕ → ℕ → Point → Point → List Slot → List Slot
joined_at s u d flag i idx exit entry ss =
    crossed (cross d) (right_to_left flag) i idx (scaled_at s u (cross d) exit) (scaled_at s u (cross d) entry)
    (update idx (this_joined d (scaled_at s u (main d) entry))
    (update i (previous_joined d (scaled_at s u (main d) exit)) ss))

-- the slots that a plan leaves
abbrev pub planned : ℕ → ℕ → Direction → ℕ → ℕ → Plan → List Slot → List Slot
planned s u d flag idx (stop hazards) ss = ss
planned s u d flag idx (join i exit entry) ss = joined_at s u d flag i idx exit entry ss

-- cursive attachment of slot i to the previous slot that the caller names, by the lookup's flag
abbrev pub cursive_attachment : (t : List ℕ) (d : Direction) (s u i : ℕ) (previous : Neighbour) (flag : ℕ) → Call
cursive_attachment t d s u i previous flag =
    record {
      says = λ ss. plan_said i (plan_of t ss i previous);
      leaves = λ ss. planned s u d flag i (plan_of t ss i previous) ss;
    }
