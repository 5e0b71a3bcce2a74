-- Reversal of an old chain (`reverse_cursive_minor_offset`). Assumes nothing.
use Rattle.std.specs.Prelude.{List, ℕ, zero, suc, eqb, neg_ℤ, if◌then◌else◌}
use Rattle.ints.specs.Saturating.{sat_neg}
use Rattle.slots.specs.Slot.{Slot}
use Rattle.slots.specs.Line.{slot, update}
use Rattle.slots.specs.Fields.{attached, cursive_bit, offset, with_measure}
use Rattle.slots.specs.Parent.{by_parent, cleared, parent}
use Rattle.slots.specs.declared.axis.Axis.{Axis}
use Rattle.slots.specs.declared.fields.Measure.TheVariants.{Offset}
use Rattle.chains.specs.Chains.{attached_count, reach}

-- the parent j hung onto its child i: by the whole type byte and the negated chain that the child had (`was`), with the
-- child's offset, as it is by now, negated
unfoldable pub turned : Axis → Slot → List Slot → ℕ → ℕ → List Slot
turned a was ss i j =
    update j
    (λ s. attached was.attach_type (reach (neg_ℤ was.chain))
    (with_measure Offset a (sat_neg (offset a (slot ss i))) s))
    ss

-- The line with slot i's chain reversed, in at most n calls. Only a type with the cursive bit is followed. The chain is
-- cleared on the way in; a parent outside the line, or the new parent p, ends it; else the parent's own chain is
-- reversed, and on the way out the parent is hung onto this slot.
unfoldable pub reversed_in : ℕ → Axis → List Slot → ℕ → ℕ → List Slot
reversed_in zero a ss i p = ss
reversed_in (suc n) a ss i p =
    if cursive_bit (slot ss i).attach_type then
    by_parent (parent ss i) ss (cleared ss i)
    (λ j. if eqb j p then cleared ss i else turned a (slot ss i) (reversed_in n a (cleared ss i) j p) i j)
    else ss

-- as many calls as there are attached slots are enough, since each clears one
unfoldable pub reversed : Axis → List Slot → ℕ → ℕ → List Slot
reversed a ss i p = reversed_in (attached_count ss) a ss i p
