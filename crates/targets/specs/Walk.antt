-- The cross-offset walk (`cross_offset`): the cross offsets of a slot and of its cursive parents, summed. Assumes
-- nothing.
use Rattle.std.specs.Prelude.{None, Option, Some, List, ℕ, zero, suc, ℤ, length, if◌then◌else◌}
use Rattle.ints.specs.Saturating.{sat_add}
use Rattle.slots.specs.Slot.{Slot}
use Rattle.slots.specs.Line.{slot}
use Rattle.slots.specs.Fields.{cursive_bit, offset}
use Rattle.slots.specs.Parent.{by_parent, parent}
use Rattle.slots.specs.declared.axis.Axis.{Axis}
use Rattle.slots.specs.declared.parent.Parent.{Parent}
use Rattle.slots.specs.declared.parent.Parent.TheVariants.{None}

-- where the walk goes on from slot i: by a type with the cursive bit to the parent
abbrev pub climb : List Slot → ℕ → Parent
climb ss i = if cursive_bit (slot ss i).attach_type then parent ss i else None

-- the sum to where the walk from slot i ends, saturating step by step, in at most n tests; none where it has not ended
-- by then
unfoldable pub cross_offset_in : ℕ → Axis → List Slot → ℕ → ℤ → Option ℤ
cross_offset_in zero a ss i sum = None
cross_offset_in (suc n) a ss i sum =
    by_parent (climb ss i) (Some sum) (Some sum) (λ j. cross_offset_in n a ss j (sat_add sum (offset a (slot ss j))))

-- as many tests as there are slots are enough: a walk that has not ended by then never ends
unfoldable pub cross_offset : Axis → List Slot → ℕ → Option ℤ
cross_offset a ss i = cross_offset_in (length ss) a ss i (offset a (slot ss i))
