-- Mark attachment (`attach_mark`): what hanging a mark on a slot does to the line. Assumes nothing.
use Rattle.std.specs.Prelude.{List, ℕ, ℤ, pos, ◌-ℤ◌, if◌then◌else◌}
use Rattle.ints.specs.Saturating.{sat_add}
use Rattle.ints.specs.Scale.{scaled}
use Rattle.slots.specs.Axis.{cross, main}
use Rattle.slots.specs.Slot.{Slot}
use Rattle.slots.specs.Line.{update}
use Rattle.slots.specs.Fields.{attached, with_measure}
use Rattle.slots.specs.Parent.{cleared, mark_type}
use Rattle.slots.specs.declared.axis.Axis.{Axis}
use Rattle.slots.specs.declared.axis.Direction.{Direction}
use Rattle.slots.specs.declared.fields.Measure.TheVariants.{Offset}
use Rattle.tables.specs.Anchor.{Point, coordinate}
use Rattle.answers.specs.Outcome.{Call}
use Rattle.targets.specs.declared.place.Way.{Way}
use Rattle.marks.specs.Plan.{Plan, stop, endless, hang, fits, plan_of, plan_said}

-- how far the base's anchor is from the mark's: the difference is scaled, not each of the two
abbrev pub anchor_delta : ℕ → ℕ → Axis → Point → Point → ℤ
anchor_delta s u a base mark = scaled (coordinate a base -ℤ coordinate a mark) s u

-- The mark hung on slot b: type, chain, and both offsets replaced. Across the line the base's walk is added now: a
-- cursive base has only its offset from its own parent, and the sum along its chain is where it will be drawn. So
-- finishing doesn't add the base's cross offset to a mark, as older HarfBuzz did: it would count twice.
abbrev pub mark_attached : ℕ → ℕ → Direction → ℕ → ℕ → Point → Point → ℤ → Slot → Slot
mark_attached s u d idx b base mark walk m =
    attached mark_type (pos b -ℤ pos idx)
    (with_measure Offset (cross d) (sat_add (anchor_delta s u (cross d) base mark) walk)
    (with_measure Offset (main d) (anchor_delta s u (main d) base mark) m))

-- the slots that a plan leaves: a mark whose base is too far loses its chain
abbrev pub planned : ℕ → ℕ → Direction → ℕ → Plan → List Slot → List Slot
planned s u d idx (stop hazards) ss = ss
planned s u d idx endless ss = ss
planned s u d idx (hang b base mark walk) ss =
    if fits idx b then update idx (mark_attached s u d idx b base mark walk) ss else cleared ss idx

-- attachment of the mark in slot i, to what is searched for or to the earlier mark that is named
abbrev pub mark_attachment : (way : Way) (t : List ℕ) (d : Direction) (s u i : ℕ) → Call
mark_attachment way t d s u i =
    record {
      says = λ ss. plan_said i (plan_of way (cross d) t ss i);
      leaves = λ ss. planned s u d i (plan_of way (cross d) t ss i) ss;
    }
