-- Mark attachment leaves what slots are. Assumes nothing.
use mathlib.Core.List.{List}
use mathlib.Core.Path.{◌≡◌, refl, ◌∙◌}
use Prim.Native.Nat.{ℕ}
use lib.IntN.{ℤ}
use Rattle.ints.specs.Saturating.{sat_add}
use Rattle.slots.specs.Axis.{cross, main}
use Rattle.slots.specs.Slot.{Slot}
use Rattle.slots.specs.Line.{update}
use Rattle.slots.specs.Fields.{with_measure}
use Rattle.slots.specs.Parent.{cleared}
use Rattle.slots.specs.theorems.Identity.{identities, identity}
use Rattle.slots.specs.declared.axis.Direction.{Direction}
use Rattle.slots.specs.declared.fields.Measure.TheVariants.{Offset}
use Rattle.tables.specs.Anchor.{Point}
use Rattle.targets.specs.declared.place.Way.{Way}
use Rattle.marks.specs.Plan.{Plan, stop, endless, hang, fits, plan_of}
use Rattle.marks.specs.Attachment.{anchor_delta, mark_attachment, mark_attached, planned}
use Rattle.lookup.proofs.Kept.{choice, cleared_kept, measure_kept, update_kept}

module _ (s u : ℕ) (d : Direction) (i : ℕ) where
  -- a mark hung
  hung_kept : (b : ℕ) (base mark : Point) (walk : ℤ) (m : Slot) → identity (mark_attached s u d i b base mark walk m) ≡ identity m
  hung_kept b base mark walk m =
      let along : ℤ = anchor_delta s u (main d) base mark in
      measure_kept Offset (cross d) (sat_add (anchor_delta s u (cross d) base mark) walk) (with_measure Offset (main d) along m) ∙ measure_kept Offset (main d) along m

  -- by a plan
  planned_kept : (p : Plan) (ss : List Slot) → identities (planned s u d i p ss) ≡ identities ss
  planned_kept (stop hazards) ss = refl
  planned_kept endless ss = refl
  planned_kept (hang b base mark walk) ss =
      choice (λ r. identities r ≡ identities ss) (update i (mark_attached s u d i b base mark walk) ss) (cleared ss i)
      (update_kept i _ (hung_kept b base mark walk) ss) (cleared_kept ss i) (fits i b)

-- mark attachment, whatever the way
pub mark_kept : (way : Way) (t : List ℕ) (d : Direction) (s u i : ℕ) (ss : List Slot) → identities ((mark_attachment way t d s u i).leaves ss) ≡ identities ss
mark_kept way t d s u i ss = planned_kept s u d i (plan_of way (cross d) t ss i) ss
