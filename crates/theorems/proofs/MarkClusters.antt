-- Mark attachment neither looks at clusters nor writes them. Assumes nothing.
use Rattle.std.specs.Prelude.{None, Option, Some, if◌then◌else◌}
use mathlib.Core.List.{List}
use mathlib.Core.Path.{◌≡◌, refl, ap, ap₂, ◌∙◌}
use Prim.Native.Nat.{ℕ, zero, suc}
use lib.Dec.{eqb}
use lib.IntN.{ℤ, pos, ◌-ℤ◌}
use Rattle.ints.specs.Saturating.{sat_add}
use Rattle.slots.specs.Axis.{cross, main}
use Rattle.slots.specs.Slot.{Slot}
use Rattle.slots.specs.Line.{slot, update}
use Rattle.slots.specs.Fields.{attached, cursive_bit, offset, with_cluster, with_measure}
use Rattle.slots.specs.theorems.Clusters.{Blind, KeepsClusters, with_clusters}
use Rattle.slots.specs.Parent.{by_parent, cleared}
use Rattle.slots.specs.declared.axis.Axis.{Axis}
use Rattle.slots.specs.declared.axis.Direction.{Direction}
use Rattle.slots.specs.declared.fields.Measure.TheVariants.{Offset}
use Rattle.slots.specs.declared.parent.Parent.{Parent}
use Rattle.slots.specs.declared.parent.Parent.TheVariants.{None as Free, Outside, InLine as Hangs}
use Rattle.theorems.proofs.ClusterLaws.{blind_as, blind_by, cleared_keeps, glyph_blind, identities_blind, if_keeps, length_blind, measure_blind, measure_keeps, parent_blind, same_keeps, keeps_after, slot_with, SlotKeeps, type_blind, update_keeps}
use Rattle.tables.specs.Anchor.{Point}
use Rattle.tables.specs.AnchorRows.{rows_of}
use Rattle.answers.specs.declared.Neighbour.TheVariants.{Named, Missing}
use Rattle.targets.specs.MarkPos.{base_coverage_offset, base_index, mark_class_count, mark_index}
use Rattle.targets.specs.Place.{place_for}
use Rattle.targets.specs.Together.{stacks}
use Rattle.targets.specs.Walk.{climb, cross_offset, cross_offset_in}
use Rattle.targets.specs.declared.mark_pos.Target.{Target}
use Rattle.targets.specs.declared.mark_pos.Target.TheVariants.{Base, Ligature}
use Rattle.targets.specs.declared.place.Way.{Way}
use Rattle.targets.specs.declared.place.Way.TheVariants.{Search, Earlier}
use Rattle.lookup.proofs.IdentityLaws.{nearest_same, same_stops}
use Rattle.marks.specs.Anchors.{Anchors, both, missing, empty, anchors_for, row_table, after_rows}
use Rattle.marks.specs.Plan.{Plan, stop, endless, hang, fits, laid_out, plan_of, after_anchors, after_covered, after_found, after_place, after_walk}
use Rattle.marks.specs.Attachment.{anchor_delta, mark_attached, planned}

-- ---- the walk
-- where it goes on from slot i
climb_blind : (i : ℕ) → Blind (λ ss. climb ss i)
climb_blind i cs ss = ap₂ (λ (k : ℕ) (p : Parent). if cursive_bit k then p else Free) (type_blind i cs ss) (parent_blind i cs ss)

-- its sum in at most n tests
walk_blind : (n : ℕ) (a : Axis) (i : ℕ) (sum : ℤ) → Blind (λ ss. cross_offset_in n a ss i sum)
unfolding cross_offset_in
walk_blind zero a i sum = λ cs ss. refl
walk_blind (suc n) a i sum =
    blind_by (climb_blind i) (λ p ss. goes ss p)
    (step (λ j. blind_by (measure_blind Offset a j) (λ z ss. cross_offset_in n a ss j (sat_add sum z)) (λ z. walk_blind n a j (sat_add sum z))))
  where
    goes : List Slot → Parent → Option ℤ
    goes ss p = by_parent p (Some sum) (Some sum) (λ j. cross_offset_in n a ss j (sat_add sum (offset a (slot ss j))))

    step : ((j : ℕ) → Blind (λ ss. cross_offset_in n a ss j (sat_add sum (offset a (slot ss j))))) → (p : Parent) → Blind (λ ss. goes ss p)
    step more Free = λ cs ss. refl
    step more Outside = λ cs ss. refl
    step more (Hangs j) = more j

-- its sum
cross_blind : (a : Axis) (i : ℕ) → Blind (λ ss. cross_offset a ss i)
unfolding cross_offset
cross_blind a i =
    blind_by length_blind (λ n ss. cross_offset_in n a ss i (offset a (slot ss i)))
    (λ n. blind_by (measure_blind Offset a i) (λ z ss. cross_offset_in n a ss i z) (walk_blind n a i))

-- ---- the anchors
-- once the rows are known
rows_blind : (target : Target) (t : List ℕ) (k m c e : ℕ) (mark base : Slot) (r : Option ℕ)
    → after_rows target t k m (with_cluster c mark) (with_cluster e base) r ≡ after_rows target t k m mark base r
rows_blind Base t k m c e mark base (Some n) = refl
rows_blind Base t k m c e mark base None = refl
rows_blind Ligature t k m c e mark base (Some n) = refl
rows_blind Ligature t k m c e mark base None = refl

-- those of the mark in slot i and of slot b
anchors_blind : (target : Target) (t : List ℕ) (k m i b : ℕ) → Blind (λ ss. anchors_for target t k m (slot ss i) (slot ss b))
unfolding anchors_for
anchors_blind target t k m i b cs ss =
    ap₂ (anchors_for target t k m) (slot_with i cs ss) (slot_with b cs ss)
    ∙ rows_blind target t k m (slot (with_clusters cs ss) i).cluster (slot (with_clusters cs ss) b).cluster (slot ss i) (slot ss b)
    (rows_of (row_table target t k) (mark_class_count t))

-- ---- the slot that a mark goes on
place_blind : (way : Way) (t : List ℕ) (i : ℕ) → Blind (λ ss. place_for way t ss i)
unfolding place_for stacks
place_blind (Search target) t i cs ss =
    ap (λ (p : Option ℕ). if eqb (base_coverage_offset t) 0 then None else p)
    (nearest_same _ _ (same_stops (with_clusters cs ss) ss (identities_blind cs ss) target t) i)
place_blind (Earlier (Named b)) t i cs ss = ap₂ (λ (mark earlier : Slot). if stacks mark earlier then Some b else None) (slot_with i cs ss) (slot_with b cs ss)
place_blind (Earlier (Missing f)) t i cs ss = refl

-- ---- the plan
module _ (way : Way) (a : Axis) (t : List ℕ) (i : ℕ) where
  -- once the anchors are known
  with_anchors : (b : ℕ) (x : Anchors) → Blind (λ ss. after_anchors a ss i b x)
  with_anchors b (both base mark) = blind_as (cross_blind a b) (after_walk b base mark)
  with_anchors b missing = λ cs ss. refl
  with_anchors b empty = λ cs ss. refl

  -- once slot b is known
  with_found : (m b : ℕ) (c : Option ℕ) → Blind (λ ss. after_found way a t ss i m b c)
  with_found m b (Some k) = blind_by (anchors_blind (laid_out way) t k m i b) (λ x ss. after_anchors a ss i b x) (with_anchors b)
  with_found m b None = λ cs ss. refl

  -- once the place is known
  with_place_lem : (m : ℕ) (p : Option ℕ) → Blind (λ ss. after_place way a t ss i m p)
  with_place_lem m (Some b) = blind_by (blind_as (glyph_blind b) (base_index t)) (λ c ss. after_found way a t ss i m b c) (with_found m b)
  with_place_lem m None = λ cs ss. refl

  -- by the mark's own coverage
  with_covered : (c : Option ℕ) → Blind (λ ss. after_covered way a t ss i c)
  with_covered (Some m) = blind_by (place_blind way t i) (λ p ss. after_place way a t ss i m p) (with_place_lem m)
  with_covered None = λ cs ss. refl

  -- the whole
  pub plan_blind : Blind (λ ss. plan_of way a t ss i)
  unfolding plan_of
  plan_blind = blind_by (blind_as (glyph_blind i) (mark_index t)) (λ c ss. after_covered way a t ss i c) with_covered

-- ---- the slots that are left
module _ (s u : ℕ) (d : Direction) (i : ℕ) where
  -- a mark hung
  attachment_keeps : (b : ℕ) (base mark : Point) (walk : ℤ) → SlotKeeps (mark_attached s u d i b base mark walk)
  attachment_keeps b base mark walk c m =
      let along : ℤ = anchor_delta s u (main d) base mark in
      let across : ℤ = sat_add (anchor_delta s u (cross d) base mark) walk in
      ap (attached 1 (pos b -ℤ pos i))
      (keeps_after (with_measure Offset (main d) along) (with_measure Offset (cross d) across)
      (measure_keeps Offset (main d) along) (measure_keeps Offset (cross d) across) c m)

  -- by a plan
  pub planned_keeps : (p : Plan) → KeepsClusters (planned s u d i p)
  planned_keeps (stop hazards) = same_keeps
  planned_keeps endless = same_keeps
  planned_keeps (hang b base mark walk) =
      if_keeps (update i (mark_attached s u d i b base mark walk)) (λ ss. cleared ss i)
      (update_keeps (mark_attached s u d i b base mark walk) (attachment_keeps b base mark walk) i) (cleared_keeps i) (fits i b)
