-- All that mark attachment may say, by the plan's cases: a property that holds of each holds of what it says. Assumes nothing.
use Rattle.std.specs.Prelude.{None, Option, Some}
use mathlib.Core.Bool.{Bool}
use mathlib.Core.List.{List, [], ◌∷◌}
use Prim.Native.Nat.{ℕ, ◌+◌}
use lib.IntN.{ℤ}
use Rattle.slots.specs.Slot.{Slot}
use Rattle.slots.specs.Line.{slot}
use Rattle.slots.specs.declared.axis.Axis.{Axis}
use Rattle.tables.specs.Anchor.{Point}
use Rattle.answers.specs.Said.{applied, declined, Range, refused, Said}
use Rattle.targets.specs.MarkPos.{base_index, mark_index}
use Rattle.targets.specs.Place.{place_for}
use Rattle.targets.specs.Walk.{cross_offset}
use Rattle.targets.specs.declared.place.Way.{Way}
use Rattle.targets.specs.declared.place.Way.TheVariants.{Search, Earlier}
use Rattle.targets.proofs.PlaceLaws.{of_missed}
use Rattle.marks.specs.Anchors.{Anchors, both, missing, empty, anchors_for}
use Rattle.marks.specs.Plan.{plan_of, plan_said, after_anchors, after_covered, after_found, after_place, after_walk, laid_out, uncovered}

module _ (P : Said → Type 0) (way : Way) (a : Axis) (t : List ℕ) (ss : List Slot) (idx : ℕ)
    (refuses : P (refused 7))
    (declines : P (declined []))
    (misses : (h : Range) → P (declined (h ∷ [])))
    (hangs : (h : Range) (attached : Bool) → P (applied (idx + 1) (h ∷ []) attached)) where
  walks : (b : ℕ) (base mark : Point) (w : Option ℤ) → P (plan_said idx (after_walk b base mark w))
  walks b base mark (Some walk) = hangs _ _
  walks b base mark None = refuses

  anchors : (b : ℕ) (found : Anchors) → P (plan_said idx (after_anchors a ss idx b found))
  anchors b (both base mark) = walks b base mark (cross_offset a ss b)
  anchors b missing = declines
  anchors b empty = misses _

  -- what is reported of a slot that isn't covered
  reported : (b : ℕ) (w : Way) → P (declined (uncovered w idx b))
  reported b (Search target) = misses _
  reported b (Earlier earlier) = declines

  found : (m b : ℕ) (c : Option ℕ) → P (plan_said idx (after_found way a t ss idx m b c))
  found m b (Some k) = anchors b (anchors_for (laid_out way) t k m (slot ss idx) (slot ss b))
  found m b None = reported b way

  placed : (m : ℕ) (p : Option ℕ) → P (plan_said idx (after_place way a t ss idx m p))
  placed m (Some b) = found m b (base_index t (slot ss b).glyph)
  placed m None = of_missed (λ hs. P (declined hs)) declines misses t idx way

  covered : (c : Option ℕ) → P (plan_said idx (after_covered way a t ss idx c))
  covered (Some m) = placed m (place_for way t ss idx)
  covered None = declines

  pub says : P (plan_said idx (plan_of way a t ss idx))
  unfolding plan_of
  says = covered (mark_index t (slot ss idx).glyph)
