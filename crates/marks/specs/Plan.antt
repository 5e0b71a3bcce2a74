-- What is to be done for a mark. Assumes nothing.
use Rattle.std.specs.Prelude.{None, Option, Some, Bool, List, [], ◌∷◌, ℕ, ◌+◌, ◌-◌, leb, ℤ}
use Rattle.slots.specs.Slot.{Slot}
use Rattle.slots.specs.Line.{slot}
use Rattle.slots.specs.Parent.{chain_limit}
use Rattle.slots.specs.declared.axis.Axis.{Axis}
use Rattle.tables.specs.Anchor.{Point}
use Rattle.answers.specs.Said.{Range, unsafe_to_break, unsafe_to_concat, Said, applied, declined, refused}
use Rattle.targets.specs.MarkPos.{base_index, mark_index}
use Rattle.targets.specs.Place.{missed, place_for}
use Rattle.targets.specs.Walk.{cross_offset}
use Rattle.targets.specs.declared.mark_pos.Target.{Target}
use Rattle.targets.specs.declared.mark_pos.Target.TheVariants.{Base}
use Rattle.targets.specs.declared.place.Way.{Way}
use Rattle.targets.specs.declared.place.Way.TheVariants.{Search, Earlier}
use Rattle.marks.specs.Anchors.{Anchors, both, missing, empty, anchors_for}

-- nothing, with the hazard to report, if any; refused, since the walk never ends; or the mark is to hang on slot b, by
-- the base's anchor and its own, with b's walk
pub data Plan : Type 0 where
  stop : (hazards : List Range) → Plan
  endless : Plan
  hang : (b : ℕ) (base mark : Point) (walk : ℤ) → Plan

-- once both anchors are known: slot b's walk ends, or not
abbrev pub after_walk : ℕ → Point → Point → Option ℤ → Plan
after_walk b base mark (Some walk) = hang b base mark walk
after_walk b base mark None = endless

-- once the anchors are known; in place of a ligature without components another glyph might have had an anchor
abbrev pub after_anchors : Axis → List Slot → ℕ → ℕ → Anchors → Plan
after_anchors a ss idx b (both base mark) = after_walk b base mark (cross_offset a ss b)
after_anchors a ss idx b missing = stop []
after_anchors a ss idx b empty = stop (unsafe_to_concat b (idx + 1) ∷ [])

-- the anchors of an earlier mark, in a Mark2Array, are laid out as those of a base
abbrev pub laid_out : Way → Target
laid_out (Search target) = target
laid_out (Earlier earlier) = Base

-- what is reported of slot b where it isn't covered: in place of what was searched for another glyph might be covered;
-- of an earlier mark, which was named, nothing
abbrev pub uncovered : Way → ℕ → ℕ → List Range
uncovered (Search target) idx b = unsafe_to_concat b (idx + 1) ∷ []
uncovered (Earlier earlier) idx b = []

-- once slot b is known: it is covered, or not
abbrev pub after_found : Way → Axis → List ℕ → List Slot → ℕ → ℕ → ℕ → Option ℕ → Plan
after_found way a t ss idx m b (Some k) =
    after_anchors a ss idx b (anchors_for (laid_out way) t k m (slot ss idx) (slot ss b))
after_found way a t ss idx m b None = stop (uncovered way idx b)

-- once the place is known: a slot, or none
abbrev pub after_place : Way → Axis → List ℕ → List Slot → ℕ → ℕ → Option ℕ → Plan
after_place way a t ss idx m (Some b) = after_found way a t ss idx m b (base_index t (slot ss b).glyph)
after_place way a t ss idx m None = stop (missed way t idx)

-- by the mark's own coverage
abbrev pub after_covered : Way → Axis → List ℕ → List Slot → ℕ → Option ℕ → Plan
after_covered way a t ss idx (Some m) = after_place way a t ss idx m (place_for way t ss idx)
after_covered way a t ss idx None = stop []

-- The plan for the mark in slot idx, by its own coverage, the slot that it goes on (of an earlier mark: mark bit, then
-- ids and components), that slot's coverage, the anchors, the walk, in this order; a is the cross axis.
unfoldable pub plan_of : Way → Axis → List ℕ → List Slot → ℕ → Plan
plan_of way a t ss idx = after_covered way a t ss idx (mark_index t (slot ss idx).glyph)

-- the distance from slot idx back to slot b fits a chain; in a line of 1,024 slots every distance does
abbrev pub fits : ℕ → ℕ → Bool
fits idx b = leb (idx - b) chain_limit

-- what is said of a plan: a mark whose base is too far is passed all the same, unattached, as in HarfBuzz
abbrev pub plan_said : ℕ → Plan → Said
plan_said idx (stop hazards) = declined hazards
plan_said idx endless = refused 7
plan_said idx (hang b base mark walk) = applied (idx + 1) (unsafe_to_break b (idx + 1) ∷ []) (fits idx b)
