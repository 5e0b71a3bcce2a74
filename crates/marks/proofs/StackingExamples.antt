-- Worked values of mark to mark, at lines and subtables that are written out: each way of belonging together, each decline, in order. They compute. Assumes nothing.
use mathlib.Core.Path.{◌≡◌, refl}
use mathlib.Core.Bool.{Bool, true, false}
use mathlib.Core.List.{List, [], ◌∷◌, map}
use Prim.Native.Nat.{ℕ}
use lib.IntN.{pos, negsuc}
use Rattle.ints.proofs.Examples.{words}
use Rattle.ints.specs.BigEndian.{nat_at}
use Rattle.ints.specs.Saturating.{clamp32}
use Rattle.ints.specs.Scale.{scaled}
use Rattle.ints.specs.Signed.{int_at, signed}
use Rattle.slots.specs.Slot.{Slot}
use Rattle.slots.specs.Line.{slot, update}
use Rattle.slots.specs.Parent.{parent}
use Rattle.slots.specs.declared.axis.Axis.TheVariants.{Y}
use Rattle.slots.specs.declared.axis.Direction.{Direction}
use Rattle.slots.specs.declared.axis.Direction.TheVariants.{LeftToRight, TopToBottom}
use Rattle.tables.specs.Spans.{ascends, first_holding, span_at, spans_from}
use Rattle.answers.specs.Said.{applied, refused, unsafe_to_break, unsafe_to_concat}
use Rattle.answers.specs.declared.Neighbour.{Neighbour}
use Rattle.answers.specs.declared.Neighbour.TheVariants.{Named, Missing}
use Rattle.targets.specs.MarkPos.{base_index, mark_index, marks_good}
use Rattle.targets.specs.Place.{place_for}
use Rattle.targets.specs.Together.{stacks}
use Rattle.targets.specs.Walk.{cross_offset, cross_offset_in}
use Rattle.targets.specs.declared.place.Way.TheVariants.{Earlier}
use Rattle.targets.proofs.Examples.{glyph_at, subtable}
use Rattle.marks.specs.Anchors.{anchors_for}
use Rattle.marks.specs.Attachment.{mark_attachment}
use Rattle.marks.specs.Plan.{hang, Plan, plan_of, stop}
use Rattle.marks.proofs.Examples.{point}

-- an earlier slot of this glyph, id, component and flags, with y offset 30, and after it a mark of glyph 9 with this id and component
abbrev two : ℕ → ℕ → ℕ → ℕ → ℕ → ℕ → List Slot
two g i c f j k = glyph_at g i c f 0 (pos 0) (pos 30) ∷ glyph_at 9 j k 2 0 (pos 0) (pos 99) ∷ []

-- the plan for the second of these slots, with the first named, by the subtable of `Examples`: glyph 9 is covered as a mark, glyph 5 as an earlier mark
abbrev by : List Slot → Plan
by ss = plan_of (Earlier (Named 0)) Y (subtable 4) ss 1

-- by ids and components of the earlier slot and of the mark
abbrev ids : ℕ → ℕ → ℕ → ℕ → Plan
ids i c j k = by (two 5 i c 2 j k)

-- stacked on slot 0: by its anchor (100, 200) and the mark's (10, 20), with its y offset as the walk
abbrev stacked : Plan
stacked = hang 0 (point (pos 100) (pos 200)) (point (pos 10) (pos 20)) (pos 30)

-- the decline with concat from this slot on
abbrev concat : ℕ → Plan
concat f = stop (unsafe_to_concat f 2 ∷ [])

-- a subtable with the coverage of earlier marks, the array of marks and that of earlier marks at these offsets; the last is cut after `rows`
abbrev parts : ℕ → ℕ → List ℕ → List ℕ
parts earlier marks rows = words (1 ∷ 12 ∷ earlier ∷ 1 ∷ marks ∷ 36 ∷ 1 ∷ 1 ∷ 9 ∷ 1 ∷ 1 ∷ 5 ∷ 1 ∷ 0 ∷ 6 ∷ 1 ∷ 10 ∷ 20 ∷ rows)

-- its rows whole: one, with the anchor (100, 200)
abbrev whole : List ℕ
whole = 1 ∷ 4 ∷ 1 ∷ 100 ∷ 200 ∷ []

-- the plan by such a subtable, for marks of equal ids, or for marks that don't belong together
abbrev with : List ℕ → Bool → Plan
with t true = plan_of (Earlier (Named 0)) Y t (two 5 0 0 2 0 0) 1
with t false = plan_of (Earlier (Named 0)) Y t (two 5 4 1 2 4 2) 1

-- slots 0 and 1 are marks, cursive, and hang on each other; slot 2 is a mark
abbrev loop : List Slot
loop = glyph_at 5 0 0 2 2 (pos 1) (pos 5) ∷ glyph_at 5 0 0 2 2 (negsuc 0) (pos 7) ∷ glyph_at 9 0 0 2 0 (pos 0) (pos 0) ∷ []

-- a base, a vowel mark of id 4 and this component that hangs on it, and a tone mark of the same id and component 2
abbrev thai : ℕ → List Slot
thai c = glyph_at 5 0 0 1 0 (pos 0) (pos 100) ∷ glyph_at 5 4 c 2 1 (negsuc 0) (pos 30) ∷ glyph_at 9 4 2 2 0 (pos 0) (pos 99) ∷ []

pub record Worked : Type 0 where
  -- equal ids of 0: whatever the components
  pub no_ids : map (λ (k : ℕ). ids 0 1 0 k) (0 ∷ 1 ∷ 2 ∷ []) ≡ (stacked ∷ stacked ∷ stacked ∷ [])
  -- equal ids above 0: equal components, and 0 with 0 among them; others are another component's marks
  pub same_component : ids 4 2 4 2 ∷ ids 4 0 4 0 ∷ [] ≡ (stacked ∷ stacked ∷ [])
  pub other_component : ids 4 1 4 2 ∷ ids 4 0 4 2 ∷ ids 4 2 4 0 ∷ [] ≡ (concat 0 ∷ concat 0 ∷ concat 0 ∷ [])
  -- different ids: the earlier or the later slot is a ligature itself, by an id that isn't 0 and a component that is
  pub own_ligature_lem : ids 3 0 4 1 ∷ ids 3 1 4 0 ∷ ids 3 0 0 1 ∷ ids 0 1 4 0 ∷ [] ≡ (stacked ∷ stacked ∷ stacked ∷ stacked ∷ [])
  -- the id of one and the component of the other don't make one
  pub not_one : ids 3 1 4 2 ∷ ids 0 0 4 2 ∷ ids 3 1 0 0 ∷ [] ≡ (concat 0 ∷ concat 0 ∷ concat 0 ∷ [])
  -- the earlier slot missing: the bound that the caller named is told
  pub missing : map (λ (f : ℕ). plan_of (Earlier (Missing f)) Y (subtable 4) (two 5 0 0 2 0 0) 1) (0 ∷ 1 ∷ 2 ∷ []) ≡ (concat 0 ∷ concat 1 ∷ concat 2 ∷ [])
  -- without the mark bit a concat, however the ids are; whether it is seen or multiplied isn't asked
  pub mark_bit : map (λ (f : ℕ). by (two 5 0 0 f 0 0)) (0 ∷ 1 ∷ 4 ∷ 5 ∷ 2 ∷ 3 ∷ 6 ∷ 7 ∷ [])
      ≡ (concat 0 ∷ concat 0 ∷ concat 0 ∷ concat 0 ∷ stacked ∷ stacked ∷ stacked ∷ stacked ∷ [])
  -- the mark's own bit isn't asked
  pub own_bit : by (glyph_at 5 0 0 2 0 (pos 0) (pos 30) ∷ glyph_at 9 0 0 0 0 (pos 0) (pos 0) ∷ []) ≡ stacked
  -- an earlier mark that isn't covered: no hazard; but mark bit and ids are tested before it
  pub uncovered : by (two 7 0 0 2 0 0) ∷ by (two 7 0 0 0 0 0) ∷ by (two 7 4 1 2 4 2) ∷ [] ≡ (stop [] ∷ concat 0 ∷ concat 0 ∷ [])
  -- a mark that isn't covered itself: no hazard, before all else
  pub own_uncovered : map (λ (n : Neighbour). plan_of (Earlier n) Y (subtable 4) (glyph_at 5 4 1 0 0 (pos 0) (pos 0) ∷ glyph_at 8 4 2 2 0 (pos 0) (pos 0) ∷ []) 1) (Named 0 ∷ Missing 0 ∷ []) ≡ (stop [] ∷ stop [] ∷ [])
  -- a coverage of earlier marks at offset 0 covers nothing, and is found after the ids
  pub no_coverage : map (with (parts 0 24 whole)) (true ∷ false ∷ []) ≡ (stop [] ∷ concat 0 ∷ [])
  -- without a record of the mark, and with rows that are cut or none: a decline without hazard, after the ids
  pub no_record : map (with (parts 18 0 whole)) (true ∷ false ∷ []) ≡ (stop [] ∷ concat 0 ∷ [])
  pub cut_rows : map (λ (rows : List ℕ). with (parts 18 24 rows) true) (whole ∷ (1 ∷ []) ∷ (0 ∷ []) ∷ (1 ∷ 0 ∷ []) ∷ [])
      ≡ (stacked ∷ stop [] ∷ stop [] ∷ stop [] ∷ [])
  -- all rows must be there, though the first and its anchor are: four end with the table, five don't
  pub whole_or_none : map (λ (n : ℕ). with (parts 18 24 (n ∷ 4 ∷ 1 ∷ 100 ∷ 200 ∷ [])) true) (4 ∷ 5 ∷ []) ≡ (stacked ∷ stop [] ∷ [])
  -- the earlier mark's walk never ends: refusal 7, on either axis; but not where an anchor is missing or the two don't belong together
  pub endless : map (λ (d : Direction). (mark_attachment (Earlier (Named 1)) (subtable 4) d 1000 1000 2).says loop) (LeftToRight ∷ TopToBottom ∷ []) ≡ (refused 7 ∷ refused 7 ∷ [])
  pub endless_last : plan_of (Earlier (Named 1)) Y (subtable 0) loop 2
      ∷ plan_of (Earlier (Named 1)) Y (subtable 4) (glyph_at 5 0 0 2 2 (pos 1) (pos 5) ∷ glyph_at 5 4 1 2 2 (negsuc 0) (pos 7) ∷ glyph_at 9 4 2 2 0 (pos 0) (pos 0) ∷ []) 2 ∷ []
      ≡ (stop [] ∷ stop (unsafe_to_concat 1 3 ∷ []) ∷ [])
  -- hazards start at the earlier slot; from one that hangs by type 1 nothing is walked, so its base's 100 isn't added
  pub elsewhere : map (λ (c : ℕ). plan_of (Earlier (Named 1)) Y (subtable 4) (thai c) 2) (2 ∷ 1 ∷ [])
      ≡ (hang 1 (point (pos 100) (pos 200)) (point (pos 10) (pos 20)) (pos 30) ∷ stop (unsafe_to_concat 1 3 ∷ []) ∷ [])
  pub elsewhere_said : (mark_attachment (Earlier (Named 1)) (subtable 4) LeftToRight 500 1000 2).says (thai 2) ≡ applied 3 (unsafe_to_break 1 3 ∷ []) true
  -- stacked: one on, break from the earlier slot, attached; type 1, the chain back to it, both offsets replaced, the walk across the line
  pub said : (mark_attachment (Earlier (Named 0)) (subtable 4) LeftToRight 500 1000 1).says (two 5 0 0 2 0 0) ≡ applied 2 (unsafe_to_break 0 2 ∷ []) true
  pub left : slot ((mark_attachment (Earlier (Named 0)) (subtable 4) LeftToRight 500 1000 1).leaves (two 5 0 0 2 0 0)) 1
      ≡ record { glyph = 9; ligature_id = 0; component = 0; flags = 2; attach_type = 1; chain = negsuc 0; x_advance = pos 600; y_advance = pos 0; x_offset = pos 45; y_offset = pos 120; cluster = 0 }
  -- the subtables are good
  pub good : map marks_good (subtable 4 ∷ parts 0 0 whole ∷ parts 18 24 (1 ∷ []) ∷ []) ≡ (true ∷ true ∷ true ∷ [])

pub worked : Worked
unfolding ascends first_holding span_at spans_from nat_at int_at signed clamp32 scaled update parent
    anchors_for base_index mark_index marks_good stacks place_for plan_of cross_offset cross_offset_in
worked = record {
  no_ids = refl;
  same_component = refl;
  other_component = refl;
  own_ligature_lem = refl;
  not_one = refl;
  missing = refl;
  mark_bit = refl;
  own_bit = refl;
  uncovered = refl;
  own_uncovered = refl;
  no_coverage = refl;
  no_record = refl;
  cut_rows = refl;
  whole_or_none = refl;
  endless = refl;
  endless_last = refl;
  elsewhere = refl;
  elsewhere_said = refl;
  said = refl;
  left = refl;
  good = refl;
}
