-- Worked values: the loop of the worked sums, and what is easy to get wrong with marks, at the lines and the subtable of
-- `targets`. They compute. Assumes nothing.
use mathlib.Core.Path.{◌≡◌, refl}
use mathlib.Core.Bool.{true, false}
use mathlib.Core.List.{List, [], ◌∷◌, map}
use Prim.Native.Nat.{ℕ}
use lib.IntN.{ℤ, pos, negsuc}
use Rattle.ints.proofs.Examples.{words}
use Rattle.ints.specs.BigEndian.{nat_at}
use Rattle.ints.specs.Saturating.{clamp32}
use Rattle.ints.specs.Scale.{scaled}
use Rattle.ints.specs.Signed.{int_at, signed}
use Rattle.ints.specs.Tally.{nearest}
use Rattle.slots.specs.Line.{slot, update}
use Rattle.slots.specs.Parent.{parent}
use Rattle.slots.specs.declared.axis.Axis.TheVariants.{Y}
use Rattle.slots.specs.declared.axis.Direction.TheVariants.{LeftToRight, TopToBottom}
use Rattle.tables.specs.Anchor.{Point}
use Rattle.tables.specs.Spans.{ascends, first_holding, span_at, spans_from}
use Rattle.answers.specs.Said.{unsafe_to_break, unsafe_to_concat, applied, declined, refused}
use Rattle.targets.specs.MarkPos.{base_index, mark_index, marks_good}
use Rattle.targets.specs.Place.{place_for}
use Rattle.targets.specs.Search.{stops_at}
use Rattle.targets.specs.Walk.{cross_offset, cross_offset_in}
use Rattle.targets.specs.declared.mark_pos.Target.TheVariants.{Base, Ligature}
use Rattle.targets.specs.declared.place.Way.TheVariants.{Search}
use Rattle.targets.proofs.Examples.{glyph_at, loop, part, plain, subtable}
use Rattle.marks.specs.Attachment.{planned}
use Rattle.marks.specs.Anchors.{anchors_for}
use Rattle.marks.specs.Plan.{endless, fits, hang, Plan, plan_of, plan_said, stop}

abbrev pub point : ℤ → ℤ → Point
point x y = record { x = x; y = y }

pub record Worked : Type 0 where
  -- the subtable is good; the mark attaches to slot 0, the base that is seen
  pub attaches : (marks_good (subtable 4) ≡ true) × (plan_of (Search Base) Y (subtable 4) plain 2 ≡ hang 0 (point (pos 100) (pos 200)) (point (pos 10) (pos 20)) (pos 30))
  -- both anchors found, the walk never ends: refusal 7; without the base's anchor a decline, without hazard
  pub refused_7 : (plan_of (Search Base) Y (subtable 4) loop 2 ≡ endless) × (plan_said 2 (plan_of (Search Base) Y (subtable 4) loop 2) ≡ refused 7)
  pub no_anchor : plan_said 2 (plan_of (Search Base) Y (subtable 0) loop 2) ≡ declined []
  -- nothing is seen before the mark, and what was found is not covered: concat
  pub none_found : plan_of (Search Base) Y (subtable 4) (glyph_at 5 0 0 0 0 (pos 0) (pos 0) ∷ glyph_at 9 0 0 2 0 (pos 0) (pos 0) ∷ []) 1 ≡ stop (unsafe_to_concat 0 2 ∷ [])
  pub uncovered : plan_of (Search Base) Y (subtable 4) (part 0 0 ∷ part 0 0 ∷ part 0 0 ∷ []) 2 ≡ stop (unsafe_to_concat 1 3 ∷ [])
  -- attached, left to right: the anchors' difference, scaled as one number (185 at half size is 93; 206 less 21 would be 103 less 11), and across the line the
  -- base's walk
  pub across_y : slot (planned 500 1000 LeftToRight 2 (hang 0 (point (pos 100) (pos 206)) (point (pos 10) (pos 21)) (pos 30)) plain) 2
      ≡ record { glyph = 9; ligature_id = 0; component = 0; flags = 2; attach_type = 1; chain = negsuc 1; x_advance = pos 600; y_advance = pos 0; x_offset = pos 45; y_offset = pos 123; cluster = 0 }
  -- top to bottom the walk goes to x
  pub across_x : slot (planned 500 1000 TopToBottom 2 (hang 0 (point (pos 100) (pos 206)) (point (pos 10) (pos 21)) (pos 30)) plain) 2
      ≡ record { glyph = 9; ligature_id = 0; component = 0; flags = 2; attach_type = 1; chain = negsuc 1; x_advance = pos 600; y_advance = pos 0; x_offset = pos 75; y_offset = pos 93; cluster = 0 }
  pub passes : plan_said 2 (plan_of (Search Base) Y (subtable 4) plain 2) ≡ applied 3 (unsafe_to_break 0 3 ∷ []) true

pub worked : Worked
unfolding ascends first_holding span_at spans_from nat_at int_at signed clamp32 scaled update parent
    anchors_for base_index mark_index marks_good place_for plan_of nearest stops_at cross_offset cross_offset_in
worked = record {
  attaches = (refl, refl);
  refused_7 = (refl, refl);
  no_anchor = refl;
  none_found = refl;
  uncovered = refl;
  across_y = refl;
  across_x = refl;
  passes = refl;
}

-- ---- at the ends
-- a MarkLigPos subtable: glyph 9 is a mark of this class, glyph 5 a ligature with this component table; the mark array is at this offset
abbrev ligature : ℕ → ℕ → List ℕ → List ℕ
ligature array class components =
    words (1 ∷ 12 ∷ 18 ∷ 1 ∷ array ∷ 36 ∷ 1 ∷ 1 ∷ 9 ∷ 1 ∷ 1 ∷ 5 ∷ 1 ∷ class ∷ 6 ∷ 1 ∷ 10 ∷ 20 ∷ 1 ∷ 4 ∷ components)

-- two components, with anchors at x 100 and 200
abbrev two : List ℕ
two = 2 ∷ 6 ∷ 12 ∷ 1 ∷ 100 ∷ 0 ∷ 1 ∷ 200 ∷ 0 ∷ []

-- the plan for a mark of id 4 and this component after a ligature of this id
abbrev onto : List ℕ → ℕ → ℕ → Plan
onto t i c = plan_of (Search Ligature) Y t (glyph_at 5 i 0 1 0 (pos 0) (pos 0) ∷ glyph_at 9 4 c 2 0 (pos 0) (pos 0) ∷ []) 1

abbrev at : ℕ → Plan
at x = hang 0 (point (pos x) (pos 0)) (point (pos 10) (pos 20)) (pos 0)

-- the plan for the mark alone, by coverages at these offsets: at 12 that of the mark, at 18 one that is empty
abbrev alone : ℕ → ℕ → Plan
alone marks bases = plan_of (Search Base) Y (words (1 ∷ marks ∷ bases ∷ 1 ∷ 0 ∷ 0 ∷ 1 ∷ 1 ∷ 9 ∷ 1 ∷ 0 ∷ [])) (part 0 0 ∷ []) 0

pub record Ends : Type 0 where
  -- ids equal and not 0: the mark's own component, at most the last; component 0 or another id: the last
  pub components : map (onto (ligature 24 0 two) 4) (1 ∷ 2 ∷ 15 ∷ 0 ∷ []) ≡ (at 100 ∷ at 200 ∷ at 200 ∷ at 200 ∷ [])
  pub another_id : onto (ligature 24 0 two) 3 1 ≡ at 200
  -- no component: concat, also where the mark array is missing; which else is a decline, as are a cut component table and a class past the count of classes
  pub no_component : map (λ (a : ℕ). onto (ligature a 0 (0 ∷ [])) 4 1) (24 ∷ 0 ∷ []) ≡ (stop (unsafe_to_concat 0 2 ∷ []) ∷ stop (unsafe_to_concat 0 2 ∷ []) ∷ [])
  pub missing_parts : onto (ligature 0 0 two) 4 1 ∷ onto (ligature 24 0 (2 ∷ 6 ∷ [])) 4 1 ∷ onto (ligature 24 1 two) 4 1 ∷ [] ≡ (stop [] ∷ stop [] ∷ stop [] ∷ [])
  -- a base coverage of offset 0 declines before the search, an empty one does search; an uncovered mark declines first of all
  pub coverages : alone 12 0 ∷ alone 12 18 ∷ alone 18 18 ∷ alone 0 18 ∷ [] ≡ (stop [] ∷ stop (unsafe_to_concat 0 1 ∷ []) ∷ stop [] ∷ stop [] ∷ [])
  -- a base 32,768 slots before the mark can be reached, one farther can't
  pub far : map (λ (b : ℕ). fits 40000 b) (7232 ∷ 7231 ∷ []) ≡ (true ∷ false ∷ [])

pub ends : Ends
unfolding first_holding span_at spans_from nat_at int_at signed clamp32 parent anchors_for base_index mark_index place_for plan_of nearest stops_at cross_offset cross_offset_in
ends = record {
  components = refl;
  another_id = refl;
  no_component = refl;
  missing_parts = refl;
  coverages = refl;
  far = refl;
}
