-- The cases beside P5 and P6 of the worked sums, computed from the definitions: direction 0, s and u alike. Assumes nothing.
use mathlib.Core.Path.{◌≡◌, refl}
use mathlib.Core.Bool.{Bool, true, false}
use mathlib.Core.List.{List, [], ◌∷◌, map}
use Prim.Native.Nat.{ℕ}
use lib.IntN.{ℤ, pos}
use Rattle.ints.proofs.Examples.{words}
use Rattle.ints.specs.BigEndian.{nat_at}
use Rattle.ints.specs.Saturating.{clamp32, minus}
use Rattle.ints.specs.Scale.{scaled}
use Rattle.ints.specs.Signed.{int_at, signed}
use Rattle.slots.specs.Axis.{direction_of}
use Rattle.slots.specs.Slot.{Slot, no_slot}
use Rattle.slots.specs.Fields.{with_place, with_glyph}
use Rattle.slots.specs.Line.{update}
use Rattle.tables.specs.Header.{header_good}
use Rattle.tables.specs.Spans.{ascends, first_holding, span_at, spans_from}
use Rattle.values.specs.Format.{set_below}
use Rattle.values.specs.FieldEffect.{effect_of}
use Rattle.values.specs.Value.{fields_work, valued, with_fields, worked}
use Rattle.answers.specs.Said.{Said, applied, unsafe_to_break, unsafe_to_concat, declined}
use Rattle.answers.specs.declared.Neighbour.{Neighbour}
use Rattle.answers.specs.declared.Neighbour.TheVariants.{Named, Missing}
use Rattle.pair.specs.PairPos.{classes_good, pair_good}
use Rattle.pair.specs.PairSet.{probe_in}
use Rattle.pair.specs.Plan.{plan_of}
use Rattle.pair.specs.Adjustment.{planned, plan_said}

-- ---- subtables
-- format 1, by its two value formats: the glyph 5 is covered, the offset of its pair set is `off`, and this pair set stands at byte 18
abbrev covering : ℕ → ℕ → ℕ → List ℕ → List ℕ
covering f₁ f₂ off set = words (1 ∷ 12 ∷ f₁ ∷ f₂ ∷ 1 ∷ off ∷ 1 ∷ 1 ∷ 5 ∷ set)

abbrev pairs : ℕ → ℕ → List ℕ → List ℕ
pairs f₁ f₂ set = covering f₁ f₂ 18 set

-- format 2, by how many second classes there are: glyph 5 is covered and of first class 1; glyph 7 is of second class 1, glyph 8 of 2, all others of 0
abbrev by_class : ℕ → List ℕ
by_class n = words (2 ∷ 24 ∷ 4 ∷ 0 ∷ 30 ∷ 38 ∷ 2 ∷ n ∷ 10 ∷ 20 ∷ 30 ∷ 65486 ∷ 1 ∷ 1 ∷ 5 ∷ 1 ∷ 5 ∷ 1 ∷ 1 ∷ 1 ∷ 7 ∷ 2 ∷ 1 ∷ 2 ∷ [])

-- ---- lines: a slot of a glyph with this x advance, all else 0
abbrev wide : ℕ → ℤ → Slot
wide g x = with_place x (pos 0) (pos 0) (pos 0) (with_glyph g no_slot)

abbrev plain : ℕ → Slot
plain g = wide g (pos 0)

-- what the check says of the subtable, what is said of the call, and the slots afterwards
pub record Made : Type 0 where
  pub good : Bool
  pub said : Said
  pub line : List Slot

-- what the definitions make of a call, and what is right
pub record Row : Type 0 where
  pub done : Made
  pub right : Made

-- subtable, glyphs of the line, index, neighbour; what is said, and the slots
abbrev row : List ℕ → List ℕ → ℕ → Neighbour → Said → List Slot → Row
row t glyphs idx n s line =
    let d = direction_of 0 in
    let ss = map plain glyphs in
    let p = plan_of t ss idx n in
    record {
      done = record { good = pair_good t; said = plan_said d t idx p; line = planned 1000 1000 d t idx p ss };
      right = record { good = true; said = s; line = line };
    }

-- a decline of the pair of slots 0 and 1, of the glyphs 5 and g
abbrev declines : List ℕ → ℕ → Said → Row
declines t g s = row t (5 ∷ g ∷ []) 0 (Named 1) s (plain 5 ∷ plain g ∷ [])

-- the cases, one to a line
abbrev pub table : List Row
table =
    -- the values 20 and -50, in this order; and the second one cut, which leaves the first
    row (pairs 4 4 (1 ∷ 7 ∷ 20 ∷ 65486 ∷ [])) (5 ∷ 7 ∷ []) 0 (Named 1) (applied 2 (unsafe_to_break 0 2 ∷ unsafe_to_break 0 3 ∷ []) false) (wide 5 (pos 20) ∷ wide 7 (minus 50) ∷ [])
    ∷ row (pairs 4 4 (1 ∷ 7 ∷ 20 ∷ [])) (5 ∷ 7 ∷ []) 0 (Named 1) (applied 2 (unsafe_to_break 0 2 ∷ unsafe_to_break 0 3 ∷ []) false) (wide 5 (pos 20) ∷ plain 7 ∷ [])
    -- the second is missing, with the bound 3; the first is uncovered besides
    ∷ row (pairs 4 0 (1 ∷ 7 ∷ 65486 ∷ [])) (6 ∷ 5 ∷ 7 ∷ []) 1 (Missing 3) (declined (unsafe_to_concat 1 3 ∷ [])) (plain 6 ∷ plain 5 ∷ plain 7 ∷ [])
    ∷ row (pairs 4 0 (1 ∷ 7 ∷ 65486 ∷ [])) (6 ∷ 5 ∷ 7 ∷ []) 0 (Missing 3) (declined []) (plain 6 ∷ plain 5 ∷ plain 7 ∷ [])
    -- three records are counted and two are there: the middle one is found, the glyph after it is cut
    ∷ row (pairs 4 0 (3 ∷ 6 ∷ 0 ∷ 7 ∷ 65486 ∷ [])) (5 ∷ 7 ∷ []) 0 (Named 1) (applied 1 (unsafe_to_break 0 2 ∷ []) false) (wide 5 (minus 50) ∷ plain 7 ∷ [])
    ∷ declines (pairs 4 0 (3 ∷ 6 ∷ 0 ∷ 7 ∷ 65486 ∷ [])) 8 (declined [])
    -- no record has the glyph; no pair set: its offset is 0, past the end, or leads to one byte
    ∷ declines (pairs 4 0 (1 ∷ 7 ∷ 65486 ∷ [])) 8 (declined (unsafe_to_concat 0 2 ∷ []))
    ∷ declines (covering 4 0 0 (1 ∷ 7 ∷ 65486 ∷ [])) 7 (declined [])
    ∷ declines (covering 4 0 24 (1 ∷ 7 ∷ 65486 ∷ [])) 7 (declined [])
    ∷ declines (covering 4 0 23 (1 ∷ 7 ∷ 65486 ∷ [])) 7 (declined [])
    -- format 2: a hit, a second class outside its count, a record that is cut
    ∷ row (by_class 2) (5 ∷ 7 ∷ []) 0 (Named 1) (applied 1 (unsafe_to_break 0 2 ∷ []) false) (wide 5 (minus 50) ∷ plain 7 ∷ [])
    ∷ declines (by_class 2) 8 (declined (unsafe_to_concat 0 2 ∷ []))
    ∷ declines (by_class 1000) 7 (declined (unsafe_to_concat 0 2 ∷ []))
    ∷ []

-- each is as it should be
pub computed : map (λ (x : Row). x.done) table ≡ map (λ (x : Row). x.right) table
unfolding nat_at clamp32 scaled int_at signed update ascends first_holding span_at spans_from set_below effect_of fields_work valued with_fields worked header_good classes_good pair_good probe_in plan_of
computed = refl

-- ---- at the ends
-- format 2 without class lists, so that every glyph is of class 0: one record, of these value formats, for glyph 5 and any second
abbrev classless : ℕ → ℕ → ℕ → ℕ → List ℕ
classless f₁ f₂ n v = words (2 ∷ 18 ∷ f₁ ∷ f₂ ∷ 0 ∷ 0 ∷ n ∷ 1 ∷ v ∷ 1 ∷ 1 ∷ 5 ∷ [])

abbrev pub ends : List Row
ends =
    -- a bound is reported as named, even where the range is then backward
    row (pairs 4 0 (1 ∷ 7 ∷ 65486 ∷ [])) (6 ∷ 5 ∷ []) 1 (Missing 0) (declined (unsafe_to_concat 1 0 ∷ [])) (plain 6 ∷ plain 5 ∷ [])
    -- a slot between the two: the ranges and the next index go by the second
    ∷ row (pairs 4 0 (1 ∷ 7 ∷ 65486 ∷ [])) (5 ∷ 9 ∷ 7 ∷ []) 0 (Named 2) (applied 2 (unsafe_to_break 0 3 ∷ []) false) (wide 5 (minus 50) ∷ plain 9 ∷ plain 7 ∷ [])
    -- no records: the range is empty at once; a count of 1 with none there: cut
    ∷ declines (pairs 4 0 (0 ∷ [])) 7 (declined (unsafe_to_concat 0 2 ∷ []))
    ∷ declines (pairs 4 0 (1 ∷ [])) 7 (declined [])
    -- the seconds 9, 7, 8 are probed at 7 first: 9 stands before it and isn't found
    ∷ declines (pairs 4 0 (3 ∷ 9 ∷ 1 ∷ 7 ∷ 2 ∷ 8 ∷ 3 ∷ [])) 9 (declined (unsafe_to_concat 0 2 ∷ []))
    ∷ row (pairs 4 0 (3 ∷ 9 ∷ 1 ∷ 7 ∷ 2 ∷ 8 ∷ 3 ∷ [])) (5 ∷ 8 ∷ []) 0 (Named 1) (applied 1 (unsafe_to_break 0 2 ∷ []) false) (wide 5 (pos 3) ∷ plain 8 ∷ [])
    -- found, and its first value cut: applied, not worked
    ∷ row (pairs 4 0 (1 ∷ 7 ∷ [])) (5 ∷ 7 ∷ []) 0 (Named 1) (applied 1 (unsafe_to_concat 0 2 ∷ []) false) (plain 5 ∷ plain 7 ∷ [])
    -- glyph 6 is covered as index 1 of one pair set: none
    ∷ row (words (1 ∷ 12 ∷ 4 ∷ 0 ∷ 1 ∷ 20 ∷ 1 ∷ 2 ∷ 5 ∷ 6 ∷ 0 ∷ [])) (6 ∷ 7 ∷ []) 0 (Named 1) (declined []) (plain 6 ∷ plain 7 ∷ [])
    -- a second format of a device alone is not 0: the second break, and past the second glyph
    ∷ row (classless 0 16 1 9) (5 ∷ 7 ∷ []) 0 (Named 1) (applied 2 (unsafe_to_concat 0 2 ∷ unsafe_to_break 0 3 ∷ []) false) (plain 5 ∷ plain 7 ∷ [])
    -- class 0 of both: the record; with no first classes it is outside its count
    ∷ row (classless 4 0 1 9) (5 ∷ 7 ∷ []) 0 (Named 1) (applied 1 (unsafe_to_break 0 2 ∷ []) false) (wide 5 (pos 9) ∷ plain 7 ∷ [])
    ∷ declines (classless 4 0 0 9) 7 (declined (unsafe_to_concat 0 2 ∷ []))
    ∷ []

pub at_ends : map (λ (x : Row). x.done) ends ≡ map (λ (x : Row). x.right) ends
unfolding nat_at clamp32 scaled int_at signed update ascends first_holding span_at spans_from set_below effect_of fields_work valued with_fields worked header_good classes_good pair_good probe_in plan_of
at_ends = refl
