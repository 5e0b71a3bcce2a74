-- Worked values: single adjustment of a line that is written out, by subtables that are, and the check of subtables. They compute. Assumes nothing.
use mathlib.Core.Path.{◌≡◌, refl}
use mathlib.Core.Bool.{true, false}
use mathlib.Core.List.{List, [], ◌∷◌, map}
use Prim.Native.Nat.{ℕ}
use lib.IntN.{pos}
use lib.ListN.{take}
use Rattle.ints.proofs.Examples.{words}
use Rattle.ints.specs.BigEndian.{nat_at}
use Rattle.ints.specs.Saturating.{clamp32}
use Rattle.ints.specs.Scale.{scaled}
use Rattle.ints.specs.Signed.{int_at, signed}
use Rattle.slots.specs.Axis.{direction_of}
use Rattle.slots.specs.Slot.{Slot, no_slot}
use Rattle.slots.specs.Line.{update}
use Rattle.slots.specs.Fields.{with_place, with_glyph}
use Rattle.tables.specs.Header.{header_good}
use Rattle.tables.specs.Spans.{ascends, first_holding, span_at, spans_from}
use Rattle.values.specs.Format.{set_below}
use Rattle.values.specs.FieldEffect.{effect_of}
use Rattle.values.specs.Value.{valued, with_fields}
use Rattle.answers.specs.Said.{Said, applied, declined}
use Rattle.single.specs.SinglePos.{place_for, single_good, single_said, singled}

-- format 1: x advance 20 for glyph 7
abbrev one : List ℕ
one = words (1 ∷ 8 ∷ 4 ∷ 20 ∷ 1 ∷ 1 ∷ 7 ∷ [])

-- format 2: x advance 30 for glyph 5 and 40 for glyph 7; glyph 9 is covered too, and has index 2 of two values
abbrev two : List ℕ
two = words (2 ∷ 12 ∷ 4 ∷ 2 ∷ 30 ∷ 40 ∷ 1 ∷ 3 ∷ 5 ∷ 7 ∷ 9 ∷ [])

-- format 1 with all eight fields for glyph 7: the record ends past the subtable
abbrev cut : List ℕ
cut = words (1 ∷ 6 ∷ 255 ∷ 1 ∷ 1 ∷ 7 ∷ [])

-- a slot of a glyph with that x advance, all else 0
abbrev wide : ℕ → ℕ → Slot
wide g n = with_glyph g (with_place (pos n) (pos 0) (pos 0) (pos 0) no_slot)

-- what is said, and the slots
pub record Result : Type 0 where
  pub says : Said
  pub line : List Slot

-- what the definitions make of the line, and what is right
pub record Row : Type 0 where
  pub done : Result
  pub right : Result

-- subtable t at slot i of the line 5, 7, 9, left to right, s = u: what is to be said, and the three x advances
abbrev row : List ℕ → ℕ → Said → ℕ → ℕ → ℕ → Row
row t i s a b c =
    let ss = wide 5 0 ∷ wide 7 0 ∷ wide 9 0 ∷ [] in
    record {
      done = record { says = single_said t ss i; line = singled 1000 1000 (direction_of 0) t i ss };
      right = record { says = s; line = wide 5 a ∷ wide 7 b ∷ wide 9 c ∷ [] };
    }

-- one to a line
abbrev pub table : List Row
table =
    -- format 1: a glyph that isn't covered declines, one that is gets the value
    row one 0 (declined []) 0 0 0
    ∷ row one 1 (applied 2 [] false) 0 20 0
    -- format 2: each glyph gets the value of its index; an index past the count declines
    ∷ row two 0 (applied 1 [] false) 30 0 0
    ∷ row two 1 (applied 2 [] false) 0 40 0
    ∷ row two 2 (declined []) 0 0 0
    -- a cut record changes nothing, and is applied
    ∷ row cut 1 (applied 2 [] false) 0 0 0
    ∷ []

-- each is as it should be
pub computed : map (λ (x : Row). x.done) table ≡ map (λ (x : Row). x.right) table
unfolding nat_at clamp32 scaled int_at signed set_below effect_of valued with_fields update ascends first_holding span_at spans_from place_for
computed = refl

-- the check: the three are good; a header cut in either format, the formats 0 and 3, the value format 256 and a cut coverage table are not
pub good : map single_good (one ∷ two ∷ cut ∷ []) ≡ (true ∷ true ∷ true ∷ [])
unfolding nat_at ascends span_at spans_from header_good single_good
good = refl

pub bad : map single_good (take 5 one ∷ take 7 two ∷ words (0 ∷ 0 ∷ 4 ∷ 20 ∷ []) ∷ words (3 ∷ 0 ∷ 4 ∷ 0 ∷ []) ∷ words (1 ∷ 0 ∷ 256 ∷ 20 ∷ []) ∷ take 13 one ∷ [])
    ≡ (false ∷ false ∷ false ∷ false ∷ false ∷ false ∷ [])
unfolding nat_at ascends span_at spans_from header_good single_good
bad = refl

-- ---- at the ends
abbrev pub ends : List Row
ends =
    -- coverage offset 0 covers nothing; a count of 0 has no record
    row (words (1 ∷ 0 ∷ 4 ∷ 20 ∷ [])) 1 (declined []) 0 0 0
    ∷ row (words (2 ∷ 8 ∷ 4 ∷ 0 ∷ 1 ∷ 1 ∷ 7 ∷ [])) 1 (declined []) 0 0 0
    -- format 1 has one record for every index, 65,535 too
    ∷ row (words (1 ∷ 8 ∷ 4 ∷ 20 ∷ 2 ∷ 1 ∷ 7 ∷ 9 ∷ 65535 ∷ [])) 2 (applied 3 [] false) 0 0 20
    -- format 2: index 8 of a count of 9, whose record is past the end, is applied and does nothing; index 9 declines
    ∷ row (words (2 ∷ 8 ∷ 4 ∷ 9 ∷ 2 ∷ 1 ∷ 7 ∷ 9 ∷ 8 ∷ [])) 1 (applied 2 [] false) 0 0 0
    ∷ row (words (2 ∷ 8 ∷ 4 ∷ 9 ∷ 2 ∷ 1 ∷ 6 ∷ 7 ∷ 8 ∷ [])) 1 (declined []) 0 0 0
    ∷ []

pub at_ends : map (λ (x : Row). x.done) ends ≡ map (λ (x : Row). x.right) ends
unfolding nat_at clamp32 scaled int_at signed set_below effect_of valued with_fields update ascends first_holding span_at spans_from place_for
at_ends = refl

-- an offset into the header is read as given: the value format 1 is the coverage's format, and the value, x placement 2, its count
pub into_header : singled 1000 1000 (direction_of 0) (words (1 ∷ 4 ∷ 1 ∷ 2 ∷ 5 ∷ 7 ∷ [])) 0 (wide 5 0 ∷ [])
    ≡ with_glyph 5 (with_place (pos 0) (pos 0) (pos 2) (pos 0) no_slot) ∷ []
unfolding nat_at clamp32 scaled int_at signed set_below effect_of valued with_fields update first_holding span_at spans_from place_for
into_header = refl

-- headers alone, with coverage offset 0 and value format 255, are good; no bytes, and a coverage at the end or past it, are not
pub good_ends : map single_good (words (1 ∷ 0 ∷ 255 ∷ []) ∷ words (2 ∷ 0 ∷ 255 ∷ 9 ∷ []) ∷ [] ∷ words (1 ∷ 6 ∷ 4 ∷ []) ∷ words (1 ∷ 65535 ∷ 4 ∷ 0 ∷ []) ∷ [])
    ≡ (true ∷ true ∷ false ∷ false ∷ false ∷ [])
unfolding nat_at ascends span_at spans_from header_good single_good
good_ends = refl
