-- The worked sums P1 to P11 of docs/RULES.md, as one table: what the definitions give, by what the calls leave, and what the rules give. Assumes nothing.
use mathlib.Core.Path.{◌≡◌, refl}
use mathlib.Core.Bool.{Bool, true, false}
use mathlib.Core.List.{List, [], ◌∷◌, ◌++◌, map}
use Prim.Native.Nat.{ℕ, ◌+◌}
use lib.IntN.{ℤ, pos}
use lib.ListN.{length}
use Rattle.ints.specs.BigEndian.{digits, nat_at}
use Rattle.ints.specs.Saturating.{clamp32, minus}
use Rattle.ints.specs.Scale.{scaled}
use Rattle.ints.specs.Signed.{int_at, pattern, signed}
use Rattle.ints.specs.Sums.{stepwise}
use Rattle.ints.specs.Tally.{bit, tally, nearest}
use Rattle.slots.specs.Axis.{direction_of}
use Rattle.slots.specs.Fields.{attached, with_place, with_identity}
use Rattle.slots.specs.Line.{bytes, slot, slots, slots_n, update}
use Rattle.slots.specs.Parent.{cleared, parent}
use Rattle.slots.specs.Slot.{no_slot, plain_bytes, Slot, slot_of}
use Rattle.tables.specs.Header.{header_good}
use Rattle.tables.specs.Spans.{ascends, first_holding, span_at, spans_from}
use Rattle.values.specs.Format.{set_below}
use Rattle.values.specs.FieldEffect.{effect_of}
use Rattle.values.specs.Value.{fields_work, valued, with_fields, worked as record_worked}
use Rattle.single.specs.SinglePos.{place_for, single_good}
use Rattle.ints.proofs.Examples.{words}
use Rattle.pair.specs.PairPos.{classes_good, pair_good}
use Rattle.pair.specs.PairSet.{probe_in}
use Rattle.pair.specs.Plan.{plan_of as pair_plan}
use Rattle.chains.specs.Chains.{attached_count}
use Rattle.chains.specs.Reversal.{reversed, reversed_in, turned}
use Rattle.cursive.specs.Attachment.{joined_at, separated_by, tied}
use Rattle.cursive.specs.CursivePos.{plan_of as cursive_plan}
use Rattle.targets.specs.Component.{component_index}
use Rattle.targets.specs.MarkPos.{base_index, mark_index, marks_good}
use Rattle.targets.specs.Place.{place_for as mark_place}
use Rattle.targets.specs.Search.{stops_at}
use Rattle.targets.specs.Walk.{cross_offset, cross_offset_in}
use Rattle.targets.specs.declared.mark_pos.Target.TheVariants.{Ligature}
use Rattle.targets.specs.declared.place.Way.TheVariants.{Search}
use Rattle.marks.specs.Anchors.{anchors_for}
use Rattle.marks.specs.Plan.{plan_of as mark_plan}
use Rattle.finish_rules.specs.Finish.{finished, taken_in, settled, settled_up, shifted}
use Rattle.answers.specs.Said.{applied, unsafe_to_break, unsafe_to_concat, Said}
use Rattle.answers.specs.declared.Neighbour.TheVariants.{Named}
use Rattle.checks.specs.Ranges.{some}
use Rattle.gpos.specs.CursivePos.{cursive as cursive_call}
use Rattle.gpos.specs.Finishing.{finish as finish_call}
use Rattle.gpos.specs.MarkPos.{mark as mark_call}
use Rattle.gpos.specs.PairPos.{pair as pair_call}
use Rattle.gpos.specs.SinglePos.{single as single_call}
use Rattle.theorems.proofs.Results.{Result, result}

-- ---- what a sum gives
pub data Figure : Type 0 where
  -- at s and u, a number becomes this one
  becomes : ℕ → ℕ → ℤ → ℤ → Figure
  -- in a direction, by a value format, whether the record worked
  worked : ℕ → ℕ → List ℕ → Bool → Figure
  -- which of three components the mark in slot 1 uses of the ligature in slot 0
  component : ℕ → Figure
  -- what the call says
  says : Said → Figure
  -- of a slot, by its number, once the call is made
  x_advance : ℕ → ℤ → Figure
  y_advance : ℕ → ℤ → Figure
  x_offset : ℕ → ℤ → Figure
  y_offset : ℕ → ℤ → Figure
  chain : ℕ → ℤ → Figure

-- the same by the definitions, for a call that left r: the last of each is computed
abbrev computed : Result → Figure → Figure
computed r (becomes s u v w) = becomes s u v (scaled v s u)
computed r (worked d f bs w) = worked d f bs (record_worked (direction_of d) bs f)
computed r (component k) = component (component_index 3 (slot r.line 1) (slot r.line 0))
computed r (says s) = says r.says
computed r (x_advance i z) = x_advance i (slot r.line i).x_advance
computed r (y_advance i z) = y_advance i (slot r.line i).y_advance
computed r (x_offset i z) = x_offset i (slot r.line i).x_offset
computed r (y_offset i z) = y_offset i (slot r.line i).y_offset
computed r (chain i z) = chain i (slot r.line i).chain

pub record Row : Type 0 where
  pub found : List Figure
  pub given : List Figure

abbrev row : Result → List Figure → Row
row r given = record { found = map (computed r) given; given = given }

-- ---- lines, as bytes
-- a slot of a glyph with this x advance, all else 0; one attached by its type and chain, with this y offset
abbrev wide : ℕ → ℕ → Slot
wide g xa = with_place (pos xa) (pos 0) (pos 0) (pos 0) (with_identity g 0 0 0 no_slot)

abbrev hanging : ℕ → ℕ → ℤ → ℕ → Slot
hanging g type c yo = attached type c (with_place (pos 0) (pos 0) (pos 0) (pos yo) (with_identity g 0 0 0 no_slot))

-- a ligature that is seen, and a mark with the same id, 3, by its component
abbrev ligature : Slot
ligature = with_identity 5 3 0 1 no_slot

abbrev mark : ℕ → Slot
mark c = with_identity 9 3 c 2 no_slot

-- ---- subtables, by their numbers of 16 bits
-- P2's record: FF F6 00 14
abbrev record_P2 : List ℕ
record_P2 = 255 ∷ 246 ∷ 0 ∷ 20 ∷ []

-- a record of these values
abbrev pub values : List ℤ → List ℕ
values zs = words (map (pattern 2) zs)

-- SinglePos format 1: a value record for glyph g
abbrev pub single_table : ℕ → ℕ → List ℕ → List ℕ
single_table g f bs = words (1 ∷ (6 + length bs) ∷ f ∷ []) ++ bs ++ words (1 ∷ 1 ∷ g ∷ [])

-- PairPos format 1: two value records for glyph 5 followed by glyph g
abbrev pub pair_table : ℕ → ℕ → ℕ → List ℕ → List ℕ
pair_table g f₁ f₂ bs = words (1 ∷ 12 ∷ f₁ ∷ f₂ ∷ 1 ∷ 18 ∷ 1 ∷ 1 ∷ 5 ∷ 1 ∷ g ∷ []) ++ bs

-- CursivePos: glyph 5 has the exit (500, 20), glyph 6 the entry (30, 5)
abbrev pub cursive_table : List ℕ
cursive_table = words (1 ∷ 14 ∷ 2 ∷ 0 ∷ 22 ∷ 28 ∷ 0 ∷ 1 ∷ 2 ∷ 5 ∷ 6 ∷ 1 ∷ 500 ∷ 20 ∷ 1 ∷ 30 ∷ 5 ∷ [])

-- MarkLigPos: glyph 9 is a mark with the anchor (0, 0); glyph 5 a ligature of three components, with the anchors (0, 0), (1, 0), (2, 0)
abbrev ligature_table : List ℕ
ligature_table =
    words (1 ∷ 12 ∷ 18 ∷ 1 ∷ 24 ∷ 36 ∷ 1 ∷ 1 ∷ 9 ∷ 1 ∷ 1 ∷ 5 ∷ 1 ∷ 0 ∷ 6 ∷ 1 ∷ 0 ∷ 0 ∷ [])
    ++ words (1 ∷ 4 ∷ 3 ∷ 8 ∷ 14 ∷ 20 ∷ 1 ∷ 0 ∷ 0 ∷ 1 ∷ 1 ∷ 0 ∷ 1 ∷ 2 ∷ 0 ∷ [])

-- ---- the calls, on lines of slots of z bytes
-- single adjustment of slot 0, by s, u, the value format, its record and the direction
abbrev single : ℕ → ℕ → ℕ → ℕ → List ℕ → ℕ → Result
single z s u f bs direction = result (single_call (single_table 7 f bs) direction s u 0) z (bytes z (wide 7 0 ∷ []))

-- pair adjustment of slots 0 and 1, direction 0, by the two value formats and the records
abbrev pair : ℕ → ℕ → ℕ → List ℕ → Result
pair z f₁ f₂ bs = result (pair_call (pair_table 7 f₁ f₂ bs) 0 1000 1000 0 (Named 1)) z (bytes z (wide 5 0 ∷ wide 7 0 ∷ []))

-- cursive attachment of slot i to slot p, direction 0, by the lookup's flag
abbrev cursive : ℕ → List Slot → ℕ → ℕ → ℕ → Result
cursive z ss p i flag = result (cursive_call cursive_table 0 1000 1000 i (Named p) flag) z (bytes z ss)

-- attachment of a mark of component c in slot 1 to a ligature in slot 0, direction 0
abbrev mark_ligature : ℕ → ℕ → Result
mark_ligature z c = result (mark_call (Search Ligature) ligature_table 0 1000 1000 1) z (bytes z (ligature ∷ mark c ∷ []))

-- finishing with the flag, direction 0, by the limit
abbrev finish : ℕ → ℕ → List Slot → Result
finish z limit ss = result (finish_call 0 limit true) z (bytes z ss)

-- ---- the table, for slots of z bytes
abbrev pub table : ℕ → List Row
table z =
    -- P1: at s 500 and u 1000 the values 3 and -3 are 2 and -2
    row (single z 500 1000 5 (values (pos 3 ∷ minus 3 ∷ [])) 0)
    (becomes 500 1000 (pos 3) (pos 2) ∷ becomes 500 1000 (minus 3) (minus 2) ∷ x_offset 0 (pos 2) ∷ x_advance 0 (minus 2) ∷ [])
    -- P2: the record FF F6 00 14 of format 5: in direction 0 -10 for the x offset, 20 for the x advance; in direction 2 only the first; it has worked in both
    ∷ row (single z 1000 1000 5 record_P2 0)
    (x_offset 0 (minus 10) ∷ x_advance 0 (pos 20) ∷ worked 0 5 record_P2 true ∷ [])
    ∷ row (single z 1000 1000 5 record_P2 2)
    (x_offset 0 (minus 10) ∷ x_advance 0 (pos 0) ∷ y_advance 0 (pos 0) ∷ worked 2 5 record_P2 true ∷ [])
    -- P3: by format 4 the value 20 changes no field in direction 2, and has not worked
    ∷ row (single z 1000 1000 4 (values (pos 20 ∷ [])) 2)
    (x_offset 0 (pos 0) ∷ y_offset 0 (pos 0) ∷ x_advance 0 (pos 0) ∷ y_advance 0 (pos 0) ∷ worked 2 4 (values (pos 20 ∷ [])) false ∷ [])
    -- P4: by format 8 it adds -20 to the y advance there
    ∷ row (single z 1000 1000 8 (values (pos 20 ∷ [])) 2) (y_advance 0 (minus 20) ∷ [])
    -- P5: slots 0 and 1 by formats 4 and 0 in direction 0: next 1; with the value -50 unsafe to break [0,2), with 0 unsafe to concatenate there, but applied
    ∷ row (pair z 4 0 (values (minus 50 ∷ []))) (says (applied 1 (unsafe_to_break 0 2 ∷ []) false) ∷ [])
    ∷ row (pair z 4 0 (values (pos 0 ∷ []))) (says (applied 1 (unsafe_to_concat 0 2 ∷ []) false) ∷ [])
    -- P6: the same two slots by formats 4 and 4, values -50 and 0: next 2, unsafe to break [0,2) and [0,3), though the line ends at 2
    ∷ row (pair z 4 4 (values (minus 50 ∷ pos 0 ∷ []))) (says (applied 2 (unsafe_to_break 0 2 ∷ unsafe_to_break 0 3 ∷ []) false) ∷ [])
    -- P7: slot 1 joined to slot 0, direction 0, RIGHT_TO_LEFT not set, by exit (500,20) and entry (30,5); x advances 600, offsets 0. Then slot 0 has x advance
    -- 500, slot 1 x advance 570, offsets -30 and 15, chain -1
    ∷ row (cursive z (wide 5 600 ∷ wide 6 600 ∷ []) 0 1 0)
    (x_advance 0 (pos 500) ∷ x_advance 1 (pos 570) ∷ x_offset 1 (minus 30) ∷ y_offset 1 (pos 15) ∷ chain 1 (minus 1) ∷ [])
    -- P8: slot 1 hangs on slot 0, cursive, by chain -1 with y offset 8; slots 0 and 2 hang on nothing. Slot 2 joined to slot 1, direction 0, with RIGHT_TO_LEFT,
    -- by the anchors of P7: slot 1 hangs on slot 2, and slot 0 on slot 1, with y offset -8 and chain 1
    ∷ row (cursive z (hanging 4 0 (pos 0) 0 ∷ hanging 5 2 (minus 1) 8 ∷ hanging 6 0 (pos 0) 0 ∷ []) 1 2 1) (y_offset 0 (minus 8) ∷ chain 0 (pos 1) ∷ [])
    -- P9: of three components a mark of the ligature's id goes to index 1 if its component is 2, to index 2 if it is 5 or 0; its x offset is the index
    ∷ row (mark_ligature z 2) (component 1 ∷ x_offset 1 (pos 1) ∷ [])
    ∷ row (mark_ligature z 5) (component 2 ∷ x_offset 1 (pos 2) ∷ [])
    ∷ row (mark_ligature z 0) (component 2 ∷ x_offset 1 (pos 2) ∷ [])
    -- P10: two slots, both cursive, that hang on each other, with y offsets 5 and 7, finished in direction 0 with limit 64: 17 and 12
    ∷ row (finish z 64 (hanging 0 2 (pos 1) 5 ∷ hanging 0 2 (minus 1) 7 ∷ [])) (y_offset 0 (pos 17) ∷ y_offset 1 (pos 12) ∷ [])
    -- P11: slot 0 hangs on slot 1 and that on slot 2, both cursive, with y offsets 1, 2, 4; finished in direction 0: 3, 2, 4 with limit 1, 7, 6, 4 with limit 2
    ∷ row (finish z 1 (hanging 0 2 (pos 1) 1 ∷ hanging 0 2 (pos 1) 2 ∷ hanging 0 0 (pos 0) 4 ∷ [])) (y_offset 0 (pos 3) ∷ y_offset 1 (pos 2) ∷ y_offset 2 (pos 4) ∷ [])
    ∷ row (finish z 2 (hanging 0 2 (pos 1) 1 ∷ hanging 0 2 (pos 1) 2 ∷ hanging 0 0 (pos 0) 4 ∷ [])) (y_offset 0 (pos 7) ∷ y_offset 1 (pos 6) ∷ y_offset 2 (pos 4) ∷ [])
    ∷ []

-- each figure by the definitions is the one that the rules give, with clusters and without
pub worked_sums : (map (λ (x : Row). x.found) (table 24) ≡ map (λ (x : Row). x.given) (table 24))
    × (map (λ (x : Row). x.found) (table 28) ≡ map (λ (x : Row). x.given) (table 28))
unfolding nat_at digits pattern int_at signed clamp32 scaled stepwise bit tally some bytes plain_bytes slot_of slots slots_n update parent
    ascends first_holding span_at spans_from set_below effect_of fields_work valued with_fields record_worked header_good place_for single_good
    classes_good pair_good probe_in pair_plan joined_at separated_by tied attached_count cursive_plan reversed reversed_in turned
    anchors_for base_index mark_index marks_good mark_place mark_plan nearest stops_at cross_offset cross_offset_in cleared finished taken_in settled settled_up shifted
worked_sums = (refl, refl)
