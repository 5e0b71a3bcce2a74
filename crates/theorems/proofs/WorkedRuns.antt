-- Runs of a lookup worked by hand from the rules, on lines of 24-byte slots, and what a run is refused for. They compute. Assumes nothing.
use mathlib.Core.Path.{◌≡◌, refl}
use mathlib.Core.Bool.{true, false}
use mathlib.Core.List.{List, [], ◌∷◌, ◌++◌, map}
use Prim.Native.Nat.{ℕ, ◌-◌, ◌^◌}
use lib.IntN.{ℤ, pos}
use lib.ListN.{length, replicate}
use Rattle.ints.specs.BigEndian.{digits, nat_at}
use Rattle.ints.specs.Saturating.{clamp32, minus}
use Rattle.ints.specs.Scale.{scaled}
use Rattle.ints.specs.Signed.{int_at, pattern, signed}
use Rattle.ints.specs.Sums.{stepwise}
use Rattle.ints.specs.Tally.{bit, lowest, nearest, tally}
use Rattle.slots.specs.Fields.{attached, with_identity, with_place}
use Rattle.slots.specs.Line.{bytes, line_slots, slots, slots_n, update}
use Rattle.slots.specs.Parent.{cleared, parent}
use Rattle.slots.specs.Slot.{no_slot, plain_bytes, Slot, slot_of}
use Rattle.tables.specs.Header.{header_good}
use Rattle.tables.specs.Spans.{ascends, first_holding, span_at, spans_from}
use Rattle.values.specs.Format.{set_below}
use Rattle.values.specs.FieldEffect.{effect_of}
use Rattle.values.specs.Value.{fields_work, valued, with_fields, worked as record_worked}
use Rattle.single.specs.SinglePos.{place_for, single_good}
use Rattle.ints.proofs.Examples.{words}
use Rattle.pair.specs.PairPos.{classes_good, pair_good}
use Rattle.pair.specs.PairSet.{probe_in}
use Rattle.pair.specs.Plan.{plan_of as pair_plan}
use Rattle.chains.specs.Chains.{attached_count}
use Rattle.chains.specs.Reversal.{reversed, reversed_in, turned}
use Rattle.cursive.specs.Attachment.{joined_at, separated_by, tied}
use Rattle.cursive.specs.CursivePos.{plan_of as cursive_plan}
use Rattle.targets.specs.MarkPos.{base_index, mark_index, marks_good}
use Rattle.targets.specs.Place.{place_for as mark_place}
use Rattle.targets.specs.Search.{stops_at}
use Rattle.targets.specs.Walk.{cross_offset, cross_offset_in}
use Rattle.marks.specs.Anchors.{anchors_for}
use Rattle.marks.specs.Plan.{plan_of as mark_plan}
use Rattle.answers.specs.Said.{done, not_run, ran, Range, refused, Said, SaidRun, stopped, unsafe_to_break, unsafe_to_concat}
use Rattle.records.specs.Records.{record_of}
use Rattle.records.specs.declared.HazardRecord.{HazardRecord}
use Rattle.checks.specs.Ranges.{some}
use Rattle.checks.proofs.Examples.{spare, well}
use Rattle.lookup.specs.Kinds.{kind_of}
use Rattle.lookup.specs.Refusals.{verdict}
use Rattle.lookup.specs.Subtables.{every, subtables, total}
use Rattle.lookup.specs.declared.state.Settings.{Settings}
use Rattle.gpos.specs.Running.{Run, run_for, run_in, run_line, run_list, run_said}
use Rattle.theorems.proofs.WorkedSums.{cursive_table, pair_table, single_table, values}

-- ---- what a run leaves
pub record Left : Type 0 where
  pub says : SaidRun
  pub line : List Slot
  pub list : List HazardRecord

-- a list of so many places, before a run
abbrev lent : ℕ → List HazardRecord
lent places = replicate places (record { kind = 9; start = 9; end = 9 })

-- the answer, the slots, and a list with these hazards at its front and so many places as they were behind them
abbrev left : SaidRun → List Slot → List Range → ℕ → Left
left s ss hs behind = record { says = s; line = ss; list = map record_of hs ++ lent behind }

-- subtables end to end
abbrev joined : List (List ℕ) → List ℕ
joined [] = []
joined (t ∷ ts) = t ++ joined ts

-- a lookup of this type: slots of 24 bytes, no lookup flag, direction 0, values as they are
abbrev lookup : ℕ → Settings
lookup kind = record { size = 24; kind = kind; flag = 0; direction = 0; s = 1000; u = 1000 }

-- what its contract gives for these subtables, these slots and a list of so many places, by the verdict and the run
abbrev left_by : List Slot → ℕ → Said → Run → Left
left_by ss places v r =
    record { says = run_said v r; line = line_slots 24 (run_line v r (bytes 24 ss)); list = run_list v r (lent places) }

abbrev looked_up : (kind : ℕ) (ts : List (List ℕ)) (ss : List Slot) (places : ℕ) → Left
looked_up kind ts ss places =
    left_by ss places (verdict (lookup kind) (bytes 24 ss) (joined ts) (map length ts) places)
    (run_for (kind_of kind) (lookup kind) (subtables (map length ts) (joined ts)) (bytes 24 ss))

-- ---- slots
-- a glyph with this x advance, by its flags: 0 not seen, 1 seen, 2 a mark
abbrev glyph : ℕ → ℕ → ℤ → Slot
glyph g flags xa = with_place xa (pos 0) (pos 0) (pos 0) (with_identity g 0 0 flags no_slot)

abbrev base : Slot
base = glyph 5 1 (pos 600)

abbrev mark : Slot
mark = glyph 9 2 (pos 0)

-- the mark as `marks` attaches it to the slot before it
abbrev mark_on : Slot
mark_on = attached 1 (minus 1) (with_place (pos 0) (pos 0) (pos 290) (pos 700) mark)

-- a base that hangs on another one, cursive, so many slots further on
abbrev hung : ℤ → Slot
hung c = attached 2 c base

-- ---- subtables
-- glyph g gets so much x advance
abbrev widens : ℕ → ℤ → List ℕ
widens g v = single_table g 4 (values (v ∷ []))

-- glyph 5 followed by glyph g gets so much x advance; nothing is done to the second
abbrev kerns : ℕ → ℤ → List ℕ
kerns g v = pair_table g 4 0 (values (v ∷ []))

-- MarkBasePos: glyph 9 is a mark with the anchor (10, 0), glyph 5 a base with the anchor (300, 700)
abbrev marks : List ℕ
marks = words (1 ∷ 12 ∷ 18 ∷ 1 ∷ 24 ∷ 36 ∷ 1 ∷ 1 ∷ 9 ∷ 1 ∷ 1 ∷ 5 ∷ 1 ∷ 0 ∷ 6 ∷ 1 ∷ 10 ∷ 0 ∷ 1 ∷ 4 ∷ 1 ∷ 300 ∷ 700 ∷ [])

-- a subtable of one byte: none is good
abbrev stub : List ℕ
stub = 1 ∷ []

-- ---- refusals
-- what is said before a run over a line, by the lookup's type, the direction, s, the buffer, the lengths and the places
abbrev checked : (l : List ℕ) (kind direction s : ℕ) (b lengths : List ℕ) (places : ℕ) → Said
checked l kind direction s b lengths places =
    verdict (record { size = 24; kind = kind; flag = 0; direction = direction; s = s; u = 1000 }) l b lengths places

-- the same of single adjustment over one slot, in direction 0, with s 1000, where only the buffer and the list are at hand
abbrev fitting : (b lengths : List ℕ) (places : ℕ) → Said
fitting b lengths places = checked (well 24) 1 0 1000 b lengths places

-- a good subtable of single adjustment, of 14 bytes, and so many of them
abbrev good : List ℕ
good = widens 7 (pos 20)

abbrev times : ℕ → List (List ℕ)
times n = replicate n good

pub record Worked : Type 0 where
  -- three subtables, of which the second covers glyph 8: it wins, and the third, which covers it too, isn't tried; a slot that isn't seen is tried all the same
  pub second_wins : looked_up 1 (widens 7 (pos 99) ∷ widens 8 (pos 20) ∷ widens 8 (pos 99) ∷ []) (glyph 8 1 (pos 600) ∷ glyph 8 0 (pos 300) ∷ []) 12
      ≡ left (ran 0 false) (glyph 8 1 (pos 620) ∷ glyph 8 0 (pos 320) ∷ []) [] 12
  -- the hazard of a decline is kept, before that of the subtable that wins after it; places that aren't needed stay as they were
  pub declines_kept : looked_up 2 (kerns 7 (minus 99) ∷ kerns 8 (minus 50) ∷ kerns 8 (minus 99) ∷ []) (base ∷ glyph 8 1 (pos 600) ∷ []) 13
      ≡ left (ran 2 false) (glyph 5 1 (pos 550) ∷ glyph 8 1 (pos 600) ∷ []) (unsafe_to_concat 0 2 ∷ unsafe_to_break 0 2 ∷ []) 11
  -- each subtable declines at each slot, with a hazard where the first glyph is covered: they stand slot by slot, and by subtable; the last slot has no second
  pub all_declined : looked_up 2 (kerns 7 (minus 99) ∷ kerns 8 (minus 99) ∷ []) (base ∷ base ∷ []) 8
      ≡ left (ran 4 false) (base ∷ base ∷ []) (unsafe_to_concat 0 2 ∷ unsafe_to_concat 0 2 ∷ unsafe_to_concat 1 2 ∷ unsafe_to_concat 1 2 ∷ []) 4
  -- a pair jumps over a slot that isn't seen, and the run goes on at the second: slot 1, which is covered too, isn't tried
  pub jumps : looked_up 2 (kerns 7 (minus 50) ∷ []) (base ∷ glyph 5 0 (pos 600) ∷ glyph 7 1 (pos 600) ∷ []) 6
      ≡ left (ran 1 false) (glyph 5 1 (pos 550) ∷ glyph 5 0 (pos 600) ∷ glyph 7 1 (pos 600) ∷ []) (unsafe_to_break 0 3 ∷ []) 5
  -- cursive: the previous glyph is the nearest that is seen, two slots back; that it attached is said at the end, though the last slot declines
  pub joins : looked_up 3 (cursive_table ∷ []) (base ∷ glyph 4 0 (pos 0) ∷ glyph 6 1 (pos 600) ∷ glyph 4 1 (pos 0) ∷ []) 8
      ≡ left (ran 1 true)
      (glyph 5 1 (pos 500) ∷ glyph 4 0 (pos 0) ∷ attached 2 (minus 2) (with_place (pos 570) (pos 0) (minus 30) (pos 15) (glyph 6 1 (pos 0))) ∷ glyph 4 1 (pos 0) ∷ [])
      (unsafe_to_break 0 3 ∷ []) 7
  -- Stopped with 7 at slot 5, whose base hangs on itself through another: the mark in slot 2 stays attached, and the hazards of slots 0 and 2 stay in the list; slot 6 isn't reached.
  pub stops : looked_up 4 (marks ∷ []) (mark ∷ base ∷ mark ∷ hung (pos 1) ∷ hung (minus 1) ∷ mark ∷ mark ∷ []) 14
      ≡ left (stopped 5 2) (mark ∷ base ∷ mark_on ∷ hung (pos 1) ∷ hung (minus 1) ∷ mark ∷ mark ∷ []) (unsafe_to_concat 0 1 ∷ unsafe_to_break 1 3 ∷ []) 12
  -- an empty line: done at once, without a hazard and without a place; but its subtables are checked
  pub empty : (looked_up 1 (good ∷ []) [] 0 ≡ left (ran 0 false) [] [] 0) × (looked_up 1 (good ∷ stub ∷ []) [] 0 ≡ left (not_run 6) [] [] 0)
  -- a refusal leaves line and list as they were: here the second subtable is bad, which would never be tried
  pub untouched : looked_up 1 (widens 8 (pos 20) ∷ stub ∷ []) (glyph 8 1 (pos 600) ∷ []) 4 ≡ left (not_run 6) (glyph 8 1 (pos 600) ∷ []) [] 4
  -- each refusal by its one cause: a length, a direction, s, a slot, no room in the list, the subtable; and none
  pub one_cause : checked (9 ∷ well 24) 1 0 1000 good (14 ∷ []) 2 ∷ checked (well 24) 1 4 1000 good (14 ∷ []) 2 ∷ checked (well 24) 1 0 0 good (14 ∷ []) 2
      ∷ checked (spare 24) 1 0 1000 good (14 ∷ []) 2 ∷ checked (well 24) 1 0 1000 good (14 ∷ []) 0 ∷ checked (well 24) 1 0 1000 stub (1 ∷ []) 2
      ∷ checked (well 24) 1 0 1000 good (14 ∷ []) 2 ∷ []
      ≡ (refused 1 ∷ refused 2 ∷ refused 3 ∷ refused 4 ∷ refused 8 ∷ refused 6 ∷ done ∷ [])
  -- all causes at once, then made good one by one: the lowest of 1 to 4, then 8, then 6
  pub all_causes : checked (9 ∷ spare 24) 7 4 0 stub (1 ∷ []) 0 ∷ checked (spare 24) 7 4 0 stub (1 ∷ []) 0 ∷ checked (spare 24) 7 3 0 stub (1 ∷ []) 0
      ∷ checked (spare 24) 7 3 1 stub (1 ∷ []) 0 ∷ checked (well 24) 7 3 1 stub (1 ∷ []) 0 ∷ checked (well 24) 7 3 1 stub (1 ∷ []) 2 ∷ []
      ≡ (refused 1 ∷ refused 2 ∷ refused 3 ∷ refused 4 ∷ refused 8 ∷ refused 6 ∷ [])
  -- two subtables over one slot need four places: four are enough, three aren't
  pub places : map (fitting (joined (times 2)) (14 ∷ 14 ∷ [])) (4 ∷ 3 ∷ []) ≡ (done ∷ refused 8 ∷ [])
  -- one to eight subtables: eight are taken, nine aren't; nor is none, with an empty buffer
  pub how_many : fitting (joined (times 8)) (replicate 8 14) 16 ∷ fitting (joined (times 9)) (replicate 9 14) 18 ∷ fitting [] [] 0 ∷ [] ≡ (done ∷ refused 8 ∷ refused 8 ∷ [])
  -- lengths add up to the buffer's: one byte less, one more, and a sum that would be right if it wrapped at 64 bits
  pub sums : map (λ (ns : List ℕ). fitting good ns 4) ((13 ∷ []) ∷ (15 ∷ []) ∷ (14 ∷ (2 ^ 64) ∷ []) ∷ ((2 ^ 64 - 1) ∷ 15 ∷ []) ∷ (14 ∷ 0 ∷ []) ∷ [])
      ≡ (refused 8 ∷ refused 8 ∷ refused 8 ∷ refused 8 ∷ refused 6 ∷ [])
  -- of the types only 1 to 6 are taken: 0, 7 and 9 are refused with 6, whatever the subtable
  pub types : map (λ (kind : ℕ). checked (well 24) kind 0 1000 good (14 ∷ []) 2) (0 ∷ 1 ∷ 7 ∷ 9 ∷ []) ≡ (refused 6 ∷ done ∷ refused 6 ∷ refused 6 ∷ [])

pub worked : Worked
unfolding nat_at digits pattern int_at signed clamp32 scaled stepwise bit lowest tally some bytes plain_bytes slot_of slots slots_n update parent
    ascends first_holding span_at spans_from set_below effect_of fields_work valued with_fields record_worked header_good place_for single_good
    classes_good pair_good probe_in pair_plan joined_at separated_by tied attached_count cursive_plan reversed reversed_in turned
    anchors_for base_index mark_index marks_good mark_place mark_plan nearest stops_at cross_offset cross_offset_in cleared every subtables total run_in
worked = record {
  second_wins = refl;
  declines_kept = refl;
  all_declined = refl;
  jumps = refl;
  joins = refl;
  stops = refl;
  empty = (refl, refl);
  untouched = refl;
  one_cause = refl;
  all_causes = refl;
  places = refl;
  how_many = refl;
  sums = refl;
  types = refl;
}
