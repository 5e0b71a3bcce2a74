-- The SinglePos subtable (OpenType, GPOS). Assumes nothing.
--   format 1: uint16 posFormat, Offset16 coverageOffset, uint16 valueFormat, valueRecord, for all covered glyphs
--   format 2: uint16 posFormat, Offset16 coverageOffset, uint16 valueFormat, uint16 valueCount,
--     valueRecords[valueCount], one for each coverage index
use Rattle.std.specs.Prelude.{Bool, false, ◌&&◌, List, [], ℕ, ◌+◌, ◌*◌, eqb, leb, ltb, length, if◌then◌else◌, None, Option, Some}
use Rattle.ints.specs.BigEndian.{u16_at}
use Rattle.slots.specs.Slot.{Slot}
use Rattle.slots.specs.Line.{slot, update}
use Rattle.slots.specs.declared.axis.Direction.{Direction}
use Rattle.tables.specs.Coverage.{coverage_at, coverage_good_at}
use Rattle.tables.specs.Header.{coverage_offset, header_good, most_bytes, pos_format}
use Rattle.values.specs.Format.{record_at, record_length}
use Rattle.values.specs.Value.{valued}
use Rattle.answers.specs.Outcome.{Call}
use Rattle.answers.specs.Said.{Said, applied, declined}

-- which fields a value record has
abbrev pub value_format : List ℕ → ℕ
value_format t = u16_at t 4

-- format 1: where the value record is, right after the header
abbrev pub value_record : ℕ
value_record = 6

-- format 2: how many value records
abbrev pub value_count : List ℕ → ℕ
value_count t = u16_at t 6

-- format 2: where they start, right after the header
abbrev pub value_records : ℕ
value_records = 8

-- what refusal 6 asks of the subtable: not too long, its header whole, its value format known, its coverage good
unfoldable pub single_good : List ℕ → Bool
single_good t =
    leb (length t) most_bytes
    && (header_good value_record value_records t
    && (leb (value_format t) 255 && coverage_good_at t (coverage_offset t)))

-- where the value record of a coverage index is: a glyph that is covered past the count has none
abbrev pub value_place : List ℕ → Option ℕ → Option ℕ
value_place t (Some k) =
    if eqb (pos_format t) 1 then Some value_record
    else (if ltb k (value_count t) then Some (value_records + record_length (value_format t) * k)
    else None)
value_place t None = None

-- where the value record of a glyph is: none for an uncovered one
unfoldable pub place_for : List ℕ → ℕ → Option ℕ
place_for t g = value_place t (coverage_at t (coverage_offset t) g)

-- what is said of slot i: applied where there is a record, even if it is cut or does nothing
abbrev pub adjust_said : ℕ → Option ℕ → Said
adjust_said i (Some at) = applied (i + 1) [] false
adjust_said i None = declined []

-- the slots with the record at that place applied to slot i
abbrev pub adjusted : ℕ → ℕ → Direction → List ℕ → ℕ → Option ℕ → List Slot → List Slot
adjusted s u d t i (Some at) ss = update i (valued s u d (record_at t at (value_format t)) (value_format t)) ss
adjusted s u d t i None ss = ss

-- what is said of slot i, by its glyph
abbrev pub single_said : List ℕ → List Slot → ℕ → Said
single_said t ss i = adjust_said i (place_for t (slot ss i).glyph)

-- the slots that are left, by the glyph of slot i
abbrev pub singled : ℕ → ℕ → Direction → List ℕ → ℕ → List Slot → List Slot
singled s u d t i ss = adjusted s u d t i (place_for t (slot ss i).glyph) ss

-- single adjustment of slot i by the subtable t
abbrev pub single_adjustment : (t : List ℕ) (d : Direction) (s u i : ℕ) → Call
single_adjustment t d s u i = record { says = λ ss. single_said t ss i; leaves = λ ss. singled s u d t i ss }
