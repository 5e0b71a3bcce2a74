-- The PairPos subtable (OpenType, GPOS). Assumes nothing.
--   format 1: uint16 posFormat, Offset16 coverageOffset, uint16 valueFormat1, valueFormat2, uint16 pairSetCount,
--     Offset16 pairSetOffsets[pairSetCount]
--   format 2: uint16 posFormat, Offset16 coverageOffset, uint16 valueFormat1, valueFormat2, Offset16 classDef1Offset,
--     classDef2Offset, uint16 class1Count, class2Count, class1Records[class1Count], each of class2Records[class2Count],
--     each of a value record by valueFormat1 and one by valueFormat2
use Rattle.std.specs.Prelude.{Bool, true, ◌&&◌, List, ℕ, ◌+◌, ◌*◌, eqb, leb, length, if◌then◌else◌, Option}
use Rattle.ints.specs.BigEndian.{u16_at}
use Rattle.tables.specs.ClassDef.{class_at, class_good_at}
use Rattle.tables.specs.Coverage.{coverage_at, coverage_good_at}
use Rattle.tables.specs.Header.{coverage_offset, header_good, most_bytes, pos_format}
use Rattle.tables.specs.Part.{child_of}
use Rattle.values.specs.Format.{record_length}
use Rattle.pair.specs.PairSet.{second_glyph_size}

-- which fields the first value record of a pair has
abbrev pub value_format1 : List ℕ → ℕ
value_format1 t = u16_at t 4

-- which fields the second has: it is there where this isn't 0
abbrev pub value_format2 : List ℕ → ℕ
value_format2 t = u16_at t 6

-- format 1: how many pair sets
abbrev pub pair_set_count : List ℕ → ℕ
pair_set_count t = u16_at t 8

-- format 1: where their offsets start, right after the header
abbrev pub pair_set_offsets : ℕ
pair_set_offsets = 10

-- format 2: where the class list of first glyphs is
abbrev pub class_def1_offset : List ℕ → ℕ
class_def1_offset t = u16_at t 8

-- format 2: where the class list of second glyphs is
abbrev pub class_def2_offset : List ℕ → ℕ
class_def2_offset t = u16_at t 10

-- format 2: how many classes of first glyphs have records
abbrev pub class1_count : List ℕ → ℕ
class1_count t = u16_at t 12

-- format 2: how many classes of second glyphs have
abbrev pub class2_count : List ℕ → ℕ
class2_count t = u16_at t 14

-- format 2: where the records start, right after the header
abbrev pub class1_records : ℕ
class1_records = 16

-- the class lists of format 2 are good
unfoldable pub classes_good : List ℕ → Bool
classes_good t =
    if eqb (pos_format t) 1 then true
    else class_good_at t (class_def1_offset t) && class_good_at t (class_def2_offset t)

-- what refusal 6 asks of the subtable: not too long, its header whole, its value formats known, its coverage and class
-- lists good
unfoldable pub pair_good : List ℕ → Bool
pair_good t =
    leb (length t) most_bytes
    && (header_good pair_set_offsets class1_records t
    && (leb (value_format1 t) 255
    && (leb (value_format2 t) 255 && (coverage_good_at t (coverage_offset t) && classes_good t))))

-- the coverage index of a first glyph
abbrev pub first_index : List ℕ → ℕ → Option ℕ
first_index t g = coverage_at t (coverage_offset t) g

-- the bytes of the two value records together
abbrev pub pair_length : List ℕ → ℕ
pair_length t = record_length (value_format1 t) + record_length (value_format2 t)

-- format 1: the bytes of a record of a pair set, its second glyph and its two value records
abbrev pub pair_value_record_size : List ℕ → ℕ
pair_value_record_size t = second_glyph_size + pair_length t

-- format 1: the pair set of a coverage index
abbrev pub pair_set : List ℕ → ℕ → List ℕ
pair_set t k = child_of t pair_set_offsets (pair_set_count t) k

-- format 2: the class of a first glyph
abbrev pub first_class : List ℕ → ℕ → ℕ
first_class t g = class_at t (class_def1_offset t) g

-- format 2: the class of a second glyph
abbrev pub second_class : List ℕ → ℕ → ℕ
second_class t g = class_at t (class_def2_offset t) g

-- format 2: where the record of two classes is
abbrev pub class_record : List ℕ → ℕ → ℕ → ℕ
class_record t c₁ c₂ = class1_records + pair_length t * (c₁ * class2_count t + c₂)
