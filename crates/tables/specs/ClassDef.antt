-- The ClassDef table (OpenType, Common Table Formats). Assumes nothing.
--   format 1: uint16 classFormat, startGlyphID, glyphCount, classValueArray[glyphCount]
--   format 2: uint16 classFormat, classRangeCount, classRangeRecords[classRangeCount] of uint16 startGlyphID,
--     endGlyphID, class
-- A glyph that the table doesn't name has class 0.
use Rattle.std.specs.Prelude.{Bool, true, false, ◌&&◌, List, ℕ, ◌+◌, ◌*◌, ◌-◌, eqb, leb, ltb, drop, length, if◌then◌else◌}
use Rattle.ints.specs.BigEndian.{u16_at}
use Rattle.tables.specs.Spans.{ascends, first_holding, range_spans, whole_spans, list_header_size, range_record}
use Rattle.tables.specs.Spans.{range_record_size}

-- which layout the list has
abbrev pub class_format : List ℕ → ℕ
class_format t = u16_at t 0

-- format 1: the glyph with which the array starts
abbrev pub start_glyph_id : List ℕ → ℕ
start_glyph_id t = u16_at t 2

-- format 1: how many glyphs
abbrev pub glyph_count : List ℕ → ℕ
glyph_count t = u16_at t 4

-- format 1: where the array starts
abbrev pub class_value_array : ℕ
class_value_array = 6

-- format 1: the bytes of an entry of the array, a uint16
abbrev pub class_value_size : ℕ
class_value_size = 2

-- format 1: where entry k of the array is
abbrev pub class_value_place : ℕ → ℕ
class_value_place k = class_value_array + class_value_size * k

-- format 2: how many ranges
abbrev pub class_range_count : List ℕ → ℕ
class_range_count t = u16_at t 2

-- format 2: the class of the glyphs of range k
abbrev pub class_of_range : List ℕ → ℕ → ℕ
class_of_range t k = u16_at t (range_record k + 4)

-- the check of a class list: its header and its array are whole, its format is known, its ranges ascend
abbrev pub class_good : List ℕ → Bool
class_good t =
    if ltb (length t) list_header_size then false
    else (if eqb (class_format t) 1
    then leb class_value_array (length t) && leb (class_value_place (glyph_count t)) (length t)
    else (if eqb (class_format t) 2
    then whole_spans t range_record_size (class_range_count t) && ascends 0 (range_spans t (class_range_count t))
    else false))

-- the class of a glyph in a list of format 1
abbrev pub array_class : List ℕ → ℕ → ℕ
array_class t g =
    if leb (start_glyph_id t) g && ltb (g - start_glyph_id t) (glyph_count t)
    then u16_at t (class_value_place (g - start_glyph_id t)) else 0

-- the class of a glyph in a list of format 2, by the range that holds it: k, of n
abbrev pub range_class : List ℕ → ℕ → ℕ → ℕ
range_class t n k = if ltb k n then class_of_range t k else 0

-- the class of a glyph in a list that passed the check
abbrev pub class_of : List ℕ → ℕ → ℕ
class_of t g =
    if eqb (class_format t) 1 then array_class t g
    else range_class t (class_range_count t) (first_holding (range_spans t (class_range_count t)) g)

-- the check of the list at an offset: offset 0 is good and gives class 0 to all
abbrev pub class_good_at : List ℕ → ℕ → Bool
class_good_at s off = if eqb off 0 then true else class_good (drop off s)

-- the class of a glyph in the list at an offset
abbrev pub class_at : List ℕ → ℕ → ℕ → ℕ
class_at s off g = if eqb off 0 then 0 else class_of (drop off s) g
