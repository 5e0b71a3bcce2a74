-- The Coverage table (OpenType, Common Table Formats). Assumes nothing.
--   format 1: uint16 coverageFormat, uint16 glyphCount, uint16 glyphArray[glyphCount]; a glyph's index is its place
--   format 2: uint16 coverageFormat, uint16 rangeCount, rangeRecords[rangeCount] of uint16 startGlyphID, endGlyphID,
--     startCoverageIndex; a glyph's index is startCoverageIndex + glyph - startGlyphID
use Rattle.std.specs.Prelude.{None, Option, Some}
use Rattle.std.specs.Prelude.{Bool, true, false, ◌&&◌, List, ℕ, ◌+◌, ◌-◌, eqb, ltb, drop, length, if◌then◌else◌}
use Rattle.ints.specs.BigEndian.{u16_at}
use Rattle.tables.specs.Spans.{ascends, first_holding, glyph_spans, range_spans, whole_spans, glyph_size}
use Rattle.tables.specs.Spans.{list_header_size, range_record, range_record_size}

-- which layout the table has
abbrev pub coverage_format : List ℕ → ℕ
coverage_format t = u16_at t 0

-- format 1: how many glyphs
abbrev pub glyph_count : List ℕ → ℕ
glyph_count t = u16_at t 2

-- format 2: how many ranges
abbrev pub range_count : List ℕ → ℕ
range_count t = u16_at t 2

-- format 2: the first glyph of range k
abbrev pub start_glyph_id : List ℕ → ℕ → ℕ
start_glyph_id t k = u16_at t (range_record k)

-- format 2: its coverage index
abbrev pub start_coverage_index : List ℕ → ℕ → ℕ
start_coverage_index t k = u16_at t (range_record k + 4)

-- the check of a table: its header and its array are whole, its format is known, its spans ascend
abbrev pub coverage_good : List ℕ → Bool
coverage_good t =
    if ltb (length t) list_header_size then false
    else (if eqb (coverage_format t) 1
    then whole_spans t glyph_size (glyph_count t) && ascends 0 (glyph_spans t (glyph_count t))
    else (if eqb (coverage_format t) 2
    then whole_spans t range_record_size (range_count t) && ascends 0 (range_spans t (range_count t))
    else false))

-- format 1: the index of a glyph that span k of n is the first to hold
abbrev pub glyph_index : ℕ → ℕ → Option ℕ
glyph_index n k = if ltb k n then Some k else None

-- format 2: the same
abbrev pub range_index : List ℕ → ℕ → ℕ → ℕ → Option ℕ
range_index t n g k = if ltb k n then Some (start_coverage_index t k + g - start_glyph_id t k) else None

-- the coverage index of a glyph in a table that passed the check
abbrev pub coverage_index : List ℕ → ℕ → Option ℕ
coverage_index t g =
    if eqb (coverage_format t) 1 then glyph_index (glyph_count t) (first_holding (glyph_spans t (glyph_count t)) g)
    else range_index t (range_count t) g (first_holding (range_spans t (range_count t)) g)

-- the check of the table at an offset: offset 0 is good and covers nothing
abbrev pub coverage_good_at : List ℕ → ℕ → Bool
coverage_good_at s off = if eqb off 0 then true else coverage_good (drop off s)

-- the coverage index of a glyph in the table at an offset
abbrev pub coverage_at : List ℕ → ℕ → ℕ → Option ℕ
coverage_at s off g = if eqb off 0 then None else coverage_index (drop off s) g
