-- The MarkBasePos, MarkLigPos and MarkMarkPos subtables, format 1 (OpenType, GPOS). Each has a header of 12 bytes:
-- uint16 posFormat, Offset16 markCoverageOffset, Offset16 baseCoverageOffset, uint16 markClassCount, Offset16
-- markArrayOffset, Offset16 baseArrayOffset. MarkLigPos says ligature for base; MarkMarkPos says mark1 for mark, and
-- mark2, the earlier mark, for base. Assumes nothing.
use Rattle.std.specs.Prelude.{Option, Bool, ◌&&◌, List, ℕ, eqb, leb, length}
use Rattle.ints.specs.BigEndian.{u16_at}
use Rattle.tables.specs.Coverage.{coverage_at, coverage_good_at}
use Rattle.tables.specs.Header.{most_bytes, pos_format}

-- ---- the header's fields after posFormat, by the names of MarkBasePos
-- where the coverage of the marks is
abbrev pub mark_coverage_offset : List ℕ → ℕ
mark_coverage_offset t = u16_at t 2

-- where the coverage of the bases, ligatures or earlier marks is
abbrev pub base_coverage_offset : List ℕ → ℕ
base_coverage_offset t = u16_at t 4

-- how many classes of marks there are
abbrev pub mark_class_count : List ℕ → ℕ
mark_class_count t = u16_at t 6

-- where the MarkArray is
abbrev pub mark_array_offset : List ℕ → ℕ
mark_array_offset t = u16_at t 8

-- where the BaseArray, LigatureArray or Mark2Array is
abbrev pub base_array_offset : List ℕ → ℕ
base_array_offset t = u16_at t 10

-- the bytes of the header
abbrev pub header_bytes : ℕ
header_bytes = 12

-- what refusal 6 asks of the subtable: not too long, header whole, format known, both coverages good
unfoldable pub marks_good : List ℕ → Bool
marks_good t =
    leb (length t) most_bytes
    && (leb header_bytes (length t)
    && (eqb (pos_format t) 1 && (coverage_good_at t (mark_coverage_offset t)
    && coverage_good_at t (base_coverage_offset t))))

-- the coverage index of a glyph among the marks
unfoldable pub mark_index : List ℕ → ℕ → Option ℕ
mark_index t g = coverage_at t (mark_coverage_offset t) g

-- the coverage index of a glyph among the bases, ligatures or earlier marks
unfoldable pub base_index : List ℕ → ℕ → Option ℕ
base_index t g = coverage_at t (base_coverage_offset t) g
