-- The header of a GPOS subtable (OpenType, GPOS): it starts with uint16 posFormat, Offset16 coverageOffset. Assumes
-- nothing.
use Rattle.std.specs.Prelude.{Bool, ◌&&◌, ◌||◌, List, ℕ, eqb, leb, length}
use Rattle.ints.specs.BigEndian.{u16_at}

-- which layout the subtable has
abbrev pub pos_format : List ℕ → ℕ
pos_format t = u16_at t 0

-- where its coverage is; of marks, that of the mark coverage
abbrev pub coverage_offset : List ℕ → ℕ
coverage_offset t = u16_at t 2

-- refusal 6: the longest subtable
abbrev pub most_bytes : ℕ
most_bytes = 65536

-- the header is whole and its format is 1 or 2: it has `one` bytes in format 1, `two` in format 2
unfoldable pub header_good : ℕ → ℕ → List ℕ → Bool
header_good one two t = leb one (length t) && (eqb (pos_format t) 1 || (eqb (pos_format t) 2 && leb two (length t)))
