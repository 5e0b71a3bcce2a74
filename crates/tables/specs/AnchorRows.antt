-- Rows of anchor offsets with one column for each mark class: the BaseArray, Mark2Array and LigatureAttach tables
-- (OpenType, GPOS). A uint16 count of rows, then the offsets row by row, from the table's start. Assumes nothing.
use Rattle.std.specs.Prelude.{None, Option, Some}
use Rattle.std.specs.Prelude.{◌&&◌, List, ℕ, ◌+◌, ◌*◌, leb, ltb, length, if◌then◌else◌}
use Rattle.ints.specs.BigEndian.{u16_at}
use Rattle.tables.specs.Part.{child_of, offset_place}
use Rattle.tables.specs.Anchor.{Point, anchor_of}

-- how many rows: baseCount of a BaseArray, mark2Count of a Mark2Array, componentCount of a LigatureAttach
abbrev pub row_count : List ℕ → ℕ
row_count t = u16_at t 0

-- where the offsets start
abbrev pub anchor_offsets : ℕ
anchor_offsets = 2

-- the number of rows of a table with so many columns: absent where the table isn't whole
abbrev pub rows_of : List ℕ → ℕ → Option ℕ
rows_of t columns =
    if leb anchor_offsets (length t) && leb (offset_place anchor_offsets (row_count t * columns)) (length t)
    then Some (row_count t) else None

-- the anchor in a row for a mark class, in a whole table: none where row or class is past its count, or the offset is 0
abbrev pub anchor_in : List ℕ → ℕ → ℕ → ℕ → ℕ → Option Point
anchor_in t rows columns row class =
    if ltb row rows && ltb class columns
    then anchor_of (child_of t anchor_offsets (rows * columns) (row * columns + class)) else None
