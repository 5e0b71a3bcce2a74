-- Tables at offsets (OpenType, "The OpenType font file"): a table at an offset is the part of its parent from there to
-- the end. Assumes nothing.
use Rattle.std.specs.Prelude.{Bool, ◌&&◌, List, [], ℕ, ◌+◌, ◌*◌, eqb, leb, ltb, drop, length, if◌then◌else◌}
use Rattle.ints.specs.BigEndian.{u16_at}

-- the table at an offset: nothing where the offset is 0 or past the end
abbrev pub table_at : List ℕ → ℕ → List ℕ
table_at s off = if eqb off 0 then [] else drop off s

-- an Offset16 has two bytes
abbrev pub offset_size : ℕ
offset_size = 2

-- where offset k of an array is, which starts at `at`
abbrev pub offset_place : ℕ → ℕ → ℕ
offset_place at k = at + offset_size * k

-- offset k of an array of `count` offsets, which starts at `at`, is there: not past the count, and not cut
abbrev pub offset_there : List ℕ → ℕ → ℕ → ℕ → Bool
offset_there s at count k = ltb k count && leb (offset_place at k + offset_size) (length s)

-- the table that offset k of such an array leads to: nothing where the offset isn't there
abbrev pub child_of : List ℕ → ℕ → ℕ → ℕ → List ℕ
child_of s at count k = if offset_there s at count k then table_at s (u16_at s (offset_place at k)) else []
