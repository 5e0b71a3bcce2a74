-- The ValueFormat and the ValueRecord (OpenType, GPOS): a record has the fields whose bit is set in the format, two
-- bytes each, in the order of the bits: 0x0001 xPlacement, 0x0002 yPlacement, 0x0004 xAdvance, 0x0008 yAdvance, 0x0010
-- to 0x0080 the four device offsets. Assumes nothing.
use Rattle.std.specs.Prelude.{Bool, List, [], ℕ, zero, suc, ◌+◌, ◌*◌, ◌/◌, ◌%◌, ◌^◌, eqb, leb, ℤ, drop, length, take, if◌then◌else◌}
use Rattle.ints.specs.Signed.{int_at}

-- bit b of a format, 0 or 1
abbrev pub bit_of : ℕ → ℕ → ℕ
bit_of f b = f / 2 ^ b % 2

-- does a record of the format have field b?
abbrev pub has : ℕ → ℕ → Bool
has f b = eqb (bit_of f b) 1

-- how many of the b lowest bits are set
unfoldable pub set_below : ℕ → ℕ → ℕ
set_below f zero = 0
set_below f (suc b) = set_below f b + bit_of f b

-- two bytes for each bit that is set: the length of a record, and by the bits below b the place of field b
abbrev pub record_length : ℕ → ℕ
record_length f = 2 * set_below f 8

abbrev pub field_place : ℕ → ℕ → ℕ
field_place f b = 2 * set_below f b

-- the value of field b in a record of the format f
abbrev pub field_value : List ℕ → ℕ → ℕ → ℤ
field_value r f b = int_at 2 r (field_place f b)

-- the bytes of the record at a place of a table: nothing where it is not wholly inside
abbrev pub record_at : List ℕ → ℕ → ℕ → List ℕ
record_at t at f = if leb (at + record_length f) (length t) then take (record_length f) (drop at t) else []
