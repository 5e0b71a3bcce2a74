-- The PairSet table (OpenType, GPOS): uint16 pairValueCount, pairValueRecords[pairValueCount], each of a uint16
-- secondGlyph and two value records, ordered by secondGlyph. Assumes nothing.
use Rattle.std.specs.Prelude.{List, ℕ, Result, Ok, Err, zero, suc, ◌+◌, ◌*◌, ◌/◌, ltb, length, if◌then◌else◌}
use Rattle.ints.specs.BigEndian.{u16_at}
use Rattle.pair.specs.declared.pair_set.Missed.{Missed}
use Rattle.pair.specs.declared.pair_set.Missed.TheVariants.{Nothing, Cut}

-- how many records
abbrev pub pair_value_count : List ℕ → ℕ
pair_value_count set = u16_at set 0

-- where the records start, right after the count
abbrev pub pair_value_records : ℕ
pair_value_records = 2

-- where record k starts, in a set whose records have `size` bytes
abbrev pub pair_value_record : ℕ → ℕ → ℕ
pair_value_record size k = pair_value_records + size * k

-- the second glyph of record k, with which it starts
abbrev pub second_glyph : List ℕ → ℕ → ℕ → ℕ
second_glyph set size k = u16_at set (pair_value_record size k)

-- it is a uint16; the value records follow it
abbrev pub second_glyph_size : ℕ
second_glyph_size = 2

-- the record that is tried next
abbrev pub middle : ℕ → ℕ → ℕ
middle lo hi = (lo + hi) / 2

-- The probe for the second glyph g among the records from lo up to hi, in at most n steps: an empty range finds
-- nothing; a middle record whose second glyph is cut ends it. The set needn't be whole, so a record before the cut may
-- be found; the source's PairKern1, for sets of kerning alone, asks for the whole set first.
unfoldable pub probe_in : ℕ → List ℕ → ℕ → ℕ → ℕ → ℕ → Result ℕ Missed
probe_in zero set size g lo hi = Err Nothing
probe_in (suc n) set size g lo hi =
    if ltb lo hi then
    (if ltb (length set) (pair_value_record size (middle lo hi) + second_glyph_size) then Err Cut
    else (if ltb g (second_glyph set size (middle lo hi)) then probe_in n set size g lo (middle lo hi)
    else (if ltb (second_glyph set size (middle lo hi)) g then probe_in n set size g (middle lo hi + 1) hi
    else Ok (pair_value_record size (middle lo hi)))))
    else Err Nothing

-- the whole set is probed, from 0 up to the count: no more steps than records
abbrev pub probe : List ℕ → ℕ → ℕ → Result ℕ Missed
probe set size g = probe_in (pair_value_count set) set size g 0 (pair_value_count set)
