-- The plain reading of a pair set that is whole and ascending: no contract speaks of it, the theorem of `Meaning` says
-- that the probe finds the same. Assumes nothing.
use Rattle.std.specs.Prelude.{None, Option, Some, Bool, ◌&&◌, List, ℕ, zero, suc, ◌<◌, eqb, leb, length, if◌then◌else◌}
use Rattle.pair.specs.PairSet.{pair_value_count, pair_value_records, pair_value_record, second_glyph}

-- where the first of the records from k on, n of them, is that has the second glyph
unfoldable pub first_with : List ℕ → ℕ → ℕ → ℕ → ℕ → Option ℕ
first_with set size g k zero = None
first_with set size g k (suc n) =
    if eqb (second_glyph set size k) g then Some (pair_value_record size k) else first_with set size g (suc k) n

-- the same of all records
abbrev pub plain : List ℕ → ℕ → ℕ → Option ℕ
plain set size g = first_with set size g 0 (pair_value_count set)

-- all records are there
abbrev pub whole : List ℕ → ℕ → Bool
whole set size = leb pair_value_records (length set) && leb (pair_value_record size (pair_value_count set)) (length set)

-- the second glyphs strictly ascend
abbrev pub Ascending : List ℕ → ℕ → Type 0
Ascending set size = (i j : ℕ) → i < j → j < pair_value_count set → second_glyph set size i < second_glyph set size j
