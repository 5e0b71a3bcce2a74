-- Spans of glyphs, as coverage tables and class lists have them: the first and the last glyph of each. Assumes nothing.
use Rattle.std.specs.Prelude.{Bool, true, ◌&&◌, List, [], ◌∷◌, ℕ, zero, suc, ◌+◌, ◌*◌, leb, length, if◌then◌else◌}
use Rattle.ints.specs.BigEndian.{u16_at}

-- the glyphs from `first` to `last`
pub record Span : Type 0 where
  pub first : ℕ
  pub last : ℕ

-- the span holds the glyph: both its ends are included
abbrev pub holds : Span → ℕ → Bool
holds p g = leb p.first g && leb g p.last

-- strictly ascending: each span starts at the bound or above and does not end before it starts, and the next one starts
-- above its end
unfoldable pub ascends : ℕ → List Span → Bool
ascends bound [] = true
ascends bound (p ∷ ps) = leb bound p.first && (leb p.first p.last && ascends (p.last + 1) ps)

-- the number of the first span that holds the glyph, and the number of spans where none does
unfoldable pub first_holding : List Span → ℕ → ℕ
first_holding [] g = 0
first_holding (p ∷ ps) g = if holds p g then 0 else suc (first_holding ps g)

-- ---- spans in bytes
-- a coverage table or a class list has at least two uint16, its format first; in all but class format 1 the second is
-- the count, and an array of spans follows
abbrev pub list_header_size : ℕ
list_header_size = 4

-- where span k is, in an array that has `stride` bytes for each span
abbrev pub span_place : ℕ → ℕ → ℕ
span_place stride k = list_header_size + stride * k

-- an array of n spans is whole
abbrev pub whole_spans : List ℕ → ℕ → ℕ → Bool
whole_spans t stride n = leb (span_place stride n) (length t)

-- span k of such an array: its first glyph at the start, its last glyph `over` bytes further
unfoldable pub span_at : List ℕ → ℕ → ℕ → ℕ → Span
span_at t stride over k =
    record { first = u16_at t (span_place stride k); last = u16_at t (span_place stride k + over) }

-- n spans, from number k on
unfoldable pub spans_from : (ℕ → Span) → ℕ → ℕ → List Span
spans_from f k zero = []
spans_from f k (suc n) = f k ∷ spans_from f (suc k) n

-- the first n spans of the array
abbrev pub spans : List ℕ → ℕ → ℕ → ℕ → List Span
spans t stride over n = spans_from (span_at t stride over) 0 n

-- a glyph of a glyphArray is a uint16
abbrev pub glyph_size : ℕ
glyph_size = 2

-- the spans of a glyphArray are of one glyph each, which is both its ends
abbrev pub glyph_spans : List ℕ → ℕ → List Span
glyph_spans t n = spans t glyph_size 0 n

-- a range record is of uint16 startGlyphID, endGlyphID and a third uint16
abbrev pub range_record_size : ℕ
range_record_size = 6

-- where range record k is
abbrev pub range_record : ℕ → ℕ
range_record k = span_place range_record_size k

-- from startGlyphID to endGlyphID
abbrev pub to_end_glyph_id : ℕ
to_end_glyph_id = 2

-- the spans of range records
abbrev pub range_spans : List ℕ → ℕ → List Span
range_spans t n = spans t range_record_size to_end_glyph_id n
