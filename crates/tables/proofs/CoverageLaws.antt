-- A law of coverage tables. Assumes nothing.
use mathlib.Core.Path.{◌≡◌}
use mathlib.Core.List.{List}
use Prim.Native.Nat.{ℕ, ◌+◌, ◌*◌, ◌≤◌, ◌<◌}
use Rattle.ints.specs.BigEndian.{nat_at}
use Rattle.tables.specs.Spans.{first_holding, range_spans, span_at}
use Rattle.tables.proofs.SpansLaws.{found_starts}

-- the range that was found starts at the glyph or below
pub range_starts : (t : List ℕ) (g n k : ℕ) → k ≡ first_holding (range_spans t n) g → k < n → nat_at 2 t (4 + 6 * k) ≤ g
unfolding span_at
range_starts t g n k e h = found_starts (span_at t 6 2) g n k e h
