-- What the check says of a subtable's bytes. Assumes nothing.
use mathlib.Core.Path.{◌≡◌}
use mathlib.Core.Bool.{true}
use mathlib.Core.List.{List}
use Prim.Native.Nat.{ℕ, ◌≤◌}
use lib.ListN.{length}
use Rattle.tables.specs.Coverage.{coverage_good_at}
use Rattle.tables.specs.Header.{coverage_offset}
use Rattle.tables.proofs.HeaderLaws.{one_format}
use Rattle.cursive.specs.CursivePos.{cursive_good, header_bytes}

-- its header is there
pub header : (t : List ℕ) → cursive_good t ≡ true → header_bytes ≤ length t
header t e = (one_format header_bytes t _ e).header

-- its coverage, which code finds at the offset that it read, is good
pub coverage_at_lem : (t : List ℕ) (off : ℕ) → off ≡ coverage_offset t → cursive_good t ≡ true → coverage_good_at t off ≡ true
coverage_at_lem t off is e = rw is (one_format header_bytes t _ e).others
