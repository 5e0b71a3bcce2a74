-- How large a number of rows is. Assumes nothing.
use Rattle.std.specs.Prelude.{None, Some}
use Rattle.std.specs.Prelude.{if◌then◌else◌}
use mathlib.Core.Path.{◌≡◌}
use mathlib.Core.Bool.{Bool, true, false, ◌&&◌}
use mathlib.Core.List.{List}
use Prim.Native.Nat.{ℕ, ◌+◌, ◌*◌, ◌<◌}
use native.Mathlib.Omega.{arith}
use lib.Dec.{leb}
use lib.ListN.{length}
use Rattle.ints.specs.BigEndian.{AllBytes, nat_at}
use Rattle.ints.proofs.BigEndianLaws.{nat_at_fits}
use Rattle.ints.proofs.TestLaws.{clash}
use Rattle.tables.specs.AnchorRows.{rows_of}

-- a number of rows that was read from bytes is one of 16 bits
pub rows_few : (t : List ℕ) (columns n : ℕ) → AllBytes t → rows_of t columns ≡ Some n → n < 65536
rows_few t columns n b e =
    let h : nat_at 2 t 0 < 65536 = nat_at_fits 2 t 0 b in
    let w = known (leb 2 (length t) && leb (2 + 2 * (nat_at 2 t 0 * columns)) (length t)) (nat_at 2 t 0) n e in
    omega arith
  where
    known : (there : Bool) (m n : ℕ) → (if there then Some m else None) ≡ Some n → m ≡ n
    known true m n e = cc
    known false m n e = clash (cc)
