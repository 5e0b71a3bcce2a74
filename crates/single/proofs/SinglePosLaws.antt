-- Laws of the SinglePos subtable: what the check says of its bytes. Assumes nothing.
use mathlib.Core.Path.{◌≡◌}
use mathlib.Core.Bool.{true, ◌&&◌}
use mathlib.Core.List.{List}
use Prim.Native.Nat.{ℕ, ◌≤◌, ◌<◌}
use native.Mathlib.Omega.{arith}
use lib.Dec.{leb}
use lib.ListN.{length}
use borrow.Author.Tests.{leb-true}
use Rattle.ints.specs.BigEndian.{nat_at}
use Rattle.ints.proofs.TestLaws.{and_left, and_right}
use Rattle.tables.specs.Coverage.{coverage_good_at}
use Rattle.tables.specs.Header.{header_good}
use Rattle.tables.proofs.HeaderLaws.{header}
use Rattle.single.specs.SinglePos.{single_good}

-- a subtable that passed the check
module _ (t : List ℕ) (good : single_good t ≡ true) where
  checked : header_good 6 8 t && (leb (nat_at 2 t 4) 255 && coverage_good_at t (nat_at 2 t 2)) ≡ true
  unfolding single_good
  checked = and_right (leb (length t) 65536) _ good

  pub long : 6 ≤ length t
  long = (header 6 8 t (and_left _ _ checked)).whole

  pub longer : (nat_at 2 t 0 ≡ 1 → ⊥) → 8 ≤ length t
  longer = (header 6 8 t (and_left _ _ checked)).whole2

  pub format_known : nat_at 2 t 4 < 256
  format_known = let h = leb-true (nat_at 2 t 4) 255 (and_left _ _ (and_right (header_good 6 8 t) _ checked)) in omega arith

  pub coverage_good_lem : coverage_good_at t (nat_at 2 t 2) ≡ true
  coverage_good_lem = and_right (leb (nat_at 2 t 4) 255) _ (and_right (header_good 6 8 t) _ checked)

-- all of these, for the methods of such a subtable
pub ruleset of_good = (long, longer, format_known, coverage_good_lem)
