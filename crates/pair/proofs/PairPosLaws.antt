-- Laws of the PairPos subtable: what the check says of its bytes. Assumes nothing.
use mathlib.Core.Path.{◌≡◌}
use mathlib.Core.Bool.{true, ◌&&◌}
use mathlib.Core.List.{List}
use Prim.Native.Nat.{ℕ, ◌≤◌, ◌<◌}
use native.Mathlib.Omega.{arith}
use lib.Dec.{leb}
use lib.ListN.{length}
use borrow.Author.Tests.{leb-true, ne_eqb}
use Rattle.ints.specs.BigEndian.{nat_at}
use Rattle.ints.proofs.TestLaws.{and_left, and_right}
use Rattle.tables.specs.ClassDef.{class_good_at}
use Rattle.tables.specs.Coverage.{coverage_good_at}
use Rattle.tables.specs.Header.{header_good, pos_format}
use Rattle.tables.proofs.HeaderLaws.{Header, header}
use Rattle.pair.specs.PairPos.{classes_good, value_format1, value_format2, pair_good}

-- a good subtable: not too long, its header whole, its value formats known, its coverage good, and its class lists where the format is 2
pub record Good (t : List ℕ) : Type 0 where
  pub short : length t ≤ 65536
  pub head : Header 10 16 t
  pub known1 : value_format1 t < 256
  pub known2 : value_format2 t < 256
  pub covers : coverage_good_at t (nat_at 2 t 2) ≡ true
  pub classes1 : (pos_format t ≡ 1 → ⊥) → class_good_at t (nat_at 2 t 8) ≡ true
  pub classes2 : (pos_format t ≡ 1 → ⊥) → class_good_at t (nat_at 2 t 10) ≡ true

lists_good : (t : List ℕ) → classes_good t ≡ true → (pos_format t ≡ 1 → ⊥) → class_good_at t (nat_at 2 t 8) && class_good_at t (nat_at 2 t 10) ≡ true
unfolding classes_good
lists_good t e n = simp (ne_eqb (pos_format t) 1 n) at e

pub good : (t : List ℕ) → pair_good t ≡ true → Good t
unfolding pair_good
good t e =
    let e1 = and_right (leb (length t) 65536) _ e in
    let e2 = and_right (header_good 10 16 t) _ e1 in
    let e3 = and_right (leb (value_format1 t) 255) _ e2 in
    let e4 = and_right (leb (value_format2 t) 255) _ e3 in
    let lists = lists_good t (and_right (coverage_good_at t (nat_at 2 t 2)) _ e4) in
    record {
      short = leb-true (length t) 65536 (and_left _ _ e);
      head = header 10 16 t (and_left _ _ e1);
      known1 = omega (arith, leb-true (value_format1 t) 255 (and_left _ _ e2));
      known2 = omega (arith, leb-true (value_format2 t) 255 (and_left _ _ e3));
      covers = and_left _ _ e4;
      classes1 = λ n. and_left _ _ (lists n);
      classes2 = λ n. and_right (class_good_at t (nat_at 2 t 8)) _ (lists n);
    }
