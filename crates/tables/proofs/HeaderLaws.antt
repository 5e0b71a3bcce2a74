-- What the check of a header says of a subtable's bytes: of one that has two formats, and of one that has format 1 alone. Assumes nothing.
use mathlib.Core.Path.{◌≡◌}
use mathlib.Core.Bool.{Bool, true, ◌&&◌}
use mathlib.Core.List.{List}
use Prim.Native.Nat.{ℕ, ◌≤◌}
use lib.Dec.{eqb, leb}
use lib.ListN.{length}
use borrow.Author.Tests.{eqb-true, leb-true, ne_eqb}
use Rattle.ints.specs.BigEndian.{nat_at}
use Rattle.ints.proofs.TestLaws.{and_left, and_right}
use Rattle.tables.specs.Header.{header_good, pos_format}

-- the format is 1 or 2, and the header is whole: it has `one` bytes, and `two` where the format isn't 1
pub record Header (one two : ℕ) (t : List ℕ) : Type 0 where
  pub whole : one ≤ length t
  pub known : (pos_format t ≡ 1 → ⊥) → pos_format t ≡ 2
  pub whole2 : (pos_format t ≡ 1 → ⊥) → two ≤ length t

pub header : (one two : ℕ) (t : List ℕ) → header_good one two t ≡ true → Header one two t
unfolding header_good
header one two t e = record {
  whole = leb-true one (length t) (and_left _ _ e);
  known = λ n. eqb-true (pos_format t) 2 (and_left _ _ (second n));
  whole2 = λ n. leb-true two (length t) (and_right (eqb (pos_format t) 2) _ (second n));
}
  where
    second : (pos_format t ≡ 1 → ⊥) → eqb (pos_format t) 2 && leb two (length t) ≡ true
    second n = simp (ne_eqb (pos_format t) 1 n) at (and_right (leb one (length t)) _ e)

-- a header of n bytes is there, and what else is asked, `rest`, holds
pub record OneFormat (n : ℕ) (t : List ℕ) (rest : Bool) : Type 0 where
  pub header : n ≤ length t
  pub others : rest ≡ true

pub one_format : (n : ℕ) (t : List ℕ) (rest : Bool) → leb (length t) 65536 && (leb n (length t) && (eqb (nat_at 2 t 0) 1 && rest)) ≡ true → OneFormat n t rest
one_format n t rest e =
    let a = and_right (leb (length t) 65536) _ e in
    record { header = leb-true n (length t) (and_left _ _ a); others = and_right (eqb (nat_at 2 t 0) 1) _ (and_right (leb n (length t)) _ a) }
