-- Laws of subtables that lie end to end: where each starts and ends, that each is good where all are, and what the loops keep
-- that test their lengths and them. Assumes nothing.
use mathlib.Core.Path.{◌≡◌, refl, sym, ap, ◌∙◌}
use mathlib.Core.Bool.{Bool, true, false, ◌&&◌}
use mathlib.Core.List.{List, [], ◌∷◌}
use Prim.Native.Nat.{ℕ, zero, suc, ◌+◌, ◌-◌, ◌≤◌, ◌<◌}
use native.Mathlib.Numerals.{add-one}
use native.Mathlib.Omega.{arith}
use lib.ListN.{drop, drop_of_length-le, get_or, length, length-drop, take}
use lib.Seq.{drop-cons, drop-drop}
use Rattle.std.proofs.lemmas.Bool.Decides.{nat_tests}
use Rattle.ints.proofs.TestLaws.{and_left, and_right}
use Rattle.lookup.specs.Subtables.{every, subtable, subtables, total}

-- the first starts at byte 0
pub total_none : (ns : List ℕ) → 0 ≡ total (take 0 ns)
unfolding total
total_none ns = refl

-- the subtable after the first k starts where they end
next_total : (ns : List ℕ) (k : ℕ) → k < length ns → total (take (suc k) ns) ≡ total (take k ns) + get_or ns k 0
unfolding total
next_total [] k h = absurd (omega arith)
next_total (n ∷ ns) zero h = omega arith
next_total (n ∷ ns) (suc k) h = omega (arith, next_total ns k (omega arith))

pub total_next : (ns : List ℕ) (k : ℕ) → k < length ns → total (take (k + 1) ns) ≡ total (take k ns) + get_or ns k 0
total_next ns k h = ap (λ (j : ℕ). total (take j ns)) (add-one k) ∙ next_total ns k h

-- and ends inside, where their lengths add up to the buffer's
ends_inside : (ns : List ℕ) (k : ℕ) → k < length ns → total (take k ns) + get_or ns k 0 ≤ total ns
unfolding total
ends_inside [] k h = absurd (omega arith)
ends_inside (n ∷ ns) zero h = omega arith
ends_inside (n ∷ ns) (suc k) h = omega (arith, ends_inside ns k (omega arith))

-- its bytes
subtable_is : (ns b : List ℕ) (k : ℕ) → k < length ns → take (get_or ns k 0) (drop (total (take k ns)) b) ≡ subtable ns b k
unfolding subtables total
subtable_is [] b k h = absurd (omega arith)
subtable_is (n ∷ ns) b zero h = refl
subtable_is (n ∷ ns) b (suc k) h = ap (take (get_or ns k 0)) (sym (drop-drop (total (take k ns)) n b)) ∙ subtable_is ns (drop n b) k (omega arith)

-- the same from byte `start`, where it starts, to its end
abbrev pub cut : (ns b : List ℕ) (k start : ℕ) → List ℕ
cut ns b k start = take (start + get_or ns k 0 - start) (drop start b)

module _ (ns b : List ℕ) (k start : ℕ) (starts : start ≡ total (take k ns)) (h : k < length ns) where
  pub cut_inside : total ns ≡ length b → start + get_or ns k 0 ≤ length b
  cut_inside e = omega (arith, starts, ends_inside ns k h)

  pub cut_is : cut ns b k start ≡ subtable ns b k
  cut_is =
      let only : start + get_or ns k 0 - start ≡ get_or ns k 0 = omega arith in
      ap (λ (n : ℕ). take n (drop start b)) only ∙ ap (λ (n : ℕ). take (get_or ns k 0) (drop n b)) starts ∙ subtable_is ns b k h

-- one of those that all pass the test passes it
pub one_good : (p : List ℕ → Bool) (ns b : List ℕ) (k : ℕ) → k < length ns → every p (subtables ns b) ≡ true → p (subtable ns b k) ≡ true
unfolding subtables every
one_good p [] b k h e = absurd (omega arith)
one_good p (n ∷ ns) b zero h e = and_left (p (take n b)) (every p (subtables ns (drop n b))) e
one_good p (n ∷ ns) b (suc k) h e = one_good p ns (drop n b) k (omega arith) (and_right (p (take n b)) (every p (subtables ns (drop n b))) e)

-- ---- the lengths from number k on
pub total_from : (ns : List ℕ) (k : ℕ) → k < length ns → total (drop k ns) ≡ get_or ns k 0 + total (drop (k + 1) ns)
unfolding total
total_from ns k h = rw (drop-cons ns k 0 h, add-one)

pub total_past : (ns : List ℕ) (k : ℕ) → length ns ≤ k → total (drop k ns) ≡ 0
unfolding total
total_past ns k h = rw (drop_of_length-le ns {i = k} h)

-- for the sum of the lengths
pub ruleset lengths_left = (total_from, total_past, nat_tests)

-- ---- do all pass the test? the first k do, and the others are in the bytes that are left
pub record Passed (p : List ℕ → Bool) (ns b : List ℕ) (k : ℕ) (left : List ℕ) : Type 0 where
  pub adds_up : total (drop k ns) ≡ length left
  pub rest : every p (subtables ns b) ≡ every p (subtables (drop k ns) left)

module _ {p : List ℕ → Bool} {ns b : List ℕ} {k : ℕ} {left : List ℕ} (kept : Passed p ns b k left) where
  pub passed_end : length ns ≤ k → true ≡ every p (subtables ns b)
  unfolding subtables every
  passed_end h = sym (kept.rest ∙ rw (drop_of_length-le ns {i = k} h))

  module _ (h : k < length ns) where
    -- the next is inside them
    pub passed_inside : get_or ns k 0 ≤ length left
    passed_inside = omega (arith, kept.adds_up, total_from ns k h)

    -- it decides, with the rest
    next : every p (subtables ns b) ≡ p (take (get_or ns k 0) left) && every p (subtables (drop (k + 1) ns) (drop (get_or ns k 0) left))
    unfolding subtables every
    next = kept.rest ∙ rw (drop-cons ns k 0 h, add-one)

    -- by code's test of it
    module _ {c : Bool} (is : c ≡ p (take (get_or ns k 0) left)) where
      pub passed_bad : c ≡ false → false ≡ every p (subtables ns b)
      passed_bad e = sym (next ∙ rw (← is, e))

      pub passed_next : c ≡ true → Passed p ns b (k + 1) (drop (get_or ns k 0) left)
      passed_next e = record {
        adds_up = omega (arith, kept.adds_up, total_from ns k h, length-drop (get_or ns k 0) left);
        rest = next ∙ rw (← is, e);
      }
