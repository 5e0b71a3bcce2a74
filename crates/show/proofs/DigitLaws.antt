-- Laws of decimal digits: how many a number takes, and writing them from the last to the first. Assumes nothing.
use mathlib.Core.Path.{◌≡◌, refl, sym, ap, subst, ◌∙◌}
use mathlib.Core.List.{List, [], ◌∷◌, ◌++◌}
use Prim.Native.Nat.{ℕ, zero, suc, ◌+◌, ◌-◌, ◌*◌, ◌/◌, ◌%◌, ◌^◌, ◌≤◌, ◌<◌}
use native.Mathlib.Nat.{div-div-eq-div-mul, div-lt_iff_lt-mul, le-div_iff_mul-le, le_of_suc-le-suc, lt_of_not-le, not-suc-le-zero, one-le-pow, pow-le-pow_right, pow-suc}
use native.Mathlib.Numerals.{add-one, sub-one}
use native.Mathlib.Omega.{arith}
use lib.ListN.{length, take, drop, set}
use lib.Seq.{slice, length-take-le, take-set-lt, append_snoc}
use Rattle.show.specs.Digits.{hex_digit_ascii, last_digits, IsDigitCount}

-- ---- how many digits a number takes
-- one digit more is taken off
pub again : (n k : ℕ) → n / 10 ^ k / 10 ≡ n / 10 ^ (k + 1)
again n k = div-div-eq-div-mul n (10 ^ k) 10 ∙ ap (λ (d : ℕ). n / d) (sym (pow-suc 10 k) ∙ ap (λ (j : ℕ). 10 ^ j) (sym (add-one k)))

-- something is left of n after k digits, so one more is wanted
pub wanted : (n k : ℕ) → 0 < n / 10 ^ k → 10 ^ (k + 1 - 1) ≤ n
wanted n k some =
    let e : k ≡ k + 1 - 1 = omega arith in
    let p : 1 * 10 ^ k ≤ n = (le-div_iff_mul-le (one-le-pow k 10 (omega arith))).0 some in
    subst (λ (j : ℕ). 10 ^ j ≤ n) e (omega arith)

-- nothing is left of n after k digits, so k digits hold it
pub held : (n k : ℕ) → n / 10 ^ k < 1 → n < 10 ^ k
held n k none =
    let p : n < 1 * 10 ^ k = (div-lt_iff_lt-mul (one-le-pow k 10 (omega arith))).0 none in
    omega arith

-- where `most` digits hold n, the fewest are no more
pub at_most : (n k most : ℕ) → IsDigitCount 10 1 n k → 1 ≤ most → n < 10 ^ most → k ≤ most
at_most n k most fewest some holds = le_of_suc-le-suc (lt_of_not-le not_more)
  where
    not_more : most < k → ⊥
    not_more over =
        let p : 10 ^ (k - 1) ≤ n = fewest.2 (omega arith) in
        let q : 10 ^ most ≤ 10 ^ (k - 1) = pow-le-pow_right (omega arith) (omega arith) in
        omega arith

-- ---- writing them
-- after a store at j, the list from j on begins with what was stored
stored : (t : List ℕ) (j g : ℕ) → j < length t → drop j (set t j g) ≡ g ∷ drop (suc j) t
stored [] j g h = absurd (not-suc-le-zero h)
stored (x ∷ xs) zero g h = refl
stored (x ∷ xs) (suc j) g h = stored xs j g (le_of_suc-le-suc h)

-- a turn moves the last of the digits that are still to write to the front of those that are written
pub moved : (i k rest g : ℕ) (out : List ℕ) → 0 < i → i ≤ k → k ≤ length out → g ≡ hex_digit_ascii (rest % 10)
    → last_digits 10 (i - 1) (rest / 10) ++ slice (i - 1) k (set out (i - 1) g) ≡ last_digits 10 i rest ++ slice i k out
moved zero k rest g out some h room e = absurd (not-suc-le-zero some)
moved (suc j) k rest g out some h room e =
    let todo = last_digits 10 j (rest / 10) in
    let done = slice (suc j) k out in
    let within : j < length (take k out) = subst (λ (n : ℕ). j < n) (sym (length-take-le k out room)) h in
    ap (λ (m : ℕ). last_digits 10 m (rest / 10) ++ slice m k (set out m g)) (sub-one (suc j))
    ∙ ap (λ (l : List ℕ). todo ++ drop j l) (take-set-lt k out j g h)
    ∙ ap (λ (l : List ℕ). todo ++ l) (stored (take k out) j g within)
    ∙ ap (λ (x : ℕ). todo ++ x ∷ done) e
    ∙ sym (append_snoc todo (hex_digit_ascii (rest % 10)) done)
