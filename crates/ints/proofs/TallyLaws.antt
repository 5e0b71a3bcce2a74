-- Laws of counting. Assumes nothing.
use mathlib.Core.Bool.{Bool, true, false}
use mathlib.Core.Path.{◌≡◌, refl, sym, ap, ◌∙◌}
use mathlib.Core.Logic.{⊎_elim}
use Prim.Native.Nat.{ℕ, zero, suc, ◌<◌}
use native.Mathlib.Omega.{arith}
use native.Mathlib.Nat.{eq-or-lt_of_le, le_of_suc-le-suc, not-suc-le-zero}
use Rattle.ints.specs.Tally.{bit, tally}

-- tests that agree below n count the same
pub tally_same : (p q : ℕ → Bool) (n : ℕ) → ((k : ℕ) → k < n → p k ≡ q k) → tally p n ≡ tally q n
unfolding tally
tally_same p q zero h = refl
tally_same p q (suc n) h =
    let below : tally p n ≡ tally q n = tally_same p q n (λ k lt. h k (omega arith)) in
    let here : bit (p n) ≡ bit (q n) = ap bit (h n (omega arith)) in
    omega arith

-- where one number goes from passing to failing and no other changes, one less passes
pub tally_drop : (p q : ℕ → Bool) (n i : ℕ) → i < n → p i ≡ true → q i ≡ false
    → ((k : ℕ) → (k ≡ i → ⊥) → p k ≡ q k) → tally p n ≡ suc (tally q n)
unfolding tally bit
tally_drop p q zero i lt pt qf h = absurd (not-suc-le-zero lt)
tally_drop p q (suc n) i lt pt qf h = ⊎_elim
    (λ (e : i ≡ n).
    let below : tally p n ≡ tally q n = tally_same p q n (λ k l. h k (λ z. omega arith)) in
    let was : bit (p n) ≡ 1 = ap (λ (k : ℕ). bit (p k)) (sym e) ∙ ap bit pt in
    let is : bit (q n) ≡ 0 = ap (λ (k : ℕ). bit (q k)) (sym e) ∙ ap bit qf in
    omega arith)
    (λ (l : i < n).
    let below : tally p n ≡ suc (tally q n) = tally_drop p q n i l pt qf h in
    let here : bit (p n) ≡ bit (q n) = ap bit (h n (λ z. omega arith)) in
    omega arith)
    (eq-or-lt_of_le (le_of_suc-le-suc lt))
