-- A walk by any step over the numbers below n: where it has not ended after n steps, it never ends. Assumes nothing.
use mathlib.Core.Bool.{Bool, true, false, not, ◌&&◌, and-true, and-false, true≢false}
use mathlib.Core.Path.{◌≡◌, refl, sym, ap, ◌∙◌}
use mathlib.Core.Logic.{⊎_elim}
use Prim.Native.Nat.{ℕ, zero, suc, ◌+◌, ◌-◌, ◌<◌, ◌≤◌}
use native.Mathlib.Omega.{arith}
use native.Mathlib.Nat.{not-suc-le-zero, eq-or-lt_of_le, le_of_suc-le-suc, add-zero, add-suc}
use borrow.Author.Tests.{eq-eqb, ne_eqb}
use lib.Dec.{eqb}
use Rattle.ints.specs.Tally.{bit, tally}
use Rattle.ints.specs.theorems.Steps.{steps}
use Rattle.ints.proofs.TallyLaws.{tally_drop}

tally_all : (n : ℕ) → tally (λ (x : ℕ). true) n ≡ n
unfolding tally bit
tally_all zero = refl
tally_all (suc n) =
    let below : tally (λ (x : ℕ). true) n ≡ n = tally_all n in
    omega arith

-- x is none of f 0 .. f (m - 1)
abbrev unseen : (ℕ → ℕ) → ℕ → ℕ → Bool
unseen f zero x = true
unseen f (suc m) x = unseen f m x && not (eqb x (f m))

unseen_new : (f : ℕ → ℕ) (m x : ℕ) → ((j : ℕ) → j < m → x ≡ f j → ⊥) → unseen f m x ≡ true
unseen_new f zero x h = refl
unseen_new f (suc m) x h = rw (unseen_new f m x (λ j lt. h j (omega arith)), ne_eqb x (f m) (h m (omega arith)))

-- the numbers below n that f has not met, and those that it has
counted : (f : ℕ → ℕ) (n m : ℕ) → ((j : ℕ) → j < m → f j < n) → ((a b : ℕ) → a < b → b < m → f b ≡ f a → ⊥)
    → tally (unseen f m) n + m ≡ n
counted f n zero inside apart = rw add-zero (tally_all n)
counted f n (suc m) inside apart =
    let before : tally (unseen f m) n + m ≡ n = counted f n m (λ j lt. inside j (omega arith)) (λ a b lt l. apart a b lt (omega arith)) in
    let one : tally (unseen f m) n ≡ suc (tally (unseen f (suc m)) n) = tally_drop (unseen f m) (unseen f (suc m)) n (f m) (inside m (omega arith))
    (unseen_new f m (f m) (λ j lt. apart j m lt (omega arith)))
    (ap (λ (t : Bool). unseen f m (f m) && not t) (eq-eqb (f m) (f m) refl) ∙ and-false (unseen f m (f m)))
    (λ k ne. sym (ap (λ (t : Bool). unseen f m k && not t) (ne_eqb k (f m) ne) ∙ and-true (unseen f m k))) in
    omega arith

-- m numbers below n, no two the same: m is at most n
pub pigeonhole : (f : ℕ → ℕ) (n m : ℕ) → ((j : ℕ) → j < m → f j < n) → ((a b : ℕ) → a < b → b < m → f b ≡ f a → ⊥) → m ≤ n
pigeonhole f n m inside apart = omega (arith, counted f n m inside apart)

-- a walk that comes where it was goes on as it did
steps_again : (next : ℕ → ℕ) (i a b m : ℕ) → steps next i b ≡ steps next i a → steps next i (b + m) ≡ steps next i (a + m)
unfolding steps
steps_again next i a b zero e = rw (add-zero, add-zero) e
steps_again next i a b (suc m) e = rw (add-suc, add-suc) (ap next (steps_again next i a b m e))

module _ (next : ℕ → ℕ) (done : ℕ → Bool) (n i : ℕ) (start : i < n) (inside : (x : ℕ) → x < n → done x ≡ false → next x < n) where
  steps_inside : (k : ℕ) → ((j : ℕ) → j < k → done (steps next i j) ≡ false) → steps next i k < n
  unfolding steps
  steps_inside zero going = start
  steps_inside (suc k) going = inside (steps next i k) (steps_inside k (λ j lt. going j (omega arith))) (going k (omega arith))

  module _ (early : (k : ℕ) → k < n → done (steps next i k) ≡ false) where
    next_going : (k : ℕ) → ((j : ℕ) → j < k → done (steps next i j) ≡ false) → done (steps next i k) ≡ false
    next_going k going = go (done (steps next i k)) refl
      where
        go : (t : Bool) → done (steps next i k) ≡ t → done (steps next i k) ≡ false
        go false e = e
        go true e = early k (pigeonhole (steps next i) n (suc k)
            (λ j lt. steps_inside j (λ h l. going h (omega arith)))
            (λ a b lt l same.
            let back : steps next i (b + (k - b)) ≡ steps next i (a + (k - b)) = steps_again next i a b (k - b) same in
            let here : b + (k - b) ≡ k = omega arith in
            true≢false (sym e ∙ ap (λ (x : ℕ). done (steps next i x)) (sym here) ∙ ap done back ∙ going (a + (k - b)) (omega arith))))

    all_going : (k j : ℕ) → j < k → done (steps next i j) ≡ false
    all_going zero j lt = absurd (not-suc-le-zero lt)
    all_going (suc k) j lt = ⊎_elim (λ e. rw e (next_going k (all_going k))) (all_going k j) (eq-or-lt_of_le (le_of_suc-le-suc lt))

    pub never_done : (k : ℕ) → done (steps next i k) ≡ false
    never_done k = next_going k (all_going k)
