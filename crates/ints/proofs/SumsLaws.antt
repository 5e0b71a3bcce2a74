-- Sums of at most n integers within b of zero stay within n b, and nothing saturates. Assumes nothing.
use mathlib.Core.Path.{◌≡◌, refl, sym, ap, ◌∙◌}
use mathlib.Core.List.{List, [], ◌∷◌, ◌++◌}
use Prim.Native.Nat.{ℕ, zero, suc, ◌+◌, ◌*◌, ◌≤◌, ◌<◌}
use native.Mathlib.Omega.{arith}
use lib.IntN.{ℤ, pos, neg_ℤ, nat_abs, ◌+ℤ◌, ◌-ℤ◌, +ℤ_assoc, +ℤ_idl, +ℤ_idr, neg_ℤ-+ℤ}
use lib.ListN.{length, get_or, take, drop}
use Rattle.ints.specs.Saturating.{sat_sub, sat_add}
use Rattle.ints.specs.Sums.{stepwise, total}
use Rattle.ints.proofs.SaturatingLaws.{less_exact, plus_exact}
use Rattle.ints.proofs.SizeLaws.{abs_add, abs_neg}

-- every integer of the list is within b of zero
abbrev pub Near : ℕ → List ℤ → Type 0
Near b zs = (k : ℕ) → k < length zs → nat_abs (get_or zs k (pos 0)) ≤ b

-- the sum of two lists together
pub total_append : (s t : List ℤ) → total (s ++ t) ≡ total s +ℤ total t
unfolding total
total_append [] t = sym (+ℤ_idl (total t))
total_append (z ∷ s) t = ap (λ w. z +ℤ w) (total_append s t) ∙ sym (+ℤ_assoc z (total s) (total t))

-- lists of integers within b of zero: so are their parts, and their sum is bounded
module _ (b : ℕ) where
  pub near_tail : (z : ℤ) (zs : List ℤ) → Near b (z ∷ zs) → Near b zs
  near_tail z zs h k lt = h (suc k) (omega arith)

  pub near_take : (n : ℕ) (zs : List ℤ) → Near b zs → Near b (take n zs)
  near_take zero zs h k lt = absurd (omega arith)
  near_take (suc n) [] h k lt = absurd (omega arith)
  near_take (suc n) (z ∷ zs) h zero lt = h zero (omega arith)
  near_take (suc n) (z ∷ zs) h (suc k) lt = near_take n zs (near_tail z zs h) k (omega arith)

  pub near_drop : (n : ℕ) (zs : List ℤ) → Near b zs → Near b (drop n zs)
  near_drop zero zs h k lt = h k lt
  near_drop (suc n) [] h k lt = absurd (omega arith)
  near_drop (suc n) (z ∷ zs) h k lt = near_drop n zs (near_tail z zs h) k lt

  pub total_near : (zs : List ℤ) → Near b zs → nat_abs (total zs) ≤ b * length zs
  unfolding total
  total_near [] h = omega arith
  total_near (z ∷ zs) h = omega (arith, abs_add z (total zs), h 0 (omega arith), total_near zs (near_tail z zs h))

  -- steps that put s of each to z, exact where they are small, give z and s of the sum: s is nothing or a negation
  stepwise_exact : (f : ℤ → ℤ → ℤ) (s : ℤ → ℤ) → s (pos 0) ≡ pos 0 → ((a c : ℤ) → s (a +ℤ c) ≡ s a +ℤ s c) → ((a : ℤ) → nat_abs (s a) ≡ nat_abs a)
      → ((z a : ℤ) → nat_abs z + nat_abs a ≤ 2147483647 → f z a ≡ z +ℤ s a)
      → (z : ℤ) (zs : List ℤ) → Near b zs → nat_abs z + b * length zs ≤ 2147483647 → stepwise f z zs ≡ z +ℤ s (total zs)
  unfolding stepwise total
  stepwise_exact f s none sum size exact z [] h k = sym (ap (λ w. z +ℤ w) none ∙ +ℤ_idr z)
  stepwise_exact f s none sum size exact z (a ∷ zs) h k =
      let n = h 0 (omega arith) in
      ap (λ w. stepwise f w zs) (exact z a (omega arith))
      ∙ stepwise_exact f s none sum size exact (z +ℤ s a) zs (near_tail a zs h) (omega (arith, abs_add z (s a), size a))
      ∙ +ℤ_assoc z (s a) (s (total zs))
      ∙ ap (λ w. z +ℤ w) (sym (sum a (total zs)))

  pub plus_all_exact : (z : ℤ) (zs : List ℤ) → Near b zs → nat_abs z + b * length zs ≤ 2147483647 → stepwise sat_add z zs ≡ z +ℤ total zs
  plus_all_exact = stepwise_exact sat_add (λ a. a) refl (λ a c. refl) (λ a. refl) plus_exact

  pub less_all_exact : (z : ℤ) (zs : List ℤ) → Near b zs → nat_abs z + b * length zs ≤ 2147483647 → stepwise sat_sub z zs ≡ z -ℤ total zs
  less_all_exact = stepwise_exact sat_sub neg_ℤ refl neg_ℤ-+ℤ abs_neg less_exact

-- one more at the end is one step more
pub stepwise_more : (f : ℤ → ℤ → ℤ) (z : ℤ) (zs : List ℤ) (a : ℤ) → stepwise f z (zs ++ (a ∷ [])) ≡ f (stepwise f z zs) a
unfolding stepwise
stepwise_more f z [] a = refl
stepwise_more f z (y ∷ zs) a = stepwise_more f (f z y) zs a
