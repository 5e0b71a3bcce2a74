-- The scale: the quotient that code computes, the mirror, and that it rounds to the nearest, a tie away from zero. Assumes nothing.
use mathlib.Core.Path.{◌≡◌, refl, sym, ap, ◌∙◌}
use Prim.Native.Nat.{ℕ, zero, suc, ◌+◌, ◌*◌, ◌-◌, ◌/◌, ◌%◌, ◌<◌, ◌≤◌}
use native.Mathlib.Nat.{div-div-eq-div-mul, div-eq_of_lt, div-mul-le_self, div-zero, lt-div-mul-add, mul-le-mul_right}
use native.Mathlib.Decide.{dec_lt}
use native.Mathlib.Omega.{arith}
use lib.IntN.{ℤ, pos, negsuc, neg_ℤ, nat_abs, ◌*ℤ◌, neg_ℤ-neg_ℤ}
use borrow.Author.Tests.{le-ltb}
use lib.Signed.{lt_z}
use mathlib.Core.Bool.{true, false}
use Rattle.ints.specs.Scale.{rounded, scaled, with_sign_of}
use Rattle.ints.specs.code.Signed.{val}
use Rattle.ints.specs.theorems.Scale.{away, Rounding}
use Rattle.ints.proofs.Ints.{dn, dn_mul, dn_neg, up, up_mul, up_neg}
use Rattle.ints.proofs.SignedLaws.{signed_neg, signed_pos}
use Rattle.ints.proofs.SizeLaws.{abs_neg, apart}
use Rattle.ints.proofs.TestLaws.{clash}

-- dividing by 2 m is halving and then dividing by m, so half of an odd m may be cut
pub rounded_half : (n m : ℕ) → rounded n m ≡ (n + m / 2) / m
rounded_half n m =
    let e : (2 * n + m) / 2 ≡ n + m / 2 = omega arith in
    sym (div-div-eq-div-mul (2 * n + m) 2 m) ∙ ap (λ (x : ℕ). x / m) e

-- ---- the mirror
rounded_zero : (s m : ℕ) → rounded (0 * s) m ≡ 0
rounded_zero s zero = div-zero (2 * (0 * s) + 0)
rounded_zero s (suc m) = div-eq_of_lt (omega arith)

pub scaled_mirror : (v : ℤ) (s u : ℕ) → scaled (neg_ℤ v) s u ≡ neg_ℤ (scaled v s u)
unfolding scaled
scaled_mirror (pos zero) s u = rw (rounded_zero s u)
scaled_mirror (pos (suc n)) s u = refl
scaled_mirror (negsuc n) s u = sym (neg_ℤ-neg_ℤ (pos (rounded (suc n * s) u)))

-- ---- what code computes
-- the size of a number, by its bits
pub size_low : (v : ℕ) → v < 2147483648 → nat_abs (val v) ≡ v
size_low v h = ap nat_abs (signed_pos 4 v h)

pub size_high : (v : ℕ) → 2147483648 ≤ v → v < 4294967296 → nat_abs (val v) ≡ 4294967296 - v
size_high v h k = ap nat_abs (signed_neg 4 v h k) ∙ omega arith

-- a size that is given a sign, in bits
pub plus_in : (z : ℤ) (n : ℕ) → n < 2147483648 → lt_z z (pos 0) ≡ false → val n ≡ with_sign_of z n
plus_in (pos _) n k e = signed_pos 4 n k
plus_in (negsuc _) n k e = clash (cc)

pub minus_in : (z : ℤ) (n r : ℕ) → n < 2147483648 → r < 4294967296 → (r + n) % 4294967296 ≡ 0 → lt_z z (pos 0) ≡ true → val r ≡ with_sign_of z n
minus_in (pos a) n r k l s e = clash (cc (le-ltb a 0 (omega arith)))
minus_in (negsuc _) zero r k l s e = let f : r ≡ 0 = omega arith in ap val f ∙ signed_pos 4 0 k
minus_in (negsuc _) (suc m) r k l s e =
    let f : 4294967296 - suc r ≡ m = omega arith in
    signed_neg 4 r (omega arith) l ∙ ap negsuc f

pub abs_sign : (v : ℤ) (n : ℕ) → nat_abs (with_sign_of v n) ≡ n
abs_sign (pos _) n = refl
abs_sign (negsuc _) n = abs_neg (pos n)

-- the three steps of the definition, and the bound of the size
pub scaled_in : (z : ℤ) (n m r s u : ℕ) → n ≡ nat_abs z → (m ≡ rounded (n * s) u) × (m ≤ 134217728) → val r ≡ with_sign_of z m → (val r ≡ scaled z s u) × (nat_abs (val r) ≤ 134217728)
unfolding scaled
scaled_in z n m r s u e f g = (
  g ∙ ap (with_sign_of z) (f.0 ∙ ap (λ (k : ℕ). rounded (k * s) u) e),
  rw (g, abs_sign) f.1,
)

-- ---- it rounds to the nearest, a tie away from zero
-- q m is at most half of m above n, and less than that below
abbrev Around : ℕ → ℕ → ℕ → Type 0
Around q n m = (2 * (q * m) ≤ 2 * n + m) × (2 * n < 2 * (q * m) + m)

around : (n m : ℕ) → 0 < m → Around (rounded n m) n m
around n m h =
    let low : rounded n m * (2 * m) ≤ 2 * n + m = div-mul-le_self (2 * n + m) (2 * m) in
    let high : 2 * n + m < rounded n m * (2 * m) + 2 * m = lt-div-mul-add {a = 2 * n + m} {b = 2 * m} (omega arith) in
    (omega arith, omega arith)

-- how far k is from v s / u, by the parts of v and of k
away_parts : (v : ℤ) (s u : ℕ) (k : ℤ) → away v s u k ≡ ((up v * s + dn k * u) - (dn v * s + up k * u)) + ((dn v * s + up k * u) - (up v * s + dn k * u))
away_parts v s u k = apart (v *ℤ pos s) (k *ℤ pos u) ∙ rw (up_mul v s, dn_mul v s, up_mul k u, dn_mul k u)

-- of a number that isn't negative: another whole number differs from q by one or more, so by u or more in these parts
module _ (n s u q : ℕ) (h : 0 < u) (w : Around q (n * s) u) where
  near : (k : ℤ) → away (pos n) s u (pos q) ≤ away (pos n) s u k
  near (pos b) = go (dec_lt b q) (dec_lt q b)
    where
      go : Dec (b < q) → Dec (q < b) → away (pos n) s u (pos q) ≤ away (pos n) s u (pos b)
      go (yes l) g = omega (arith, away_parts (pos n) s u (pos q), away_parts (pos n) s u (pos b), mul-le-mul_right u l)
      go (no l) (yes g) = omega (arith, away_parts (pos n) s u (pos q), away_parts (pos n) s u (pos b), mul-le-mul_right u g)
      go (no l) (no g) = let e : b ≡ q = omega arith in rw e (omega arith)
  near (negsuc b) = omega (arith, away_parts (pos n) s u (pos q), away_parts (pos n) s u (negsuc b))

  not_further : (k : ℤ) → away (pos n) s u k ≡ away (pos n) s u (pos q) → nat_abs k ≤ q
  not_further (pos b) e = go (dec_lt q b)
    where
      go : Dec (q < b) → b ≤ q
      go (yes g) = absurd (omega (arith, away_parts (pos n) s u (pos q), away_parts (pos n) s u (pos b), mul-le-mul_right u g))
      go (no g) = omega arith
  not_further (negsuc b) e = absurd (omega (arith, away_parts (pos n) s u (pos q), away_parts (pos n) s u (negsuc b)))

-- the mirror of a rounding is one
away_mirror : (v : ℤ) (s u : ℕ) (k : ℤ) → away (neg_ℤ v) s u (neg_ℤ k) ≡ away v s u k
away_mirror v s u k = away_parts (neg_ℤ v) s u (neg_ℤ k) ∙ rw (up_neg v, dn_neg v, up_neg k, dn_neg k) (omega (arith, away_parts v s u k))

mirrored : (v : ℤ) (s u : ℕ) (q : ℤ) → Rounding v s u q → Rounding (neg_ℤ v) s u (neg_ℤ q)
mirrored v s u q r = record {
  nearest = λ k. rw (away_mirror v s u q, at k) (r.nearest (neg_ℤ k));
  tie = λ k e. rw (abs_neg q, ← (abs_neg k)) (r.tie (neg_ℤ k) (sym (at k) ∙ e ∙ away_mirror v s u q));
}
  where
    at : (k : ℤ) → away (neg_ℤ v) s u k ≡ away v s u (neg_ℤ k)
    at k = ap (away (neg_ℤ v) s u) (sym (neg_ℤ-neg_ℤ k)) ∙ away_mirror v s u (neg_ℤ k)

-- the scaled number is v s / u rounded, and no other number is
module _ (s u : ℕ) (h : 0 < u) where
  rounding_pos : (n : ℕ) → Rounding (pos n) s u (pos (rounded (n * s) u))
  rounding_pos n = record {
    nearest = near n s u (rounded (n * s) u) h (around (n * s) u h);
    tie = not_further n s u (rounded (n * s) u) h (around (n * s) u h);
  }

  pub scaled_rounding : (v : ℤ) → Rounding v s u (scaled v s u)
  unfolding scaled
  scaled_rounding (pos n) = rounding_pos n
  scaled_rounding (negsuc n) = mirrored (pos (suc n)) s u (pos (rounded (suc n * s) u)) (rounding_pos (suc n))

  one_rounding : (v p q : ℤ) → Rounding v s u p → Rounding v s u q → p ≡ q
  one_rounding v p q f g = go p q (f.nearest (pos 0)) (g.nearest (pos 0)) (g.tie p equal) (f.tie q (sym equal))
    where
      equal : away v s u p ≡ away v s u q
      equal = omega (arith, f.nearest q, g.nearest p)

      -- of two numbers with one size and other signs, one is further away than 0
      apart_signs : (a b : ℕ) → away v s u (pos a) ≤ away v s u (pos 0) → away v s u (negsuc b) ≤ away v s u (pos 0) → a ≡ suc b → ⊥
      apart_signs a b i j e = omega (arith, ap (λ (x : ℕ). x * u) e, away_parts v s u (pos a), away_parts v s u (negsuc b), away_parts v s u (pos 0))

      go : (p q : ℤ) → away v s u p ≤ away v s u (pos 0) → away v s u q ≤ away v s u (pos 0) → nat_abs p ≤ nat_abs q → nat_abs q ≤ nat_abs p → p ≡ q
      go (pos a) (pos b) i j k l = ap pos (omega arith)
      go (negsuc a) (negsuc b) i j k l = ap negsuc (omega arith)
      go (pos a) (negsuc b) i j k l = absurd (apart_signs a b i j (omega arith))
      go (negsuc a) (pos b) i j k l = absurd (apart_signs b a j i (omega arith))

  pub only_scaled : (v q : ℤ) → Rounding v s u q → q ≡ scaled v s u
  only_scaled v q r = one_rounding v q (scaled v s u) r (scaled_rounding v)
