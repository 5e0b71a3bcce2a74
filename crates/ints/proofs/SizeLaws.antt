-- Laws of an integer's absolute value. Assumes nothing.
use mathlib.Core.Path.{◌≡◌, sym, ap, ◌∙◌}
use Prim.Native.Nat.{ℕ, suc, ◌+◌, ◌-◌, ◌≤◌}
use native.Mathlib.Omega.{arith}
use lib.IntN.{ℤ, pos, negsuc, neg_ℤ, nat_abs, ◌+ℤ◌, ◌-ℤ◌}
use lib.Signed.{mag}
use Rattle.ints.proofs.Ints.{add_diff, diff, diff_of, dn, dn_add, dn_diff, dn_neg, neg_diff, up, up_add, up_diff, up_neg}

-- mag z, which bounds a number of two's complement, is n for n and for -(n + 1)
pub mag_up : (z : ℤ) → (up z ≤ mag z) × (dn z ≤ suc (mag z))
mag_up (pos n) = omega arith
mag_up (negsuc n) = omega arith

pub mag_abs : (z : ℤ) → (mag z ≤ nat_abs z) × (nat_abs z ≤ suc (mag z))
mag_abs (pos n) = omega arith
mag_abs (negsuc n) = omega arith

-- 0 alone is of size 0
pub abs_zero : (z : ℤ) → nat_abs z ≡ 0 → z ≡ pos 0
abs_zero (pos n) e = ap pos e
abs_zero (negsuc n) e = absurd (omega arith)

-- the size by the parts, and of sums, negations and differences
pub abs_parts : (z : ℤ) → nat_abs z ≡ up z + dn z
abs_parts (pos n) = omega arith
abs_parts (negsuc n) = omega arith

pub abs_add : (z w : ℤ) → nat_abs (z +ℤ w) ≤ nat_abs z + nat_abs w
abs_add z w = simp (abs_parts, up_add, dn_add) (omega arith)

pub abs_neg : (z : ℤ) → nat_abs (neg_ℤ z) ≡ nat_abs z
abs_neg z = simp (abs_parts, up_neg, dn_neg) (omega arith)

pub abs_sub : (z w : ℤ) → nat_abs (z -ℤ w) ≤ nat_abs z + nat_abs w
abs_sub z w = omega (arith, abs_add z (neg_ℤ w), abs_neg w)

pub abs_diff : (a b k : ℕ) → a ≤ b + k → b ≤ a + k → nat_abs (diff a b) ≤ k
abs_diff a b k h l = simp (abs_parts, up_diff, dn_diff) (omega arith)

-- how far apart two integers are, by their parts
pub apart : (z y : ℤ) → nat_abs (z -ℤ y) ≡ ((up z + dn y) - (dn z + up y)) + ((dn z + up y) - (up z + dn y))
apart z y =
    ap nat_abs (ap (λ w. w -ℤ y) (sym (diff_of z)) ∙ ap (λ w. diff (up z) (dn z) -ℤ w) (sym (diff_of y)))
    ∙ rw (neg_diff, add_diff, abs_parts, up_diff, dn_diff)
