-- Laws of clamping to 32 bits, and of the sums that code computes on v + 2 ^ 31. Assumes nothing.
use mathlib.Core.Path.{◌≡◌, refl, sym, ap, ◌∙◌}
use Prim.Native.Nat.{ℕ, ◌+◌, ◌%◌, ◌<◌, ◌≤◌, max, min}
use native.Mathlib.Decide.{dec_le, dec_lt}
use native.Mathlib.Omega.{arith}
use borrow.Author.Tests.{lt-ltb, le-ltb}
use lib.Dec.{ltb}
use lib.IntN.{ℤ, pos, negsuc, neg_ℤ, nat_abs, ◌+ℤ◌, ◌-ℤ◌}
use lib.Signed.{lt_z, mag}
use mir.Syntax.{w32}
use Rattle.std.specs.Int.{saturate_signed}
use Rattle.ints.specs.Signed.{InBytes, signed}
use Rattle.ints.specs.code.Signed.{val}
use Rattle.ints.specs.Saturating.{clamp32, sat_sub, minus, sat_neg, sat_add}
use Rattle.ints.proofs.Ints.{diff, diff_of, dn, eq_diff, lt_diff, one_side, sub_pos, up}
use Rattle.ints.proofs.SignedLaws.{signed_high, signed_low}
use Rattle.ints.proofs.SizeLaws.{abs_add, abs_neg, abs_sub, apart, mag_abs, mag_up}

-- ---- clamping, of an integer a - b
low_test : (a b : ℕ) → lt_z (diff a b) (minus 2147483648) ≡ ltb (a + 2147483648) (0 + b)
unfolding diff
low_test a b = lt_diff a b 0 2147483648

high_test : (a b : ℕ) → lt_z (pos 2147483647) (diff a b) ≡ ltb (2147483647 + b) (a + 0)
unfolding diff
high_test a b = lt_diff 2147483647 0 a b

module _ (a b : ℕ) where
  pub clamp_low : a + 2147483648 < b → clamp32 (diff a b) ≡ minus 2147483648
  unfolding clamp32
  clamp_low h = simp (low_test a b, lt-ltb (a + 2147483648) (0 + b) (omega arith))

  pub clamp_high : b + 2147483647 < a → clamp32 (diff a b) ≡ pos 2147483647
  unfolding clamp32
  clamp_high h = simp (low_test a b, high_test a b, le-ltb (a + 2147483648) (0 + b) (omega arith), lt-ltb (2147483647 + b) (a + 0) (omega arith))

  pub clamp_in : b ≤ a + 2147483648 → a ≤ b + 2147483647 → clamp32 (diff a b) ≡ diff a b
  unfolding clamp32
  clamp_in h k = simp (low_test a b, high_test a b, le-ltb (a + 2147483648) (0 + b) (omega arith), le-ltb (2147483647 + b) (a + 0) (omega arith))

-- clamping leaves a number of 32 bits as it was
pub clamp_id : (z : ℤ) → InBytes 4 z → clamp32 z ≡ z
clamp_id z h = rw (← (diff_of z)) (clamp_in (up z) (dn z) (omega (arith, mag_up z)) (omega (arith, mag_up z)))

-- what holds of the least number, of the greatest and of an integer of 32 bits holds of what clamping gives
by_clamp : (P : ℤ → Type 0) (z : ℤ) → (up z + 2147483648 < dn z → P (minus 2147483648)) → (dn z + 2147483647 < up z → P (pos 2147483647))
    → (dn z ≤ up z + 2147483648 → up z ≤ dn z + 2147483647 → P z) → P (clamp32 z)
by_clamp P z low high inside = go (dec_lt (up z + 2147483648) (dn z)) (dec_lt (dn z + 2147483647) (up z))
  where
    at : {w : ℤ} → clamp32 (diff (up z) (dn z)) ≡ w → clamp32 z ≡ w
    at e = ap clamp32 (sym (diff_of z)) ∙ e

    go : Dec (up z + 2147483648 < dn z) → Dec (dn z + 2147483647 < up z) → P (clamp32 z)
    go (yes l) h = rw (at (clamp_low (up z) (dn z) l)) (low l)
    go (no l) (yes h) = rw (at (clamp_high (up z) (dn z) h)) (high h)
    go (no l) (no h) = rw (at (clamp_in (up z) (dn z) (omega arith) (omega arith)) ∙ diff_of z) (inside (omega arith) (omega arith))

-- clamping gives a number of 32 bits, and no other number of 32 bits is nearer
pub clamp_fits : (z : ℤ) → InBytes 4 (clamp32 z)
clamp_fits z = by_clamp (λ w. InBytes 4 w) z (λ l. omega arith) (λ h. omega arith) (inside z)
  where
    inside : (z : ℤ) → dn z ≤ up z + 2147483648 → up z ≤ dn z + 2147483647 → mag z < 2147483648
    inside (pos n) l h = omega arith
    inside (negsuc n) l h = omega arith

pub clamp_nearest : (z y : ℤ) → InBytes 4 y → nat_abs (z -ℤ clamp32 z) ≤ nat_abs (z -ℤ y)
clamp_nearest z y h = by_clamp (λ w. nat_abs (z -ℤ w) ≤ nat_abs (z -ℤ y)) z
    (λ l. omega (arith, apart z (minus 2147483648), apart z y, mag_up y, one_side y))
    (λ k. omega (arith, apart z (pos 2147483647), apart z y, mag_up y, one_side y))
    (λ l k. omega (arith, apart z z))

-- ---- sums that do not saturate are exact
pub plus_exact : (a b : ℤ) → nat_abs a + nat_abs b ≤ 2147483647 → sat_add a b ≡ a +ℤ b
plus_exact a b h = clamp_id (a +ℤ b) (omega (arith, mag_abs (a +ℤ b), abs_add a b))

pub less_exact : (a b : ℤ) → nat_abs a + nat_abs b ≤ 2147483647 → sat_sub a b ≡ a -ℤ b
less_exact a b h = clamp_id (a -ℤ b) (omega (arith, mag_abs (a -ℤ b), abs_sub a b))

pub negated_exact : (a : ℤ) → nat_abs a ≤ 2147483647 → sat_neg a ≡ neg_ℤ a
negated_exact a h = clamp_id (neg_ℤ a) (omega (arith, mag_abs (neg_ℤ a), abs_neg a))

-- ---- v + 2 ^ 31, and back from n to n - 2 ^ 32
pub lifted : (v : ℕ) → v < 4294967296 → pos ((v + 2147483648) % 4294967296) -ℤ pos 2147483648 ≡ val v
lifted v h = go (dec_le 2147483648 v)
  where
    go : Dec (2147483648 ≤ v) → pos ((v + 2147483648) % 4294967296) -ℤ pos 2147483648 ≡ val v
    go (yes k) =
        sub_pos ((v + 2147483648) % 4294967296) 2147483648 ∙ sym (signed_high 4 v ((v + 2147483648) % 4294967296) 2147483648 (omega arith) (omega arith))
    go (no k) =
        sub_pos ((v + 2147483648) % 4294967296) 2147483648 ∙ sym (signed_low 4 v ((v + 2147483648) % 4294967296) 2147483648 (omega arith) (omega arith))

-- n - 2 ^ 32 brought to 32 bits: below, above, and where it is a number of 32 bits
pub lowered_low : (n : ℕ) → n < 2147483648 → clamp32 (pos n -ℤ pos 4294967296) ≡ val 2147483648
unfolding signed
lowered_low n h = ap clamp32 (sub_pos n 4294967296) ∙ clamp_low n 4294967296 (omega arith)

pub lowered_high : (n : ℕ) → 6442450944 ≤ n → clamp32 (pos n -ℤ pos 4294967296) ≡ val 2147483647
unfolding signed
lowered_high n h = ap clamp32 (sub_pos n 4294967296) ∙ clamp_high n 4294967296 (omega arith)

pub lowered : (n a b : ℕ) → 2147483648 ≤ n → n < 6442450944 → n + b ≡ a + 4294967296 → clamp32 (pos n -ℤ pos 4294967296) ≡ diff a b
lowered n a b h k e = ap clamp32 (sub_pos n 4294967296) ∙ clamp_in n 4294967296 (omega arith) (omega arith) ∙ eq_diff n 4294967296 a b e

pub lowered_in : (n : ℕ) → 2147483648 ≤ n → n ≤ 6442450943 → val (n % 4294967296) ≡ clamp32 (pos n -ℤ pos 4294967296)
lowered_in n h k = go (dec_le 4294967296 n)
  where
    go : Dec (4294967296 ≤ n) → val (n % 4294967296) ≡ clamp32 (pos n -ℤ pos 4294967296)
    go (yes q) =
        signed_low 4 (n % 4294967296) n 4294967296 (omega arith) (omega arith) ∙ sym (lowered n n 4294967296 (omega arith) (omega arith) refl)
    go (no q) =
        signed_high 4 (n % 4294967296) n 4294967296 (omega arith) (omega arith) ∙ sym (lowered n n 4294967296 (omega arith) (omega arith) refl)

pub lowered_to : (n m : ℕ) → m ≡ max 2147483648 (min n 6442450943) → val (m % 4294967296) ≡ clamp32 (pos n -ℤ pos 4294967296)
lowered_to n m e = go (dec_lt n 2147483648) (dec_lt 6442450943 n)
  where
    at : {k : ℕ} → m ≡ k → val (m % 4294967296) ≡ val (k % 4294967296)
    at e = ap (λ (k : ℕ). val (k % 4294967296)) e

    go : Dec (n < 2147483648) → Dec (6442450943 < n) → val (m % 4294967296) ≡ clamp32 (pos n -ℤ pos 4294967296)
    go (yes l) h = at {k = 2147483648} (omega arith) ∙ sym (lowered_low n l)
    go (no l) (yes h) = at {k = 6442450943} (omega arith) ∙ sym (lowered_high n (omega arith))
    go (no l) (no h) = at {k = n} (omega arith) ∙ lowered_in n (omega arith) (omega arith)

-- the library's clamping is this one
pub saturated : (z : ℤ) → saturate_signed w32 z ≡ clamp32 z
saturated z = by_clamp (λ w. saturate_signed w32 z ≡ w) z (low z) (high z) (inside z)
  where
    low : (z : ℤ) → up z + 2147483648 < dn z → saturate_signed w32 z ≡ minus 2147483648
    low (pos n) h = absurd (omega arith)
    low (negsuc n) h = ap negsuc (omega arith)

    high : (z : ℤ) → dn z + 2147483647 < up z → saturate_signed w32 z ≡ pos 2147483647
    high (pos n) h = ap pos (omega arith)
    high (negsuc n) h = absurd (omega arith)

    inside : (z : ℤ) → dn z ≤ up z + 2147483648 → up z ≤ dn z + 2147483647 → saturate_signed w32 z ≡ z
    inside (pos n) h k = ap pos (omega arith)
    inside (negsuc n) h k = ap negsuc (omega arith)
