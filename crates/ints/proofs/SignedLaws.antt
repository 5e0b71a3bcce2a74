-- Laws of two's complement, once over the width. Assumes nothing.
use mathlib.Core.Path.{◌≡◌, sym, ap, ◌∙◌}
use mathlib.Core.List.{List, ◌++◌}
use Prim.Native.Nat.{ℕ, zero, suc, ◌+◌, ◌-◌, ◌%◌, ◌^◌, ◌<◌, ◌≤◌}
use native.Mathlib.Nat.{pow-suc}
use native.Mathlib.Decide.{dec_lt}
use native.Mathlib.Omega.{arith}
use borrow.Author.Tests.{lt-ltb, le-ltb}
use lib.IntN.{ℤ, pos, negsuc}
use mir.Syntax.{w16, w32}
use mir.Val.{of_z, SFits, to_z}
use mir.Facts.{Fits-of_z, of_z-to_z, to_z-of_z}
use lib.Signed.{mag}
use lib.ListN.{length, take, drop}
use Rattle.ints.specs.BigEndian.{AllBytes, digits, nat_at}
use Rattle.ints.specs.Signed.{half, InBytes, int_at, pattern, signed, with_int}
use Rattle.ints.specs.code.Signed.{val}
use Rattle.ints.proofs.Ints.{diff, eq_diff, negsuc_diff, pos_diff, sub_pos}
use Rattle.ints.proofs.BigEndianLaws.{digits_nat_at, nat_at_digits, nat_at_fits, nat_at_with_nat, with_nat_nat_at}

-- the patterns are two halves
halves : (w : ℕ) → 1 ≤ w → 256 ^ w ≡ half w + half w
halves zero h = absurd (omega arith)
halves (suc w) h = rw pow-suc (omega arith)

-- the integer of a pattern, as a difference a - b
module _ (w n a b : ℕ) where
  pub signed_low : n < half w → n + b ≡ a → signed w n ≡ diff a b
  unfolding signed
  signed_low h e = simp (lt-ltb n (half w) h) (pos_diff n ∙ eq_diff n 0 a b (omega arith))

  pub signed_high : half w ≤ n → n + b ≡ a + 256 ^ w → signed w n ≡ diff a b
  unfolding signed
  signed_high h e = simp (le-ltb n (half w) h) (sub_pos n (256 ^ w) ∙ eq_diff n (256 ^ w) a b e)

-- and by its sign
pub signed_pos : (w n : ℕ) → n < half w → signed w n ≡ pos n
signed_pos w n h = signed_low w n n 0 h (omega arith) ∙ sym (pos_diff n)

pub signed_neg : (w n : ℕ) → half w ≤ n → n < 256 ^ w → signed w n ≡ negsuc (256 ^ w - suc n)
signed_neg w n h k = signed_high w n 0 (suc (256 ^ w - suc n)) h (omega arith) ∙ sym (negsuc_diff (256 ^ w - suc n))

-- the pattern of an integer of w bytes is a pattern of w bytes, and stands for that integer
pub pattern_fits : (w : ℕ) (z : ℤ) → InBytes w z → pattern w z < 256 ^ w
unfolding pattern
pattern_fits w (pos n) h = omega arith
pattern_fits w (negsuc n) h = omega arith

pub signed_pattern : (w : ℕ) (z : ℤ) → 1 ≤ w → InBytes w z → signed w (pattern w z) ≡ z
unfolding pattern
signed_pattern w (pos n) o h = signed_pos w n h
signed_pattern w (negsuc n) o h =
    let e = halves w o in
    signed_high w (256 ^ w - (n + 1)) 0 (suc n) (omega arith) (omega arith) ∙ sym (negsuc_diff n)

-- the pattern of a pattern's integer is the pattern
pub pattern_signed : (w n : ℕ) → n < 256 ^ w → pattern w (signed w n) ≡ n
unfolding pattern
pattern_signed w n h = go (dec_lt n (half w))
  where
    go : Dec (n < half w) → pattern w (signed w n) ≡ n
    go (yes l) = rw (signed_pos w n l)
    go (no f) = rw (signed_neg w n (omega arith) h) (omega arith)

-- so two patterns of one integer are the same
pub signed_same : (w n m : ℕ) → n < 256 ^ w → m < 256 ^ w → signed w n ≡ signed w m → n ≡ m
signed_same w n m h k e = sym (pattern_signed w n h) ∙ ap (pattern w) e ∙ pattern_signed w m k

-- a pattern's integer is one of w bytes
pub signed_in : (w n : ℕ) → 1 ≤ w → n < 256 ^ w → InBytes w (signed w n)
signed_in w n o h = go (dec_lt n (half w))
  where
    go : Dec (n < half w) → InBytes w (signed w n)
    go (yes l) = rw (signed_pos w n l) l
    go (no f) = rw (signed_neg w n (omega arith) h) (omega (arith, halves w o))

-- a number of 16 bits has the lower half of its 32 bits for a pattern
pub pattern_16 : (v : ℕ) → v < 4294967296 → InBytes 2 (val v) → pattern 2 (val v) ≡ v % 65536
unfolding pattern
pattern_16 v h = go (dec_lt v (half 4))
  where
    go : Dec (v < half 4) → InBytes 2 (val v) → pattern 2 (val v) ≡ v % 65536
    go (yes l) = rw (signed_pos 4 v l) (λ k. omega arith)
    go (no f) = rw (signed_neg 4 v (omega arith) h) (λ k. omega arith)

-- ---- integers in bytes
-- what was written is read
pub int_at_with_int : (w : ℕ) (l : List ℕ) (at : ℕ) (z : ℤ) → 1 ≤ w → at + w ≤ length l → InBytes w z → int_at w (with_int w l at z) at ≡ z
unfolding int_at with_int
int_at_with_int w l at z o f h = ap (signed w) (nat_at_with_nat w l at (pattern w z) f (pattern_fits w z h)) ∙ signed_pattern w z o h

-- a write of what was read changes nothing
pub with_int_int_at : (w : ℕ) (l : List ℕ) (at : ℕ) → AllBytes l → at + w ≤ length l → with_int w l at (int_at w l at) ≡ l
unfolding int_at with_int
with_int_int_at w l at h f = rw (pattern_signed w (nat_at w l at) (nat_at_fits w l at h)) (with_nat_nat_at w l at h f)

-- bytes hold an integer of that many bytes
pub int_at_in : (w : ℕ) (l : List ℕ) (at : ℕ) → 1 ≤ w → AllBytes l → InBytes w (int_at w l at)
unfolding int_at
int_at_in w l at o h = signed_in w (nat_at w l at) o (nat_at_fits w l at h)

-- the bytes of an integer that was read are those bytes, and the integer of an integer's bytes is the integer
pub digits_int_at : (w : ℕ) (l : List ℕ) (at : ℕ) → AllBytes l → at + w ≤ length l → digits w (pattern w (int_at w l at)) ≡ take w (drop at l)
unfolding int_at
digits_int_at w l at h f = rw (pattern_signed w (nat_at w l at) (nat_at_fits w l at h)) (digits_nat_at w l at h f)

pub int_at_digits : (w : ℕ) (z : ℤ) → 1 ≤ w → InBytes w z → (t : List ℕ) → int_at w (digits w (pattern w z) ++ t) 0 ≡ z
unfolding int_at
int_at_digits w z o h t = ap (signed w) (nat_at_digits w (pattern w z) (pattern_fits w z h) t) ∙ signed_pattern w z o h

-- ---- the library's signed numbers: a cast reads the same patterns
pub cast_16 : (n : ℕ) → n < 65536 → to_z w16 n ≡ signed 2 n
cast_16 n h = go (dec_lt n 32768)
  where
    go : Dec (n < 32768) → to_z w16 n ≡ signed 2 n
    go (yes l) = rw (signed_pos 2 n l, lt-ltb n 32768 l)
    go (no f) = rw (signed_neg 2 n (omega arith) h, le-ltb n 32768 (omega arith))

pub cast_32 : (n : ℕ) → n < 4294967296 → to_z w32 n ≡ val n
cast_32 n h = go (dec_lt n 2147483648)
  where
    go : Dec (n < 2147483648) → to_z w32 n ≡ val n
    go (yes l) = rw (signed_pos 4 n l, lt-ltb n 2147483648 l)
    go (no f) = rw (signed_neg 4 n (omega arith) h, le-ltb n 2147483648 (omega arith))

pub val_cast : (z : ℤ) → SFits w32 z → val (of_z w32 z) ≡ z
val_cast z h = sym (cast_32 (of_z w32 z) (Fits-of_z h).fits) ∙ to_z-of_z h

-- what a function of the library gives back, and what is passed to it
pub returned : (r : ℕ) (z : ℤ) → mag z < 2147483648 → r ≡ of_z w32 (to_z w32 (of_z w32 z)) → val r ≡ z
returned r z h e =
    let f : SFits w32 z = record { sfits = h } in
    ap val (e ∙ ap (of_z w32) (to_z-of_z f)) ∙ val_cast z f

pub passed : (z : ℤ) (n : ℕ) → n < 4294967296 → z ≡ to_z w32 n → to_z w32 (of_z w32 z) ≡ val n
passed z n h e = ap (λ (y : ℤ). to_z w32 (of_z w32 y)) e ∙ ap (to_z w32) (of_z-to_z {w = w32} (record { fits = h })) ∙ cast_32 n h
