-- Chains are numbers of 16 bits. Assumes nothing.
use mathlib.Core.Path.{◌≡◌, sym, ◌∙◌}
use mathlib.Core.Bool.{not}
use Prim.Native.Nat.{ℕ, ◌+◌, ◌-◌, ◌%◌, ◌<◌, ◌≤◌}
use native.Mathlib.Decide.{dec_lt}
use native.Mathlib.Omega.{arith}
use borrow.Author.Tests.{eq-eqb, ne_eqb}
use lib.Dec.{eqb}
use lib.IntN.{pos, nat_abs, ◌-ℤ◌}
use lib.Signed.{mag}
use Rattle.ints.specs.Signed.{InBytes, signed}
use Rattle.ints.specs.code.Signed.{val}
use Rattle.ints.proofs.Ints.{by_sign, diff, sub_pos}
use Rattle.ints.proofs.SignedLaws.{signed_high, signed_low, signed_same}
use Rattle.ints.proofs.SizeLaws.{abs_zero}
use Rattle.slots.specs.code.Fields.{swapped}

-- 0 is one
pub zero_fits : InBytes 2 (val 0)
unfolding signed
zero_fits = omega arith

-- a - b is one where a and b are near
pub near_fits : (a b : ℕ) → a < b + 32768 → b ≤ a + 32768 → InBytes 2 (diff a b)
near_fits a b h k = by_sign (λ z. mag z < 32768) a b (λ l. omega arith) (λ l. omega arith)

-- a distance back, as code computes its bits
pub back_bits : (child parent : ℕ) → parent < child → child - parent ≤ 32768 → val (4294967296 - (child - parent)) ≡ diff parent child
back_bits child parent h k = signed_high 4 (4294967296 - (child - parent)) parent child (omega arith) (omega arith)

-- ---- a chain as code reads it: its bytes as one number n, the first lowest
-- a number of 16 bits, raised by 2 ^ 15
pub raised_chain : (n : ℕ) → n < 65536 → signed 2 n ≡ pos ((n + 32768) % 65536) -ℤ pos 32768
raised_chain n h = go (dec_lt n 32768)
  where
    go : Dec (n < 32768) → signed 2 n ≡ pos ((n + 32768) % 65536) -ℤ pos 32768
    go (yes lt) = signed_low 2 n ((n + 32768) % 65536) 32768 lt (omega arith) ∙ sym (sub_pos ((n + 32768) % 65536) 32768)
    go (no ge) = signed_high 2 n ((n + 32768) % 65536) 32768 (omega arith) (omega arith) ∙ sym (sub_pos ((n + 32768) % 65536) 32768)

-- it is 0 where the bytes are
pub unattached_chain : (n : ℕ) → n ≡ 0 → signed 2 (swapped n) ≡ pos 0
unfolding signed
unattached_chain n e = rw e

pub attached : (n : ℕ) → n < 65536 → (n ≡ 0 → ⊥) → signed 2 (swapped n) ≡ pos 0 → ⊥
unfolding signed
attached n h ne e = ne (omega (arith, signed_same 2 (swapped n) 0 (omega arith) (omega arith) e))

pub attached_bytes : (n : ℕ) → n < 65536 → not (eqb n 0) ≡ not (eqb (nat_abs (signed 2 (swapped n))) 0)
attached_bytes n h = go (dec_lt 0 n)
  where
    go : Dec (0 < n) → not (eqb n 0) ≡ not (eqb (nat_abs (signed 2 (swapped n))) 0)
    go (yes lt) = rw (ne_eqb n 0 (λ e. omega arith), ne_eqb (nat_abs (signed 2 (swapped n))) 0 (λ e. attached n h (λ z. omega arith) (abs_zero (signed 2 (swapped n)) e)))
    go (no ge) = let e : n ≡ 0 = omega arith in rw (eq-eqb n 0 e, unattached_chain n e)
