-- The small fields of slots put together bit by bit: one is out of range where the bits together are. Assumes nothing.
use mathlib.Core.Bool.{Bool, true, false, ◌||◌}
use mathlib.Core.Path.{◌≡◌, refl}
use Prim.Native.Nat.{ℕ, suc, ◌+◌, ◌*◌, ◌/◌, ◌%◌, ◌^◌, ◌<◌}
use native.Mathlib.Decide.{dec_lt}
use native.Mathlib.Omega.{arith}
use borrow.Author.Tests.{lt-ltb, le-ltb}
use lib.Bits.{bit_or, and_le_l, and_le_r, or_add_and, or_lt, or_mod, or_shr}
use lib.Dec.{ltb}
use Rattle.checks.specs.code.Ranges.{bad_fields}

-- the bits of two numbers together are above 2 ^ k - 1 where one of the numbers is
or_above : (k m a b : ℕ) → suc m ≡ 2 ^ k → ltb m (bit_or a b) ≡ (ltb m a || ltb m b)
or_above k m a b e = go (dec_lt m a) (dec_lt m b)
  where
    go : Dec (m < a) → Dec (m < b) → ltb m (bit_or a b) ≡ (ltb m a || ltb m b)
    go (yes p) q = rw (lt-ltb m a p) (lt-ltb m (bit_or a b) (omega (arith, or_add_and a b, and_le_r a b)))
    go (no p) (yes q) = rw (le-ltb m a (omega arith), lt-ltb m b q) (lt-ltb m (bit_or a b) (omega (arith, or_add_and a b, and_le_l a b)))
    go (no p) (no q) = rw (le-ltb m a (omega arith), le-ltb m b (omega arith)) (le-ltb m (bit_or a b) (omega (arith, or_lt k a b (omega arith) (omega arith))))

-- three tests of each of two slots, put together field by field and slot by slot
three : (a b c x y z : Bool) → ((a || x) || ((b || y) || (c || z))) ≡ ((a || (b || c)) || (x || (y || z)))
three true b c x y z = refl
three false true c true y z = refl
three false true c false y z = refl
three false false true true y z = refl
three false false true false true z = refl
three false false true false false z = refl
three false false false x y z = refl

-- so of the small fields of two slots, one is out of range where their bits together are
pub or_out : (a b : ℕ) → bad_fields (bit_or a b) ≡ (bad_fields a || bad_fields b)
or_out a b =
    rw (
      or_mod a b 8,
      or_shr a b 8,
      or_mod (a / 256) (b / 256) 8,
      or_shr a b 16,
      or_mod (a / 65536) (b / 65536) 8,
      or_above 3 7 (a % 256) (b % 256) refl,
      or_above 4 15 (a / 256 % 256) (b / 256 % 256) refl,
      or_above 3 7 (a / 65536 % 256) (b / 65536 % 256) refl,
    )
    (three (ltb 7 (a % 256)) (ltb 15 (a / 256 % 256)) (ltb 7 (a / 65536 % 256)) (ltb 7 (b % 256)) (ltb 15 (b / 256 % 256)) (ltb 7 (b / 65536 % 256)))

-- four bytes as one number
pub bytes_out : (a b c d : ℕ) → a < 256 → b < 256 → c < 256 → bad_fields (a + b * 256 + c * 65536 + d * 16777216) ≡ (ltb 7 a || (ltb 15 b || ltb 7 c))
bytes_out a b c d ha hb hc =
    let n = a + b * 256 + c * 65536 + d * 16777216 in
    let high : n / 256 ≡ b + c * 256 + d * 65536 = omega arith in
    let higher : n / 65536 ≡ c + d * 256 = omega arith in
    let ea : n % 256 ≡ a = omega arith in
    let eb : (b + c * 256 + d * 65536) % 256 ≡ b = omega arith in
    let ec : (c + d * 256) % 256 ≡ c = omega arith in
    rw (ea, high, eb, higher, ec)
