-- Laws of the format: set bits counted at once and one by one, a field that is there lies in its record, and the next field. Assumes nothing.
use mathlib.Core.Path.{◌≡◌, refl, sym, ap, ap₂, subst, ◌∙◌}
use Prim.Native.Nat.{ℕ, zero, suc, ◌+◌, ◌-◌, ◌*◌, ◌/◌, ◌%◌, ◌^◌, ◌≤◌, ◌<◌}
use native.Mathlib.Decide.{dec_lt}
use native.Mathlib.Nat.{add-zero, add-suc, add_comm, zero-add, one-mul, mod-lt, mod-one, lt_of_lt_of_le}
use native.Mathlib.Numerals.{one-add}
use native.Mathlib.Omega.{arith}
use lib.Bits.{bit_and, and_mask}
use lib.Count.{ones, ones_in, ones_cat, count_trailing_zeros}
use lib.Dec.{lit<}
use lib.Pow.{pow_mono, pow_pos, mod-pow-add, shl_exact, shr_le, shr_lt, shr-shr}
use mir.Syntax.{w32}
use Rattle.std.proofs.lemmas.Nat.Bits.{bit_at-trailing_zeros}
use Rattle.values.specs.Format.{bit_of, field_place, record_length, set_below}

-- ---- counting
-- a bit counts itself
ones_bit : (x : ℕ) → x < 2 → ones x ≡ x
unfolding ones ones_in
ones_bit zero h = refl
ones_bit (suc zero) h = refl
ones_bit (suc (suc x)) h = absurd (omega arith)

-- the set bits below b, counted at once and one by one
pub ones_below : (b f : ℕ) → ones (f % 2 ^ b) ≡ set_below f b
unfolding set_below ones ones_in
ones_below zero f = ap ones (mod-one f)
ones_below (suc b) f =
    ap (λ (k : ℕ). ones (f % 2 ^ k)) (sym (one-add b)) ∙ ap ones (mod-pow-add f 1 b)
    ∙ ones_cat b (f / 2 ^ b % 2 ^ 1) (f % 2 ^ b) (mod-lt f (pow_pos b))
    ∙ ap₂ (λ (x y : ℕ). x + y) (ones_bit (f / 2 ^ b % 2) (mod-lt (f / 2 ^ b) (lit< tt))) (ones_below b f)
    ∙ add_comm (bit_of f b) (set_below f b)

-- the bits that the code's mask leaves are those below b: a number of eight bits
pub mask : (f b : ℕ) → b < 8 → bit_and f ((1 * 2 ^ b) % 4294967296 - 1) ≡ f % 2 ^ b
mask f b h =
    ap (λ (m : ℕ). bit_and f (m - 1)) (shl_exact {a = 1} 1 b 32 (lit< tt) (omega arith) ∙ one-mul (2 ^ b)) ∙ and_mask f b

-- ---- places
-- more bits, more are set
set_mono : (f b n : ℕ) → set_below f b ≤ set_below f (b + n)
unfolding set_below
set_mono f b zero = omega (arith, ap (set_below f) (add-zero b))
set_mono f b (suc n) = omega (arith, set_mono f b n, ap (set_below f) (add-suc b n))

-- a field that is there lies in its record
pub field_in : (f b : ℕ) → b < 8 → bit_of f b ≡ 1 → field_place f b + 2 ≤ record_length f
unfolding set_below
field_in f b h e =
    let q : suc b + (8 - suc b) ≡ 8 = omega arith in
    let w : set_below f b + bit_of f b ≤ set_below f 8 = rw q at (set_mono f (suc b) (8 - suc b)) in
    omega arith

-- no more bits are set than there are, so a record has 16 bytes at most
set_le : (f b : ℕ) → set_below f b ≤ b
unfolding set_below
set_le f zero = omega arith
set_le f (suc b) = omega (arith, set_le f b, mod-lt (f / 2 ^ b) (lit< {m = 0} {n = 2} tt))

pub length_small : (f : ℕ) → record_length f ≤ 16
length_small f = omega (arith, set_le f 8)

-- ---- from one set bit to the next
-- a set bit of a format is one of its eight
set_small : (f b : ℕ) → f < 256 → bit_of f b ≡ 1 → b < 8
set_small f b l e = go (dec_lt b 8)
  where
    none : 8 ≤ b → f / 2 ^ b < 1
    none h = shr_lt 0 b (subst (λ (m : ℕ). f < 2 ^ m) (sym (zero-add b)) (lt_of_lt_of_le l (pow_mono {i = 8} {j = b} h)))

    go : Dec (b < 8) → b < 8
    go (yes h) = h
    go (no n) = absurd (omega (arith, e, none (omega arith)))

-- the next field from b on: it is there, one of the eight, and those before it are not there
pub next_set : (f b : ℕ) → f < 256 → 0 < f / 2 ^ b → (bit_of f (b + count_trailing_zeros 32 (f / 2 ^ b)) ≡ 1) × (b + count_trailing_zeros 32 (f / 2 ^ b) < 8)
    × ((j : ℕ) → j < count_trailing_zeros 32 (f / 2 ^ b) → bit_of f (b + j) ≡ 0)
next_set f b l p =
    let t = count_trailing_zeros 32 (f / 2 ^ b) in
    let lowest = bit_at-trailing_zeros w32 (f / 2 ^ b) p (omega (arith, l, shr_le f b)) in
    let e : bit_of f (b + t) ≡ 1 = ap (λ (m : ℕ). m % 2) (sym (shr-shr f b t)) ∙ lowest.1 in
    (e, set_small f (b + t) l e, λ j h. ap (λ (m : ℕ). m % 2) (sym (shr-shr f b j)) ∙ lowest.2 j h)
