-- Worked values at the ends of ranges, by hand from the rules: bytes, signed numbers, saturating sums, the scale. They compute. Assumes nothing.
use mathlib.Core.Path.{◌≡◌, refl}
use mathlib.Core.List.{List, [], ◌∷◌, map}
use Prim.Native.Nat.{ℕ, ◌/◌, ◌%◌}
use lib.IntN.{ℤ, pos}
use Rattle.ints.specs.BigEndian.{digits, nat_at}
use Rattle.ints.specs.Saturating.{clamp32, sat_sub, minus, sat_neg, sat_add}
use Rattle.ints.specs.Scale.{scaled}
use Rattle.ints.specs.Signed.{int_at, pattern, signed}

-- the bytes of a table, from its numbers of 16 bits
abbrev pub words : List ℕ → List ℕ
words [] = []
words (n ∷ ns) = n / 256 ∷ n % 256 ∷ words ns

-- the least and the greatest number of 32 bits
abbrev least : ℤ
least = minus 2147483648

abbrev greatest : ℤ
greatest = pos 2147483647

pub record Worked : Type 0 where
  -- the highest byte comes first; what is past the end reads as 0
  pub big_endian : (nat_at 2 (1 ∷ 2 ∷ 3 ∷ []) 1 ≡ 515) × (nat_at 4 (255 ∷ 0 ∷ 0 ∷ 1 ∷ []) 0 ≡ 4278190081) × (nat_at 2 (1 ∷ []) 0 ≡ 256)
  pub to_bytes : digits 4 (pattern 4 (minus 2)) ≡ (255 ∷ 255 ∷ 255 ∷ 254 ∷ [])
  -- two's complement turns negative at the half, at either width
  pub turns : (map (signed 2) (32767 ∷ 32768 ∷ 65535 ∷ []) ≡ (pos 32767 ∷ minus 32768 ∷ minus 1 ∷ []))
      × (map (signed 4) (2147483647 ∷ 2147483648 ∷ []) ≡ (greatest ∷ least ∷ []))
  pub chain_bytes : int_at 2 (128 ∷ 0 ∷ []) 0 ≡ minus 32768
  -- sums and negations stop at the ends of 32 bits, and go up to them
  pub stops : (sat_add greatest (pos 1) ≡ greatest) × (sat_add least (minus 1) ≡ least) × (sat_neg least ≡ greatest) × (sat_add greatest (pos 0) ≡ greatest)
  -- a subtraction saturates once: it is not the addition of a saturated negation
  pub once : (sat_sub (minus 1) least ≡ greatest) × (sat_add (minus 1) (sat_neg least) ≡ pos 2147483646)
  -- the scale at one half, as the customer has it: 3 becomes 2 and -3 becomes -2
  pub halves : map (λ (v : ℤ). scaled v 500 1000) (pos 3 ∷ minus 3 ∷ pos 1 ∷ minus 1 ∷ pos 0 ∷ []) ≡ (pos 2 ∷ minus 2 ∷ pos 1 ∷ minus 1 ∷ pos 0 ∷ [])
  -- at 1 / 16 the ties 8, 24, -8 and -24 go away from zero; one unit nearer to it they go toward it, one further they go as the ties do
  pub ties : (map (λ (v : ℤ). scaled v 1 16) (pos 7 ∷ pos 8 ∷ pos 9 ∷ pos 23 ∷ pos 24 ∷ pos 25 ∷ []) ≡ (pos 0 ∷ pos 1 ∷ pos 1 ∷ pos 1 ∷ pos 2 ∷ pos 2 ∷ []))
      × (map (λ (v : ℤ). scaled v 1 16) (minus 7 ∷ minus 8 ∷ minus 9 ∷ minus 23 ∷ minus 24 ∷ minus 25 ∷ []) ≡ (pos 0 ∷ minus 1 ∷ minus 1 ∷ minus 1 ∷ minus 2 ∷ minus 2 ∷ []))
  -- an odd u has no ties: at 1 / 17 both 8 and -8 become 0, 9 and -9 become 1 and -1
  pub no_ties : map (λ (v : ℤ). scaled v 1 17) (pos 8 ∷ pos 9 ∷ minus 8 ∷ minus 9 ∷ []) ≡ (pos 0 ∷ pos 1 ∷ pos 0 ∷ minus 1 ∷ [])
  -- the largest scale is 2,048; the smallest makes 8,192 a half, and 8,191 less
  pub ends : (map (λ (v : ℤ). scaled v 32768 16) (minus 32768 ∷ pos 32767 ∷ minus 65536 ∷ []) ≡ (minus 67108864 ∷ pos 67106816 ∷ minus 134217728 ∷ []))
      × (map (λ (v : ℤ). scaled v 1 16384) (pos 8192 ∷ pos 8191 ∷ minus 8191 ∷ minus 8192 ∷ []) ≡ (pos 1 ∷ pos 0 ∷ pos 0 ∷ minus 1 ∷ []))

pub worked : Worked
unfolding digits nat_at pattern signed int_at clamp32 scaled
worked = record {
  big_endian = (refl, refl, refl);
  to_bytes = refl;
  turns = (refl, refl);
  chain_bytes = refl;
  stops = (refl, refl, refl, refl);
  once = (refl, refl);
  halves = refl;
  ties = (refl, refl);
  no_ties = refl;
  ends = (refl, refl);
}
