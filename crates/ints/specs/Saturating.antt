-- Sums, differences and negations that saturate at 32 bits. Assumes nothing.
use Rattle.std.specs.Prelude.{ℕ, ◌-◌, ℤ, pos, neg_ℤ, ◌+ℤ◌, ◌-ℤ◌, if◌then◌else◌}
use Rattle.std.specs.Int.Signed.{lt_z}
use Rattle.ints.specs.Limits.{half32}

-- - n
abbrev pub minus : ℕ → ℤ
minus n = neg_ℤ (pos n)

-- z where it is a number of 32 bits, else the nearest number of 32 bits
unfoldable pub clamp32 : ℤ → ℤ
clamp32 z =
    if lt_z z (minus half32) then minus half32
    else (if lt_z (pos (half32 - 1)) z then pos (half32 - 1)
    else z)

-- a + b, a - b and - a, each brought to the nearest number of 32 bits
abbrev pub sat_add : ℤ → ℤ → ℤ
sat_add a b = clamp32 (a +ℤ b)

abbrev pub sat_sub : ℤ → ℤ → ℤ
sat_sub a b = clamp32 (a -ℤ b)

abbrev pub sat_neg : ℤ → ℤ
sat_neg a = clamp32 (neg_ℤ a)
