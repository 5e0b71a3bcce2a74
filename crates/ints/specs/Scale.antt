-- The scale: from a font's units, u of which make one em, to the line's, s of which do. Assumes nothing.
use Rattle.std.specs.Prelude.{ℕ, ◌+◌, ◌*◌, ◌/◌, ℤ, pos, negsuc, nat_abs}
use Rattle.std.specs.Prelude.{Bool, ◌||◌, ltb}
use Rattle.ints.specs.Saturating.{minus}

-- s is from 1 to 32,768, u from 16 to 16,384
abbrev pub most_s : ℕ
most_s = 32768

abbrev pub least_upem : ℕ
least_upem = 16

abbrev pub most_upem : ℕ
most_upem = 16384

-- s or u not in its range
abbrev pub bad_scale : ℕ → ℕ → Bool
bad_scale s u = ltb s 1 || (ltb most_s s || (ltb u least_upem || ltb most_upem u))

-- n / m to the nearest whole number, the upper one at a tie: floor((2n + m) / 2m)
abbrev pub rounded : ℕ → ℕ → ℕ
rounded n m = (2 * n + m) / (2 * m)

-- the size n with the sign of v
abbrev pub with_sign_of : ℤ → ℕ → ℤ
with_sign_of (pos _) n = pos n
with_sign_of (negsuc _) n = minus n

-- v at the scale s / u: its size times s / u, rounded, with its sign; so a tie goes away from zero, and - v mirrors v
unfoldable pub scaled : ℤ → ℕ → ℕ → ℤ
scaled v s u = with_sign_of v (rounded (nat_abs v * s) u)
