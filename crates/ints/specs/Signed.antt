-- Signed numbers: plain integers here, and in bytes and in code their two's complement. Assumes nothing.
use Rattle.std.specs.Prelude.{Bool, ◌&&◌, List, ℕ, ◌+◌, ◌-◌, ◌/◌, ◌^◌, ◌<◌, ltb, ℤ, pos, negsuc, ◌-ℤ◌, if◌then◌else◌}
use Rattle.std.specs.Int.Signed.{le_z, mag}
use Rattle.ints.specs.BigEndian.{nat_at, with_nat}

-- half of the patterns of w bytes: 2 ^ 15 at two bytes, 2 ^ 31 at four
abbrev pub half : ℕ → ℕ
half w = 256 ^ w / 2

-- the integer is a signed number of w bytes: from - half to half - 1
abbrev pub InBytes : ℕ → ℤ → Type 0
InBytes w z = mag z < half w

-- the integer that the pattern n of w bytes stands for: patterns from the half up are negative
unfoldable pub signed : ℕ → ℕ → ℤ
signed w n = if ltb n (half w) then pos n else pos n -ℤ pos (256 ^ w)

-- the pattern of w bytes that stands for an integer
unfoldable pub pattern : ℕ → ℤ → ℕ
pattern w (pos n) = n
pattern w (negsuc n) = 256 ^ w - (n + 1)

-- the integer in the w bytes at `at`
unfoldable pub int_at : ℕ → List ℕ → ℕ → ℤ
int_at w l at = signed w (nat_at w l at)

-- the list with the integer z in the w bytes at `at`
unfoldable pub with_int : ℕ → List ℕ → ℕ → ℤ → List ℕ
with_int w l at z = with_nat w l at (pattern w z)

-- are the two integers the same?
abbrev pub same_as : ℤ → ℤ → Bool
same_as z w = le_z z w && le_z w z
