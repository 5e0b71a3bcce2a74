-- The powers of 2 at which numbers of 16, 32 and 64 bits end, by name. Assumes nothing.
use Rattle.std.specs.Prelude.{ℕ}

-- 2 ^ 15 and 2 ^ 16
abbrev pub half16 : ℕ
half16 = 32768

abbrev pub whole16 : ℕ
whole16 = 65536

-- 2 ^ 31 and 2 ^ 32
abbrev pub half32 : ℕ
half32 = 2147483648

abbrev pub whole32 : ℕ
whole32 = 4294967296

-- 2 ^ 64
abbrev pub whole64 : ℕ
whole64 = 18446744073709551616
