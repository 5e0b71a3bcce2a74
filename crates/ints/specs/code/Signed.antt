-- A signed number in code. Assumes nothing.
use Rattle.std.specs.Prelude.{ℕ, ℤ}
use Rattle.ints.specs.Signed.{signed}

-- code holds a signed number as its pattern of four bytes, n: this is the integer
abbrev pub val : ℕ → ℤ
val n = signed 4 n
