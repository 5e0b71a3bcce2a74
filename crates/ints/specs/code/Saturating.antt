-- A sum in progress in code. Assumes nothing.
use Rattle.std.specs.Prelude.{ℕ, ℤ, pos, ◌-ℤ◌}
use Rattle.ints.specs.Limits.{half32}

-- a sum in progress is held as v + 2 ^ 31, n: this is the integer v
abbrev pub unlifted : ℕ → ℤ
unlifted n = pos n -ℤ pos half32
