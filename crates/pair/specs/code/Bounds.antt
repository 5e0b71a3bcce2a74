-- The bounds that code leans on. Assumes nothing.
use Rattle.std.specs.Prelude.{ℕ, ◌^◌}

-- an index of code is below this, so that sums which stay below it are exact
abbrev pub index_end : ℕ
index_end = 2 ^ 64

-- the place at which the value records of a pair start is below this, so that code's sums are exact
abbrev pub place_end : ℕ
place_end = 2 ^ 31

-- a record that a probe found starts below this: at most 65,535 are before it, of 34 bytes at most
abbrev pub found_end : ℕ
found_end = 2 ^ 22
