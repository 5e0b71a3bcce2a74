-- How far from 0 a coordinate can be. Assumes nothing.
use Rattle.std.specs.Prelude.{ℕ, ◌^◌}

-- how far from 0 an int16 can be, on the negative side
abbrev pub farthest16 : ℕ
farthest16 = 2 ^ 15
