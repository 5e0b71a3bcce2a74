-- The scales that code works with. Assumes nothing.
use Rattle.std.specs.Prelude.{ℕ, ◌≤◌}
use Rattle.ints.specs.Scale.{least_upem, most_s, most_upem}

-- s and u in their ranges
pub record InScale (s u : ℕ) : Type 0 where
  pub s_low : 1 ≤ s
  pub s_high : s ≤ most_s
  pub u_low : least_upem ≤ u
  pub u_high : u ≤ most_upem

-- nothing scaled is further from zero: 2 ^ 16 times 2 ^ 15 by 2 ^ 4
abbrev pub most_scaled : ℕ
most_scaled = 134217728
