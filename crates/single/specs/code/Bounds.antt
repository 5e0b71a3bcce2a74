-- The bounds that code leans on. Assumes nothing.
use Rattle.std.specs.Prelude.{ℕ, ◌^◌}

-- places in a subtable are below this, so that code's sums are exact
abbrev pub place_end : ℕ
place_end = 2 ^ 32
