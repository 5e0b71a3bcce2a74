-- The small fields of slots as one number. Assumes nothing.
use Rattle.std.specs.Prelude.{Bool, ◌||◌, ℕ, ◌/◌, ◌%◌, ltb}

-- `bad_slot` of ligature id, component and flags as the low bytes of one number, the ligature id lowest
abbrev pub bad_fields : ℕ → Bool
bad_fields n = ltb 7 (n % 256) || (ltb 15 (n / 256 % 256) || ltb 7 (n / 65536 % 256))
