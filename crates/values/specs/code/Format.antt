-- A record's bytes in code. Assumes nothing.
use Rattle.std.specs.Prelude.{List, ℕ, ◌≤◌, ◌<◌, length}
use Rattle.values.specs.Format.{record_length}

-- the bytes that `record_at` gives are a whole record, or none
abbrev pub WholeOrEmpty : List ℕ → ℕ → Type 0
WholeOrEmpty r f = 0 < length r → record_length f ≤ length r
