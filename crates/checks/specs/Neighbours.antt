-- What refusal 5 asks of an index and of the neighbour that the caller names, in a line of n slots. Assumes nothing.
use Rattle.std.specs.Prelude.{Bool, ◌||◌, ℕ, leb, ltb}
use Rattle.answers.specs.declared.Neighbour.{Neighbour}
use Rattle.answers.specs.declared.Neighbour.TheVariants.{Named, Missing}
use Rattle.checks.specs.declared.neighbours.Beside.{Beside}
use Rattle.checks.specs.declared.neighbours.Beside.TheVariants.{Nothing, Second, Previous}

-- a second glyph that doesn't follow the index or isn't in the line; or, where it is missing, a bound that is past the
-- line's end
abbrev pub bad_after : ℕ → ℕ → Neighbour → Bool
bad_after n idx (Named j) = leb j idx || leb n j
bad_after n idx (Missing e) = ltb n e

-- a previous glyph, or an earlier mark, that doesn't precede the index; or, where it is missing, a bound that is past
-- the line's end
abbrev pub bad_before : ℕ → ℕ → Neighbour → Bool
bad_before n idx (Named i) = leb idx i
bad_before n idx (Missing f) = ltb n f

-- the index not in the line, or the second glyph bad
abbrev pub bad_second : ℕ → ℕ → Neighbour → Bool
bad_second n idx b = leb n idx || bad_after n idx b

-- the index not in the line, or the previous glyph or earlier mark bad
abbrev pub bad_previous : ℕ → ℕ → Neighbour → Bool
bad_previous n idx b = leb n idx || bad_before n idx b

-- refusal 5 of an index alone, of one with a second glyph, or of one with a previous glyph or an earlier mark
abbrev pub bad_place : ℕ → ℕ → Beside → Bool
bad_place n idx Nothing = leb n idx
bad_place n idx (Second b) = bad_second n idx b
bad_place n idx (Previous b) = bad_previous n idx b
