-- Pair adjustment: what the call says, and the line afterwards. Assumes nothing.
use Rattle.std.specs.Prelude.{Result, not, List, ℕ, length}
use Rattle.pair.specs.Adjustment.{pair_adjustment}
use Rattle.pair.specs.PairPos.{pair_good}
use Rattle.answers.specs.Outcome.{Call, Made}
use Rattle.answers.specs.Said.{said}
use Rattle.answers.specs.declared.Answer.{Answer}
use Rattle.answers.specs.declared.Refusal.{Refusal}
use Rattle.answers.specs.declared.Neighbour.{Neighbour}
use Rattle.checks.specs.Neighbours.{bad_second}
use Rattle.checks.specs.Arguments.{applying}

-- the call with the subtable t, for slot i and the second slot that the caller names
abbrev pub pair : (t : List ℕ) (direction s u i : ℕ) (second : Neighbour) → Call
pair t direction s u i second =
    applying direction s u (λ ss. bad_second (length ss) i second) (not (pair_good t))
    (λ d. pair_adjustment t d s u i second)

-- on the line l, of slots of z bytes, it answered r and left l'
abbrev pub PairCall : (z : ℕ) (l t : List ℕ) (direction s u i : ℕ) (second : Neighbour) (r : Result Answer Refusal) (l' : List ℕ)
    → Type 0
PairCall z l t direction s u i second r l' = Made (pair t direction s u i second) z l (said r) l'
