-- Single adjustment: what the call says, and the line afterwards. Assumes nothing.
use Rattle.std.specs.Prelude.{Result, not, List, ℕ, leb, length}
use Rattle.single.specs.SinglePos.{single_adjustment, single_good}
use Rattle.answers.specs.Outcome.{Call, Made}
use Rattle.answers.specs.Said.{said}
use Rattle.answers.specs.declared.Answer.{Answer}
use Rattle.answers.specs.declared.Refusal.{Refusal}
use Rattle.checks.specs.Arguments.{applying}

-- the call with the subtable t, for slot i
abbrev pub single : (t : List ℕ) (direction s u i : ℕ) → Call
single t direction s u i =
    applying direction s u (λ ss. leb (length ss) i) (not (single_good t)) (λ d. single_adjustment t d s u i)

-- on the line l, of slots of z bytes, it answered r and left l'
abbrev pub SingleCall : (z : ℕ) (l t : List ℕ) (direction s u i : ℕ) (r : Result Answer Refusal) (l' : List ℕ) → Type 0
SingleCall z l t direction s u i r l' = Made (single t direction s u i) z l (said r) l'
