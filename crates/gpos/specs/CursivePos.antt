-- Cursive attachment: what the call says, and the line afterwards. Assumes nothing.
use Rattle.std.specs.Prelude.{Result, not, List, ℕ, length}
use Rattle.cursive.specs.Attachment.{cursive_attachment}
use Rattle.cursive.specs.CursivePos.{cursive_good}
use Rattle.answers.specs.Outcome.{Call, Made}
use Rattle.answers.specs.Said.{said}
use Rattle.answers.specs.declared.Answer.{Answer}
use Rattle.answers.specs.declared.Refusal.{Refusal}
use Rattle.answers.specs.declared.Neighbour.{Neighbour}
use Rattle.checks.specs.Neighbours.{bad_previous}
use Rattle.checks.specs.Arguments.{applying}

-- the call with the subtable t, for slot i and the previous slot that the caller names, by the lookup's flag
abbrev pub cursive : (t : List ℕ) (direction s u i : ℕ) (previous : Neighbour) (flag : ℕ) → Call
cursive t direction s u i previous flag =
    applying direction s u (λ ss. bad_previous (length ss) i previous) (not (cursive_good t))
    (λ d. cursive_attachment t d s u i previous flag)

-- on the line l, of slots of z bytes, it answered r and left l'
abbrev pub CursiveCall : (z : ℕ) (l t : List ℕ) (direction s u i : ℕ) (previous : Neighbour) (flag : ℕ) (r : Result Answer Refusal)
    (l' : List ℕ)
    → Type 0
CursiveCall z l t direction s u i previous flag r l' = Made (cursive t direction s u i previous flag) z l (said r) l'
