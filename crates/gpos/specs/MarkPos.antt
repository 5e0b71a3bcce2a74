-- Mark attachment: what the calls say, and the line afterwards. Assumes nothing.
use Rattle.std.specs.Prelude.{Result, not, List, ℕ, length}
use Rattle.targets.specs.MarkPos.{marks_good}
use Rattle.targets.specs.declared.place.Way.{Way}
use Rattle.targets.specs.declared.place.Way.TheVariants.{Search, Earlier}
use Rattle.marks.specs.Attachment.{mark_attachment}
use Rattle.answers.specs.Outcome.{Call, Made}
use Rattle.answers.specs.Said.{said}
use Rattle.answers.specs.declared.Answer.{Answer}
use Rattle.answers.specs.declared.Refusal.{Refusal}
use Rattle.checks.specs.Arguments.{applying}
use Rattle.checks.specs.Neighbours.{bad_place}
use Rattle.checks.specs.declared.neighbours.Beside.{Beside}
use Rattle.checks.specs.declared.neighbours.Beside.TheVariants.{Nothing, Previous}

-- what refusal 5 looks at beside the index: nothing, where a base or a ligature is searched for; else the earlier mark,
-- as it does at cursive's previous glyph
abbrev pub beside_of : Way → Beside
beside_of (Search target) = Nothing
beside_of (Earlier earlier) = Previous earlier

-- the call with the subtable t, for the mark in slot i, by the way: attachment to a base, to a ligature, or to the
-- earlier mark that the caller names; refusal 7 is among what mark attachment says
abbrev pub mark : (way : Way) (t : List ℕ) (direction s u i : ℕ) → Call
mark way t direction s u i =
    applying direction s u (λ ss. bad_place (length ss) i (beside_of way)) (not (marks_good t))
    (λ d. mark_attachment way t d s u i)

-- on the line l, of slots of z bytes, it answered r and left l'
abbrev pub MarkCall : (way : Way) (z : ℕ) (l t : List ℕ) (direction s u i : ℕ) (r : Result Answer Refusal) (l' : List ℕ) → Type 0
MarkCall way z l t direction s u i r l' = Made (mark way t direction s u i) z l (said r) l'
