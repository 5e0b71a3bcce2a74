-- Finishing a line: what it says, and the line afterwards. Assumes nothing.
use Rattle.std.specs.Prelude.{Result, Bool, List, ℕ, ltb}
use Rattle.slots.specs.Axis.{direction_of}
use Rattle.finish_rules.specs.Finish.{finished, max_nesting_level}
use Rattle.answers.specs.Outcome.{Call, Made}
use Rattle.answers.specs.Said.{done, said_done, unless}
use Rattle.answers.specs.declared.Refusal.{Refusal}
use Rattle.checks.specs.Arguments.{slot_tests}

-- refusals 2 to 4, a nesting limit above the most among them; else done, and the slots are finished
abbrev pub finish : ℕ → ℕ → Bool → Call
finish direction limit attachments =
    record {
      says = λ ss. unless (slot_tests ss direction (ltb max_nesting_level limit)) done;
      leaves = finished (direction_of direction) limit attachments;
    }

-- finishing the line l, of slots of z bytes, answered r and left l'
abbrev pub FinishCall : (z : ℕ) (l : List ℕ) (direction limit : ℕ) (attachments : Bool) (r : Result (Unit {0}) Refusal) (l' : List ℕ)
    → Type 0
FinishCall z l direction limit attachments r l' = Made (finish direction limit attachments) z l (said_done r) l'
