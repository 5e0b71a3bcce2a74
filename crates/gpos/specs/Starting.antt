-- Starting a line: what it says, and the line afterwards. Assumes nothing.
use Rattle.std.specs.Prelude.{Result, List, [], ◌∷◌, ℕ}
use Rattle.start.specs.Start.{started}
use Rattle.answers.specs.Outcome.{Call, Made}
use Rattle.answers.specs.Said.{done, said_done, unless}
use Rattle.answers.specs.declared.Refusal.{Refusal}
use Rattle.checks.specs.Ranges.{bad_slots}

-- refusal 4; else done, and every slot has chain and type 0 and is else as it was
abbrev pub start : Call
start = record { says = λ ss. unless ((bad_slots ss, 4) ∷ []) done; leaves = started }

-- starting the line l, of slots of z bytes, answered r and left l'
abbrev pub StartCall : (z : ℕ) (l : List ℕ) (r : Result (Unit {0}) Refusal) (l' : List ℕ) → Type 0
StartCall z l r l' = Made start z l (said_done r) l'
