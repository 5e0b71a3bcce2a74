-- What is printed, and what that leaves in a writer whose bytes are known. Assumes nothing.
use Rattle.std.specs.Prelude.{List, [], ◌∷◌, ◌++◌, ℕ, ℤ, codes, decimal, Result, Ok, Err}
use Rattle.std.specs.Io.KnownBytes.{Appends}
use Rattle.std.specs.declared.option.Option.{Option}
use Rattle.answers.specs.Said.{refusal_number}
use Rattle.answers.specs.declared.Refusal.{Refusal}
use Rattle.slots.specs.Slot.{Slot}
use Rattle.show.specs.Text.{Spelled, Row}

-- the bytes grow by the text of z
abbrev pub AppendsNumber : ℤ → Option (List ℕ) → Option (List ℕ) → Type 0
AppendsNumber z old new = (text : List ℕ) × Spelled z text × Appends old new text

-- the bytes grow by slot i's row
abbrev pub AppendsRow : ℕ → Slot → Option (List ℕ) → Option (List ℕ) → Type 0
AppendsRow i s old new = (text : List ℕ) × Row i s text × Appends old new text

-- a refusal's line: `refused`, a space and its number
abbrev pub refused_line : Refusal → List ℕ
refused_line r = codes "refused " ++ (decimal (refusal_number r) ++ (10 ∷ []))

-- the line of what starting or finishing answered
abbrev pub done_line : Result (Unit {0}) Refusal → List ℕ
done_line (Ok _) = codes "done" ++ (10 ∷ [])
done_line (Err r) = refused_line r
