-- The numbers that C sees for each case of an answer. Assumes nothing.
use Rattle.std.specs.Prelude.{◌≡◌, Bool, true, false, not, [], ◌∷◌, ℕ, eqb, Result, Ok, Err, if◌then◌else◌}
use Rattle.answers.specs.declared.Neighbour.{Neighbour}
use Rattle.answers.specs.declared.Neighbour.TheVariants.{Named, Missing}
use Rattle.answers.specs.Said.{range, refusal_number, wider_number}
use Rattle.answers.specs.declared.Hazard.{Hazard}
use Rattle.answers.specs.declared.UpToTwo.{UpToTwo}
use Rattle.answers.specs.declared.UpToTwo.TheVariants.{None, One, Two}
use Rattle.answers.specs.declared.Answer.{Answer}
use Rattle.answers.specs.declared.Answer.TheVariants.{Applied, Declined}
use Rattle.answers.specs.declared.Ran.{Ran}
use Rattle.answers.specs.declared.Ran.TheVariants.{Done as RanToEnd, Endless as RanInto7}
use Rattle.answers.specs.declared.Refusal.{Refusal}
use Rattle.answers.specs.declared.WiderRefusal.{WiderRefusal}
use Rattle.records.specs.Records.{record_of}
use Rattle.records.specs.declared.HazardRecord.{HazardRecord}
use Rattle.lookup.specs.declared.state.Settings.{Settings}
use Rattle.gpos_c.specs.declared.layout.CRan.{CRan}
use Rattle.gpos_c.specs.declared.layout.CAnswer.{CAnswer}
use Rattle.gpos_c.specs.declared.layout.List.{List}

-- a flag from C: any number but 0 sets it
abbrev pub set : ℕ → Bool
set n = not (eqb n 0)

-- starting and finishing: 0 where done, else the number of the refusal
abbrev pub done_number : Result (Unit {0}) Refusal → ℕ
done_number (Ok _) = 0
done_number (Err r) = refusal_number r

-- the moves: the same, and refusal 10
abbrev pub moved_number : Result (Unit {0}) WiderRefusal → ℕ
moved_number (Ok _) = 0
moved_number (Err w) = wider_number 10 w

-- zeros where there is no hazard
abbrev pub no_hazard : HazardRecord
no_hazard = record { kind = 0; start = 0; end = 0 }

-- hazards keep their order
abbrev pub list_of : UpToTwo Hazard → List
list_of None = record { count = 0; hazard = no_hazard ∷ no_hazard ∷ [] }
list_of (One h) = record { count = 1; hazard = record_of (range h) ∷ no_hazard ∷ [] }
list_of (Two h g) = record { count = 2; hazard = record_of (range h) ∷ record_of (range g) ∷ [] }

-- a flag for C
abbrev pub flag : Bool → ℕ
flag true = 1
flag false = 0

-- an answer by its status, the number of its refusal, whether it attached, the next index and its hazards
abbrev pub laid : ℕ → ℕ → ℕ → ℕ → UpToTwo Hazard → CAnswer
laid s r a n hs =
    record { status = s; refusal = r; attached = a; count = (list_of hs).count; next = n; hazard = (list_of hs).hazard }

-- an applying call: status 1 applied, 2 declined, 3 refused; what a case doesn't have is 0
abbrev pub to_c : Result Answer Refusal → CAnswer
to_c (Ok (Applied n hs a)) = laid 1 0 (flag a) n hs
to_c (Ok (Declined hs)) = laid 2 0 0 0 hs
to_c (Err r) = laid 3 (refusal_number r) 0 0 None

-- a run that is refused: the number of the refusal
abbrev pub not_run : ℕ → CRan
not_run n = record { refusal = n; attached = 0; index = 0; count = 0 }

-- the run of a lookup: refusal 0 where it came to the line's end; 7 where it stopped, with the index; what a case
-- doesn't have is 0
abbrev pub ran_to_c : Result Ran WiderRefusal → CRan
ran_to_c (Ok (RanToEnd n a)) = record { refusal = 0; attached = flag a; index = 0; count = n }
ran_to_c (Ok (RanInto7 i n)) = record { refusal = 7; attached = 0; index = i; count = n }
ran_to_c (Err w) = not_run (wider_number 8 w)

-- what a run is told, from C
abbrev pub settings : (size kind flag direction s u : ℕ) → Settings
settings size kind flag direction s u =
    record { size = size; kind = kind; flag = flag; direction = direction; s = s; u = u }

-- a neighbour from C: where `missing` is 0 the slot n, else none, with the bound n
abbrev pub neighbour : ℕ → ℕ → Neighbour
neighbour missing n = if eqb missing 0 then Named n else Missing n

-- an export gave r: it is the layout of an answer that the call of gpos may give
pub record IsLayoutOf {A : Type 0} {C : Type 0} (layout : A → C) (May : A → Type 0) (r : C) : Type 0 where
  pub answer : A
  pub may : May answer
  pub numbers : r ≡ layout answer
