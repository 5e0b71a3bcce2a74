-- The records that hazards have in a lent list, and the list after records went into it. Assumes nothing.
use Rattle.std.specs.Prelude.{List, [], ◌∷◌, ℕ, ◌+◌, set}
use Rattle.answers.specs.Said.{Range, unsafe_to_break, unsafe_to_concat}
use Rattle.answers.specs.declared.HazardKind.{HazardKind}
use Rattle.answers.specs.declared.HazardKind.TheVariants.{UnsafeToBreak, UnsafeToConcat}
use Rattle.records.specs.declared.HazardRecord.{HazardRecord}
use Rattle.answers.specs.declared.UpToTwo.{UpToTwo}
use Rattle.answers.specs.declared.UpToTwo.TheVariants.{None, One, Two}

-- the number of each kind
abbrev pub kind_number : HazardKind → ℕ
kind_number UnsafeToBreak = 1
kind_number UnsafeToConcat = 2

-- a hazard as a record: the number of its kind, its start and its end
abbrev pub record_of : Range → HazardRecord
record_of (unsafe_to_break s e) = record { kind = kind_number UnsafeToBreak; start = s; end = e }
record_of (unsafe_to_concat s e) = record { kind = kind_number UnsafeToConcat; start = s; end = e }

-- the hazards of one single call as records, in order; it has at most two, and of more these are the first two
abbrev pub records_of : List Range → UpToTwo HazardRecord
records_of [] = None
records_of (g ∷ []) = One (record_of g)
records_of (g ∷ h ∷ hs) = Two (record_of g) (record_of h)

-- the records of one single call as a list, in order
abbrev pub records : UpToTwo HazardRecord → List HazardRecord
records None = []
records (One a) = a ∷ []
records (Two a b) = a ∷ b ∷ []

-- the list with these records stored from the place `at` on
unfoldable pub set_all : List HazardRecord → ℕ → List HazardRecord → List HazardRecord
set_all xs at [] = xs
set_all xs at (r ∷ rs) = set_all (set xs at r) (at + 1) rs
