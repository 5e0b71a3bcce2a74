-- What a call says, in the terms of docs/RULES.md, and what each case of code's answers says. Assumes nothing.
use Rattle.std.specs.Prelude.{Bool, List, [], ◌∷◌, ℕ, Result, Ok, Err, if◌then◌else◌}
use Rattle.answers.specs.declared.HazardKind.{HazardKind}
use Rattle.answers.specs.declared.HazardKind.TheVariants.{UnsafeToBreak, UnsafeToConcat}
use Rattle.answers.specs.declared.Hazard.{Hazard}
use Rattle.answers.specs.declared.UpToTwo.{UpToTwo}
use Rattle.answers.specs.declared.UpToTwo.TheVariants.{None, One, Two}
use Rattle.answers.specs.declared.Refusal.{Refusal}
use Rattle.answers.specs.declared.Refusal.TheVariants.{Line, Direction, Number, Slot, Index, Subtable, Endless}
use Rattle.answers.specs.declared.WiderRefusal.{WiderRefusal}
use Rattle.answers.specs.declared.WiderRefusal.TheVariants.{Shared, Unfit}
use Rattle.answers.specs.declared.Answer.{Answer}
use Rattle.answers.specs.declared.Answer.TheVariants.{Applied, Declined}
use Rattle.answers.specs.declared.Ran.{Ran}
use Rattle.answers.specs.declared.Ran.TheVariants.{Done as RanToEnd, Endless as RanInto7}

-- a hazard: unsafe to break, or unsafe to concatenate, from a start up to an end, which is not included
pub data Range : Type 0 where
  unsafe_to_break : (start end : ℕ) → Range
  unsafe_to_concat : (start end : ℕ) → Range

-- What a call says. Applied: at which index to go on, what hazards there are, in order, and whether a glyph was
-- attached. Declined: the hazard, where there is one. Refused: the number. Starting, finishing and the moves say done.
pub data Said : Type 0 where
  applied : (next : ℕ) (hazards : List Range) (attached : Bool) → Said
  declined : (hazards : List Range) → Said
  refused : (number : ℕ) → Said
  done : Said

-- the hazards that a call says, in order
abbrev pub hazards_of : Said → List Range
hazards_of (applied n hs a) = hs
hazards_of (declined hs) = hs
hazards_of (refused n) = []
hazards_of done = []

-- the numbers of the refusals
abbrev pub refusal_number : Refusal → ℕ
refusal_number Line = 1
refusal_number Direction = 2
refusal_number Number = 3
refusal_number Slot = 4
refusal_number Index = 5
refusal_number Subtable = 6
refusal_number Endless = 7

-- the hazard of a kind
abbrev pub range_of : HazardKind → ℕ → ℕ → Range
range_of UnsafeToBreak s e = unsafe_to_break s e
range_of UnsafeToConcat s e = unsafe_to_concat s e

-- what code's hazard says
abbrev pub range : Hazard → Range
range h = range_of h.kind h.start h.end

-- what code's hazards say, in order
abbrev pub ranges : UpToTwo Hazard → List Range
ranges None = []
ranges (One h) = range h ∷ []
ranges (Two h g) = range h ∷ range g ∷ []

-- what an answer says
abbrev pub said : Result Answer Refusal → Said
said (Ok (Applied n hs a)) = applied n (ranges hs) a
said (Ok (Declined hs)) = declined (ranges hs)
said (Err r) = refused (refusal_number r)

-- the numbers of the refusals of a call whose own refusal has the number n
abbrev pub wider_number : ℕ → WiderRefusal → ℕ
wider_number n (Shared r) = refusal_number r
wider_number n Unfit = n

-- what a move says; refusal 10 is its own
abbrev pub said_moved : Result (Unit {0}) WiderRefusal → Said
said_moved (Ok _) = done
said_moved (Err w) = refused (wider_number 10 w)

-- what starting and finishing say
abbrev pub said_done : Result (Unit {0}) Refusal → Said
said_done (Ok _) = done
said_done (Err r) = refused (refusal_number r)

-- What the run of a lookup says. Ran: how many records there are, and whether any call attached. Stopped, with 7: at
-- which slot, and how many records there are. Else the number of the refusal.
pub data SaidRun : Type 0 where
  ran : (records : ℕ) (attached : Bool) → SaidRun
  stopped : (index records : ℕ) → SaidRun
  not_run : (number : ℕ) → SaidRun

-- what a run's answer says; refusal 8 is its own
abbrev pub said_run : Result Ran WiderRefusal → SaidRun
said_run (Ok (RanToEnd n a)) = ran n a
said_run (Ok (RanInto7 i n)) = stopped i n
said_run (Err w) = not_run (wider_number 8 w)

-- refused with the number of the first test of a table that holds; where none holds, what follows
abbrev pub unless : List (Bool × ℕ) → Said → Said
unless [] s = s
unless (t ∷ ts) s = if t.0 then refused t.1 else unless ts s
