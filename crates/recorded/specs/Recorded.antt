-- What the head of a call records: 24 numbers, those of the call and those of its answer. Assumes nothing.
use Rattle.std.specs.Prelude.{Bool, List, [], ◌∷◌, ℕ, ◌+◌, ◌*◌, if◌then◌else◌}
use Rattle.ints.specs.BigEndian.{nat_at}
use Rattle.records.specs.declared.HazardRecord.{HazardRecord}
use Rattle.gpos_c.specs.declared.layout.CAnswer.{CAnswer}
use Rattle.recorded.specs.Kind.{is_move}
use Rattle.recorded.specs.declared.kind.Kind.{Kind}
use Rattle.recorded.specs.declared.numbers.Call.{Call}
use Rattle.recorded.specs.declared.numbers.Numbers.{Numbers}

-- number k: four bytes, the highest first
abbrev pub number_at : List ℕ → ℕ → ℕ
number_at head k = nat_at 4 head (k * 4)

-- the numbers that a call of this kind is made with
abbrev pub numbers_of : Kind → List ℕ → Numbers
numbers_of kind head = record {
  kind = kind;
  direction = number_at head 1;
  s = number_at head 2;
  u = number_at head 3;
  limit = number_at head 4;
  attachments = number_at head 5;
  missing = number_at head 6;
  flag = number_at head 7;
  size = number_at head 8;
  index = number_at head 9;
  neighbour = number_at head 10;
  line = number_at head 11;
  subtable = number_at head 12;
}

-- the hazard in the three numbers from number k on
abbrev pub recorded_hazard : List ℕ → ℕ → HazardRecord
recorded_hazard head k =
    record { kind = number_at head k; start = number_at head (k + 1); end = number_at head (k + 2) }

-- the answer
abbrev pub recorded_answer : List ℕ → CAnswer
recorded_answer head = record {
  status = number_at head 13;
  refusal = number_at head 14;
  attached = number_at head 15;
  count = number_at head 16;
  next = number_at head 17;
  hazard = recorded_hazard head 18 ∷ recorded_hazard head 21 ∷ [];
}

-- is a move recorded?
abbrev pub has_target : Numbers → Bool
has_target n = is_move n.kind

-- what a call may write: of a line and of what is in place of the subtable, the latter where it is the target of a move
abbrev pub afterwards : {A : Type 0} → Numbers → A → A → A
afterwards n line target = if has_target n then target else line

-- a call of this kind, with its answer
abbrev pub call_of : Kind → List ℕ → Call
call_of kind head = record { numbers = numbers_of kind head; answer = recorded_answer head }
