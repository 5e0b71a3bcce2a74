-- What the theorems on running a lookup speak of. Assumes nothing.
use Rattle.std.specs.Prelude.{Result, false, List, ◌++◌, map, ◌≡◌, ℕ, drop, length}
use Rattle.slots.specs.Line.{line_slots}
use Rattle.answers.specs.Outcome.{answer_to, Call, line_after}
use Rattle.answers.specs.Said.{applied, declined, done, hazards_of, refused, Said, said_run}
use Rattle.answers.specs.declared.Ran.{Ran}
use Rattle.answers.specs.declared.WiderRefusal.{WiderRefusal}
use Rattle.records.specs.Records.{record_of}
use Rattle.records.specs.declared.HazardRecord.{HazardRecord}
use Rattle.gpos.specs.Running.{at_end, goes_on, Run, said_at, Stage, stopped_at}

-- the run doesn't go on: it is at the line's end, or it was stopped
abbrev pub Over : Stage → Type 0
Over (goes_on p) = ⊥
Over (at_end a) = Unit {0}
Over (stopped_at i) = Unit {0}

-- where a run of one subtable over one slot ends, by what its single call said; no such call says done
abbrev pub end_after : Said → Stage
end_after (applied next hs a) = at_end a
end_after (declined hs) = at_end false
end_after (refused n) = stopped_at 0
end_after done = stopped_at 0

-- the run r, on the line l of slots of z bytes, is the single call c: the hazards are those that it says, the line is
-- the one that it leaves, and the run ends by what it said
pub record IsCall (c : Call) (z : ℕ) (l : List ℕ) (r : Run) : Type 0 where
  pub found_is : r.found ≡ hazards_of (answer_to c z l)
  pub line_is : r.line ≡ line_after z (answer_to c z l) l (c.leaves (line_slots z l))
  pub last_is : r.last ≡ end_after (answer_to c z l)

-- a run that answered r and left the line l' and, of the list that was lent, list', left what a single call did that
-- said `said` and left the line m'
pub record LeftAsCall (said : Said) (m' : List ℕ) (list : List HazardRecord) (r : Result Ran WiderRefusal) (l' : List ℕ)
    (list' : List HazardRecord) : Type 0 where
  pub answer : said_run r ≡ said_at (end_after said) (length (hazards_of said))
  pub line : l' ≡ m'
  pub list_is : list' ≡ map record_of (hazards_of said) ++ drop (length (hazards_of said)) list
