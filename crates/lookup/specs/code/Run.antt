-- Where a run stands, and one turn of it: the next covered place, the single call there, and where the run goes on.
-- Assumes nothing.
use Rattle.std.specs.Prelude.{None, Option, Some, true, false, ◌||◌, List, ◌≡◌, ℕ, ◌+◌, ◌≤◌, ◌<◌, get_or, length, take}
use Rattle.slots.specs.Checks.{bad_line}
use Rattle.slots.specs.Line.{shape_of}
use Rattle.slots.specs.code.Shape.{Fits}
use Rattle.answers.specs.Outcome.{line_after}
use Rattle.answers.specs.Said.{Said, applied, declined, refused, done, hazards_of}
use Rattle.answers.specs.declared.UpToTwo.{UpToTwo}
use Rattle.checks.specs.Ranges.{bad_slots}
use Rattle.records.specs.Records.{records_of}
use Rattle.records.specs.declared.HazardRecord.{HazardRecord}
use Rattle.answers.specs.declared.UpToTwo.TheVariants.{None as NoRecords}
use Rattle.lookup.specs.Kinds.{good_for}
use Rattle.lookup.specs.Neighbours.{neighbour_for}
use Rattle.lookup.specs.Subtables.{every, most_subtables, subtable, subtables, total}
use Rattle.lookup.specs.code.Calls.{call_now, remembering, RightAt, slots_now}
use Rattle.lookup.specs.code.Covered.{next_place}
use Rattle.lookup.specs.declared.covered.Place.{Place}
use Rattle.lookup.specs.declared.state.End.{End}
use Rattle.lookup.specs.declared.state.End.TheVariants.{Done, Endless}
use Rattle.lookup.specs.declared.state.State.{State}

-- what a turn gives: the records of its call, and where the run stands then
pub record Turned : Type 0 where
  pub records : UpToTwo HazardRecord
  pub next : State

-- the same run, at slot i and subtable k, which starts at byte `start`, with the neighbour of that slot
abbrev pub moved_to : List ℕ → State → (i k start : ℕ) → State
moved_to l st i k start =
    record st {
      index = i;
      subtable = k;
      start = start;
      near = neighbour_for st.lookup.kind (slots_now l st) i;
      known = i;
    }

-- the run has ended, where it stands
abbrev pub ended : End → State → State
ended end st = record st { end = Some end }

-- where it goes on after a call that said s, with a subtable that ends at byte `end`: one that is applied wins; after a
-- decline the next subtable is tried; a refusal ends it
abbrev pub next_state : (end : ℕ) (st : State) → Said → State
next_state end st (applied n hs a) =
    record st { index = n; subtable = 0; start = 0; attached = st.attached || a }
next_state end st (declined hs) = record st { subtable = st.subtable + 1; start = end }
next_state end st (refused n) = ended Endless st
next_state end st done = ended Endless st

-- what is made of such a call
abbrev pub turned_by : (end : ℕ) (st : State) → Said → Turned
turned_by end st s = record { records = records_of (hazards_of s); next = next_state end st s }

-- ---- one call, on the line l with the subtables of the buffer b
module _ (l b lengths : List ℕ) (st : State) where
  -- its subtable
  abbrev pub subtable_now : List ℕ
  subtable_now = subtable lengths b st.subtable

  -- what the call says
  abbrev pub said_now : Said
  said_now = (call_now subtable_now st).says (slots_now l st)

  -- the line that it leaves
  unfoldable pub line_called : List ℕ
  line_called = line_after st.lookup.shape.size said_now l ((call_now subtable_now st).leaves (slots_now l st))

  -- its records, and where the run goes on
  unfoldable pub called : Turned
  called = turned_by (st.start + get_or lengths st.subtable 0) (remembering subtable_now (slots_now l st) st) said_now

-- ---- one turn: the call at the next covered place, or the line's end
module _ (l b lengths : List ℕ) (st : State) where
  abbrev pub place_now : Option Place
  place_now = next_place (slots_now l st) b lengths st.index st.subtable st.start

  abbrev pub turn_at : Option Place → Turned
  turn_at (Some p) = called l b lengths (moved_to l st p.index p.subtable p.start)
  turn_at None = record { records = NoRecords; next = ended Done st }

  abbrev pub line_at : Option Place → List ℕ
  line_at (Some p) = line_called l b lengths (moved_to l st p.index p.subtable p.start)
  line_at None = l

  -- its records, and where the run goes on
  unfoldable pub turn_of : Turned
  turn_of = turn_at place_now

  -- the line that it leaves
  unfoldable pub line_of : List ℕ
  line_of = line_at place_now

-- ---- what a turn needs
-- the line is whole and its slots are good
pub record Whole (l : List ℕ) (st : State) : Type 0 where
  pub line_good : bad_line st.lookup.shape.size l ≡ false
  pub shape_is : st.lookup.shape ≡ shape_of st.lookup.shape.size l
  pub fits : Fits st.lookup.shape l
  pub slots_good : bad_slots (slots_now l st) ≡ false

-- the neighbour is that of a slot which isn't past the next
pub record Near (l : List ℕ) (st : State) : Type 0 where
  pub not_past : st.known ≤ st.index
  pub near_is : st.near ≡ neighbour_for st.lookup.kind (slots_now l st) st.known

-- the subtables are good, and the next one starts where it should; behind the last is none
pub record Good (b lengths : List ℕ) (st : State) : Type 0 where
  pub one : 0 < length lengths
  pub few : length lengths ≤ most_subtables
  pub remembered : length st.memory ≡ most_subtables
  pub adds_up : total lengths ≡ length b
  pub within : st.subtable ≤ length lengths
  pub start_is : st.start ≡ total (take st.subtable lengths)
  pub all_good : every (good_for st.lookup.kind) (subtables lengths b) ≡ true

-- all of it
pub record Fine (l b lengths : List ℕ) (st : State) : Type 0 where
  pub goes_on : st.end ≡ None
  pub whole : Whole l st
  pub near : Near l st
  pub good : Good b lengths st
  pub right : (k : ℕ) → k < length lengths
      → RightAt st.memory k st.lookup.kind (subtable lengths b k) (slots_now l st) st.index

-- what the call needs beside: there is such a slot and such a subtable, and the neighbour is the slot's
pub record Placed (l b lengths : List ℕ) (st : State) : Type 0 where
  pub fine : Fine l b lengths st
  pub index_in : st.index < st.lookup.shape.count
  pub subtable_in : st.subtable < length lengths
  pub known_is : st.known ≡ st.index

-- where the run goes on, all of it holds again
abbrev pub Next : (l b lengths : List ℕ) (st : State) → Type 0
Next l b lengths st = st.end ≡ None → Fine l b lengths st
