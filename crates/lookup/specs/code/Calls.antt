-- One single call of a run: which it is, what it needs, and how far the searches have come after it. Assumes nothing.
use Rattle.std.specs.Prelude.{None, Option, Some, true, List, ◌≡◌, ℕ, ◌≤◌, ◌<◌, get_or, set}
use Rattle.ints.specs.Limits.{whole16}
use Rattle.slots.specs.Slot.{Slot}
use Rattle.slots.specs.Line.{slots}
use Rattle.slots.specs.code.Shape.{Inside}
use Rattle.slots.specs.declared.axis.Direction.{Direction}
use Rattle.answers.specs.Outcome.{Call}
use Rattle.answers.specs.declared.Neighbour.{Neighbour}
use Rattle.single.specs.SinglePos.{single_adjustment}
use Rattle.pair.specs.Adjustment.{pair_adjustment}
use Rattle.cursive.specs.Attachment.{cursive_attachment}
use Rattle.targets.specs.Place.{searched}
use Rattle.targets.specs.declared.mark_pos.Target.{Target}
use Rattle.targets.specs.declared.mark_pos.Target.TheVariants.{Base, Ligature}
use Rattle.targets.specs.declared.place.Way.TheVariants.{Search, Earlier}
use Rattle.marks.specs.Attachment.{mark_attachment}
use Rattle.lookup.specs.Kinds.{good_for}
use Rattle.lookup.specs.Neighbours.{neighbour_for}
use Rattle.lookup.specs.Subtables.{most_subtables}
use Rattle.lookup.specs.declared.kinds.Kind.{Kind}
use Rattle.lookup.specs.declared.kinds.Kind.TheVariants.{Single, Pair, Cursive, MarkBase, MarkLigature, MarkMark}
use Rattle.lookup.specs.declared.state.Searched.{Searched}
use Rattle.lookup.specs.declared.state.State.{State}

-- the slots of a run's line
abbrev pub slots_now : List ℕ → State → List Slot
slots_now l st = slots st.lookup.shape l

-- the core's call for slot i with the subtable t and the neighbour n
abbrev pub call_for : Kind → (t : List ℕ) (d : Direction) (s u flag i : ℕ) (n : Neighbour) → Call
call_for Single t d s u flag i n = single_adjustment t d s u i
call_for Pair t d s u flag i n = pair_adjustment t d s u i n
call_for Cursive t d s u flag i n = cursive_attachment t d s u i n flag
call_for MarkBase t d s u flag i n = mark_attachment (Search Base) t d s u i
call_for MarkLigature t d s u flag i n = mark_attachment (Search Ligature) t d s u i
call_for MarkMark t d s u flag i n = mark_attachment (Earlier n) t d s u i

-- the call that is next, with the subtable t
abbrev pub call_now : List ℕ → State → Call
call_now t st =
    call_for st.lookup.kind t st.lookup.frame.direction st.lookup.frame.scale.s st.lookup.frame.scale.u
    st.lookup.flag st.index st.near

-- ---- the calls that search for what a mark goes on
-- what a kind searches for
abbrev pub target_of : Kind → Option Target
target_of MarkBase = Some Base
target_of MarkLigature = Some Ligature
target_of Single = None
target_of Pair = None
target_of Cursive = None
target_of MarkMark = None

-- what a search with the subtable t finds before slot n, if the kind makes one
abbrev pub finds : Option Target → List ℕ → List Slot → ℕ → Option ℕ
finds (Some target) t ss n = searched target t ss n
finds None t ss n = None

-- the search with the subtable t hasn't come past slot i, and found what it finds before the slot to which it came
pub record Right (kind : Kind) (t : List ℕ) (ss : List Slot) (i : ℕ) (so_far : Searched) : Type 0 where
  pub not_past : so_far.until ≤ i
  pub found_is : so_far.found ≡ finds (target_of kind) t ss so_far.until

-- no search has been made
abbrev pub unsearched : Searched
unsearched = record { until = 0; found = None }

-- the same of subtable k
abbrev pub RightAt : List Searched → ℕ → Kind → List ℕ → List Slot → ℕ → Type 0
RightAt m k kind t ss i = Right kind t ss i (get_or m k unsearched)

-- how far the searches have come after the call, whose mark is covered
abbrev pub after_search : Target → List ℕ → List Slot → State → List Searched
after_search target t ss st =
    set st.memory st.subtable (record { until = st.index; found = searched target t ss st.index })

abbrev pub by_target : Option Target → List ℕ → List Slot → State → List Searched
by_target (Some target) t ss st = after_search target t ss st
by_target None t ss st = st.memory

-- the same of a call of any kind
abbrev pub remembered : List ℕ → List Slot → State → List Searched
remembered t ss st = by_target (target_of st.lookup.kind) t ss st

-- the state after it
abbrev pub remembering : List ℕ → List Slot → State → State
remembering t ss st = record st { memory = remembered t ss st }

-- what a call needs of the line and of its subtable t
pub record Ready (l t : List ℕ) (st : State) : Type 0 where
  pub inside : Inside st.lookup.shape l st.index
  pub few : st.index < whole16
  pub good : good_for st.lookup.kind t ≡ true
  pub near_is : st.near ≡ neighbour_for st.lookup.kind (slots_now l st) st.index
  pub in_memory : st.subtable < most_subtables
  pub right : RightAt st.memory st.subtable st.lookup.kind t (slots_now l st) st.index
