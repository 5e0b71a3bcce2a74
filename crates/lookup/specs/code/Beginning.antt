-- Where a run begins, or why it doesn't. Assumes nothing.
use Rattle.std.specs.Prelude.{Err, None, Ok, Option, Result, Some, false, List, ◌≡◌, ℕ, ltb, length, replicate, if◌then◌else◌}
use Rattle.slots.specs.Axis.{direction_of}
use Rattle.slots.specs.Slot.{Slot}
use Rattle.slots.specs.Line.{line_slots, shape_of}
use Rattle.answers.specs.Said.{done, refused, wider_number}
use Rattle.answers.specs.declared.Neighbour.{Neighbour}
use Rattle.answers.specs.declared.Neighbour.TheVariants.{Missing}
use Rattle.answers.specs.declared.WiderRefusal.{WiderRefusal}
use Rattle.lookup.specs.Kinds.{kind_of}
use Rattle.lookup.specs.Neighbours.{neighbour_for}
use Rattle.lookup.specs.Refusals.{verdict}
use Rattle.lookup.specs.Subtables.{most_subtables}
use Rattle.lookup.specs.code.Calls.{unsearched}
use Rattle.lookup.specs.declared.state.End.{End}
use Rattle.lookup.specs.declared.state.End.TheVariants.{Done}
use Rattle.lookup.specs.declared.state.Lookup.{Lookup}
use Rattle.lookup.specs.declared.state.Searched.{Searched}
use Rattle.lookup.specs.declared.state.Settings.{Settings}
use Rattle.lookup.specs.declared.state.State.{State}

-- no search has been made
abbrev pub no_memory : List Searched
no_memory = replicate most_subtables unsearched

-- what a run of the line l is told, checked
pub record Told (g : Settings) (l : List ℕ) (k : Lookup) : Type 0 where
  pub shape_is : k.shape ≡ shape_of g.size l
  pub kind_is : kind_of g.kind ≡ Some k.kind
  pub direction_is : k.frame.direction ≡ direction_of g.direction
  pub flag_is : k.flag ≡ g.flag
  pub s_is : k.frame.scale.s ≡ g.s
  pub u_is : k.frame.scale.u ≡ g.u

-- at slot 0
abbrev pub starts : Option End → Neighbour → Lookup → State
starts end near l =
    record {
      end = end;
      index = 0;
      subtable = 0;
      start = 0;
      attached = false;
      near = near;
      known = 0;
      memory = no_memory;
      lookup = l;
    }

-- a run begins at slot 0, or is at once at the line's end
abbrev pub first_state : Lookup → List Slot → State
first_state l ss =
    if ltb 0 (length ss) then starts None (neighbour_for l.kind ss 0) l else starts (Some Done) (Missing 0) l

-- a run that nothing refuses begins, with what it was told
pub record BegunWith (g : Settings) (l b lengths : List ℕ) (places : ℕ) (st : State) : Type 0 where
  pub not_refused : verdict g l b lengths places ≡ done
  pub told : Told g l st.lookup
  pub first : st ≡ first_state st.lookup (line_slots g.size l)

-- it begins, or is refused
abbrev pub Begun : (g : Settings) (l b lengths : List ℕ) (places : ℕ) → Result State WiderRefusal → Type 0
Begun g l b lengths places (Ok st) = BegunWith g l b lengths places st
Begun g l b lengths places (Err w) = verdict g l b lengths places ≡ refused (wider_number 8 w)
