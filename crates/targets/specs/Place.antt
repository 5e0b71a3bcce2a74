-- The slot that a mark goes on: a base or a ligature is searched for, an earlier mark is named by the caller. Assumes
-- nothing.
use Rattle.std.specs.Prelude.{None, Option, Some, List, [], ◌∷◌, ℕ, ◌+◌, eqb, if◌then◌else◌}
use Rattle.slots.specs.Slot.{Slot}
use Rattle.slots.specs.Line.{slot}
use Rattle.answers.specs.Said.{Range, unsafe_to_concat}
use Rattle.answers.specs.declared.Neighbour.{Neighbour}
use Rattle.answers.specs.declared.Neighbour.TheVariants.{Named, Missing}
use Rattle.targets.specs.MarkPos.{base_coverage_offset}
use Rattle.targets.specs.Search.{found_for}
use Rattle.targets.specs.Together.{stacks}
use Rattle.targets.specs.declared.mark_pos.Target.{Target}
use Rattle.targets.specs.declared.place.Way.{Way}
use Rattle.targets.specs.declared.place.Way.TheVariants.{Search, Earlier}

-- what the search finds: without a base coverage there is none
abbrev pub searched : Target → List ℕ → List Slot → ℕ → Option ℕ
searched target t ss idx = if eqb (base_coverage_offset t) 0 then None else found_for target t ss idx

-- the slot that the caller names, if the mark may be stacked on it; whether it is covered isn't asked yet
abbrev pub named : List Slot → ℕ → Neighbour → Option ℕ
named ss idx (Named i) = if stacks (slot ss idx) (slot ss i) then Some i else None
named ss idx (Missing f) = None

-- the slot that the mark in slot idx goes on, if there is one
unfoldable pub place_for : Way → List ℕ → List Slot → ℕ → Option ℕ
place_for (Search target) t ss idx = searched target t ss idx
place_for (Earlier earlier) t ss idx = named ss idx earlier

-- What is reported where there is none. Without a base coverage nothing was searched: nothing. A search that found none
-- might have found a glyph before the line; in place of an earlier slot that is missing, or on which the mark can't be
-- stacked, another might have been named.
abbrev pub missed : Way → List ℕ → ℕ → List Range
missed (Search target) t idx = if eqb (base_coverage_offset t) 0 then [] else unsafe_to_concat 0 (idx + 1) ∷ []
missed (Earlier (Named i)) t idx = unsafe_to_concat i (idx + 1) ∷ []
missed (Earlier (Missing f)) t idx = unsafe_to_concat f (idx + 1) ∷ []
