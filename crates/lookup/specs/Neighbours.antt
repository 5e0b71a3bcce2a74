-- The neighbours that a run finds by the seen bits. Assumes nothing.
use Rattle.std.specs.Prelude.{None, Option, Some}
use Rattle.std.specs.Prelude.{Bool, List, ℕ, ◌+◌, ◌-◌, length}
use Rattle.ints.specs.Tally.{lowest, nearest}
use Rattle.slots.specs.Slot.{Slot}
use Rattle.slots.specs.Line.{slot}
use Rattle.slots.specs.Fields.{flag_of}
use Rattle.slots.specs.declared.fields.Flag.TheVariants.{Seen}
use Rattle.answers.specs.declared.Neighbour.{Neighbour}
use Rattle.answers.specs.declared.Neighbour.TheVariants.{Named, Missing}
use Rattle.lookup.specs.declared.kinds.Kind.{Kind}
use Rattle.lookup.specs.declared.kinds.Kind.TheVariants.{Single, Pair, Cursive, MarkBase, MarkLigature, MarkMark}

-- is slot i seen by the lookup?
abbrev pub seen : List Slot → ℕ → Bool
seen ss i = flag_of Seen (slot ss i)

-- the slot that was found, or missing, with a bound
abbrev pub or_missing : ℕ → Option ℕ → Neighbour
or_missing bound (Some j) = Named j
or_missing bound None = Missing bound

-- the lowest seen slot from slot i up, or missing, with the slot count as bound
abbrev pub seen_from : List Slot → ℕ → Neighbour
seen_from ss i = or_missing (length ss) (lowest (seen ss) i (length ss - i))

-- the second glyph of a pair: the lowest seen slot above slot i
abbrev pub second : List Slot → ℕ → Neighbour
second ss i = seen_from ss (i + 1)

-- the previous glyph of a cursive attachment, or the earlier mark: the highest seen slot below slot i, or missing, from
-- 0
abbrev pub previous : List Slot → ℕ → Neighbour
previous ss i = or_missing 0 (nearest (seen ss) i)

-- the neighbour that a call of this kind is told of slot i; the other kinds are told none
abbrev pub neighbour_for : Kind → List Slot → ℕ → Neighbour
neighbour_for Pair ss i = second ss i
neighbour_for Cursive ss i = previous ss i
neighbour_for MarkMark ss i = previous ss i
neighbour_for Single ss i = Missing 0
neighbour_for MarkBase ss i = Missing 0
neighbour_for MarkLigature ss i = Missing 0
