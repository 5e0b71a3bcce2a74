-- The search for what a mark attaches to (`find_mark_base`). Assumes nothing.
use Rattle.std.specs.Prelude.{None, Option, Some, Bool, true, false, not, ◌&&◌, ◌||◌, List, ℕ, ◌+◌, ◌-◌, eqb}
use Rattle.ints.specs.Tally.{nearest}
use Rattle.slots.specs.Slot.{Slot}
use Rattle.slots.specs.Line.{slot}
use Rattle.slots.specs.Fields.{flag_of}
use Rattle.slots.specs.declared.fields.Flag.TheVariants.{Seen, Mark, Multiplied}
use Rattle.targets.specs.MarkPos.{base_index}
use Rattle.targets.specs.declared.mark_pos.Target.{Target}
use Rattle.targets.specs.declared.mark_pos.Target.TheVariants.{Base, Ligature}

-- slot s goes on with a multiple substitution that slot p, before it, is part of: p is no mark and multiplied too, with
-- the same id and the component before
abbrev pub goes_on : Slot → Slot → Bool
goes_on p s =
    not (flag_of Mark p)
    && (flag_of Multiplied p && (eqb s.ligature_id p.ligature_id && eqb s.component (p.component + 1)))

-- the glyph is not multiplied, or is the first of a multiple substitution
abbrev pub is_first : Slot → Bool
is_first s = not (flag_of Multiplied s) || eqb s.component 0

-- May a mark attach to slot i? Of the glyphs that one glyph was multiplied into, marks go to the first (harfbuzz #740);
-- but where something stands between them, a mark for one, the glyph behind it starts anew (#1020). As a ligature only
-- the first may (#4969): the first can have been ligated with what precedes it, which ends its being multiplied; the
-- second then seems to go on nothing, but must not stop the search before that ligature.
abbrev pub accepted : Target → List Slot → ℕ → Bool
accepted Base ss i = is_first (slot ss i) || (eqb i 0 || not (goes_on (slot ss (i - 1)) (slot ss i)))
accepted Ligature ss i = is_first (slot ss i)

-- is there a coverage index?
abbrev pub is_covered : Option ℕ → Bool
is_covered (Some k) = true
is_covered None = false

-- The search stops at slot i: it is seen, and accepted or covered. Covered is enough: a font that names as a base a
-- glyph that isn't accepted wants marks on it (harfbuzz #4124). Accepted is enough too: what isn't covered then ends
-- the search, and nothing farther is looked for.
unfoldable pub stops_at : Target → List ℕ → List Slot → ℕ → Bool
stops_at target t ss i =
    flag_of Seen (slot ss i) && (accepted target ss i || is_covered (base_index t (slot ss i).glyph))

-- the nearest slot before idx at which the search stops
abbrev pub found_for : Target → List ℕ → List Slot → ℕ → Option ℕ
found_for target t ss idx = nearest (stops_at target t ss) idx
