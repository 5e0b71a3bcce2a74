-- The tests for which a run is refused, in order: 1 to 4 as of a single call, then 8, then 6. Assumes nothing.
use Rattle.std.specs.Prelude.{None, Option, Some}
use Rattle.std.specs.Prelude.{Bool, true, not, ◌||◌, List, [], ◌∷◌, ◌++◌, ℕ, ◌*◌, eqb, ltb, length}
use Rattle.slots.specs.Checks.{bad_line}
use Rattle.slots.specs.Line.{count, line_slots}
use Rattle.answers.specs.Said.{done, Said, unless}
use Rattle.ints.specs.Scale.{bad_scale}
use Rattle.checks.specs.Arguments.{slot_tests}
use Rattle.lookup.specs.Kinds.{good_for, kind_of}
use Rattle.lookup.specs.Subtables.{every, most_subtables, subtables, total}
use Rattle.lookup.specs.declared.kinds.Kind.{Kind}
use Rattle.lookup.specs.declared.state.Settings.{Settings}

-- refusal 8: not one to eight subtables, lengths that don't add up to the buffer b, or a list of fewer places than
-- twice the n slots times the subtables
abbrev pub unfit : (b lengths : List ℕ) (n places : ℕ) → Bool
unfit b lengths n places =
    ltb (length lengths) 1
    || (ltb most_subtables (length lengths)
    || (not (eqb (total lengths) (length b)) || ltb places (2 * n * length lengths)))

-- refusal 6: the lookup type is none of the six, or some subtable isn't good, be it reached or not
abbrev pub bad_lookup : Option Kind → List (List ℕ) → Bool
bad_lookup (Some kind) ts = not (every (good_for kind) ts)
bad_lookup None ts = true

-- what is said of a run before it begins: a refusal, or nothing: done
abbrev pub verdict : Settings → (l b lengths : List ℕ) (places : ℕ) → Said
verdict g l b lengths places =
    unless ((bad_line g.size l, 1)
    ∷ slot_tests (line_slots g.size l) g.direction (bad_scale g.s g.u)
    ++ ((unfit b lengths (count g.size l) places, 8) ∷ (bad_lookup (kind_of g.kind) (subtables lengths b), 6) ∷ []))
    done
