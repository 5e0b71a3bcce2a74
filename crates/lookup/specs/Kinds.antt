-- The lookup types (OpenType, GPOS) that the library has. Assumes nothing.
use Rattle.std.specs.Prelude.{None, Option, Some}
use Rattle.std.specs.Prelude.{Bool, List, ℕ, eqb, if◌then◌else◌}
use Rattle.single.specs.SinglePos.{single_good}
use Rattle.pair.specs.PairPos.{pair_good}
use Rattle.cursive.specs.CursivePos.{cursive_good}
use Rattle.targets.specs.MarkPos.{marks_good}
use Rattle.lookup.specs.declared.kinds.Kind.{Kind}
use Rattle.lookup.specs.declared.kinds.Kind.TheVariants.{Single, Pair, Cursive, MarkBase, MarkLigature, MarkMark}

-- the kind of a lookup type: of another number there is none
abbrev pub kind_of : ℕ → Option Kind
kind_of n =
    if eqb n 1 then Some Single
    else (if eqb n 2 then Some Pair
    else (if eqb n 3 then Some Cursive
    else (if eqb n 4 then Some MarkBase
    else (if eqb n 5 then Some MarkLigature
    else (if eqb n 6 then Some MarkMark
    else None)))))

-- what refusal 6 asks of a subtable of this kind
abbrev pub good_for : Kind → List ℕ → Bool
good_for Single t = single_good t
good_for Pair t = pair_good t
good_for Cursive t = cursive_good t
good_for MarkBase t = marks_good t
good_for MarkLigature t = marks_good t
good_for MarkMark t = marks_good t
