-- A single call of a run, whose checks were made before the run began, says and leaves what its core does. Assumes nothing.
use Rattle.std.specs.Prelude.{None, Option, Some}
use mathlib.Core.Path.{◌≡◌, refl, ap}
use mathlib.Core.Bool.{Bool, true, false, not, ◌||◌}
use mathlib.Core.List.{List}
use Prim.Native.Nat.{ℕ, ◌+◌, ◌-◌, ◌<◌}
use native.Mathlib.Omega.{arith}
use borrow.Author.Tests.{le-ltb, lt-leb}
use lib.Dec.{leb, ltb}
use lib.ListN.{length}
use Rattle.ints.specs.Tally.{lowest, nearest}
use Rattle.slots.specs.Axis.{direction_of}
use Rattle.slots.specs.Slot.{Slot}
use Rattle.slots.specs.declared.axis.Direction.{Direction}
use Rattle.answers.specs.Outcome.{Call}
use Rattle.answers.specs.code.Neighbours.{Before}
use Rattle.pair.specs.code.Meant.{After}
use Rattle.single.specs.SinglePos.{single_adjustment, single_good}
use Rattle.pair.specs.Adjustment.{pair_adjustment}
use Rattle.pair.specs.PairPos.{pair_good}
use Rattle.cursive.specs.Attachment.{cursive_attachment}
use Rattle.cursive.specs.CursivePos.{cursive_good}
use Rattle.targets.specs.MarkPos.{marks_good}
use Rattle.targets.specs.declared.mark_pos.Target.TheVariants.{Base, Ligature}
use Rattle.targets.specs.declared.place.Way.{Way}
use Rattle.targets.specs.declared.place.Way.TheVariants.{Search, Earlier}
use Rattle.marks.specs.Attachment.{mark_attachment}
use Rattle.ints.specs.Scale.{bad_scale}
use Rattle.checks.specs.Arguments.{applying}
use Rattle.checks.specs.Neighbours.{bad_after, bad_before, bad_place, bad_previous, bad_second}
use Rattle.checks.specs.Ranges.{bad_slots}
use Rattle.lookup.specs.Kinds.{good_for}
use Rattle.lookup.specs.Neighbours.{neighbour_for, or_missing, previous, second, seen}
use Rattle.lookup.specs.code.Calls.{call_for}
use Rattle.lookup.specs.declared.kinds.Kind.{Kind}
use Rattle.lookup.specs.declared.kinds.Kind.TheVariants.{Single, Pair, Cursive, MarkBase, MarkLigature, MarkMark}
use Rattle.lookup.specs.declared.state.Settings.{Settings}
use Rattle.lookup.proofs.NeighbourLaws.{previous_before, second_after}
use Rattle.gpos.specs.MarkPos.{beside_of, mark}
use Rattle.gpos.specs.Running.{call_at}

-- ---- the neighbours that the seen bits give are where they must be
second_good : (ss : List Slot) (i : ℕ) → i < length ss → bad_second (length ss) i (second ss i) ≡ false
second_good ss i h = go (lowest (seen ss) (i + 1) (length ss - (i + 1))) (second_after ss i)
  where
    n : ℕ
    n = length ss

    go : (o : Option ℕ) → After (length ss) i (or_missing (length ss) o) → leb (length ss) i || bad_after (length ss) i (or_missing (length ss) o) ≡ false
    go (Some j) a = rw (lt-leb n i h, lt-leb j i a.0, lt-leb n j a.1)
    go None a = rw (lt-leb n i h, le-ltb n n (omega arith))

previous_good : (ss : List Slot) (i : ℕ) → i < length ss → bad_previous (length ss) i (previous ss i) ≡ false
previous_good ss i h = go (nearest (seen ss) i) (previous_before ss i)
  where
    go : (o : Option ℕ) → Before i (or_missing 0 o) → leb (length ss) i || bad_before (length ss) i (or_missing 0 o) ≡ false
    go (Some j) a = rw (lt-leb (length ss) i h, lt-leb i j a)
    go None a = rw (lt-leb (length ss) i h, le-ltb (length ss) 0 (omega arith))

-- ---- a call none of whose tests holds
module _ (g : Settings) (ss : List Slot) (direction-good : ltb 3 g.direction ≡ false) (scale-good : bad_scale g.s g.u ≡ false) (slots_good : bad_slots ss ≡ false) where
  clear_call : (bad_index : List Slot → Bool) (bad_subtable : Bool) (core : Direction → Call) → bad_index ss ≡ false → bad_subtable ≡ false
      → (applying g.direction g.s g.u bad_index bad_subtable core).says ss ≡ (core (direction_of g.direction)).says ss
  clear_call bad_index bad_subtable core e f = rw (direction-good, scale-good, slots_good, e, f)

  module _ (t : List ℕ) (i : ℕ) (in_line : i < length ss) where
    index_good : leb (length ss) i ≡ false
    index_good = lt-leb (length ss) i in_line

    mark_says : (way : Way) → bad_place (length ss) i (beside_of way) ≡ false → marks_good t ≡ true
        → (mark way t g.direction g.s g.u i).says ss ≡ (mark_attachment way t (direction_of g.direction) g.s g.u i).says ss
    mark_says way e f = clear_call (λ x. bad_place (length x) i (beside_of way)) (not (marks_good t)) (λ x. mark_attachment way t x g.s g.u i) e (ap not f)

    -- what it says
    pub core_says : (kind : Kind) → good_for kind t ≡ true → (call_at kind g t ss i).says ss ≡ (call_for kind t (direction_of g.direction) g.s g.u g.flag i (neighbour_for kind ss i)).says ss
    core_says Single e = clear_call (λ x. leb (length x) i) (not (single_good t)) (λ x. single_adjustment t x g.s g.u i) index_good (ap not e)
    core_says Pair e =
        clear_call (λ x. bad_second (length x) i (second ss i)) (not (pair_good t)) (λ x. pair_adjustment t x g.s g.u i (second ss i)) (second_good ss i in_line) (ap not e)
    core_says Cursive e =
        clear_call (λ x. bad_previous (length x) i (previous ss i)) (not (cursive_good t)) (λ x. cursive_attachment t x g.s g.u i (previous ss i) g.flag)
        (previous_good ss i in_line) (ap not e)
    core_says MarkBase e = mark_says (Search Base) index_good e
    core_says MarkLigature e = mark_says (Search Ligature) index_good e
    core_says MarkMark e = mark_says (Earlier (previous ss i)) (previous_good ss i in_line) e

-- what it leaves
pub core_leaves : (g : Settings) (kind : Kind) (t : List ℕ) (ss : List Slot) (i : ℕ)
    → (call_at kind g t ss i).leaves ss ≡ (call_for kind t (direction_of g.direction) g.s g.u g.flag i (neighbour_for kind ss i)).leaves ss
core_leaves g Single t ss i = refl
core_leaves g Pair t ss i = refl
core_leaves g Cursive t ss i = refl
core_leaves g MarkBase t ss i = refl
core_leaves g MarkLigature t ss i = refl
core_leaves g MarkMark t ss i = refl
