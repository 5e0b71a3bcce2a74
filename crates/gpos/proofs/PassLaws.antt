-- Places of a run at which the glyph isn't covered are passed over: the definition's calls there decline without hazard. Assumes nothing.
use Rattle.std.specs.Prelude.{None, Option, Some, if◌then◌else◌}
use mathlib.Core.Path.{◌≡◌, refl, ap, ◌∙◌}
use mathlib.Core.Bool.{Bool, true, false}
use mathlib.Core.List.{List, [], ◌∷◌}
use Prim.Native.Nat.{ℕ, zero, suc, ◌+◌, ◌*◌, ◌≤◌, ◌<◌}
use native.Mathlib.Nat.{mul-le-mul_right, suc-mul}
use native.Mathlib.Omega.{arith}
use borrow.Author.Tests.{le-ltb, lt-ltb}
use lib.Dec.{ltb}
use lib.ListN.{length, take}
use Rattle.slots.specs.Axis.{direction_of}
use Rattle.slots.specs.Checks.{bad_line}
use Rattle.slots.specs.Line.{count, line_slots, shape_of}
use Rattle.slots.specs.Slot.{Slot}
use Rattle.slots.proofs.LineLaws.{length_slots}
use Rattle.answers.specs.Outcome.{line_after}
use Rattle.answers.specs.Said.{declined, hazards_of, Said, unless}
use Rattle.ints.specs.Scale.{bad_scale}
use Rattle.checks.specs.Ranges.{bad_slots}
use Rattle.lookup.specs.Kinds.{good_for}
use Rattle.lookup.specs.Neighbours.{neighbour_for}
use Rattle.lookup.specs.Subtables.{every, subtable, subtables, total}
use Rattle.lookup.specs.code.Covered.{cover_at, next_place, place as place_at}
use Rattle.lookup.specs.declared.covered.Place.{Place}
use Rattle.lookup.specs.declared.kinds.Kind.{Kind}
use Rattle.lookup.specs.declared.state.Settings.{Settings}
use Rattle.lookup.proofs.CoveredLaws.{by_steps, declines}
use Rattle.lookup.proofs.SubtableLaws.{one_good}
use Rattle.gpos.specs.Running.{after, at_end, before, call_at, comes_to, goes_on, line_on, place, Place as Spot, run_in, said_on, Stage, standing, stopped_at}
use Rattle.gpos.proofs.RunCallLaws.{core_says}

-- slot i with subtable k is next, in a line of n slots with c subtables: behind the last subtable comes the next slot
abbrev pub onward : (n c i k : ℕ) → Bool → Stage
onward n c i k a = if ltb i n then (if ltb k c then goes_on (place i k a) else comes_to n (i + 1) a) else at_end a

-- ---- the definition's run, by one call
module _ (kind : Kind) (g : Settings) (ts : List (List ℕ)) where
  pub run_on : (k : ℕ) (l : List ℕ) (p : Spot)
      → run_in kind g ts (suc k) l (goes_on p) ≡ before (hazards_of (said_on kind g ts l p)) (run_in kind g ts k (line_on kind g ts l p) (after (count g.size l) (length ts) p (said_on kind g ts l p)))
  unfolding run_in
  run_on k l p = refl

  pub run_ended : (k : ℕ) (l : List ℕ) (a : Bool) → run_in kind g ts k l (at_end a) ≡ standing l (at_end a)
  unfolding run_in
  run_ended zero l a = refl
  run_ended (suc k) l a = refl

  pub run_stopped : (k : ℕ) (l : List ℕ) (i : ℕ) → run_in kind g ts k l (stopped_at i) ≡ standing l (stopped_at i)
  unfolding run_in
  run_stopped zero l i = refl
  run_stopped (suc k) l i = refl

-- ---- from place to place
module _ (g : Settings) (kind : Kind) (b lens l : List ℕ) where
  abbrev ts : List (List ℕ)
  ts = subtables lens b

  abbrev ss : List Slot
  ss = line_slots g.size l

  abbrev n : ℕ
  n = count g.size l

  abbrev c : ℕ
  c = length lens

  -- the run from slot i and subtable k, in so many calls, is that from slot i' and subtable k' in the rest: fewer by those
  -- passed over
  pub record Passed (calls i k : ℕ) (a : Bool) (i' k' : ℕ) : Type 0 where
    pub rest : ℕ
    pub not_more : rest ≤ calls
    pub fewer : rest + (i' * c + k') ≡ calls + (i * c + k)
    pub same : run_in kind g ts calls l (onward n c i k a) ≡ run_in kind g ts rest l (goes_on (place i' k' a))

  abbrev pub Passing : (calls i k : ℕ) (a : Bool) → Option Place → Type 0
  Passing calls i k a (Some p) = Passed calls i k a p.index p.subtable
  Passing calls i k a None = run_in kind g ts calls l (onward n c i k a) ≡ standing l (at_end a)

  module _ (one : 0 < c) (as_many : length ts ≡ c) (direction-good : ltb 3 g.direction ≡ false) (scale-good : bad_scale g.s g.u ≡ false)
      (line_good : bad_line g.size l ≡ false) (slots_good : bad_slots ss ≡ false) (all_good : every (good_for kind) ts ≡ true) where
    many : length ss ≡ n
    many = length_slots (shape_of g.size l) l

    -- what a call says there
    says_there : (i k : ℕ) (a : Bool) → i < length ss → k < c → cover_at (subtable lens b k) ss i ≡ None → said_on kind g ts l (place i k a) ≡ declined []
    says_there i k a h e is =
        ap (λ (bad : Bool). unless ((bad, 1) ∷ []) ((call_at kind g (subtable lens b k) ss i).says ss)) line_good
        ∙ core_says g ss direction-good scale-good slots_good (subtable lens b k) i h kind (one_good (good_for kind) lens b k e all_good)
        ∙ declines (subtable lens b k) ss i is kind (direction_of g.direction) g.s g.u g.flag (neighbour_for kind ss i)

    -- so the run goes on as if it had not been made
    passes_one : (i k q : ℕ) (a : Bool) → i < length ss → k < c → cover_at (subtable lens b k) ss i ≡ None
        → run_in kind g ts (suc q) l (onward n c i k a) ≡ run_in kind g ts q l (onward n c i (k + 1) a)
    passes_one i k q a h e is =
        ap (run_in kind g ts (suc q) l) here ∙ run_on kind g ts q l (place i k a)
        ∙ ap (λ (s : Said). before (hazards_of s) (run_in kind g ts q (line_after g.size s l ((call_at kind g (subtable lens b k) ss i).leaves ss)) (after n (length ts) (place i k a) s))) (says_there i k a h e is)
        ∙ ap (λ (x : ℕ). run_in kind g ts q l (after n x (place i k a) (declined []))) as_many ∙ ap (run_in kind g ts q l) there
      where
        in_line : i < n
        in_line = omega (arith, many)

        here : onward n c i k a ≡ goes_on (place i k a)
        here = rw (lt-ltb i n in_line, lt-ltb k c e)

        there : after n c (place i k a) (declined []) ≡ onward n c i (k + 1) a
        there = rw (lt-ltb i n in_line)

    abbrev AllPassing : (i k : ℕ) → Option Place → Type 0
    AllPassing i k p = (calls : ℕ) (a : Bool) → n * c ≤ calls + (i * c + k) → Passing calls i k a p

    there : (i k m : ℕ) → i < length ss → k < c → (start : ℕ) → AllPassing i k (Some (place_at i k start m))
    there i k m h e start calls a enough =
        record { rest = calls; not_more = omega arith; fewer = refl; same = ap (run_in kind g ts calls l) (rw (lt-ltb i n (omega (arith, many)), lt-ltb k c e)) }

    -- there is a call left to pass slot i and subtable k
    some_left : (i k calls : ℕ) → i < length ss → k < c → n * c ≤ calls + (i * c + k) → 0 < calls
    some_left i k calls h e enough = let whole : i + 1 ≤ n = omega (arith, many) in omega (arith, enough, mul-le-mul_right c whole, suc-mul i c)

    passed_one : (i k : ℕ) (p : Option Place) → i < length ss → k < c → cover_at (subtable lens b k) ss i ≡ None → AllPassing i (k + 1) p → AllPassing i k p
    passed_one i k p h e is rest zero a enough = absurd (omega (arith, some_left i k zero h e enough))
    passed_one i k (Some p) h e is rest (suc q) a enough =
        let r = rest q a (omega (arith, enough)) in
        record { rest = r.rest; not_more = omega (arith, r.not_more); fewer = omega (arith, r.fewer); same = passes_one i k q a h e is ∙ r.same }
    passed_one i k None h e is rest (suc q) a enough = passes_one i k q a h e is ∙ rest q a (omega (arith, enough))

    slot_over : (i k : ℕ) (a : Bool) → i < length ss → k ≡ c → onward n c i k a ≡ onward n c (i + 1) 0 a
    slot_over i k a h e = rw (lt-ltb i n (omega (arith, many)), le-ltb k c (omega (arith, e)), lt-ltb 0 c one)

    slot_passed : (i k : ℕ) (p : Option Place) → i < length ss → k ≡ c → AllPassing (i + 1) 0 p → AllPassing i k p
    slot_passed i k (Some p) h e rest calls a enough =
        let r = rest calls a (omega (arith, enough, e, suc-mul i c)) in
        record { rest = r.rest; not_more = omega (arith, r.not_more); fewer = omega (arith, r.fewer, e, suc-mul i c); same = ap (run_in kind g ts calls l) (slot_over i k a h e) ∙ r.same }
    slot_passed i k None h e rest calls a enough = ap (run_in kind g ts calls l) (slot_over i k a h e) ∙ rest calls a (omega (arith, enough, e, suc-mul i c))

    line_passed : (i k : ℕ) → length ss ≤ i → AllPassing i k None
    line_passed i k h calls a enough = ap (run_in kind g ts calls l) (rw (le-ltb i n (omega (arith, many)))) ∙ run_ended kind g ts calls l a

    pub passes : (i k start : ℕ) → k ≤ c → start ≡ total (take k lens) → AllPassing i k (next_place ss b lens i k start)
    passes = by_steps ss b lens AllPassing (λ i k m h e is. there i k m h e (total (take k lens))) passed_one slot_passed line_passed
