-- Of every call of a run: it has at most two hazards, goes on ahead, and refuses with 7 only. Assumes nothing.
use mathlib.Core.Bool.{Bool, true}
use mathlib.Core.List.{List, [], ◌∷◌}
use mathlib.Core.Path.{◌≡◌}
use Prim.Native.Nat.{ℕ, ◌+◌, ◌≤◌, ◌<◌}
use native.Mathlib.Omega.{arith}
use lib.ListN.{length}
use Rattle.ints.proofs.TestLaws.{clash}
use Rattle.slots.specs.Axis.{cross}
use Rattle.slots.specs.Slot.{Slot}
use Rattle.slots.specs.declared.axis.Direction.{Direction}
use Rattle.answers.specs.Said.{applied, declined, done, hazards_of, Range, refused, Said}
use Rattle.single.proofs.SaidLaws.{says as single-says}
use Rattle.pair.proofs.SaidLaws.{says as pair-says}
use Rattle.cursive.proofs.SaidLaws.{says as cursive-says}
use Rattle.targets.specs.declared.mark_pos.Target.TheVariants.{Base, Ligature}
use Rattle.targets.specs.declared.place.Way.{Way}
use Rattle.targets.specs.declared.place.Way.TheVariants.{Search, Earlier}
use Rattle.marks.specs.Plan.{plan_of, plan_said}
use Rattle.marks.proofs.SaidLaws.{says as mark_says}
use Rattle.lookup.specs.Neighbours.{neighbour_for, second}
use Rattle.lookup.specs.code.Calls.{call_for}
use Rattle.lookup.specs.declared.kinds.Kind.{Kind}
use Rattle.lookup.specs.declared.kinds.Kind.TheVariants.{Single, Pair, Cursive, MarkBase, MarkLigature, MarkMark}
use Rattle.lookup.proofs.NeighbourLaws.{second_after}

-- applied: the next index is above i and at most n
abbrev pub Ahead : ℕ → ℕ → Said → Type 0
Ahead i n (applied next hs a) = (i < next) × (next ≤ n)
Ahead i n (declined hs) = Unit {0}
Ahead i n (refused m) = Unit {0}
Ahead i n done = Unit {0}

abbrev pub Fair : ℕ → ℕ → Said → Type 0
Fair i n s = (length (hazards_of s) ≤ 2) × Ahead i n s

module _ (t : List ℕ) (d : Direction) (s u flag i : ℕ) (ss : List Slot) (in_line : i < length ss) where
  abbrev Here : Said → Type 0
  Here = Fair i (length ss)

  declines : Here (declined [])
  declines = (omega arith, tt)

  misses : (h : Range) → Here (declined (h ∷ []))
  misses h = (omega arith, tt)

  attaches : (h : Range) (attached : Bool) → Here (applied (i + 1) (h ∷ []) attached)
  attaches h attached = (omega arith, (omega arith, omega arith))

  marks_fair : (way : Way) → Here (plan_said i (plan_of way (cross d) t ss i))
  marks_fair way = mark_says Here way (cross d) t ss i (omega arith, tt) declines misses attaches

  pub fair : (kind : Kind) → Here ((call_for kind t d s u flag i (neighbour_for kind ss i)).says ss)
  fair Single = single-says Here t ss i declines (omega arith, (omega arith, omega arith))
  fair Pair =
      pair-says Here d t ss i (second ss i) declines misses
      (λ j named h. let near = rw named at (second_after ss i) in (omega arith, (omega arith, omega arith)))
      (λ j named h g. let near = rw named at (second_after ss i) in (omega arith, (omega arith, omega arith)))
  fair Cursive = cursive-says Here t ss i declines misses (λ h. attaches h true) (neighbour_for Cursive ss i)
  fair MarkBase = marks_fair (Search Base)
  fair MarkLigature = marks_fair (Search Ligature)
  fair MarkMark = marks_fair (Earlier (neighbour_for MarkMark ss i))

module _ (t : List ℕ) (d : Direction) (s u flag i : ℕ) (ss : List Slot) where
  abbrev Seven : ℕ → Said → Type 0
  Seven m r = r ≡ refused m → m ≡ 7

  marks_7 : (way : Way) (m : ℕ) → Seven m (plan_said i (plan_of way (cross d) t ss i))
  marks_7 way m = mark_says (Seven m) way (cross d) t ss i (λ e. cc) (λ e. clash (cc)) (λ h e. clash (cc)) (λ h attached e. clash (cc))

  -- a refusal of it is 7
  pub only_7 : (kind : Kind) (m : ℕ) → (call_for kind t d s u flag i (neighbour_for kind ss i)).says ss ≡ refused m → m ≡ 7
  only_7 Single m = single-says (Seven m) t ss i (λ e. clash (cc)) (λ e. clash (cc))
  only_7 Pair m =
      pair-says (Seven m) d t ss i (second ss i) (λ e. clash (cc)) (λ h e. clash (cc)) (λ j named h e. clash (cc)) (λ j named h g e. clash (cc))
  only_7 Cursive m =
      cursive-says (Seven m) t ss i (λ e. clash (cc)) (λ h e. clash (cc)) (λ h e. clash (cc)) (neighbour_for Cursive ss i)
  only_7 MarkBase m = marks_7 (Search Base) m
  only_7 MarkLigature m = marks_7 (Search Ligature) m
  only_7 MarkMark m = marks_7 (Earlier (neighbour_for MarkMark ss i)) m
