-- Laws of the next covered place: the steps of the search for it, where it is, and that the call of a glyph that isn't covered declines. Assumes nothing.
use Rattle.std.specs.Prelude.{None, Option, Some}
use mathlib.Core.Path.{◌≡◌, refl, sym, ap, subst, ◌∙◌}
use mathlib.Core.Bool.{Bool, true, false}
use mathlib.Core.List.{List, []}
use Prim.Native.Nat.{ℕ, zero, suc, ◌+◌, ◌-◌, ◌*◌, ◌≤◌, ◌<◌}
use native.Mathlib.Nat.{suc-mul}
use native.Mathlib.Omega.{arith}
use borrow.Author.Tests.{le-ltb, lt-ltb, ltb-false, ltb-true}
use lib.Dec.{ltb}
use lib.ListN.{get_or, length, take}
use Rattle.slots.specs.Axis.{cross}
use Rattle.slots.specs.Slot.{Slot}
use Rattle.slots.proofs.LineLaws.{length_slots}
use Rattle.slots.specs.declared.axis.Axis.{Axis}
use Rattle.slots.specs.declared.axis.Direction.{Direction}
use Rattle.tables.specs.Header.{coverage_offset}
use Rattle.answers.specs.Said.{declined}
use Rattle.answers.specs.declared.Neighbour.{Neighbour}
use Rattle.single.specs.SinglePos.{adjust_said, place_for, single_said, value_place}
use Rattle.single.proofs.SinglePosLaws.{coverage_good_lem as single-covers, long as single-long}
use Rattle.pair.specs.Adjustment.{plan_said as pair·planSaid}
use Rattle.pair.specs.Plan.{after_covered as pair·afterCovered, plan_of as pair·planOf}
use Rattle.pair.proofs.PairPosLaws.{good as pair-good}
use Rattle.cursive.specs.CursivePos.{after_covered as cursive·afterCovered, plan_of as cursive·planOf, plan_said as cursive·planSaid}
use Rattle.cursive.proofs.CursivePosLaws.{coverage_at_lem, header as cursive-header}
use Rattle.targets.specs.MarkPos.{mark_index, marks_good}
use Rattle.targets.specs.declared.mark_pos.Target.TheVariants.{Base, Ligature}
use Rattle.targets.specs.declared.place.Way.{Way}
use Rattle.targets.specs.declared.place.Way.TheVariants.{Search, Earlier}
use Rattle.targets.proofs.MarkPosLaws.{good as mark-good}
use Rattle.marks.specs.Plan.{after_covered as mark·afterCovered, plan_of as mark·planOf, plan_said as mark·planSaid}
use Rattle.lookup.specs.Kinds.{good_for}
use Rattle.lookup.specs.Subtables.{every, subtable, subtables, total}
use Rattle.lookup.specs.code.Calls.{call_for}
use Rattle.lookup.specs.code.Covered.{AllReadable, cover_at, next_place, place, place_by, place_in, Readable, steps_from}
use Rattle.lookup.specs.declared.covered.Place.{Place}
use Rattle.lookup.specs.declared.kinds.Kind.{Kind}
use Rattle.lookup.specs.declared.kinds.Kind.TheVariants.{Single, Pair, Cursive, MarkBase, MarkLigature, MarkMark}
use Rattle.lookup.proofs.SubtableLaws.{cut, cut_inside, cut_is, one_good, total_next, total_none}

-- ---- a step
module _ (ss : List Slot) (b lengths : List ℕ) (i k : ℕ) where
  abbrev c : ℕ
  c = length lengths

  -- there is a subtable k for slot i: one step fewer is left from the next one
  pub steps_here : k < c → steps_from ss b lengths i k ≡ suc (steps_from ss b lengths i (k + 1))
  steps_here h = omega arith

  -- after the last, from the next slot
  pub steps_slot : i < length ss → c ≤ k → steps_from ss b lengths i k ≡ suc (steps_from ss b lengths (i + 1) 0)
  steps_slot h e =
      let one : length ss - i ≡ suc (length ss - (i + 1)) = omega arith in
      omega (arith, ap (λ (n : ℕ). n * (c + 1)) one, suc-mul (length ss - (i + 1)) (c + 1))

  module _ (start : ℕ) where
    -- by the definition's own steps
    in_here : (n : ℕ) → i < length ss → k < c
        → place_in ss b lengths (suc n) i k start ≡ place_by i k start (place_in ss b lengths n i (k + 1) (start + get_or lengths k 0)) (cover_at (subtable lengths b k) ss i)
    unfolding place_in
    in_here n h e = rw (lt-ltb i (length ss) h, lt-ltb k c e)

    in_slot : (n : ℕ) → i < length ss → c ≤ k → place_in ss b lengths (suc n) i k start ≡ place_in ss b lengths n (i + 1) 0 0
    unfolding place_in
    in_slot n h e = rw (lt-ltb i (length ss) h, le-ltb k c e)

    in_end : (n : ℕ) → length ss ≤ i → place_in ss b lengths n i k start ≡ None
    unfolding place_in
    in_end zero h = refl
    in_end (suc n) h = rw (le-ltb i (length ss) h)

    pub place_here : i < length ss → k < c
        → next_place ss b lengths i k start ≡ place_by i k start (next_place ss b lengths i (k + 1) (start + get_or lengths k 0)) (cover_at (subtable lengths b k) ss i)
    place_here h e = ap (λ (n : ℕ). place_in ss b lengths n i k start) (steps_here e) ∙ in_here (steps_from ss b lengths i (k + 1)) h e

    pub place_slot : i < length ss → c ≤ k → next_place ss b lengths i k start ≡ next_place ss b lengths (i + 1) 0 0
    place_slot h e = ap (λ (n : ℕ). place_in ss b lengths n i k start) (steps_slot h e) ∙ in_slot (steps_from ss b lengths (i + 1) 0) h e

    pub place_end : length ss ≤ i → next_place ss b lengths i k start ≡ None
    place_end h = in_end (steps_from ss b lengths i k) h

-- ---- what the search keeps: it has come from slot i₀ and subtable k₀ to slot i and subtable k, which starts at byte start
pub record Searching (ss : List Slot) (b lengths : List ℕ) (i₀ k₀ start₀ i k start : ℕ) : Type 0 where
  pub within : k ≤ length lengths
  pub start_is : start ≡ total (take k lengths)
  pub same : next_place ss b lengths i₀ k₀ start₀ ≡ next_place ss b lengths i k start

module _ {ss : List Slot} {b lengths : List ℕ} {i₀ k₀ start₀ i k start : ℕ} (now : Searching ss b lengths i₀ k₀ start₀ i k start) where
  module _ (h : k < length lengths) (adds_up : total lengths ≡ length b) where
    pub inside : start + get_or lengths k 0 ≤ length b
    inside = cut_inside lengths b k start now.start_is h adds_up

    part_is : cut lengths b k start ≡ subtable lengths b k
    part_is = cut_is lengths b k start now.start_is h

    pub readable : AllReadable b lengths → Readable (cut lengths b k start)
    readable all = subst Readable (sym part_is) (all k h)

    -- by what code found of the glyph in it
    module _ (below : i < length ss) {c : Option ℕ} (is : c ≡ cover_at (cut lengths b k start) ss i) where
      abbrev farther : Option Place
      farther = next_place ss b lengths i (k + 1) (start + get_or lengths k 0)

      found : next_place ss b lengths i₀ k₀ start₀ ≡ place_by i k start farther c
      found =
          now.same ∙ place_here ss b lengths i k start below h
          ∙ ap (place_by i k start farther) (ap (λ (t : List ℕ). cover_at t ss i) (sym part_is) ∙ sym is)

      pub found_here : (m : ℕ) → c ≡ Some m → next_place ss b lengths i₀ k₀ start₀ ≡ Some (place i k start m)
      found_here m e = found ∙ ap (place_by i k start farther) e

      pub not_here : c ≡ None → Searching ss b lengths i₀ k₀ start₀ i (k + 1) (start + get_or lengths k 0)
      not_here e =
          record {
            within = omega arith;
            start_is = omega (arith, now.start_is, total_next lengths k h);
            same = found ∙ ap (place_by i k start farther) e;
          }

  -- behind the last subtable comes the next slot
  pub slot_over : i < length ss → length lengths ≤ k → next_place ss b lengths i₀ k₀ start₀ ≡ next_place ss b lengths (i + 1) 0 0
  slot_over below h = now.same ∙ place_slot ss b lengths i k start below h

  pub next_slot : next_place ss b lengths i k start ≡ next_place ss b lengths (i + 1) 0 0 → Searching ss b lengths i₀ k₀ start₀ (i + 1) 0 0
  next_slot e = record { within = omega arith; start_is = total_none lengths; same = now.same ∙ e }

  pub line_over : length ss ≤ i → next_place ss b lengths i₀ k₀ start₀ ≡ None
  line_over h = now.same ∙ place_end ss b lengths i k start h

-- what each step of the search takes
pub ruleset of_search = (inside, readable, found_here, not_here, slot_over, next_slot, line_over, length_slots)

-- ---- what holds of every next covered place: by the steps that lead to it
module _ (ss : List Slot) (b lengths : List ℕ) (P : (i k : ℕ) → Option Place → Type 0)
    (here : (i k m : ℕ) → i < length ss → k < length lengths → cover_at (subtable lengths b k) ss i ≡ Some m → P i k (Some (place i k (total (take k lengths)) m)))
    (passed : (i k : ℕ) (p : Option Place) → i < length ss → k < length lengths → cover_at (subtable lengths b k) ss i ≡ None → P i (k + 1) p → P i k p)
    (slot_passed : (i k : ℕ) (p : Option Place) → i < length ss → k ≡ length lengths → P (i + 1) 0 p → P i k p)
    (line_passed : (i k : ℕ) → length ss ≤ i → P i k None) where
  abbrev Here : (i k start : ℕ) → Type 0
  Here i k start = k ≤ length lengths → start ≡ total (take k lengths) → P i k (next_place ss b lengths i k start)

  -- if it holds of what fewer steps lead to
  one_step : (i k start : ℕ) → ((i' k' start' : ℕ) → steps_from ss b lengths i' k' < steps_from ss b lengths i k → Here i' k' start') → Here i k start
  one_step i k start rest within starts = in_line (ltb i (length ss)) refl
    where
      farther : ℕ
      farther = start + get_or lengths k 0

      by_cover : i < length ss → k < length lengths → (c : Option ℕ) → cover_at (subtable lengths b k) ss i ≡ c → P i k (place_by i k start (next_place ss b lengths i (k + 1) farther) c)
      by_cover h e (Some m) is = subst (λ (s : ℕ). P i k (Some (place i k s m))) (sym starts) (here i k m h e is)
      by_cover h e None is =
          passed i k (next_place ss b lengths i (k + 1) farther) h e is
          (rest i (k + 1) farther (omega (arith, steps_here ss b lengths i k e)) (omega arith) (omega (arith, starts, total_next lengths k e)))

      in_list : i < length ss → (t : Bool) → ltb k (length lengths) ≡ t → P i k (next_place ss b lengths i k start)
      in_list h true e =
          let below = ltb-true k (length lengths) e in
          subst (P i k) (sym (place_here ss b lengths i k start h below)) (by_cover h below (cover_at (subtable lengths b k) ss i) refl)
      in_list h false e =
          let last = ltb-false k (length lengths) e in
          subst (P i k) (sym (place_slot ss b lengths i k start h last))
          (slot_passed i k (next_place ss b lengths (i + 1) 0 0) h (omega arith) (rest (i + 1) 0 0 (omega (arith, steps_slot ss b lengths i k h last)) (omega arith) (total_none lengths)))

      in_line : (t : Bool) → ltb i (length ss) ≡ t → P i k (next_place ss b lengths i k start)
      in_line true e = in_list (ltb-true i (length ss) e) (ltb k (length lengths)) refl
      in_line false e = let past = ltb-false i (length ss) e in subst (P i k) (sym (place_end ss b lengths i k start past)) (line_passed i k past)

  in_steps : (f i k start : ℕ) → steps_from ss b lengths i k ≤ f → Here i k start
  in_steps zero i k start h = one_step i k start (λ i' k' start' less. absurd (omega (arith, less, h)))
  in_steps (suc f) i k start h = one_step i k start (λ i' k' start' less. in_steps f i' k' start' (omega (arith, less, h)))

  pub by_steps : (i k start : ℕ) → Here i k start
  by_steps i k start = in_steps (steps_from ss b lengths i k) i k start (omega arith)

-- ---- so of where it is, and that its glyph is covered
abbrev pub Spot : (ss : List Slot) (b lengths : List ℕ) (i : ℕ) → Option Place → Type 0
Spot ss b lengths i None = Unit {0}
Spot ss b lengths i (Some p) =
    (i ≤ p.index) × (p.index < length ss) × (p.subtable < length lengths) × (p.start ≡ total (take p.subtable lengths))
    × (cover_at (subtable lengths b p.subtable) ss p.index ≡ Some p.covered)

sooner : (ss : List Slot) (b lengths : List ℕ) (i j : ℕ) (p : Option Place) → i ≤ j → Spot ss b lengths j p → Spot ss b lengths i p
sooner ss b lengths i j (Some p) h s = (omega (arith, h, s.0), s.1, s.2, s.3, s.4)
sooner ss b lengths i j None h s = tt

pub spot : (ss : List Slot) (b lengths : List ℕ) (i k start : ℕ) → k ≤ length lengths → start ≡ total (take k lengths) → Spot ss b lengths i (next_place ss b lengths i k start)
spot ss b lengths =
    by_steps ss b lengths (λ i k p. Spot ss b lengths i p)
    (λ i k m h e is. (omega arith, h, e, refl, is))
    (λ i k p h e is s. s)
    (λ i k p h e s. sooner ss b lengths i (i + 1) p (omega arith) s)
    (λ i k h. tt)

-- ---- of every kind: a subtable that was checked can be read, and of a glyph that isn't covered its call declines
marks_readable : (t : List ℕ) → marks_good t ≡ true → Readable t
marks_readable t e = let ok = mark-good t e in record { long = omega (arith, ok.header); good = ok.marks_good_lem }

pub can_read : (kind : Kind) (t : List ℕ) → good_for kind t ≡ true → Readable t
can_read Single t e = record { long = omega (arith, single-long t e); good = single-covers t e }
can_read Pair t e = let ok = pair-good t e in record { long = omega (arith, ok.head.whole); good = ok.covers }
can_read Cursive t e = record { long = omega (arith, cursive-header t e); good = coverage_at_lem t (coverage_offset t) refl e }
can_read MarkBase t e = marks_readable t e
can_read MarkLigature t e = marks_readable t e
can_read MarkMark t e = marks_readable t e

-- of all subtables
pub all_readable : (kind : Kind) (b lengths : List ℕ) → every (good_for kind) (subtables lengths b) ≡ true → AllReadable b lengths
all_readable kind b lengths e k h = can_read kind (subtable lengths b k) (one_good (good_for kind) lengths b k h e)

module _ (t : List ℕ) (ss : List Slot) (i : ℕ) (e : cover_at t ss i ≡ None) where
  single_declines : single_said t ss i ≡ declined []
  unfolding place_for
  single_declines = ap (λ (c : Option ℕ). adjust_said i (value_place t c)) e

  pair_declines : (d : Direction) (n : Neighbour) → pair·planSaid d t i (pair·planOf t ss i n) ≡ declined []
  unfolding pair·planOf
  pair_declines d n = ap (λ (c : Option ℕ). pair·planSaid d t i (pair·afterCovered t ss i n c)) e

  cursive_declines : (n : Neighbour) → cursive·planSaid i (cursive·planOf t ss i n) ≡ declined []
  unfolding cursive·planOf
  cursive_declines n = ap (λ (c : Option ℕ). cursive·planSaid i (cursive·afterCovered t ss i n c)) e

  mark_declines : (way : Way) (a : Axis) → mark·planSaid i (mark·planOf way a t ss i) ≡ declined []
  unfolding mark·planOf mark_index
  mark_declines way a = ap (λ (c : Option ℕ). mark·planSaid i (mark·afterCovered way a t ss i c)) e

  pub declines : (kind : Kind) (d : Direction) (s u flag : ℕ) (n : Neighbour) → (call_for kind t d s u flag i n).says ss ≡ declined []
  declines Single d s u flag n = single_declines
  declines Pair d s u flag n = pair_declines d n
  declines Cursive d s u flag n = cursive_declines n
  declines MarkBase d s u flag n = mark_declines (Search Base) (cross d)
  declines MarkLigature d s u flag n = mark_declines (Search Ligature) (cross d)
  declines MarkMark d s u flag n = mark_declines (Earlier n) (cross d)
