-- Running a lookup: it comes to its end, its records have room in the list, more steps would change nothing, and over one slot, with one subtable, it is the single call. Assumes nothing.
use Rattle.std.specs.Prelude.{Result, Some, if◌then◌else◌}
use mathlib.Core.Path.{◌≡◌, refl, sym, ap, ap₂, subst, ◌∙◌}
use mathlib.Core.Bool.{Bool, true, false, ◌||◌}
use mathlib.Core.List.{List, [], ◌∷◌, ◌++◌, append-nil, map}
use Prim.Native.Nat.{ℕ, zero, suc, ◌+◌, ◌*◌, ◌≤◌, ◌<◌}
use native.Mathlib.Nat.{mul_assoc, mul-le-mul_right}
use native.Mathlib.Omega.{arith}
use borrow.Author.Tests.{le-ltb, ltb-true}
use lib.Dec.{ltb}
use lib.ListN.{drop, get_or, length, length-append, length-drop, length-map}
use lib.Seq.{take_all}
use Rattle.slots.specs.Axis.{direction_of}
use Rattle.slots.specs.Line.{count, line_slots, shape_of}
use Rattle.slots.specs.Slot.{Slot}
use Rattle.slots.proofs.LineLaws.{count_bytes, length_slots}
use Rattle.answers.specs.Outcome.{answer_to, Call, Made}
use Rattle.answers.specs.Said.{applied, declined, done, hazards_of, Range, refused, Said}
use Rattle.answers.specs.declared.Ran.{Ran}
use Rattle.answers.specs.declared.WiderRefusal.{WiderRefusal}
use Rattle.answers.specs.theorems.Hazards.{FewHazards}
use Rattle.records.specs.Records.{record_of}
use Rattle.records.specs.declared.HazardRecord.{HazardRecord}
use Rattle.targets.specs.declared.mark_pos.Target.TheVariants.{Base, Ligature}
use Rattle.targets.specs.declared.place.Way.TheVariants.{Search, Earlier}
use Rattle.lookup.specs.Kinds.{kind_of}
use Rattle.lookup.specs.Neighbours.{neighbour_for, previous, second}
use Rattle.lookup.specs.Refusals.{verdict}
use Rattle.lookup.specs.Subtables.{subtables}
use Rattle.lookup.specs.code.Calls.{call_for}
use Rattle.lookup.specs.declared.kinds.Kind.{Kind}
use Rattle.lookup.specs.declared.kinds.Kind.TheVariants.{Single, Pair, Cursive, MarkBase, MarkLigature, MarkMark}
use Rattle.lookup.specs.declared.state.Settings.{Settings}
use Rattle.lookup.proofs.BeginningLaws.{is_fit, verdict_kind}
use Rattle.lookup.proofs.IdentityLaws.{same_length}
use Rattle.lookup.proofs.TurnLaws.{call_kept}
use Rattle.gpos.specs.Running.{after, at_end, before, call_at, call_on, comes_to, goes_on, line_on, LookupCall, place, Place, Run, run, run_for, run_in, run_line, run_list, run_said, said_at, said_on, Stage, standing, stopped_at}
use Rattle.gpos.proofs.PassLaws.{run_ended, run_stopped}
use Rattle.gpos.proofs.RunCallLaws.{core_leaves}
use Rattle.gpos.proofs.RunLaws.{length_subtables}
use Rattle.theorems.proofs.Answers.{cursive_fair, Fair, mark_fair, pair_fair, single_fair}
use Rattle.theorems.proofs.Clusters.{of_line}
use Rattle.theorems.specs.Running.{end_after, IsCall, LeftAsCall, Over}

-- a lookup of this kind, with these subtables
module _ (kind : Kind) (g : Settings) (ts : List (List ℕ)) where
  -- ---- one call
  module _ (l : List ℕ) (p : Place) where
    abbrev ss : List Slot
    ss = line_slots g.size l

    abbrev T : List ℕ
    T = get_or ts p.subtable []

    -- it leaves as many slots as there were
    as_many : length ((call_at kind g T ss p.index).leaves ss) ≡ count g.size l
    as_many =
        ap length (core_leaves g kind T ss p.index)
        ∙ same_length ((call_for kind T (direction_of g.direction) g.s g.u g.flag p.index (neighbour_for kind ss p.index)).leaves ss) ss
        (call_kept kind T (direction_of g.direction) g.s g.u g.flag p.index (neighbour_for kind ss p.index) ss)
        ∙ length_slots (shape_of g.size l) l

    count_kept : count g.size (line_on kind g ts l p) ≡ count g.size l
    count_kept =
        of_line (λ (m : List ℕ). count g.size m ≡ count g.size l) (call_on kind g ts l p) g.size l refl
        (λ k. count_bytes g.size k ((call_on kind g ts l p).leaves ss) ∙ as_many)

    -- it has few hazards, and goes on ahead
    call_fair : Fair p.index (count g.size l) (said_on kind g ts l p)
    call_fair = subst (λ (n : ℕ). Fair p.index n (said_on kind g ts l p)) (length_slots (shape_of g.size l) l) (go kind)
      where
        go : (k : Kind) → Fair p.index (length ss) (said_on k g ts l p)
        go Single = single_fair g.size l T g.direction g.s g.u p.index
        go Pair = pair_fair g.size l T g.direction g.s g.u p.index (second ss p.index)
        go Cursive = cursive_fair g.size l T g.direction g.s g.u p.index (previous ss p.index) g.flag
        go MarkBase = mark_fair g.size l T g.direction g.s g.u p.index (Search Base)
        go MarkLigature = mark_fair g.size l T g.direction g.s g.u p.index (Search Ligature)
        go MarkMark = mark_fair g.size l T g.direction g.s g.u p.index (Earlier (previous ss p.index))

-- so a call has at most two hazards
at_most_two : (s : Said) → FewHazards s → length (hazards_of s) ≤ 2
at_most_two (applied n hs a) few = few
at_most_two (declined hs) few = omega arith
at_most_two (refused n) few = omega arith
at_most_two done few = omega arith

-- ---- the steps that are left
-- f steps are enough for a run over n slots, with c subtables, that stands so: at slot i, subtable k, n * c - (i * c + k)
-- calls are left at most
abbrev Enough : (f n c : ℕ) → Stage → Type 0
Enough f n c (goes_on p) = (p.index < n) × (p.subtable < c) × (n * c ≤ f + (p.index * c + p.subtable))
Enough f n c (at_end a) = Unit {0}
Enough f n c (stopped_at i) = Unit {0}

comes_enough : (f n c i : ℕ) (a : Bool) → 0 < c → n * c ≤ f + i * c → Enough f n c (comes_to n i a)
comes_enough f n c i a one h = go (ltb i n) refl
  where
    go : (t : Bool) → ltb i n ≡ t → Enough f n c (if t then goes_on (place i 0 a) else at_end a)
    go true e = (ltb-true i n e, one, omega arith)
    go false e = tt

after_enough : (f n c : ℕ) (p : Place) (s : Said) → Fair p.index n s → Enough (suc f) n c (goes_on p) → Enough f n c (after n c p s)
after_enough f n c p (applied next hs a) fair h = comes_enough f n c next (p.attached || a) (omega (arith, h.1)) (omega (arith, h.1, h.2, mul-le-mul_right c fair.1.0))
after_enough f n c p (declined hs) fair h = go (ltb (p.subtable + 1) c) refl
  where
    go : (t : Bool) → ltb (p.subtable + 1) c ≡ t
        → Enough f n c (if t then goes_on (place p.index (p.subtable + 1) p.attached) else comes_to n (p.index + 1) p.attached)
    go true e = (h.0, ltb-true (p.subtable + 1) c e, omega (arith, h.2))
    go false e = comes_enough f n c (p.index + 1) p.attached (omega (arith, h.1)) (omega (arith, h.1, h.2))
after_enough f n c p (refused m) fair h = tt
after_enough f n c p done fair h = tt

module _ (kind : Kind) (g : Settings) (ts : List (List ℕ)) where
  -- so a run that has enough steps comes to its end, with at most two hazards a step
  ends : (f : ℕ) (l : List ℕ) (st : Stage) → Enough f (count g.size l) (length ts) st
      → Over (run_in kind g ts f l st).last × (length (run_in kind g ts f l st).found ≤ f * 2)
  unfolding run_in
  ends zero l (goes_on p) h = absurd (omega (arith, h.1, h.2, mul-le-mul_right (length ts) h.0))
  ends zero l (at_end a) h = (tt, omega arith)
  ends zero l (stopped_at i) h = (tt, omega arith)
  ends (suc f) l (goes_on p) h =
      let said = said_on kind g ts l p in
      let fair = call_fair kind g ts l p in
      let rest = ends f (line_on kind g ts l p) (after (count g.size l) (length ts) p said)
      (subst (λ (n : ℕ). Enough f n (length ts) (after (count g.size l) (length ts) p said)) (sym (count_kept kind g ts l p)) (after_enough f (count g.size l) (length ts) p said fair h)) in
      (rest.0, omega (arith, at_most_two said fair.0, rest.1, length-append (hazards_of said) (run_in kind g ts f (line_on kind g ts l p) (after (count g.size l) (length ts) p said)).found))
  ends (suc f) l (at_end a) h = (tt, omega arith)
  ends (suc f) l (stopped_at i) h = (tt, omega arith)

  -- a run that stands stays, whatever steps are left
  stays : (n : ℕ) (l : List ℕ) (st : Stage) → Over st → run_in kind g ts n l st ≡ standing l st
  stays n l (goes_on p) h = absurd h
  stays n l (at_end a) h = run_ended kind g ts n l a
  stays n l (stopped_at i) h = run_stopped kind g ts n l i

  -- More steps change nothing: once a run has ended within n steps, it is the same with k more.
  pub done_after : (n k : ℕ) (l : List ℕ) (st : Stage) → Over (run_in kind g ts n l st).last → run_in kind g ts (n + k) l st ≡ run_in kind g ts n l st
  unfolding run_in
  done_after zero k l st h = stays (zero + k) l st h
  done_after (suc n) k l (goes_on p) h =
      let more : suc n + k ≡ suc (n + k) = omega arith in
      ap (λ (m : ℕ). run_in kind g ts m l (goes_on p)) more
      ∙ ap (before (hazards_of (said_on kind g ts l p))) (done_after n k (line_on kind g ts l p) (after (count g.size l) (length ts) p (said_on kind g ts l p)) h)
  done_after (suc n) k l (at_end a) h = stays (suc n + k) l (at_end a) h
  done_after (suc n) k l (stopped_at i) h = stays (suc n + k) l (stopped_at i) h

  -- the whole run: slots times subtables are enough steps
  module _ (l : List ℕ) (one : 0 < length ts) where
    run_ends : Over (run kind g ts l).last × (length (run kind g ts l).found ≤ count g.size l * length ts * 2)
    run_ends = ends (count g.size l * length ts) l (comes_to (count g.size l) 0 false) (comes_enough _ (count g.size l) (length ts) 0 false one (omega arith))

-- ---- a run that isn't refused
module _ (g : Settings) (l b lengths : List ℕ) (places : ℕ) (fit : verdict g l b lengths places ≡ done) where
  abbrev ts : List (List ℕ)
  ts = subtables lengths b

  abbrev whole : Run
  whole = run_for (kind_of g.kind) g ts l

  whole_ends : Over whole.last × (length whole.found ≤ count g.size l * length ts * 2)
  whole_ends =
      let typed = verdict_kind g l b lengths places fit in
      rw typed.is (run_ends typed.kind g ts l (omega (arith, (is_fit g l b lengths places fit).one, length_subtables lengths b)))

  -- It comes to its end: it is at the line's end or was stopped, and doesn't go on where the definition leaves off. So
  -- the third case of `said_at` never happens.
  pub comes_to_end : Over whole.last
  comes_to_end = whole_ends.0

  -- It has at most two records for each slot and subtable, so the list is never full.
  pub few_records : (length whole.found ≤ 2 * count g.size l * length lengths) × (length whole.found ≤ places)
  few_records =
      let c = ap (λ (n : ℕ). count g.size l * n) (length_subtables lengths b) in
      let doubled = mul_assoc 2 (count g.size l) (length lengths) in
      (omega (arith, c, doubled, whole_ends.1), omega (arith, c, doubled, whole_ends.1, (is_fit g l b lengths places fit).room))

-- A run leaves the list as long as it was, be it refused or not.
pub list_length : (g : Settings) (l b lengths : List ℕ) (list : List HazardRecord) (r : Result Ran WiderRefusal) (l' : List ℕ) (list' : List HazardRecord)
    → LookupCall g l b lengths list r l' list' → length list' ≡ length list
list_length g l b lengths list r l' list' o = ap length o.list_is ∙ go (verdict g l b lengths (length list)) refl
  where
    run_of : Run
    run_of = run_for (kind_of g.kind) g (subtables lengths b) l

    go : (s : Said) → verdict g l b lengths (length list) ≡ s → length (run_list s run_of list) ≡ length list
    go done e =
        let room = (few_records g l b lengths (length list) e).1 in
        length-append (map record_of run_of.found) (drop (length run_of.found) list)
        ∙ omega (arith, room, length-map run_of.found record_of, length-drop (length run_of.found) list)
    go (refused n) e = refl
    go (applied n hs a) e = refl
    go (declined hs) e = refl

-- ---- one slot, one subtable
-- where a call goes on in a line of one slot, with one subtable
one_after : (s : Said) → Fair 0 1 s → after 1 1 (place 0 0 false) s ≡ end_after s
one_after (applied next hs a) f = rw (le-ltb next 1 f.1.0)
one_after (declined hs) f = refl
one_after (refused n) f = refl
one_after done f = refl

module _ (g : Settings) (t l : List ℕ) (kind : Kind) (only : count g.size l ≡ 1) where
  -- the single call of slot 0
  abbrev call : Call
  call = call_at kind g t (line_slots g.size l) 0

  one_run : IsCall call g.size l (run kind g (t ∷ []) l)
  unfolding run_in
  one_run =
      let p = place 0 0 false in
      let fair : Fair 0 1 (answer_to call g.size l) = subst (λ (n : ℕ). Fair 0 n (answer_to call g.size l)) only (call_fair kind g (t ∷ []) l p) in
      let whole : run kind g (t ∷ []) l ≡ run_in kind g (t ∷ []) 1 l (goes_on p) = ap (λ (n : ℕ). run_in kind g (t ∷ []) (n * 1) l (comes_to n 0 false)) only in
      record {
        found_is = ap (λ (r : Run). r.found) whole ∙ append-nil (hazards_of (answer_to call g.size l));
        line_is = ap (λ (r : Run). r.line) whole;
        last_is = ap (λ (r : Run). r.last) whole ∙ ap (λ (n : ℕ). after n 1 p (answer_to call g.size l)) only ∙ one_after (answer_to call g.size l) fair;
      }

  module _ (is : kind_of g.kind ≡ Some kind) where
    -- A run of one subtable over a line of one slot is the single call: its hazards, its line, and its end by what it said.
    pub one_slot : IsCall call g.size l (run_for (kind_of g.kind) g (subtables (length t ∷ []) t) l)
    unfolding subtables
    one_slot = rw (is, take_all (length t) t (omega arith)) one_run

    -- So what a caller sees of the run is what a caller sees of the call: whatever meets the contract of the one agrees
    -- with whatever meets that of the other.
    pub one_slot_call : (list : List HazardRecord) → verdict g l t (length t ∷ []) (length list) ≡ done → (said : Said) (m' : List ℕ) → Made call g.size l said m'
        → (r : Result Ran WiderRefusal) (l' : List ℕ) (list' : List HazardRecord) → LookupCall g l t (length t ∷ []) list r l' list' → LeftAsCall said m' list r l' list'
    one_slot_call list fit said m' made r l' list' o =
        let whole : Run = run_for (kind_of g.kind) g (subtables (length t ∷ []) t) l in
        let found : whole.found ≡ hazards_of said = one_slot.found_is ∙ ap hazards_of (sym made.answer) in
        record {
          answer = o.answer ∙ ap (λ (s : Said). run_said s whole) fit ∙ ap₂ said_at (one_slot.last_is ∙ ap end_after (sym made.answer)) (ap length found);
          line = o.line ∙ ap (λ (s : Said). run_line s whole l) fit ∙ one_slot.line_is ∙ sym made.line;
          list_is = o.list_is ∙ ap (λ (s : Said). run_list s whole list) fit ∙ ap (λ (hs : List Range). map record_of hs ++ drop (length hs) list) found;
        }
