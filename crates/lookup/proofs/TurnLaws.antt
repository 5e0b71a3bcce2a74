-- Laws of one turn of a run: what the call needs, what it leaves, and that the run can go on. Assumes nothing.
use Rattle.std.specs.Prelude.{None, Option, Some}
use Rattle.std.specs.Prelude.{if◌then◌else◌}
use mathlib.Core.Path.{◌≡◌, refl, sym, ap, ap₂, subst, ◌∙◌}
use mathlib.Core.Bool.{Bool, true, false, not, ◌||◌}
use mathlib.Core.List.{List}
use Prim.Native.Nat.{ℕ, ◌+◌, ◌*◌, ◌/◌, ◌≤◌, ◌<◌}
use native.Mathlib.Nat.{mul-le-mul_right}
use native.Mathlib.Omega.{arith}
use borrow.Author.Tests.{eqb-false, eqb-true, ltb-false, ltb-true}
use lib.Dec.{eqb, ltb}
use lib.ListN.{get_or, length, length-set, set, take}
use lib.Seq.{get_or-set_other, get_or-set_same}
use Rattle.ints.specs.BigEndian.{AllBytes}
use Rattle.ints.specs.Limits.{whole16}
use Rattle.slots.specs.Checks.{bad_length}
use Rattle.slots.specs.Slot.{known, Slot}
use Rattle.slots.specs.Line.{bytes, shape_of, shape_with, slots}
use Rattle.slots.specs.code.Shape.{Fits}
use Rattle.slots.specs.theorems.Identity.{identities}
use Rattle.slots.specs.declared.axis.Direction.{Direction}
use Rattle.slots.specs.declared.shape.Shape.{Shape}
use Rattle.slots.proofs.LineLaws.{known_size, length_bytes, length_slots, line_short}
use Rattle.answers.specs.Outcome.{line_after, Made}
use Rattle.answers.specs.Said.{applied, declined, done, refused, Said}
use Rattle.answers.specs.code.Effect.{MadeOn}
use Rattle.answers.specs.declared.Neighbour.{Neighbour}
use Rattle.answers.specs.declared.UpToTwo.{UpToTwo}
use Rattle.records.specs.declared.HazardRecord.{HazardRecord}
use Rattle.answers.proofs.OutcomeLaws.{made_by}
use Rattle.targets.specs.Place.{searched}
use Rattle.targets.specs.Search.{stops_at}
use Rattle.targets.specs.MarkPos.{base_coverage_offset}
use Rattle.targets.specs.declared.mark_pos.Target.{Target}
use Rattle.lookup.specs.Kinds.{good_for}
use Rattle.lookup.specs.Neighbours.{neighbour_for}
use Rattle.lookup.specs.Subtables.{most_subtables, subtable, total}
use Rattle.lookup.specs.code.Calls.{after_search, by_target, call_for, call_now, finds, Ready, remembered, remembering, Right, RightAt, slots_now, target_of, unsearched}
use Rattle.lookup.specs.code.Covered.{AllReadable, cover_at}
use Rattle.lookup.specs.code.Run.{called, Fine, line_at, line_called, line_of, moved_to, Next, next_state, Placed, place_now, said_now, subtable_now, turn_at, Turned, turned_by, turn_of}
use Rattle.lookup.specs.declared.covered.Place.{Place}
use Rattle.lookup.specs.declared.kinds.Kind.{Kind}
use Rattle.lookup.specs.declared.kinds.Kind.TheVariants.{Single, Pair, Cursive, MarkBase, MarkLigature, MarkMark}
use Rattle.lookup.specs.declared.state.Searched.{Searched}
use Rattle.lookup.specs.declared.state.State.{State}
use Rattle.lookup.proofs.CoveredLaws.{all_readable, spot, Spot}
use Rattle.lookup.proofs.FairLaws.{fair, Fair}
use Rattle.lookup.proofs.IdentityLaws.{nearest_same, same_bad, same_length, same_stops}
use Rattle.lookup.proofs.Kept.{after_kept}
use Rattle.lookup.proofs.KeptCursive.{cursive_kept}
use Rattle.lookup.proofs.KeptMarks.{mark_kept}
use Rattle.lookup.proofs.KeptValues.{pair_kept, single_kept}
use Rattle.lookup.proofs.NeighbourLaws.{neighbour_same}
use Rattle.lookup.proofs.SubtableLaws.{cut, cut_inside, cut_is, one_good, total_next, total_none}

-- whether a line is bad, and its shape, go by its length
abbrev bad_length_of : ℕ → ℕ → Bool
bad_length_of z n = not (known z) || bad_length z n

abbrev shape_for : ℕ → ℕ → Shape
shape_for z n = shape_with z (n / z)

-- ---- no call changes what slots are
pub call_kept : (kind : Kind) (t : List ℕ) (d : Direction) (s u flag i : ℕ) (n : Neighbour) (ss : List Slot) → identities ((call_for kind t d s u flag i n).leaves ss) ≡ identities ss
call_kept Single t d s u flag i n ss = single_kept t d s u i ss
call_kept Pair t d s u flag i n ss = pair_kept t d s u i n ss
call_kept Cursive t d s u flag i n ss = cursive_kept t d s u i n flag ss
call_kept MarkBase t d s u flag i n ss = mark_kept _ t d s u i ss
call_kept MarkLigature t d s u flag i n ss = mark_kept _ t d s u i ss
call_kept MarkMark t d s u flag i n ss = mark_kept _ t d s u i ss

-- so a search finds what it found
finds_same : (o : Option Target) (t : List ℕ) (ss ss' : List Slot) → identities ss ≡ identities ss' → (n : ℕ) → finds o t ss n ≡ finds o t ss' n
finds_same None t ss ss' e n = refl
finds_same (Some target) t ss ss' e n =
    ap (λ (f : Option ℕ). if eqb (base_coverage_offset t) 0 then None else f)
    (nearest_same (stops_at target t ss) (stops_at target t ss') (same_stops ss ss' e target t) n)

right_same : (kind : Kind) (t : List ℕ) (ss ss' : List Slot) → identities ss ≡ identities ss' → (i j : ℕ) (m : Searched) → i ≤ j → Right kind t ss i m → Right kind t ss' j m
right_same kind t ss ss' e i j m h r =
    record { not_past = omega (arith, r.not_past); found_is = r.found_is ∙ finds_same (target_of kind) t ss ss' e m.until }

-- ---- one call, where all that it needs holds
module _ {l b lengths : List ℕ} {st : State} (placed : Placed l b lengths st) where
  abbrev fine : Fine l b lengths st
  fine = placed.fine

  abbrev kind : Kind
  kind = st.lookup.kind

  abbrev direction : Direction
  direction = st.lookup.frame.direction

  abbrev s : ℕ
  s = st.lookup.frame.scale.s

  abbrev u : ℕ
  u = st.lookup.frame.scale.u

  abbrev ss : List Slot
  ss = slots_now l st

  abbrev T : List ℕ
  T = subtable_now l b lengths st

  abbrev len : ℕ
  len = get_or lengths st.subtable 0

  -- the neighbour is the slot's
  pub near_now : st.near ≡ neighbour_for kind ss st.index
  near_now = fine.near.near_is ∙ ap (neighbour_for kind ss) placed.known_is

  -- ---- what the call needs
  -- its subtable ends inside the buffer
  pub part_inside : st.start + len ≤ length b
  part_inside = cut_inside lengths b st.subtable st.start fine.good.start_is placed.subtable_in fine.good.adds_up

  abbrev part : List ℕ
  part = cut lengths b st.subtable st.start

  part_is : part ≡ T
  part_is = cut_is lengths b st.subtable st.start fine.good.start_is placed.subtable_in

  -- the numbers of a line's slots fit 16 bits
  few_slots : st.index < whole16
  few_slots = go (ltb st.index whole16) refl
    where
      z : ℕ
      z = st.lookup.shape.size

      go : (t : Bool) → ltb st.index whole16 ≡ t → st.index < whole16
      go true e = ltb-true st.index whole16 e
      go false e =
          let many : whole16 ≤ st.lookup.shape.count = omega (arith, ltb-false st.index whole16 e, placed.index_in) in
          absurd (omega (arith, mul-le-mul_right z many, fine.whole.fits.whole, fine.whole.fits.wide, line_short z l fine.whole.line_good))

  pub ready : Ready l part st
  ready =
      record {
        inside = record { fits = fine.whole.fits; below = placed.index_in };
        few = few_slots;
        good = ap (good_for kind) part_is ∙ one_good (good_for kind) lengths b st.subtable placed.subtable_in fine.good.all_good;
        near_is = near_now;
        in_memory = omega (arith, placed.subtable_in, fine.good.few);
        right = subst (λ (x : List ℕ). RightAt st.memory st.subtable kind x ss st.index) (sym part_is) (fine.right st.subtable placed.subtable_in);
      }

  -- ---- what it says
  pub is_fair : Fair st.index (length ss) (said_now l b lengths st)
  is_fair =
      let in_line : st.index < length ss = omega (arith, length_slots st.lookup.shape l, placed.index_in) in
      subst (λ (n : Neighbour). Fair st.index (length ss) ((call_for kind T direction s u st.lookup.flag st.index n).says ss))
      (sym near_now) (fair T direction s u st.lookup.flag st.index ss in_line kind)

  -- it leaves the slots what they were
  now_kept : identities ((call_now T st).leaves ss) ≡ identities ss
  now_kept = call_kept kind T direction s u st.lookup.flag st.index st.near ss

  -- so it leaves as many bytes as there were
  pub line_length : length (line_called l b lengths st) ≡ length l
  unfolding line_called
  line_length = by_said (said_now l b lengths st)
    where
      new : List Slot
      new = (call_now T st).leaves ss

      as_many : length new ≡ st.lookup.shape.count
      as_many = same_length new ss now_kept ∙ length_slots st.lookup.shape l

      written : length (bytes st.lookup.shape.size new) ≡ length l
      written =
          length_bytes st.lookup.shape.size (known_size st.lookup.shape.size l fine.whole.line_good) new
          ∙ ap (λ (n : ℕ). n * st.lookup.shape.size) as_many ∙ sym fine.whole.fits.whole

      by_said : (s : Said) → length (line_after st.lookup.shape.size s l new) ≡ length l
      by_said (applied n hs a) = written
      by_said done = written
      by_said (declined hs) = refl
      by_said (refused n) = refl

  -- ---- how far the searches have come
  abbrev AllRight : List Searched → Type 0
  AllRight m = (k : ℕ) → k < length lengths → RightAt m k kind (subtable lengths b k) ss st.index

  searched_right : (target : Target) → target_of kind ≡ Some target → AllRight (after_search target T ss st)
  searched_right target e = λ k h. here k h (eqb k st.subtable) refl
    where
      now : Searched
      now = record { until = st.index; found = searched target T ss st.index }

      own_right : Right kind T ss st.index now
      own_right = record { not_past = omega arith; found_is = ap (λ (o : Option Target). finds o T ss st.index) (sym e) }

      here : (k : ℕ) → k < length lengths → (z : Bool) → eqb k st.subtable ≡ z → Right kind (subtable lengths b k) ss st.index (get_or (set st.memory st.subtable now) k unsearched)
      here k h true same =
          let is : k ≡ st.subtable = eqb-true k st.subtable same in
          rw (is, get_or-set_same st.memory st.subtable now unsearched (omega (arith, placed.subtable_in, fine.good.few, fine.good.remembered))) own_right
      here k h false other =
          rw (get_or-set_other st.memory st.subtable k now unsearched (eqb-false k st.subtable other)) (fine.right k h)

  target_right : (o : Option Target) → target_of kind ≡ o → AllRight (by_target o T ss st)
  target_right (Some target) e = searched_right target e
  target_right None e = fine.right

  abbrev memory : List Searched
  memory = remembered T ss st

  -- it remembers each subtable's, as it did
  memory_length : (o : Option Target) → length (by_target o T ss st) ≡ most_subtables
  memory_length (Some target) = length-set st.memory st.subtable _ ∙ fine.good.remembered
  memory_length None = fine.good.remembered

  -- ---- what it leaves
  module _ (l' : List ℕ) (bytes₀ : AllBytes l) (bytes' : AllBytes l') (as_long : length l' ≡ length l) {r : Said} (done_so : MadeOn (call_now part st) ss r (slots_now l' st)) where
    made : MadeOn (call_now T st) ss r (slots_now l' st)
    made = subst (λ (t : List ℕ). MadeOn (call_now t st) ss r (slots_now l' st)) part_is done_so

    abbrev z : ℕ
    z = st.lookup.shape.size

    abbrev ss' : List Slot
    ss' = slots_now l' st

    whole_call : Made (call_now T st) z l r l'
    whole_call = made_by (call_now T st) z l fine.whole.line_good l' r fine.whole.shape_is bytes₀ bytes' as_long made

    says_now : (w : Shape) → w ≡ shape_of z l → line_after z ((call_now T st).says (slots (shape_of z l) l)) l ((call_now T st).leaves (slots (shape_of z l) l)) ≡ line_after z ((call_now T st).says (slots w l)) l ((call_now T st).leaves (slots w l))
    says_now w e = ap (λ (v : Shape). line_after z ((call_now T st).says (slots v l)) l ((call_now T st).leaves (slots v l))) (sym e)

    pub line_is : l' ≡ line_called l b lengths st
    unfolding line_called
    line_is = (rw fine.whole.line_good at whole_call.line) ∙ says_now st.lookup.shape fine.whole.shape_is

    -- the slots are what they were
    kept : identities ss ≡ identities ss'
    kept =
        sym (ap identities made.slots_are
        ∙ after_kept ((call_now T st).says ss) ss ((call_now T st).leaves ss) now_kept)

    fits' : Fits st.lookup.shape l'
    fits' = record { wide = fine.whole.fits.wide; whole = as_long ∙ fine.whole.fits.whole; few = omega (arith, as_long, fine.whole.fits.few) }

    -- a state at slot i of the new line is fine
    fine_at : (i k start : ℕ) (a : Bool) → st.index ≤ i → k ≤ length lengths → start ≡ total (take k lengths) → Fine l' b lengths (record st { index = i; subtable = k; start = start; attached = a; memory = memory })
    fine_at i k start a not_before within starts =
        record {
          goes_on = fine.goes_on;
          whole = record {
            line_good = ap (bad_length_of z) as_long ∙ fine.whole.line_good;
            shape_is = fine.whole.shape_is ∙ ap (shape_for z) (sym as_long);
            fits = fits';
            slots_good = sym (same_bad ss ss' kept) ∙ fine.whole.slots_good;
          };
          near = record { not_past = omega (arith, placed.known_is); near_is = fine.near.near_is ∙ neighbour_same kind ss ss' kept st.known };
          good = record {
            one = fine.good.one;
            few = fine.good.few;
            remembered = memory_length (target_of kind);
            adds_up = fine.good.adds_up;
            within = within;
            start_is = starts;
            all_good = fine.good.all_good;
          };
          right = λ j h. right_same kind (subtable lengths b j) ss ss' kept st.index i _ not_before (target_right (target_of kind) refl j h);
        }

    abbrev end : ℕ
    end = st.start + len

    abbrev after : State
    after = remembering T ss st

    -- whatever it said
    said_fine : (s : Said) → Fair st.index (length ss) s → Next l' b lengths (next_state end after s)
    said_fine (applied n hs a) f = λ on. fine_at n 0 0 (st.attached || a) (omega (arith, f.1.0)) (omega arith) (total_none lengths)
    said_fine (declined hs) f =
        λ on. fine_at st.index (st.subtable + 1) end st.attached (omega arith) (omega (arith, placed.subtable_in)) (omega (arith, fine.good.start_is, total_next lengths st.subtable placed.subtable_in))
    said_fine (refused n) f = λ on. absurd (cc)
    said_fine done f = λ on. absurd (cc)

    -- what code made of the call's answer is the call
    pub called_so : (st' : State) → st' ≡ remembering part ss st → (q : Turned) → q ≡ turned_by end st' r
        → (q ≡ called l b lengths st) × (l' ≡ line_called l b lengths st) × Next l' b lengths q.next
    unfolding called
    called_so st' is-st q is-q = (is, line_is, rw is (said_fine (said_now l b lengths st) is_fair))
      where
        is : q ≡ called l b lengths st
        is = is-q ∙ ap₂ (turned_by end) (is-st ∙ ap (λ (t : List ℕ). remembering t ss st) part_is) made.answer

-- ---- one turn
module _ {l b lengths : List ℕ} {st : State} (fine : Fine l b lengths st) where
  -- what the search for the next covered place needs
  pub can_pass : (Fits st.lookup.shape l × (st.subtable ≤ length lengths) × (st.start ≡ total (take st.subtable lengths)))
      × ((total lengths ≡ length b) × AllReadable b lengths)
  can_pass = ((fine.whole.fits, fine.good.within, fine.good.start_is), (fine.good.adds_up, all_readable st.lookup.kind b lengths fine.good.all_good))

  module _ (p : Option Place) (e : p ≡ place_now l b lengths st) where
    pub turn_is : turn_of l b lengths st ≡ turn_at l b lengths st p
    unfolding turn_of
    turn_is = ap (turn_at l b lengths st) (sym e)

    pub line_turned : line_of l b lengths st ≡ line_at l b lengths st p
    unfolding line_of
    line_turned = ap (line_at l b lengths st) (sym e)

    pub where_is : Spot (slots_now l st) b lengths st.index p
    where_is = subst (Spot (slots_now l st) b lengths st.index) (sym e) (spot (slots_now l st) b lengths st.index st.subtable st.start fine.good.within fine.good.start_is)

  -- what a turn of code is to be, by its records and the state that it leaves
  abbrev Turn : (l' : List ℕ) (rs : UpToTwo HazardRecord) (st' : State) → Type 0
  Turn l' rs st' =
      (rs ≡ (turn_of l b lengths st).records) × (st' ≡ (turn_of l b lengths st).next) × (l' ≡ line_of l b lengths st) × Next l' b lengths st'

  -- there is none: the run is at its end
  pub ends_so : None ≡ place_now l b lengths st → Turn l (turn_at l b lengths st None).records (turn_at l b lengths st None).next
  ends_so e =
      (ap (λ (q : Turned). q.records) (sym (turn_is None e)), ap (λ (q : Turned). q.next) (sym (turn_is None e)), sym (line_turned None e), λ on. absurd (cc))

  -- there is one: all that the call needs holds there
  module _ (p : Place) (e : Some p ≡ place_now l b lengths st) where
    abbrev here : State
    here = moved_to l st p.index p.subtable p.start

    at : Spot (slots_now l st) b lengths st.index (Some p)
    at = where_is (Some p) e

    pub below : p.index < st.lookup.shape.count
    below = omega (arith, at.1, length_slots st.lookup.shape l)

    pub not_before : st.known ≤ p.index
    not_before = omega (arith, at.0, fine.near.not_past)

    pub few_here : p.subtable < most_subtables
    few_here = omega (arith, at.2, fine.good.few)

    pub is_placed : Placed l b lengths here
    is_placed =
        record {
          fine = record {
            goes_on = fine.goes_on;
            whole = record { line_good = fine.whole.line_good; shape_is = fine.whole.shape_is; fits = fine.whole.fits; slots_good = fine.whole.slots_good };
            near = record { not_past = omega arith; near_is = refl };
            good = record {
              one = fine.good.one;
              few = fine.good.few;
              remembered = fine.good.remembered;
              adds_up = fine.good.adds_up;
              within = omega (arith, at.2);
              start_is = at.3;
              all_good = fine.good.all_good;
            };
            right = λ j h. right_same st.lookup.kind (subtable lengths b j) (slots_now l st) (slots_now l st) refl st.index p.index _ at.0 (fine.right j h);
          };
          index_in = below;
          subtable_in = at.2;
          known_is = refl;
        }

    pub in_list : p.subtable < length lengths
    in_list = at.2

    pub ends_inside : p.start + get_or lengths p.subtable 0 ≤ length b
    ends_inside = part_inside is_placed

    pub is_covered_lem : cover_at (part is_placed) (slots_now l st) p.index ≡ Some p.covered
    is_covered_lem = ap (λ (t : List ℕ). cover_at t (slots_now l st) p.index) (part_is is_placed) ∙ at.4

    abbrev there : List ℕ
    there = cut lengths b p.subtable p.start

    -- code has a state that is this one
    module _ (q : State) (is : q ≡ here) where
      pub call_ready : Ready l there q × (cover_at there (slots_now l q) q.index ≡ Some p.covered)
      call_ready = subst (λ (x : State). Ready l there x × (cover_at there (slots_now l x) x.index ≡ Some p.covered)) (sym is) (ready is_placed, is_covered_lem)

      -- and the turn is that call
      pub turned_so : (l' : List ℕ) → AllBytes l → AllBytes l' → length l' ≡ length l → (r : Said) → MadeOn (call_now there q) (slots_now l q) r (slots_now l' q)
          → (after : State) → after ≡ remembering there (slots_now l q) q
          → (rs : UpToTwo HazardRecord) (st' : State) → (rs ≡ (turned_by (p.start + get_or lengths p.subtable 0) after r).records) × (st' ≡ (turned_by (p.start + get_or lengths p.subtable 0) after r).next)
          → Turn l' rs st'
      turned_so l' bytes₀ bytes' as_long r made after is_after rs st' is_x =
          let x = called_so is_placed l' bytes₀ bytes' as_long (subst (λ (y : State). MadeOn (call_now there y) (slots_now l y) r (slots_now l' y)) is made) after
          (subst (λ (y : State). after ≡ remembering there (slots_now l y) y) is is_after) (record { records = rs; next = st' }) (rw (is_x.0, is_x.1)) in
          let so = x.0 ∙ sym (turn_is (Some p) e) in
          (ap (λ (q : Turned). q.records) so, ap (λ (q : Turned). q.next) so, x.1 ∙ sym (line_turned (Some p) e), x.2)

  -- it leaves the line as long as it was
  pub turn_length : length (line_of l b lengths st) ≡ length l
  turn_length = by_place (place_now l b lengths st) refl
    where
      by_place : (p : Option Place) → p ≡ place_now l b lengths st → length (line_of l b lengths st) ≡ length l
      by_place None e = ap length (line_turned None e)
      by_place (Some p) e = ap length (line_turned (Some p) e) ∙ line_length (is_placed p e)

-- what code's turn asks of the place
pub ruleset of_turn = (can_pass, below, not_before, few_here, in_list, ends_inside)
