-- The loop of a run: what it holds at each turn, that a turn is calls of the definition that decline without hazard, and
-- then one more, and what it comes to. Assumes nothing.
use Rattle.std.specs.Prelude.{is_none, None, Ok, Option, Some, if◌then◌else◌}
use mathlib.Core.Path.{◌≡◌, refl, sym, ap, ap₂, subst, ◌∙◌}
use mathlib.Core.Bool.{Bool, true, false}
use mathlib.Core.List.{List, [], ◌∷◌, ◌++◌, map}
use Prim.Native.Nat.{ℕ, zero, suc, zero-le, ◌+◌, ◌-◌, ◌*◌, ◌/◌, ◌≤◌, ◌<◌}
use native.Mathlib.Nat.{add_assoc, add-zero, mul_assoc, mul-le-mul_right, suc-mul, zero-add}
use native.Mathlib.Omega.{arith}
use borrow.Author.Tests.{lt-ltb}
use lib.Dec.{ltb}
use lib.ListN.{drop, get_or, length, length-append, length-map}
use Rattle.slots.specs.Checks.{bad_line}
use Rattle.slots.specs.Axis.{direction_of}
use Rattle.slots.specs.Line.{count, line_slots, shape_of, shape_with, slots}
use Rattle.slots.specs.declared.axis.Direction.{Direction}
use Rattle.slots.specs.Slot.{Slot}
use Rattle.slots.proofs.LineLaws.{length_slots}
use Rattle.answers.specs.Outcome.{line_after}
use Rattle.answers.specs.Said.{applied, declined, done, hazards_of, Range, refused, Said, said_run, unless}
use Rattle.answers.specs.declared.Ran.{Ran}
use Rattle.answers.specs.declared.Ran.TheVariants.{Done as RanDone, Endless as RanEndless}
use Rattle.answers.specs.declared.Neighbour.{Neighbour}
use Rattle.answers.specs.declared.Neighbour.TheVariants.{Missing}
use Rattle.ints.specs.Scale.{bad_scale}
use Rattle.checks.specs.Ranges.{bad_slots}
use Rattle.records.specs.Records.{record_of, records, set_all}
use Rattle.records.specs.declared.HazardRecord.{HazardRecord}
use Rattle.records.proofs.Laws.{front, length_set_all, records_all, set_all-++}
use Rattle.lookup.specs.Kinds.{good_for, kind_of}
use Rattle.lookup.specs.Neighbours.{neighbour_for}
use Rattle.lookup.specs.Refusals.{verdict}
use Rattle.lookup.specs.Subtables.{every, subtable, subtables}
use Rattle.lookup.specs.code.Beginning.{BegunWith, first_state, starts, Told}
use Rattle.lookup.specs.code.Calls.{call_for, call_now, remembering, slots_now}
use Rattle.lookup.specs.code.Covered.{next_place}
use Rattle.lookup.specs.code.Run.{called, Fine, line_called, line_of, moved_to, Next, next_state, Placed, place_now, said_now, Turned, turn_of}
use Rattle.lookup.specs.declared.covered.Place.{Place}
use Rattle.lookup.specs.declared.kinds.Kind.{Kind}
use Rattle.lookup.specs.declared.state.End.{End}
use Rattle.lookup.specs.declared.state.End.TheVariants.{Done, Endless}
use Rattle.lookup.specs.declared.state.Lookup.{Lookup}
use Rattle.lookup.specs.declared.state.Settings.{Settings}
use Rattle.lookup.specs.declared.state.State.{State}
use Rattle.lookup.proofs.BeginningLaws.{begun_fine, direction_scale_clear, is_fit, verdict_room}
use Rattle.lookup.proofs.FairLaws.{Fair}
use Rattle.lookup.proofs.SubtableLaws.{one_good}
use Rattle.lookup.proofs.TurnLaws.{is_fair, is_placed, line_turned, near_now, turn_is, turn_length}
use Rattle.gpos.specs.Running.{after, at_end, before, call_at, comes_to, goes_on, line_on, LookupCall, place, Place as Spot, run, Run, run_for, run_in, run_line, run_list, run_said, said_at, said_on, Stage, standing, stopped_at}
use Rattle.gpos.proofs.PassLaws.{onward, Passed, passes, Passing, run_ended, run_on, run_stopped}
use Rattle.gpos.proofs.RunCallLaws.{core_leaves, core_says}

-- ---- what a state of code stands for
-- of an end
abbrev stage_at : End → State → Stage
stage_at Done st = at_end st.attached
stage_at Endless st = stopped_at st.index

abbrev place_of : State → Spot
place_of st = place st.index st.subtable st.attached

-- in a line of n slots, with c subtables
abbrev stage_by : (n c : ℕ) → Option End → State → Stage
stage_by n c None st = onward n c st.index st.subtable st.attached
stage_by n c (Some end) st = stage_at end st

abbrev stage_of : (n c : ℕ) → State → Stage
stage_of n c st = stage_by n c st.end st

stage_goes : (n c : ℕ) (st : State) → st.end ≡ None → stage_of n c st ≡ onward n c st.index st.subtable st.attached
stage_goes n c st e = ap (λ (o : Option End). stage_by n c o st) e

-- ---- the definition's run, once it is over
run_over : (kind : Kind) (g : Settings) (ts : List (List ℕ)) (k : ℕ) (l : List ℕ) (end : End) (st : State) → run_in kind g ts k l (stage_at end st) ≡ standing l (stage_at end st)
run_over kind g ts k l Done st = run_ended kind g ts k l st.attached
run_over kind g ts k l Endless st = run_stopped kind g ts k l st.index

-- where a run begins
first_stage : (k : Lookup) (ss : List Slot) (c : ℕ) → 0 < c → stage_of (length ss) c (first_state k ss) ≡ comes_to (length ss) 0 false
first_stage k ss c h = go (ltb 0 (length ss)) refl
  where
    go : (z : Bool) → ltb 0 (length ss) ≡ z
        → stage_of (length ss) c (if z then starts None (neighbour_for k.kind ss 0) k else starts (Some Done) (Missing 0) k) ≡ (if z then goes_on (place 0 0 false) else at_end false)
    go true e = rw (e, lt-ltb 0 c h)
    go false e = refl

-- what a state is told doesn't change
kept_told : (end : ℕ) (st : State) (s : Said) → (next_state end st s).lookup ≡ st.lookup
kept_told end st (applied n hs a) = refl
kept_told end st (declined hs) = refl
kept_told end st (refused n) = refl
kept_told end st done = refl

-- records of hazards that arose one after another
map_append : (hs gs : List Range) → map record_of (hs ++ gs) ≡ map record_of hs ++ map record_of gs
map_append [] gs = refl
map_append (h ∷ hs) gs = ap (λ (rs : List HazardRecord). record_of h ∷ rs) (map_append hs gs)

-- as many subtables as lengths
pub length_subtables : (ns b : List ℕ) → length (subtables ns b) ≡ length ns
unfolding subtables
length_subtables [] b = refl
length_subtables (n ∷ ns) b = ap suc (length_subtables ns _)

-- where a run goes on: code's state stands for the definition's stage, and is further on
module _ (n c end : ℕ) (st : State) (goes_on : st.end ≡ None) (in_line : st.index < n) (in_list : st.subtable < c) where
  next_stage : (s : Said) → after n c (place_of st) s ≡ stage_of n c (next_state end st s)
  next_stage (applied k hs a) = rw (goes_on, lt-ltb 0 c (omega arith))
  next_stage (declined hs) = rw (goes_on, lt-ltb st.index n in_line)
  next_stage (refused k) = refl
  next_stage done = refl

  next_further : (s : Said) → Fair st.index n s → (next_state end st s).end ≡ None → st.index * c + st.subtable < (next_state end st s).index * c + (next_state end st s).subtable
  next_further (applied k hs a) f e = let ahead : st.index + 1 ≤ k = omega (arith, f.1.0) in omega (arith, mul-le-mul_right c ahead, suc-mul st.index c)
  next_further (declined hs) f e = omega arith
  next_further (refused k) f e = absurd (cc)
  next_further done f e = absurd (cc)

-- ---- the call at a place is one single call of the definition
-- the line l has come of line₀: what is made of what code was told is what is made of what the settings say
told_line : (l : List ℕ) {g : Settings} {line₀ : List ℕ} {k : Lookup} {kind : Kind} (told : Told g line₀ k) (kind_is : k.kind ≡ kind) (as_long : length l ≡ length line₀)
    {A : Type 0} (f : ℕ → Kind → Direction → ℕ → ℕ → ℕ → List Slot → A)
    → f k.shape.size k.kind k.frame.direction k.frame.scale.s k.frame.scale.u k.flag (slots k.shape l) ≡ f g.size kind (direction_of g.direction) g.s g.u g.flag (line_slots g.size l)
told_line l {g} {line₀} {k} {kind} told kind_is as_long f =
    rw (told.shape_is, kind_is, told.direction_is, told.s_is, told.u_is, told.flag_is)
    (ap (λ (x : ℕ). f g.size kind (direction_of g.direction) g.s g.u g.flag (slots (shape_with g.size (x / g.size)) l)) (sym as_long))

module _ (g : Settings) (line₀ b lens : List ℕ) (kind : Kind) (direction-good : ltb 3 g.direction ≡ false) (scale-good : bad_scale g.s g.u ≡ false)
    (l : List ℕ) (as_long : length l ≡ length line₀) (st : State) (told : Told g line₀ st.lookup) (kind_is : st.lookup.kind ≡ kind) (placed : Placed l b lens st) where
  abbrev fine₀ : Fine l b lens st
  fine₀ = placed.fine

  abbrev ts : List (List ℕ)
  ts = subtables lens b

  abbrev ss : List Slot
  ss = line_slots g.size l

  abbrev T : List ℕ
  T = subtable lens b st.subtable

  -- with the neighbour too
  told_as : {A : Type 0} (f : ℕ → Kind → Direction → ℕ → ℕ → ℕ → Neighbour → List Slot → A)
      → f st.lookup.shape.size st.lookup.kind st.lookup.frame.direction st.lookup.frame.scale.s st.lookup.frame.scale.u st.lookup.flag st.near (slots_now l st)
      ≡ f g.size kind (direction_of g.direction) g.s g.u g.flag (neighbour_for kind ss st.index) ss
  told_as f =
      ap (λ (n : Neighbour). f st.lookup.shape.size st.lookup.kind st.lookup.frame.direction st.lookup.frame.scale.s st.lookup.frame.scale.u st.lookup.flag n (slots_now l st)) (near_now placed)
      ∙ told_line l told kind_is as_long (λ z k d s u flag x. f z k d s u flag (neighbour_for k x st.index) x)

  line_good : bad_line g.size l ≡ false
  line_good = sym (told_as (λ z k d s u flag n x. bad_line z l)) ∙ fine₀.whole.line_good

  slots_good : bad_slots ss ≡ false
  slots_good = sym (told_as (λ z k d s u flag n x. bad_slots x)) ∙ fine₀.whole.slots_good

  in_line : st.index < length ss
  in_line = omega (arith, told_as (λ z k d s u flag n x. length x), length_slots st.lookup.shape l, placed.index_in)

  subtable_good : good_for kind T ≡ true
  subtable_good =
      sym (told_as (λ z k d s u flag n x. good_for k T)) ∙ one_good (good_for st.lookup.kind) lens b st.subtable placed.subtable_in fine₀.good.all_good

  said_is : said_on kind g ts l (place_of st) ≡ said_now l b lens st
  said_is =
      ap (λ (bad : Bool). unless ((bad, 1) ∷ []) ((call_at kind g T ss st.index).says ss)) line_good
      ∙ core_says g ss direction-good scale-good slots_good T st.index in_line kind subtable_good
      ∙ sym (told_as (λ z k d s u flag n x. (call_for k T d s u flag st.index n).says x))

  leaves_is : (call_at kind g T ss st.index).leaves ss ≡ (call_now T st).leaves (slots_now l st)
  leaves_is = core_leaves g kind T ss st.index ∙ sym (told_as (λ z k d s u flag n x. (call_for k T d s u flag st.index n).leaves x))

  line_is : line_on kind g ts l (place_of st) ≡ line_called l b lens st
  unfolding line_called
  line_is =
      ap₂ (λ (s : Said) (new : List Slot). line_after g.size s l new) said_is leaves_is
      ∙ ap (λ (z : ℕ). line_after z (said_now l b lens st) l ((call_now T st).leaves (slots_now l st))) (sym (told_as (λ z k d s u flag n x. z)))

  abbrev n : ℕ
  n = count g.size l

  abbrev stage : State → Stage
  stage = stage_of n (length lens)

  in_count : st.index < n
  in_count = omega (arith, in_line, length_slots (shape_of g.size l) l)

  stage_is : after n (length ts) (place_of st) (said_on kind g ts l (place_of st)) ≡ stage (called l b lens st).next
  unfolding called
  stage_is =
      ap₂ (λ (c : ℕ) (s : Said). after n c (place_of st) s) (length_subtables lens b) said_is
      ∙ next_stage n (length lens) (st.start + get_or lens st.subtable 0) (remembering T (slots_now l st) st) fine₀.goes_on in_count placed.subtable_in (said_now l b lens st)

  records_are : records (called l b lens st).records ≡ map record_of (hazards_of (said_on kind g ts l (place_of st)))
  unfolding called
  records_are = records_all (hazards_of (said_now l b lens st)) (is_fair placed).0 ∙ ap (λ (s : Said). map record_of (hazards_of s)) (sym said_is)

  -- the run from here is the records of this call, and the run from the next
  call_is : (k : ℕ) → run_in kind g ts (suc k) l (goes_on (place_of st))
      ≡ before (hazards_of (said_on kind g ts l (place_of st))) (run_in kind g ts k (line_called l b lens st) (stage (called l b lens st).next))
  call_is k = run_on kind g ts k l (place_of st) ∙ ap₂ (λ (m : List ℕ) (q : Stage). before (hazards_of (said_on kind g ts l (place_of st))) (run_in kind g ts k m q)) line_is stage_is

  few_hazards : length (hazards_of (said_on kind g ts l (place_of st))) ≤ 2
  few_hazards = omega (arith, ap (λ (s : Said). length (hazards_of s)) said_is, (is_fair placed).0)

  told_next : (called l b lens st).next.lookup ≡ st.lookup
  unfolding called
  told_next = kept_told _ (remembering T (slots_now l st) st) (said_now l b lens st)

  further : (called l b lens st).next.end ≡ None → st.index * length lens + st.subtable < (called l b lens st).next.index * length lens + (called l b lens st).next.subtable
  unfolding called
  further e =
      next_further n (length lens) _ (remembering T (slots_now l st) st) fine₀.goes_on in_count placed.subtable_in (said_now l b lens st)
      (subst (λ (x : ℕ). Fair st.index x (said_now l b lens st)) (told_as (λ z k d s u flag y x. length x) ∙ length_slots (shape_of g.size l) l) (is_fair placed)) e

-- ---- one turn: what isn't covered is passed over, and one call made
-- what a turn comes to, of a run that has so many calls left: a list of hazards, and fewer calls
pub record TurnRun (kind : Kind) (g : Settings) (b lens l : List ℕ) (st : State) (calls : ℕ) (t : Turned) (l' : List ℕ) : Type 0 where
  pub rest : ℕ
  pub hazards : List Range
  pub is_run : run_in kind g (subtables lens b) calls l (stage_of (count g.size l) (length lens) st)
      ≡ before hazards (run_in kind g (subtables lens b) rest l' (stage_of (count g.size l) (length lens) t.next))
  pub recorded : records t.records ≡ map record_of hazards
  pub few_hazards : length hazards + rest * 2 ≤ calls * 2
  pub fewer : t.next.end ≡ None → rest < calls
  pub nearer : t.next.end ≡ None → count g.size l * length lens - (t.next.index * length lens + t.next.subtable) < count g.size l * length lens - (st.index * length lens + st.subtable)
  pub steps : t.next.end ≡ None → count g.size l * length lens ≤ rest + (t.next.index * length lens + t.next.subtable)
  pub told : t.next.lookup ≡ st.lookup

module _ (g : Settings) (line₀ b lens : List ℕ) (kind : Kind) (direction-good : ltb 3 g.direction ≡ false) (scale-good : bad_scale g.s g.u ≡ false)
    (l : List ℕ) (as_long : length l ≡ length line₀) (st : State) (told : Told g line₀ st.lookup) (kind_is : st.lookup.kind ≡ kind) (fine : Fine l b lens st) where
  abbrev c : ℕ
  c = length lens

  abbrev n' : ℕ
  n' = count g.size l

  abbrev Comes : (calls : ℕ) (t : Turned) (l' : List ℕ) → Type 0
  Comes calls t l' = TurnRun kind g b lens l st calls t l'

  passing : (calls : ℕ) → n' * c ≤ calls + (st.index * c + st.subtable) → (p : Option Place) → p ≡ place_now l b lens st
      → Passing g kind b lens l calls st.index st.subtable st.attached p
  passing calls enough p e =
      subst (Passing g kind b lens l calls st.index st.subtable st.attached)
      (sym (e ∙ told_line l told kind_is as_long (λ z k d s u flag x. next_place x b lens st.index st.subtable st.start)))
      (passes g kind b lens l fine.good.one (length_subtables lens b) direction-good scale-good
      (sym (told_line l told kind_is as_long (λ z k d s u flag x. bad_line z l)) ∙ fine.whole.line_good) (sym (told_line l told kind_is as_long (λ z k d s u flag x. bad_slots x)) ∙ fine.whole.slots_good)
      (sym (told_line l told kind_is as_long (λ z k d s u flag x. every (good_for k) (subtables lens b))) ∙ fine.good.all_good)
      st.index st.subtable st.start fine.good.within fine.good.start_is calls st.attached enough)

  -- the call at the next covered place
  module _ (p : Place) (e : Some p ≡ place_now l b lens st) where
    abbrev here : State
    here = moved_to l st p.index p.subtable p.start

    abbrev ok : Placed l b lens here
    ok = is_placed fine p e

    inside : p.index < n'
    inside = in_count g line₀ b lens kind direction-good scale-good l as_long here told kind_is ok

    before_end : p.index * c + p.subtable < n' * c
    before_end = let whole : p.index + 1 ≤ n' = omega (arith, inside) in omega (arith, mul-le-mul_right c whole, suc-mul p.index c, ok.subtable_in)

    at_place : (calls : ℕ) → n' * c ≤ calls + (st.index * c + st.subtable) → (r : Passed g kind b lens l calls st.index st.subtable st.attached p.index p.subtable) → (q : ℕ) → r.rest ≡ q
        → Comes calls (called l b lens here) (line_called l b lens here)
    at_place calls enough r zero z = absurd (omega (arith, z, r.fewer, enough, before_end))
    at_place calls enough r (suc q) z =
        record {
          rest = q;
          hazards = hazards_of (said_on kind g (subtables lens b) l (place_of here));
          is_run =
              ap (run_in kind g (subtables lens b) calls l) (stage_goes n' c st fine.goes_on) ∙ r.same
              ∙ ap (λ (x : ℕ). run_in kind g (subtables lens b) x l (goes_on (place_of here))) z ∙ call_is g line₀ b lens kind direction-good scale-good l as_long here told kind_is ok q;
          recorded = records_are g line₀ b lens kind direction-good scale-good l as_long here told kind_is ok;
          few_hazards = omega (arith, few_hazards g line₀ b lens kind direction-good scale-good l as_long here told kind_is ok, r.not_more, z);
          fewer = λ on. omega (arith, r.not_more, z);
          nearer = λ on. omega (arith, r.not_more, r.fewer, before_end, further g line₀ b lens kind direction-good scale-good l as_long here told kind_is ok on);
          steps = λ on. omega (arith, z, r.fewer, enough, further g line₀ b lens kind direction-good scale-good l as_long here told kind_is ok on);
          told = told_next g line₀ b lens kind direction-good scale-good l as_long here told kind_is ok;
        }

  turn_run : (calls : ℕ) → n' * c ≤ calls + (st.index * c + st.subtable) → Comes calls (turn_of l b lens st) (line_of l b lens st)
  turn_run calls enough = by_place (place_now l b lens st) refl
    where
      by_place : (p : Option Place) → p ≡ place_now l b lens st → Comes calls (turn_of l b lens st) (line_of l b lens st)
      by_place None e =
          rw (turn_is fine None e, line_turned fine None e)
          (record {
            rest = calls;
            hazards = [];
            is_run =
                ap (run_in kind g (subtables lens b) calls l) (stage_goes n' c st fine.goes_on) ∙ passing calls enough None e
                ∙ sym (run_ended kind g (subtables lens b) calls l st.attached);
            recorded = refl;
            few_hazards = omega arith;
            fewer = λ z. absurd (cc);
            nearer = λ z. absurd (cc);
            steps = λ z. absurd (cc);
            told = refl;
          })
      by_place (Some p) e =
          let r = passing calls enough (Some p) e in
          rw (turn_is fine (Some p) e, line_turned fine (Some p) e) (at_place p e calls enough r r.rest refl)

-- ---- the loop
-- what holds at each turn, with `calls` calls left at most: what was done, and the run from here, are the whole run
pub record Loop (g : Settings) (line₀ b lens : List ℕ) (list₀ : List HazardRecord) (at : ℕ) (line : List ℕ) (list : List HazardRecord) (st : State) : Type 0 where
  pub calls : ℕ
  pub kind : Kind
  pub kind_is : kind_of g.kind ≡ Some kind
  pub not_refused : verdict g line₀ b lens (length list₀) ≡ done
  pub told : Told g line₀ st.lookup
  pub can_go : Next line b lens st
  pub at_most : at ≤ length list₀
  pub line_len : length line ≡ length line₀
  pub list_len : length list ≡ length list₀
  pub steps : st.end ≡ None → count g.size line₀ * length lens ≤ calls + (st.index * length lens + st.subtable)
  pub space : st.end ≡ None → at + calls * 2 ≤ length list₀
  pub same_count : at + length (run_in kind g (subtables lens b) calls line (stage_of (count g.size line₀) (length lens) st)).found ≡ length (run kind g (subtables lens b) line₀).found
  pub same_list : set_all list at (map record_of (run_in kind g (subtables lens b) calls line (stage_of (count g.size line₀) (length lens) st)).found) ≡ set_all list₀ 0 (map record_of (run kind g (subtables lens b) line₀).found)
  pub same_line : (run_in kind g (subtables lens b) calls line (stage_of (count g.size line₀) (length lens) st)).line ≡ (run kind g (subtables lens b) line₀).line
  pub same_last : (run_in kind g (subtables lens b) calls line (stage_of (count g.size line₀) (length lens) st)).last ≡ (run kind g (subtables lens b) line₀).last

-- how many turns a run takes at most from here on
abbrev pub turns_left : Settings → (line₀ lens : List ℕ) → State → ℕ
turns_left g line₀ lens st =
    if is_none st.end then suc (count g.size line₀ * length lens - (st.index * length lens + st.subtable)) else 0

module _ {g : Settings} {line₀ b lens : List ℕ} {list₀ : List HazardRecord} where
  -- ---- where it begins
  pub start : (st : State) → BegunWith g line₀ b lens (length list₀) st → Loop g line₀ b lens list₀ 0 line₀ list₀ st
  start st ok =
      record {
        calls = count g.size line₀ * length (subtables lens b);
        kind = st.lookup.kind;
        kind_is = ok.told.kind_is;
        not_refused = ok.not_refused;
        told = ok.told;
        can_go = begun_fine g line₀ b lens (length list₀) st ok;
        at_most = zero-le;
        line_len = refl;
        list_len = refl;
        steps = λ e. omega (arith, as_many);
        space = λ e. omega (arith, as_many, mul_assoc 2 (count g.size line₀) (length lens), verdict_room g line₀ b lens (length list₀) ok.not_refused);
        same_count = zero-add _ ∙ ap (λ (r : Run). length r.found) whole_is;
        same_list = ap (λ (r : Run). set_all list₀ 0 (map record_of r.found)) whole_is;
        same_line = ap (λ (r : Run). r.line) whole_is;
        same_last = ap (λ (r : Run). r.last) whole_is;
      }
    where
      as_many : count g.size line₀ * length (subtables lens b) ≡ count g.size line₀ * length lens
      as_many = ap (λ (c : ℕ). count g.size line₀ * c) (length_subtables lens b)

      whole_is : run_in st.lookup.kind g (subtables lens b) (count g.size line₀ * length (subtables lens b)) line₀ (stage_of (count g.size line₀) (length lens) st) ≡ run st.lookup.kind g (subtables lens b) line₀
      whole_is =
          ap (run_in st.lookup.kind g (subtables lens b) (count g.size line₀ * length (subtables lens b)) line₀)
          (ap (stage_of (count g.size line₀) (length lens)) ok.first
          ∙ subst (λ (n : ℕ). stage_of n (length lens) (first_state st.lookup (line_slots g.size line₀)) ≡ comes_to n 0 false) (length_slots (shape_of g.size line₀) line₀)
          (first_stage st.lookup (line_slots g.size line₀) (length lens) (is_fit g line₀ b lens (length list₀) ok.not_refused).one))

  -- ---- a turn
  module _ {at : ℕ} {line : List ℕ} {list : List HazardRecord} {st : State} (t : Loop g line₀ b lens list₀ at line list st) (h : st.end ≡ None) where
    pub fine : Fine line b lens st
    fine = t.can_go h

    kind_now : st.lookup.kind ≡ t.kind
    kind_now = let same : Some st.lookup.kind ≡ Some t.kind = sym t.told.kind_is ∙ t.kind_is in cc

    -- what it comes to
    pub comes : TurnRun t.kind g b lens line st t.calls (turn_of line b lens st) (line_of line b lens st)
    comes =
        let good = direction_scale_clear g line₀ b lens (length list₀) t.not_refused in
        turn_run g line₀ b lens t.kind good.0 good.1 line t.line_len st t.told kind_now fine t.calls
        (subst (λ (x : ℕ). x / g.size * length lens ≤ t.calls + (st.index * length lens + st.subtable)) (sym t.line_len) (t.steps h))

    pub enough : at + length (records (turn_of line b lens st).records) ≤ length list
    enough =
        omega (arith, ap length comes.recorded, length-map comes.hazards record_of, comes.few_hazards, t.space h, t.list_len)

    -- where it leads
    abbrev q : Turned
    q = turn_of line b lens st

    abbrev rs : List HazardRecord
    rs = records q.records

    abbrev line' : List ℕ
    line' = line_of line b lens st

    pub next : Next line' b lens q.next → Loop g line₀ b lens list₀ (at + length rs) line' (set_all list at rs) q.next
    next can_go =
        record {
          calls = comes.rest;
          kind = t.kind;
          kind_is = t.kind_is;
          not_refused = t.not_refused;
          told = subst (Told g line₀) (sym comes.told) t.told;
          can_go = can_go;
          at_most = omega (arith, enough, t.list_len);
          line_len = turn_length fine ∙ t.line_len;
          list_len = length_set_all list at rs ∙ t.list_len;
          steps = λ z. subst (λ (x : ℕ). x / g.size * length lens ≤ comes.rest + (q.next.index * length lens + q.next.subtable)) t.line_len (comes.steps z);
          space = λ z. omega (arith, ap length comes.recorded, length-map hs record_of, t.space h, comes.few_hazards);
          same_count =
              add_assoc at (length rs) (length rest.found) ∙ ap (λ (n : ℕ). at + (n + length rest.found)) (ap length comes.recorded ∙ length-map hs record_of)
              ∙ ap (λ (n : ℕ). at + n) (sym (length-append hs rest.found)) ∙ ap (λ (x : Run). at + length x.found) (sym is_run) ∙ t.same_count;
          same_list =
              set_all-++ list at rs (map record_of rest.found)
              ∙ ap (λ (x : List HazardRecord). set_all list at (x ++ map record_of rest.found)) comes.recorded
              ∙ ap (set_all list at) (sym (map_append hs rest.found))
              ∙ ap (λ (x : Run). set_all list at (map record_of x.found)) (sym is_run) ∙ t.same_list;
          same_line = ap (λ (x : Run). x.line) (sym is_run) ∙ t.same_line;
          same_last = ap (λ (x : Run). x.last) (sym is_run) ∙ t.same_last;
        }
      where
        hs : List Range
        hs = comes.hazards

        rest : Run
        rest = run_in t.kind g (subtables lens b) comes.rest line' (stage_of (count g.size line₀) (length lens) q.next)

        is_run : run_in t.kind g (subtables lens b) t.calls line (stage_of (count g.size line₀) (length lens) st) ≡ before hs rest
        is_run =
            subst (λ (x : ℕ). run_in t.kind g (subtables lens b) t.calls line (stage_of (x / g.size) (length lens) st) ≡ before hs (run_in t.kind g (subtables lens b) comes.rest line' (stage_of (x / g.size) (length lens) q.next)))
            t.line_len comes.is_run

    -- and it is nearer to the end
    pub turns_fall : turns_left g line₀ lens q.next < turns_left g line₀ lens st
    turns_fall = fall q.next.end refl
      where
        now_left : turns_left g line₀ lens st ≡ suc (count g.size line₀ * length lens - (st.index * length lens + st.subtable))
        now_left = rw h refl

        fall : (o : Option End) → q.next.end ≡ o → (if is_none o then suc (count g.size line₀ * length lens - (q.next.index * length lens + q.next.subtable)) else 0) < turns_left g line₀ lens st
        fall None e =
            let near = subst (λ (x : ℕ). x / g.size * length lens - (q.next.index * length lens + q.next.subtable) < x / g.size * length lens - (st.index * length lens + st.subtable)) t.line_len (comes.nearer e) in
            omega (arith, near, now_left)
        fall (Some end) e = omega (arith, now_left)

  -- ---- what it comes to
  -- once it has ended, the run of the definition is over
  module _ {at : ℕ} {line : List ℕ} {list : List HazardRecord} {st : State} (t : Loop g line₀ b lens list₀ at line list st) (end : End) (ends : st.end ≡ Some end) where
    stands : run_in t.kind g (subtables lens b) t.calls line (stage_of (count g.size line₀) (length lens) st) ≡ standing line (stage_at end st)
    stands = ap (λ (o : Option End). run_in t.kind g (subtables lens b) t.calls line (stage_by (count g.size line₀) (length lens) o st)) ends ∙ run_over t.kind g (subtables lens b) t.calls line end st

    count_same : at ≡ length (run t.kind g (subtables lens b) line₀).found
    count_same = sym (add-zero at) ∙ ap (λ (x : Run). at + length x.found) (sym stands) ∙ t.same_count

    last_same : stage_at end st ≡ (run t.kind g (subtables lens b) line₀).last
    last_same = ap (λ (x : Run). x.last) (sym stands) ∙ t.same_last

    list_same : list ≡ map record_of (run t.kind g (subtables lens b) line₀).found ++ drop (length (run t.kind g (subtables lens b) line₀).found) list₀
    unfolding set_all
    list_same =
        ap (λ (x : Run). set_all list at (map record_of x.found)) (sym stands) ∙ t.same_list
        ∙ front list₀ (map record_of (run t.kind g (subtables lens b) line₀).found) (omega (arith, length-map (run t.kind g (subtables lens b) line₀).found record_of, count_same, t.at_most))
        ∙ ap (λ (n : ℕ). map record_of (run t.kind g (subtables lens b) line₀).found ++ drop n list₀) (length-map (run t.kind g (subtables lens b) line₀).found record_of)

    -- what code answers is what the stage says
    answers_so : {r : Ran} → said_run (Ok r) ≡ said_at (stage_at end st) at → LookupCall g line₀ b lens list₀ (Ok r) line list
    answers_so says =
        record {
          answer = says ∙ ap₂ said_at last_same count_same ∙ sym (ap₂ (λ (s : Said) (o : Option Kind). run_said s (run_for o g (subtables lens b) line₀)) t.not_refused t.kind_is);
          line = ap (λ (x : Run). x.line) (sym stands) ∙ t.same_line ∙ sym (ap₂ (λ (s : Said) (o : Option Kind). run_line s (run_for o g (subtables lens b) line₀) line₀) t.not_refused t.kind_is);
          list_is = list_same ∙ sym (ap₂ (λ (s : Said) (o : Option Kind). run_list s (run_for o g (subtables lens b) line₀) list₀) t.not_refused t.kind_is);
        }

  module _ {at : ℕ} {line : List ℕ} {list : List HazardRecord} {st : State} (t : Loop g line₀ b lens list₀ at line list st) where
    pub over_done : st.end ≡ Some Done → LookupCall g line₀ b lens list₀ (Ok (RanDone at st.attached)) line list
    over_done ends = answers_so t Done ends refl

    pub over_endless : st.end ≡ Some Endless → LookupCall g line₀ b lens list₀ (Ok (RanEndless st.index at)) line list
    over_endless ends = answers_so t Endless ends refl

-- where code's loop begins, and what its turns ask
pub ruleset of_loop = (start, fine)

-- a turn leaves the line as long as it was
pub length_line : (line b lens : List ℕ) (st : State) → Fine line b lens st → length (line_of line b lens st) ≡ length line
length_line line b lens st ok = turn_length ok
