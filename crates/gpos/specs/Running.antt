-- Running a lookup: the single calls, made one after another. Assumes nothing.
use Rattle.std.specs.Prelude.{None, Option, Result, Some}
use Rattle.std.specs.Prelude.{Bool, false, ◌||◌, List, [], ◌++◌, map, ◌≡◌, ℕ, zero, suc, ◌+◌, ◌*◌, ltb, drop, get_or, length, if◌then◌else◌}
use Rattle.slots.specs.Line.{count, line_slots}
use Rattle.slots.specs.Slot.{Slot}
use Rattle.answers.specs.Outcome.{answer_to, Call, line_after}
use Rattle.answers.specs.Said.{applied, declined, done, hazards_of, not_run, ran, Range, refused, Said, said_run, SaidRun}
use Rattle.answers.specs.Said.{stopped}
use Rattle.answers.specs.declared.Ran.{Ran}
use Rattle.answers.specs.declared.WiderRefusal.{WiderRefusal}
use Rattle.targets.specs.declared.mark_pos.Target.TheVariants.{Base, Ligature}
use Rattle.targets.specs.declared.place.Way.TheVariants.{Search, Earlier}
use Rattle.records.specs.Records.{record_of}
use Rattle.records.specs.declared.HazardRecord.{HazardRecord}
use Rattle.lookup.specs.Kinds.{kind_of}
use Rattle.lookup.specs.Neighbours.{previous, second}
use Rattle.lookup.specs.Refusals.{verdict}
use Rattle.lookup.specs.Subtables.{subtables}
use Rattle.lookup.specs.declared.kinds.Kind.{Kind}
use Rattle.lookup.specs.declared.kinds.Kind.TheVariants.{Single, Pair, Cursive, MarkBase, MarkLigature, MarkMark}
use Rattle.lookup.specs.declared.state.Settings.{Settings}
use Rattle.gpos.specs.SinglePos.{single}
use Rattle.gpos.specs.PairPos.{pair}
use Rattle.gpos.specs.CursivePos.{cursive}
use Rattle.gpos.specs.MarkPos.{mark}

-- ---- where a run stands
-- the slot that is next, the subtable that is tried there, and whether a call has attached
pub record Place : Type 0 where
  pub index : ℕ
  pub subtable : ℕ
  pub attached : Bool

abbrev pub place : ℕ → ℕ → Bool → Place
place i k a = record { index = i; subtable = k; attached = a }

-- the run goes on at a place, is at the line's end, or was stopped by refusal 7 at a slot
pub data Stage : Type 0 where
  goes_on : (at : Place) → Stage
  at_end : (attached : Bool) → Stage
  stopped_at : (index : ℕ) → Stage

-- it comes to slot i of n, where the first subtable is tried, whether or not the slot is seen; or to the line's end
abbrev pub comes_to : ℕ → ℕ → Bool → Stage
comes_to n i a = if ltb i n then goes_on (place i 0 a) else at_end a

-- After a call that said so, in a line of n slots, with c subtables: one that is applied wins, and the run goes on at
-- its next index; after a decline the next subtable is tried, and after the last the index goes up by one; a refusal,
-- which can only be 7, stops it. No such call says done.
abbrev pub after : ℕ → ℕ → Place → Said → Stage
after n c p (applied next hs a) = comes_to n next (p.attached || a)
after n c p (declined hs) =
    if ltb (p.subtable + 1) c then goes_on (place p.index (p.subtable + 1) p.attached)
    else comes_to n (p.index + 1) p.attached
after n c p (refused m) = stopped_at p.index
after n c p done = stopped_at p.index

-- ---- the single calls
-- the call for slot i of the slots ss with the subtable t, and with the neighbours that the seen bits give
abbrev pub call_at : Kind → Settings → (t : List ℕ) (ss : List Slot) (i : ℕ) → Call
call_at Single g t ss i = single t g.direction g.s g.u i
call_at Pair g t ss i = pair t g.direction g.s g.u i (second ss i)
call_at Cursive g t ss i = cursive t g.direction g.s g.u i (previous ss i) g.flag
call_at MarkBase g t ss i = mark (Search Base) t g.direction g.s g.u i
call_at MarkLigature g t ss i = mark (Search Ligature) t g.direction g.s g.u i
call_at MarkMark g t ss i = mark (Earlier (previous ss i)) t g.direction g.s g.u i

-- what a run comes to: the hazards in the order in which they arose, the line, and where it stands
pub record Run : Type 0 where
  pub found : List Range
  pub line : List ℕ
  pub last : Stage

-- nothing more happens
abbrev pub standing : List ℕ → Stage → Run
standing l st = record { found = []; line = l; last = st }

-- a run before which these hazards arose
abbrev pub before : List Range → Run → Run
before hs r = record { found = hs ++ r.found; line = r.line; last = r.last }

-- a lookup of this kind, with these subtables
module _ (kind : Kind) (g : Settings) (ts : List (List ℕ)) where
  -- the call that is made on the line l at a place
  abbrev pub call_on : List ℕ → Place → Call
  call_on l p = call_at kind g (get_or ts p.subtable []) (line_slots g.size l) p.index

  -- what it says, by its contract
  abbrev pub said_on : List ℕ → Place → Said
  said_on l p = answer_to (call_on l p) g.size l

  -- the line that it leaves, by its contract
  abbrev pub line_on : List ℕ → Place → List ℕ
  line_on l p = line_after g.size (said_on l p) l ((call_on l p).leaves (line_slots g.size l))

  -- at most n single calls, one after another
  unfoldable pub run_in : ℕ → List ℕ → Stage → Run
  run_in zero l st = standing l st
  run_in (suc n) l (goes_on p) =
      before (hazards_of (said_on l p)) (run_in n (line_on l p) (after (count g.size l) (length ts) p (said_on l p)))
  run_in (suc n) l (at_end a) = standing l (at_end a)
  run_in (suc n) l (stopped_at i) = standing l (stopped_at i)

  -- as many as slots times subtables are enough
  abbrev pub run : List ℕ → Run
  run l = run_in (count g.size l * length ts) l (comes_to (count g.size l) 0 false)

-- of a lookup type that is none of the six there is no run
abbrev pub run_for : Option Kind → Settings → List (List ℕ) → List ℕ → Run
run_for (Some kind) g ts l = run kind g ts l
run_for None g ts l = standing l (at_end false)

-- ---- the contract
-- what a run says at its end, after so many hazards; it is never left while it goes on
abbrev pub said_at : Stage → ℕ → SaidRun
said_at (at_end a) n = ran n a
said_at (stopped_at i) n = stopped i n
said_at (goes_on p) n = stopped p.index n

-- what is said, by the verdict before it begins, which is a refusal or done
abbrev pub run_said : Said → Run → SaidRun
run_said (refused n) r = not_run n
run_said done r = said_at r.last (length r.found)
run_said (applied n hs a) r = not_run 0
run_said (declined hs) r = not_run 0

-- the line afterwards: a refusal leaves it
abbrev pub run_line : Said → Run → List ℕ → List ℕ
run_line (refused n) r l = l
run_line done r l = r.line
run_line (applied n hs a) r l = l
run_line (declined hs) r l = l

-- the list afterwards: the records at its front, and behind them what it held; a refusal leaves it
abbrev pub run_list : Said → Run → List HazardRecord → List HazardRecord
run_list (refused n) r list = list
run_list done r list = map record_of r.found ++ drop (length r.found) list
run_list (applied n hs a) r list = list
run_list (declined hs) r list = list

-- the run of a lookup over the line l, with the subtables of the buffer b by their lengths
abbrev pub run_of : Settings → (l b lengths : List ℕ) → Run
run_of g l b lengths = run_for (kind_of g.kind) g (subtables lengths b) l

-- running the lookup over the line l, with the subtables of the buffer b by their lengths and a list lent for the
-- records, answered r and left the line l' and the list list'
pub record LookupCall (g : Settings) (l b lengths : List ℕ) (list : List HazardRecord) (r : Result Ran WiderRefusal) (l' : List ℕ)
    (list' : List HazardRecord) : Type 0 where
  pub answer : said_run r ≡ run_said (verdict g l b lengths (length list)) (run_of g l b lengths)
  pub line : l' ≡ run_line (verdict g l b lengths (length list)) (run_of g l b lengths) l
  pub list_is : list' ≡ run_list (verdict g l b lengths (length list)) (run_of g l b lengths) list
