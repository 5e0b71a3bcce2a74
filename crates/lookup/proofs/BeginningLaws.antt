-- Where a run begins, by all that is checked before: each way through the checks, and what holds once none refuses. Assumes nothing.
use Rattle.std.specs.Prelude.{None, Option, Some, if◌then◌else◌}
use mathlib.Core.Path.{◌≡◌, refl}
use mathlib.Core.Bool.{Bool, true, false, not, ◌||◌}
use mathlib.Core.List.{List, [], ◌∷◌}
use Prim.Native.Nat.{ℕ, ◌*◌, ◌≤◌, ◌<◌}
use native.Mathlib.Omega.{arith}
use borrow.Author.Tests.{eqb-true, le-ltb, lt-ltb, ltb-false, not-false}
use lib.Dec.{eqb, ltb}
use lib.ListN.{get_or-replicate, length}
use Rattle.ints.proofs.TestLaws.{clash, or_false}
use Rattle.slots.specs.Checks.{bad_line}
use Rattle.slots.specs.Slot.{Slot}
use Rattle.slots.specs.Line.{count, line_slots, slots}
use Rattle.slots.proofs.LineLaws.{length_slots, shapely}
use Rattle.answers.specs.Said.{done, Said, unless}
use Rattle.answers.specs.declared.Neighbour.{Neighbour}
use Rattle.answers.specs.declared.Neighbour.TheVariants.{Missing}
use Rattle.answers.proofs.TestLaws.{clear_first, clear_parts}
use Rattle.ints.specs.Scale.{bad_scale}
use Rattle.checks.specs.Arguments.{slot_tests}
use Rattle.checks.specs.Ranges.{bad_slots}
use Rattle.targets.specs.declared.mark_pos.Target.{Target}
use Rattle.targets.proofs.PlaceLaws.{searched_first}
use Rattle.lookup.specs.Kinds.{kind_of}
use Rattle.lookup.specs.Neighbours.{neighbour_for}
use Rattle.lookup.specs.Refusals.{bad_lookup, unfit, verdict}
use Rattle.lookup.specs.Subtables.{most_subtables, subtable, subtables, total}
use Rattle.lookup.specs.code.Beginning.{BegunWith, first_state, no_memory, starts, Told}
use Rattle.lookup.specs.code.Calls.{finds, RightAt, target_of, unsearched}
use Rattle.lookup.specs.code.Run.{Next}
use Rattle.lookup.specs.declared.kinds.Kind.{Kind}
use Rattle.lookup.specs.declared.state.End.TheVariants.{Done}
use Rattle.lookup.specs.declared.state.Lookup.{Lookup}
use Rattle.lookup.specs.declared.state.Settings.{Settings}
use Rattle.lookup.specs.declared.state.State.{State}
use Rattle.lookup.proofs.SubtableLaws.{total_none}

-- ---- where a run begins, by code's test of the line
module _ (look : Lookup) (l : List ℕ) where
  pub first_on : 0 < look.shape.count → (near : Neighbour) → near ≡ neighbour_for look.kind (slots look.shape l) 0
      → starts None near look ≡ first_state look (slots look.shape l)
  first_on h near is = rw (length_slots look.shape l, lt-ltb 0 look.shape.count h, is)

  pub first_end : look.shape.count ≤ 0 → starts (Some Done) (Missing 0) look ≡ first_state look (slots look.shape l)
  first_end h = rw (length_slots look.shape l, le-ltb 0 look.shape.count h)

-- ---- refusal 8
-- what is known where the subtables aren't refused with 8
pub record Fit (b lengths : List ℕ) (n places : ℕ) : Type 0 where
  pub one : 1 ≤ length lengths
  pub few : length lengths ≤ most_subtables
  pub adds_up : total lengths ≡ length b
  pub room : 2 * n * length lengths ≤ places

pub fit : (b lengths : List ℕ) (n places : ℕ) → unfit b lengths n places ≡ false → Fit b lengths n places
fit b lengths n places e =
    let c = length lengths in
    let same = eqb (total lengths) (length b) in
    let x = or_false (ltb c 1) (ltb most_subtables c || (not same || ltb places (2 * n * c))) e in
    let y = or_false (ltb most_subtables c) (not same || ltb places (2 * n * c)) x.1 in
    let w = or_false (not same) (ltb places (2 * n * c)) y.1 in
    record {
      one = ltb-false c 1 x.0;
      few = ltb-false most_subtables c y.0;
      adds_up = eqb-true (total lengths) (length b) (not-false same w.0);
      room = ltb-false places (2 * n * c) w.1;
    }

-- ---- no search has been made, so what was found before slot 0 is right
found_none : (o : Option Target) (t : List ℕ) (ss : List Slot) → None ≡ finds o t ss 0
found_none (Some target) t ss = searched_first target t ss
found_none None t ss = refl

right_first : (kind : Kind) (t : List ℕ) (ss : List Slot) (k : ℕ) → k < most_subtables → RightAt no_memory k kind t ss 0
right_first kind t ss k h =
    rw (get_or-replicate most_subtables k unsearched unsearched h)
    (record { not_past = omega arith; found_is = found_none (target_of kind) t ss })

-- the kind of a lookup type that has one
pub record Typed (n : ℕ) : Type 0 where
  pub kind : Kind
  pub is : kind_of n ≡ Some kind

typed : (n : ℕ) (o : Option Kind) (ts : List (List ℕ)) → kind_of n ≡ o → bad_lookup o ts ≡ false → Typed n
typed n (Some kind) ts e good = record { kind = kind; is = e }
typed n None ts e good = clash (cc)

-- ---- what is said of a run before it begins
module _ (g : Settings) (l b lengths : List ℕ) (places : ℕ) where
  abbrev ss : List Slot
  ss = line_slots g.size l

  abbrev bad_tables : Bool
  bad_tables = bad_lookup (kind_of g.kind) (subtables lengths b)

  -- refusals 2 to 4, with refusal 1, and those that follow
  abbrev tests : List (Bool × ℕ)
  tests = slot_tests ss g.direction (bad_scale g.s g.u)

  abbrev first_tests : List (Bool × ℕ)
  first_tests = (bad_line g.size l, 1) ∷ tests

  abbrev last_tests : List (Bool × ℕ)
  last_tests = (unfit b lengths (count g.size l) places, 8) ∷ (bad_tables, 6) ∷ []

  abbrev told : Said
  told = verdict g l b lengths places

  -- ---- what is known where none refuses
  module _ (e : told ≡ done) where
    early_clear : (bad_line g.size l ≡ false) × (unless tests done ≡ done)
    early_clear = clear_first (bad_line g.size l) 1 tests (clear_parts first_tests last_tests e).0

    late_clear : (unfit b lengths (count g.size l) places ≡ false) × (unless ((bad_tables, 6) ∷ []) done ≡ done)
    late_clear = clear_first (unfit b lengths (count g.size l) places) 8 ((bad_tables, 6) ∷ []) (clear_parts first_tests last_tests e).1

    pub direction_scale_clear : (ltb 3 g.direction ≡ false) × (bad_scale g.s g.u ≡ false)
    direction_scale_clear =
        let x = clear_first (ltb 3 g.direction) 2 ((bad_scale g.s g.u, 3) ∷ (bad_slots ss, 4) ∷ []) early_clear.1 in
        (x.0, (clear_first (bad_scale g.s g.u) 3 ((bad_slots ss, 4) ∷ []) x.1).0)

    slots_good : bad_slots ss ≡ false
    slots_good = (clear_first (bad_slots ss) 4 [] (clear_parts ((ltb 3 g.direction, 2) ∷ (bad_scale g.s g.u, 3) ∷ []) ((bad_slots ss, 4) ∷ []) early_clear.1).1).0

    tables_good : bad_tables ≡ false
    tables_good = (clear_first bad_tables 6 [] late_clear.1).0

    pub is_fit : Fit b lengths (count g.size l) places
    is_fit = fit b lengths (count g.size l) places late_clear.0

    pub verdict_room : 2 * count g.size l * length lengths ≤ places
    verdict_room = is_fit.room

    pub verdict_kind : Typed g.kind
    verdict_kind = typed g.kind (kind_of g.kind) (subtables lengths b) refl tables_good

    module _ (k : Lookup) (told_so : Told g l k) where
      abbrev began : Bool → State
      began t = if t then starts None (neighbour_for k.kind ss 0) k else starts (Some Done) (Missing 0) k

      -- all that a turn needs holds where it begins
      first_fine : (t : Bool) → Next l b lengths (began t)
      first_fine true on =
          record {
            goes_on = refl;
            whole = record {
              line_good = rw told_so.shape_is early_clear.0;
              shape_is = rw told_so.shape_is refl;
              fits = rw told_so.shape_is (shapely g.size l early_clear.0);
              slots_good = rw told_so.shape_is slots_good;
            };
            near = record { not_past = omega arith; near_is = rw told_so.shape_is refl };
            good = record {
              one = is_fit.one;
              few = is_fit.few;
              remembered = refl;
              adds_up = is_fit.adds_up;
              within = omega arith;
              start_is = total_none lengths;
              all_good = not-false _ (rw told_so.kind_is at tables_good);
            };
            right = λ j h. right_first k.kind (subtable lengths b j) (slots k.shape l) j (omega (arith, is_fit.few));
          }
      first_fine false on = absurd (cc)

  -- whenever a run begins, all that a turn needs holds
  pub begun_fine : (st : State) → BegunWith g l b lengths places st → Next l b lengths st
  begun_fine st ok = rw ok.first (first_fine ok.not_refused st.lookup ok.told (ltb 0 (length ss)))
