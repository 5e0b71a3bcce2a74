-- An applying call, once its checks refuse nothing: it is its core. Assumes nothing.
use Rattle.std.specs.Prelude.{Err, Ok, if◌then◌else◌}
use mathlib.Core.Path.{◌≡◌, refl, sym, ap, ◌∙◌}
use mathlib.Core.Bool.{Bool, true, false, not}
use mathlib.Core.List.{List, [], ◌∷◌, ◌++◌}
use Prim.Native.Nat.{ℕ, ◌<◌}
use lib.ListN.{length}
use Rattle.ints.specs.BigEndian.{AllBytes}
use Rattle.ints.specs.Scale.{bad_scale}
use Rattle.slots.specs.Axis.{direction_of}
use Rattle.slots.specs.Checks.{bad_line}
use Rattle.slots.specs.Slot.{Slot}
use Rattle.slots.specs.code.Shape.{Inside}
use Rattle.slots.specs.Line.{line_slots, shape_of, slots}
use Rattle.slots.specs.declared.axis.Direction.{Direction}
use Rattle.slots.specs.declared.frame.Frame.{Frame}
use Rattle.slots.specs.declared.shape.Shape.{Shape}
use Rattle.slots.proofs.LineLaws.{length_slots, shapely}
use Rattle.answers.specs.Said.{done, refusal_number, refused, Said, unless}
use Rattle.answers.specs.Outcome.{answer_to, Call, Made}
use Rattle.answers.specs.code.Effect.{MadeOn}
use Rattle.answers.specs.declared.Refusal.{Refusal}
use Rattle.answers.proofs.OutcomeLaws.{made_by, outcome_refused}
use Rattle.answers.proofs.TestLaws.{clear_first, clear_parts, go_on, of_unless, refused_early}
use Rattle.checks.specs.code.Checked.{ApplyingChecked}
use Rattle.checks.specs.Neighbours.{bad_place}
use Rattle.checks.specs.Arguments.{applying, call_tests, slot_tests}
use Rattle.checks.specs.declared.neighbours.Beside.{Beside}
use Rattle.gpos.proofs.NeighbourLaws.{in_place, Near}

-- the call: its numbers, what is beside its index, whether its subtable is good, and its core by the direction
pub record Parts : Type 0 where
  pub direction : ℕ
  pub s : ℕ
  pub u : ℕ
  pub index : ℕ
  pub beside : Beside
  pub good : Bool
  pub core : Direction → Call

abbrev pub call_of : Parts → Call
call_of p = applying p.direction p.s p.u (λ ss. bad_place (length ss) p.index p.beside) (not p.good) p.core

-- what holds of each refusal, and of what the core says where the index is in its place, holds of the answer
pub of_made : (p : Parts) (z : ℕ) (l : List ℕ) (P : Said → Type 0) → ((n : ℕ) → P (refused n))
    → ((p.index < length (line_slots z l)) × Near (length (line_slots z l)) p.index p.beside → P ((p.core (direction_of p.direction)).says (line_slots z l)))
    → {given : Said} {l' : List ℕ} → Made (call_of p) z l given l' → P given
of_made p z l P refuses follows o =
    let ss = line_slots z l in
    let first : List (Bool × ℕ) = (bad_line z l, 1) ∷ slot_tests ss p.direction (bad_scale p.s p.u) in
    let last : List (Bool × ℕ) = (bad_place (length ss) p.index p.beside, 5) ∷ (not p.good, 6) ∷ [] in
    rw o.answer
    (of_unless P refuses (first ++ last) ((p.core (direction_of p.direction)).says ss) (λ e.
    follows (in_place (length ss) p.index p.beside (clear_first _ 5 ((not p.good, 6) ∷ []) (clear_parts first last e).1).0)))

-- a last test that doesn't hold says nothing
without_last : (n : ℕ) (a : List (Bool × ℕ)) → unless (a ++ ((false, n) ∷ [])) done ≡ unless a done
without_last n [] = refl
without_last n (t ∷ a) = ap (λ (s : Said). if t.0 then refused t.1 else s) (without_last n a)

-- what the checks that come before the subtable's find, where they refuse nothing
abbrev shape : Shape × Frame × Unit {0} → Shape
shape x = x.0

-- ---- they found something of the line l
module _ (p : Parts) (z : ℕ) (l : List ℕ) where
  abbrev ss : List Slot
  ss = line_slots z l

  abbrev core : Call
  core = p.core (direction_of p.direction)

  -- refusals 2 to 5, all before 6, and 6
  abbrev tests : List (Bool × ℕ)
  tests = call_tests ss p.direction p.s p.u (bad_place (length ss) p.index p.beside)

  abbrev first : List (Bool × ℕ)
  first = (bad_line z l, 1) ∷ tests

  abbrev last : List (Bool × ℕ)
  last = (not p.good, 6) ∷ []

  refuse : (n : ℕ) → answer_to (call_of p) z l ≡ refused n → Made (call_of p) z l (refused n) l
  refuse = outcome_refused z l (answer_to (call_of p) z l) ((call_of p).leaves ss)

  -- they refuse
  pub refuses : (r : Refusal) → ApplyingChecked shape z l p.direction p.s p.u p.index p.beside false (Err r) → Made (call_of p) z l (refused (refusal_number r)) l
  refuses r found = refuse (refusal_number r) (refused_early last (core.says ss) first (refusal_number r) (sym (without_last 6 first) ∙ found))

  -- they refuse nothing
  module _ (x : Shape × Frame × Unit {0}) (found : ApplyingChecked shape z l p.direction p.s p.u p.index p.beside false (Ok x)) where
    nothing : unless first done ≡ done
    nothing = sym (without_last 6 first) ∙ found.0

    clear_tests : (bad_line z l ≡ false) × (unless tests done ≡ done)
    clear_tests = clear_first (bad_line z l) 1 tests nothing

    -- all that the core asks
    pub placed : Inside (shape x) l p.index × Near (shape x).count p.index p.beside
    placed =
        let long : length ss ≡ (shape x).count = length_slots (shape_of z l) l ∙ sym (ap (λ (v : Shape). v.count) found.1) in
        let place = clear_first (bad_place (length ss) p.index p.beside) 5 [] (clear_parts (slot_tests ss p.direction (bad_scale p.s p.u)) ((bad_place (length ss) p.index p.beside, 5) ∷ []) clear_tests.1).1 in
        let near = in_place (shape x).count p.index p.beside (ap (λ (n : ℕ). bad_place n p.index p.beside) (sym long) ∙ place.0) in
        (record { fits = rw found.1 (shapely z l clear_tests.0); below = near.0 }, near.1)

    -- a bad subtable is refused
    pub bad_subtable : p.good ≡ false → Made (call_of p) z l (refused 6) l
    bad_subtable bad = refuse 6 (go_on last (core.says ss) first nothing ∙ rw bad refl)

    -- of a good one, what the core said and left is what the call says and leaves
    pub made : p.good ≡ true → (l' : List ℕ) (given : Said) → AllBytes l → AllBytes l' → length l' ≡ length l → MadeOn core (slots (shape x) l) given (slots (shape x) l')
        → Made (call_of p) z l given l'
    made good l' given byte byte' k by_core =
        let followed : (call_of p).says ss ≡ core.says ss = go_on last (core.says ss) tests clear_tests.1 ∙ rw good refl in
        let says : (call_of p).says (slots (shape x) l) ≡ core.says (slots (shape x) l) = rw found.1 followed in
        made_by (call_of p) z l clear_tests.0 l' given found.1 byte byte' k (rw says by_core)
