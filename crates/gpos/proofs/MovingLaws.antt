-- The ways through a move: refused by the checks of its line or by the target, or done. Assumes nothing.
use Rattle.std.specs.Prelude.{Ok}
use mathlib.Core.Path.{◌≡◌, refl, sym, ap, ◌∙◌}
use mathlib.Core.Bool.{Bool, true, false, not, ◌||◌}
use mathlib.Core.List.{List, [], ◌∷◌}
use Prim.Native.Nat.{ℕ, ◌*◌, ◌≤◌}
use native.Mathlib.Nat.{mul-div_cancel, mul-le-mul_left}
use native.Mathlib.Omega.{arith}
use borrow.Author.Tests.{eq-eqb}
use lib.Dec.{eqb}
use lib.ListN.{length}
use Rattle.ints.specs.BigEndian.{AllBytes}
use Rattle.slots.specs.Checks.{bad_line, most_slots}
use Rattle.slots.specs.Line.{bytes, count, line_slots, shape_of, shape_with, slots}
use Rattle.slots.specs.code.Shape.{Fits}
use Rattle.slots.specs.Slot.{known, Slot, slot_size}
use Rattle.slots.specs.declared.shape.Shape.{Shape}
use Rattle.slots.proofs.LineLaws.{from_slots, line_short}
use Rattle.slots.proofs.SlotLaws.{size_wide}
use Rattle.answers.specs.Outcome.{Outcome}
use Rattle.answers.specs.Said.{done, Said, unless}
use Rattle.answers.proofs.OutcomeLaws.{outcome_done}
use Rattle.answers.proofs.TestLaws.{go_on}
use Rattle.checks.specs.Ranges.{bad_slots}
use Rattle.checks.specs.code.Checked.{LineChecked}
use Rattle.checks.proofs.CheckLaws.{Clear, clear}
use Rattle.gpos.specs.Moving.{move_said}

-- a target of n slots of y bytes
module _ (y : ℕ) (size : known y ≡ true) (n : ℕ) (t : List ℕ) (is : length t ≡ n * y) where
  has_many : count y t ≡ n
  has_many = rw is (mul-div_cancel n (omega (arith, size_wide y size)))

  pub target_fits : Fits (shape_with y n) t
  target_fits = record { wide = size_wide y size; whole = is; few = omega (arith, is, mul-le-mul_left n (size_wide y size)) }

  -- what its slots are decides its bytes
  pub target_bytes : (ss : List Slot) → AllBytes t → slots (shape_with y n) t ≡ ss → t ≡ bytes y ss
  target_bytes ss b e =
      let shape : shape_with y n ≡ shape_of y t = ap (shape_with y) (sym has_many) in
      from_slots y size t ss (rw (sym shape) target_fits) b (ap (λ (w : Shape). slots w t) (sym shape) ∙ e)

-- a line of slots that is moved has few of them
pub few_slots : (l : List ℕ) (n : ℕ) → Fits (shape_with slot_size n) l → bad_line slot_size l ≡ false → n ≤ most_slots
few_slots l n f good = omega (arith, f.whole, line_short slot_size l good)

-- what is said of the slots of a line of such slots, refusal 4 alone
abbrev pub line_said : ℕ → List ℕ → Said
line_said z l = unless ((bad_slots (line_slots z l), 4) ∷ []) done

-- what the checks of such a line found, where they refuse nothing
pub line_clear : (z : ℕ) (l : List ℕ) (w : Shape) → LineChecked z l (Ok w) → Clear z l (line_said z l) w
line_clear z l w found = clear (λ (v : Shape). v) z l (line_said z l) w refl found

-- code tells of the count alone
pub count_shape : {z : ℕ} {l : List ℕ} {w : Shape} → Clear z l (line_said z l) w → shape_with z w.count ≡ w
count_shape {z} ok = rw ok.shape_is

-- the move of l, of slots of z bytes, to slots `new` of y bytes in t
module _ (z y : ℕ) (lost : Bool) (l t : List ℕ) (new : List Slot) where
  abbrev line_first : List (Bool × ℕ)
  line_first = (bad_line z l, 1) ∷ (bad_slots (line_slots z l), 4) ∷ []

  abbrev target_then : List (Bool × ℕ)
  target_then = (not (eqb (length t) (count z l * y)) || lost, 10) ∷ []

  module _ {w : Shape} (ok : Clear z l (line_said z l) w) where
    says_is : move_said z y lost l t ≡ unless target_then done
    says_is = go_on target_then done line_first (rw ok.good ok.none)

    same_count : w.count * y ≡ count z l * y
    same_count = ap (λ (v : Shape). v.count * y) ok.shape_is

    length_test : length t ≡ w.count * y → eqb (length t) (count z l * y) ≡ true
    length_test e = eq-eqb (length t) (count z l * y) (e ∙ same_count)

    pub moved : length t ≡ w.count * y → lost ≡ false → (t' : List ℕ) → t' ≡ bytes y new → Outcome y t (move_said z y lost l t) new done t'
    moved e keep t' b = outcome_done y t (move_said z y lost l t) new t' (says_is ∙ rw (length_test e, keep)) b
