-- Starting and finishing, once their checks refuse nothing. Assumes nothing.
use Rattle.std.specs.Prelude.{Ok}
use mathlib.Core.Path.{◌≡◌, refl}
use mathlib.Core.List.{List}
use Prim.Native.Nat.{ℕ}
use lib.ListN.{length}
use Rattle.ints.specs.BigEndian.{AllBytes}
use Rattle.slots.specs.Line.{line_slots, slots}
use Rattle.slots.specs.declared.shape.Shape.{Shape}
use Rattle.answers.specs.Outcome.{answer_to, Call, Made}
use Rattle.answers.specs.Said.{done}
use Rattle.answers.proofs.OutcomeLaws.{changed, outcome_done}
use Rattle.checks.specs.code.Checked.{Found}
use Rattle.checks.proofs.CheckLaws.{clear}

-- the checks found a, and refuse nothing: the slots that are left decide the bytes
pub done_so : (c : Call) (z : ℕ) (l : List ℕ) {A : Type 0} (shape : A → Shape) (a : A) → Found shape z l (answer_to c z l) (Ok a)
    → (l' : List ℕ) → AllBytes l' → length l' ≡ length l → slots (shape a) l' ≡ c.leaves (slots (shape a) l) → Made c z l done l'
done_so c z l shape a found l' b k after =
    let f = clear shape z l (c.says (line_slots z l)) a refl found in
    let says : answer_to c z l ≡ done = rw f.good f.none in
    outcome_done z l (answer_to c z l) (c.leaves (line_slots z l)) l' says
    (changed z l l' (c.leaves (line_slots z l)) f.good b k (rw f.shape_is at after))
