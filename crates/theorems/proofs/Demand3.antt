-- Demand 3 of the call: on a line that isn't refused and is bounded as demand 3 says, what gpos::finish leaves meets the demand. Assumes nothing.
use Rattle.std.specs.Prelude.{Ok}
use mathlib.Core.Path.{◌≡◌, sym, ap, ◌∙◌, subst}
use mathlib.Core.Bool.{true, false}
use mathlib.Core.List.{List}
use Prim.Native.Nat.{ℕ}
use lib.Dec.{ltb}
use Rattle.ints.specs.BigEndian.{AllBytes}
use Rattle.slots.specs.Axis.{direction_of}
use Rattle.slots.specs.Checks.{bad_line}
use Rattle.slots.specs.Line.{line_slots}
use Rattle.slots.proofs.LineLaws.{known_size, slots_bytes, slots_storable}
use Rattle.finish_rules.specs.theorems.Demand3.{Bounded, Demand3}
use Rattle.finish_rules.specs.Finish.{finished, max_nesting_level}
use Rattle.finish_rules.proofs.Storable.{finished_storable}
use Rattle.finish_rules.proofs.Theorem.{demand3}
use Rattle.answers.specs.Said.{Said}
use Rattle.answers.specs.Outcome.{line_after}
use Rattle.answers.proofs.TestLaws.{clear_first}
use Rattle.checks.specs.Arguments.{slot_tests}
use Rattle.gpos.specs.Finishing.{FinishCall}

-- the line l of slots of z bytes was finished, with the attachment flag set, and became l'
pub finish_demand3 : (z : ℕ) (l : List ℕ) (direction limit : ℕ) (l' : List ℕ) → AllBytes l → FinishCall z l direction limit true (Ok tt) l' → Bounded limit (line_slots z l)
    → Demand3 (direction_of direction) (line_slots z l) (line_slots z l')
finish_demand3 z l direction limit l' b h ok =
    subst (Demand3 (direction_of direction) (line_slots z l)) (sym after) (demand3 (direction_of direction) limit (line_slots z l) ok)
  where
    good : bad_line z l ≡ false
    good = (clear_first (bad_line z l) 1 (slot_tests (line_slots z l) direction (ltb max_nesting_level limit)) (sym h.answer)).0

    after : line_slots z l' ≡ finished (direction_of direction) limit true (line_slots z l)
    after =
        let new = finished (direction_of direction) limit true (line_slots z l) in
        ap (line_slots z) (h.line ∙ ap (λ (s : Said). line_after z s l new) (sym h.answer))
        ∙ slots_bytes z (known_size z l good) new (finished_storable z (direction_of direction) limit true (line_slots z l) (slots_storable z (known_size z l good) l b))
