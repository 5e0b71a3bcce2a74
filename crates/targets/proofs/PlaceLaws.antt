-- Laws of the slot that a mark goes on: by what code found, and all that is reported where there is none. Assumes nothing.
use Rattle.std.specs.Prelude.{None, Option, if◌then◌else◌}
use mathlib.Core.Path.{◌≡◌, refl}
use mathlib.Core.Bool.{Bool, true, false}
use mathlib.Core.List.{List, [], ◌∷◌}
use Prim.Native.Nat.{ℕ, ◌+◌}
use lib.Dec.{eqb}
use Rattle.ints.specs.Tally.{nearest}
use Rattle.slots.specs.Slot.{Slot}
use Rattle.answers.specs.Said.{Range, unsafe_to_concat}
use Rattle.answers.specs.declared.Neighbour.{Neighbour}
use Rattle.answers.specs.declared.Neighbour.TheVariants.{Named, Missing}
use Rattle.targets.specs.MarkPos.{base_coverage_offset}
use Rattle.targets.specs.Place.{missed, named, place_for, searched}
use Rattle.targets.specs.declared.mark_pos.Target.{Target}
use Rattle.targets.specs.declared.place.Way.{Way}
use Rattle.targets.specs.declared.place.Way.TheVariants.{Search, Earlier}

-- nothing is found before slot 0
pub searched_first : (target : Target) (t : List ℕ) (ss : List Slot) → None ≡ searched target t ss 0
unfolding nearest
searched_first target t ss = either (eqb (base_coverage_offset t) 0)
  where
    nowhere : Option ℕ
    nowhere = None

    either : (b : Bool) → None ≡ (if b then nowhere else nowhere)
    either true = refl
    either false = refl

-- ---- either way
module _ (t : List ℕ) (ss : List Slot) (idx : ℕ) where
  pub by_name : (earlier : Neighbour) → named ss idx earlier ≡ place_for (Earlier earlier) t ss idx
  unfolding place_for
  by_name earlier = refl

-- at most one hazard is reported
pub of_missed : (Q : List Range → Type 0) → Q [] → ((h : Range) → Q (h ∷ [])) → (t : List ℕ) (idx : ℕ) (way : Way) → Q (missed way t idx)
of_missed Q nothing one t idx (Search target) = go (eqb (base_coverage_offset t) 0)
  where
    go : (b : Bool) → Q (if b then [] else unsafe_to_concat 0 (idx + 1) ∷ [])
    go true = nothing
    go false = one _
of_missed Q nothing one t idx (Earlier (Named i)) = one _
of_missed Q nothing one t idx (Earlier (Missing f)) = one _
