-- How a line is cut into slots: the tests that code makes, the definition's, and what is known afterwards. Assumes nothing.
use Rattle.std.specs.Prelude.{None, Some}
use Rattle.std.specs.Prelude.{if◌then◌else◌}
use mathlib.Core.Path.{◌≡◌, refl, ap}
use mathlib.Core.Bool.{Bool, true, false}
use mathlib.Core.List.{List}
use Prim.Native.Nat.{ℕ, ◌<◌}
use Rattle.ints.proofs.TestLaws.{clash}
use Rattle.slots.specs.Slot.{known}
use Rattle.slots.specs.Line.{count, shape_of, shape_with}
use Rattle.slots.specs.code.Shape.{Fits, Inside, cut_of}
use Rattle.slots.specs.Checks.{bad_line}
use Rattle.slots.proofs.LineLaws.{known_size, shapely}

-- ---- what is known of a line once it is cut: it has n slots of z bytes
pub record Whole (z : ℕ) (l : List ℕ) (n : ℕ) : Type 0 where
  pub good : bad_line z l ≡ false
  pub shape_is : shape_with z n ≡ shape_of z l
  pub fits : Fits (shape_with z n) l
  pub size_known : known z ≡ true

module _ (z : ℕ) (l : List ℕ) where
  whole_of : (b : Bool) → bad_line z l ≡ b → (n : ℕ) → Some n ≡ (if b then None else Some (count z l)) → Whole z l n
  whole_of true e n is = clash (cc)
  whole_of false e n is =
      let many : n ≡ count z l = cc in
      let shape : shape_with z n ≡ shape_of z l = ap (shape_with z) many in
      record { good = e; shape_is = shape; fits = rw shape (shapely z l e); size_known = known_size z l e }

  pub whole : (n : ℕ) → Some n ≡ cut_of z l → Whole z l n
  whole n is = whole_of (bad_line z l) refl n is

-- a slot below the count is one of the line's
pub whole_inside : {z : ℕ} {l : List ℕ} {n : ℕ} → Whole z l n → (i : ℕ) → i < n → Inside (shape_with z n) l i
whole_inside w i h = record { fits = w.fits; below = h }
