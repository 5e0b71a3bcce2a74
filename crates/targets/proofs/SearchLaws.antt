-- Laws of the search: one turn of it, and what it finds. Assumes nothing.
use Rattle.std.specs.Prelude.{None, Option, Some, if◌then◌else◌}
use mathlib.Core.Path.{◌≡◌}
use mathlib.Core.Bool.{Bool, true, false}
use Prim.Native.Nat.{ℕ, zero, suc, ◌-◌, ◌≤◌, ◌<◌}
use native.Mathlib.Omega.{arith}
use Rattle.ints.specs.Tally.{nearest}
use Rattle.targets.specs.code.Meant.{Before}

-- ---- the nearest number below j that passes: one turn of a search downward
module _ (p : ℕ → Bool) where
  pub nearest_turn : (j : ℕ) → 0 < j → (t : Bool) → p (j - 1) ≡ t → nearest p j ≡ (if t then Some (j - 1) else nearest p (j - 1))
  unfolding nearest
  nearest_turn zero h t e = absurd (omega arith)
  nearest_turn (suc n) h t e =
      let one : suc n - 1 ≡ n = omega arith in
      let here : p n ≡ t = rw one at e in
      rw (here, one)

  -- what is found is below j
  nearest_below : (i j : ℕ) → Some i ≡ nearest p j → i < j
  unfolding nearest
  nearest_below i zero e = cc
  nearest_below i (suc n) e = by_test (p n) e (nearest_below i n)
    where
      by_test : (b : Bool) → Some i ≡ (if b then Some n else nearest p n) → (Some i ≡ nearest p n → i < n) → i < suc n
      by_test true h k = let e : i ≡ n = cc in omega arith
      by_test false h k = omega (arith, k h)

  pub known_before : (f : Option ℕ) (j idx : ℕ) → f ≡ nearest p j → j ≤ idx → Before idx f
  known_before None j idx e h = tt
  known_before (Some i) j idx e h = omega (arith, nearest_below i j e)
