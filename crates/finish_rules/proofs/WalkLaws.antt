-- The advances of a part of the line, one by one, and the walk between a slot and its parent as code goes it. Assumes nothing.
use mathlib.Core.Bool.{Bool, true, false}
use mathlib.Core.List.{List}
use mathlib.Core.Path.{◌≡◌, sym, ap, ap₂, ◌∙◌}
use Prim.Native.Nat.{ℕ, ◌+◌, ◌≤◌, ◌<◌, min, max}
use native.Mathlib.Numerals.{add-one}
use native.Mathlib.Omega.{arith}
use borrow.Author.Tests.{le-ltb, lt-ltb}
use lib.Dec.{ltb}
use lib.IntN.{ℤ, pos}
use lib.ListN.{length, get_or, take, length-map, get_or-map}
use lib.Seq.{slice, take_all, take-suc}
use Rattle.ints.specs.Sums.{stepwise}
use Rattle.ints.proofs.SumsLaws.{stepwise_more}
use Rattle.slots.specs.Axis.{forward}
use Rattle.slots.specs.Slot.{Slot, no_slot}
use Rattle.slots.specs.Line.{slot}
use Rattle.slots.specs.Fields.{advance}
use Rattle.slots.specs.declared.axis.Axis.{Axis}
use Rattle.slots.specs.declared.axis.Axis.TheVariants.{X, Y}
use Rattle.slots.specs.declared.axis.Direction.{Direction}
use Rattle.finish_rules.specs.Finish.{advances, between, step_by, subtracts, shifted}

-- the k-th of the advances is that of slot k
pub get_d_advances : (l : List Slot) (a : Axis) (k : ℕ) → get_or (advances a l) k (pos 0) ≡ advance a (slot l k)
get_d_advances l X k = get_or-map (advance X) l k no_slot
get_d_advances l Y k = get_or-map (advance Y) l k no_slot

module _ (f : ℤ → ℤ → ℤ) (z : ℤ) (a : Axis) (l : List Slot) (k : ℕ) where
  -- one advance more
  pub steps_more : {x v x' : ℤ} → k < length l → x ≡ stepwise f z (take k (advances a l)) → v ≡ advance a (slot l k) → x' ≡ f x v
      → x' ≡ stepwise f z (take (k + 1) (advances a l))
  steps_more lt x-is v-is x'-is =
      let in-advances : k < length (advances a l) = omega (arith, length-map l (advance a)) in
      x'-is ∙ ap₂ f x-is (v-is ∙ sym (get_d_advances l a k))
      ∙ sym (ap (stepwise f z) (ap (λ (n : ℕ). take n (advances a l)) (add-one k) ∙ take-suc (advances a l) k (pos 0) in-advances) ∙ stepwise_more f z (take k (advances a l)) (get_or (advances a l) k (pos 0)))

  -- all of them
  pub steps_all : {x : ℤ} → length l ≤ k → x ≡ stepwise f z (take k (advances a l)) → x ≡ stepwise f z (advances a l)
  steps_all le x-is = x-is ∙ ap (stepwise f z) (take_all k (advances a l) (omega (arith, length-map l (advance a))))

-- ---- the walk between slot i and its parent j, by two flags: f, the direction is forward; b, the parent is before the slot
-- what b says
abbrev pub Side : Bool → ℕ → ℕ → Type 0
Side true i j = j < i
Side false i j = i ≤ j

-- the lower and the higher of the two slots
abbrev lower : Bool → ℕ → ℕ → ℕ
lower true i j = j
lower false i j = i

abbrev higher : Bool → ℕ → ℕ → ℕ
higher b i j = lower b j i

-- the part between as code takes it: from the lower slot up to the higher, in a backward direction one slot later
abbrev bound : Bool → ℕ → ℕ
bound true n = n
bound false n = n + 1

abbrev pub walk_part : {A : Type 0} → Bool → Bool → List A → ℕ → ℕ → List A
walk_part f b l i j = slice (bound f (lower b i j)) (bound f (higher b i j)) l

-- the flag is the definition's test
pub side_is : (b : Bool) (i j : ℕ) → Side b i j → ltb j i ≡ b
side_is true i j h = lt-ltb j i h
side_is false i j h = le-ltb j i h

-- the part is the definition's
pub between_is : {A : Type 0} (f b : Bool) (l : List A) (i j : ℕ) → Side b i j → between f l i j ≡ walk_part f b l i j
between_is f b l i j h = go f (low b h) (high b h)
  where
    low : (b : Bool) → Side b i j → min i j ≡ lower b i j
    low true h = omega arith
    low false h = omega arith

    high : (b : Bool) → Side b i j → max i j ≡ higher b i j
    high true h = omega arith
    high false h = omega arith

    go : (f : Bool) {lo hi : ℕ} → min i j ≡ lo → max i j ≡ hi → between f l i j ≡ slice (bound f lo) (bound f hi) l
    go true p q = rw (p, q)
    go false {lo} {hi} p q = rw (p, q, ← (add-one lo), ← (add-one hi))

-- x and y became x' and y' by the advances of the line m, subtracted or added, and by the walk
abbrev pub Stepped : Bool → List Slot → ℤ → ℤ → ℤ → ℤ → Type 0
Stepped s m x y x' y' = (x' ≡ stepwise (step_by s) x (advances X m)) × (y' ≡ stepwise (step_by s) y (advances Y m))

abbrev pub Walked : Direction → List Slot → ℕ → ℕ → ℤ → ℤ → ℤ → ℤ → Type 0
Walked d l i j x y x' y' = (x' ≡ shifted d X l i j x) × (y' ≡ shifted d Y l i j y)

-- the walk goes over the part
pub walked_part : (d : Direction) (l : List Slot) (i j : ℕ) (f b : Bool) (x y : ℤ) {m : List Slot} {x' y' : ℤ} → forward d ≡ f → Side b i j → m ≡ walk_part f b l i j
    → Stepped (subtracts b f) m x y x' y' → Walked d l i j x y x' y'
unfolding shifted
walked_part d l i j f b x y dir side is to = rw (side_is b i j side, dir, between_is f b l i j side, ← is) to
