-- Sums of advances: what lies between two slots is the difference of their pen places, and nothing saturates. Assumes nothing.
use mathlib.Core.Bool.{Bool, true, false}
use mathlib.Core.List.{List, [], ◌∷◌, map}
use mathlib.Core.Path.{◌≡◌, refl, sym, ap, ◌∙◌}
use Prim.Native.Nat.{ℕ, zero, suc, ◌+◌, ◌*◌, ◌≤◌, ◌<◌, min, max}
use native.Mathlib.Nat.{mul-le-mul_left}
use native.Mathlib.Numerals.{add-one}
use native.Mathlib.Omega.{arith}
use native.Mathlib.Decide.{dec_lt}
use lib.Dec.{ltb}
use lib.IntN.{ℤ, neg_ℤ, nat_abs, ◌+ℤ◌, ◌-ℤ◌, +ℤ_comm}
use lib.ListN.{length, take, drop, take-append-drop, length-take, length-drop}
use lib.Seq.{slice, take-take, drop-append-le, length-take-le, length-slice}
use Rattle.ints.specs.Sums.{stepwise, total}
use Rattle.ints.proofs.Ints.{bal_add, bal_neg, omegaℤ}
use Rattle.ints.proofs.SumsLaws.{Near, less_all_exact, near_drop, near_take, plus_all_exact, total_append, total_near}
use Rattle.slots.specs.Axis.{forward}
use Rattle.slots.specs.Slot.{Slot}
use Rattle.slots.specs.Fields.{advance}
use Rattle.slots.specs.declared.axis.Axis.{Axis}
use Rattle.slots.specs.declared.axis.Direction.{Direction}
use Rattle.finish_rules.specs.Finish.{advances, between, step_by, subtracts, shifted}
use Rattle.finish_rules.specs.theorems.Demand3.{pen_of}
use Rattle.finish_rules.proofs.WalkLaws.{Side, between_is, side_is, walk_part}

-- ---- the sum from the front, and the sum from the back, of what is between
front : (lo hi : ℕ) (zs : List ℤ) → lo ≤ hi → total (take hi zs) ≡ total (take lo zs) +ℤ total (slice lo hi zs)
front lo hi zs le =
    ap total (sym (take-append-drop lo (take hi zs))) ∙ total_append (take lo (take hi zs)) (slice lo hi zs)
    ∙ ap (λ w. total w +ℤ total (slice lo hi zs)) (take-take lo hi zs le)

back : (lo hi : ℕ) (zs : List ℤ) → lo ≤ hi → hi ≤ length zs → total (drop lo zs) ≡ total (drop hi zs) +ℤ total (slice lo hi zs)
back lo hi zs le fits =
    ap (λ w. total (drop lo w)) (sym (take-append-drop hi zs))
    ∙ ap total (drop-append-le lo (take hi zs) (drop hi zs) (omega (arith, length-take-le hi zs fits)))
    ∙ total_append (slice lo hi zs) (drop hi zs)
    ∙ +ℤ_comm (total (slice lo hi zs)) (total (drop hi zs))

-- ---- z with the sum s subtracted, or added: the exact `step_by`
abbrev exact_by : Bool → ℤ → ℤ → ℤ
exact_by true z s = z -ℤ s
exact_by false z s = z +ℤ s

-- a sum s that leads from pen place p to q, added to z, adds q - p
down_by : (b : Bool) (z p q s : ℤ) → exact_by b p s ≡ q → exact_by b z s ≡ z +ℤ (q -ℤ p)
down_by true z p q s e = omega (omegaℤ, bal_add z (neg_ℤ s), bal_neg s, bal_add z (q -ℤ p), bal_add q (neg_ℤ p), bal_neg p, bal_add p (neg_ℤ s))
down_by false z p q s e = omega (omegaℤ, bal_add z s, bal_add z (q -ℤ p), bal_add q (neg_ℤ p), bal_neg p, bal_add p s)

-- a sum taken off again
undone : (p q s : ℤ) → p ≡ q +ℤ s → p -ℤ s ≡ q
undone p q s e = omega (omegaℤ, bal_add p (neg_ℤ s), bal_neg s, bal_add q s)

-- the advances between a slot and its parent, added to the slot's pen place, give the parent's
leads : (zs : List ℤ) (i j : ℕ) → i < length zs → j < length zs → (f : Bool) → exact_by (subtracts (ltb j i) f) (pen_of f zs i) (total (between f zs i j)) ≡ pen_of f zs j
unfolding pen_of
leads zs i j hi hj f = go (dec_lt j i)
  where
    by : (b : Bool) → Side b i j → (f : Bool) → exact_by (subtracts b f) (pen_of f zs i) (total (walk_part f b zs i j)) ≡ pen_of f zs j
    by true h true = undone _ _ _ (front j i zs (omega arith))
    by true h false = rw (add-one j, add-one i) (sym (back (suc j) (suc i) zs (omega arith) (omega arith)))
    by false h true = sym (front i j zs h)
    by false h false = rw (add-one i, add-one j) (undone _ _ _ (back (suc i) (suc j) zs (omega arith) (omega arith)))

    at : (b : Bool) → Side b i j → exact_by (subtracts (ltb j i) f) (pen_of f zs i) (total (between f zs i j)) ≡ pen_of f zs j
    at b h = rw (side_is b i j h, between_is f b zs i j h) (by b h f)

    go : Dec (j < i) → exact_by (subtracts (ltb j i) f) (pen_of f zs i) (total (between f zs i j)) ≡ pen_of f zs j
    go (yes lt) = at true lt
    go (no ge) = at false (omega arith)

-- ---- sizes: every advance is within b of zero
module _ (b : ℕ) (zs : List ℤ) (near : Near b zs) where
  -- the sum of a part, and a pen place
  part_near : (n : ℕ) (part : List ℤ) → Near b part → length part ≤ n → nat_abs (total part) ≤ b * n
  part_near n part h le = let more = mul-le-mul_left b le in omega (arith, total_near b part h)

  pub pen_near : (f : Bool) (i : ℕ) → nat_abs (pen_of f zs i) ≤ b * length zs
  unfolding pen_of
  pen_near true i = part_near (length zs) (take i zs) (near_take b i zs near) (omega (arith, length-take i zs))
  pen_near false i = part_near (length zs) (drop (suc i) zs) (near_drop b (suc i) zs near) (omega (arith, length-drop (suc i) zs))

  -- what is between two slots is near zero and no longer than the line
  near_slice : (lo hi : ℕ) → Near b (slice lo hi zs)
  near_slice lo hi = near_drop b lo (take hi zs) (near_take b hi zs near)

  module _ (i j : ℕ) (hi : i < length zs) (hj : j < length zs) where
    near_between : (f : Bool) → Near b (between f zs i j)
    near_between true = near_slice (min i j) (max i j)
    near_between false = near_slice (suc (min i j)) (suc (max i j))

    short_between : (f : Bool) → length (between f zs i j) ≤ length zs
    short_between true = omega (arith, length-slice (min i j) (max i j) zs (omega arith))
    short_between false = omega (arith, length-slice (suc (min i j)) (suc (max i j)) zs (omega arith))

    module _ (z : ℤ) (small : nat_abs z + b * length zs ≤ 2147483647) where
      -- nothing saturates on the way
      steps_exact : (s f : Bool) → stepwise (step_by s) z (between f zs i j) ≡ exact_by s z (total (between f zs i j))
      steps_exact true f = let more = mul-le-mul_left b (short_between f) in less_all_exact b z (between f zs i j) (near_between f) (omega arith)
      steps_exact false f = let more = mul-le-mul_left b (short_between f) in plus_all_exact b z (between f zs i j) (near_between f) (omega arith)

      -- z with the advances between added has gone from the slot's pen place to the parent's
      pub walk_exact : (f : Bool) → stepwise (step_by (subtracts (ltb j i) f)) z (between f zs i j) ≡ z +ℤ (pen_of f zs j -ℤ pen_of f zs i)
      walk_exact f =
          steps_exact (subtracts (ltb j i) f) f
          ∙ down_by (subtracts (ltb j i) f) z (pen_of f zs i) (pen_of f zs j) (total (between f zs i j)) (leads zs i j hi hj f)

-- ---- the advances of the part between are the part between of the advances
map_take : {A B : Type 0} (g : A → B) (n : ℕ) (l : List A) → map g (take n l) ≡ take n (map g l)
map_take g zero l = refl
map_take g (suc n) [] = refl
map_take g (suc n) (a ∷ l) = ap (λ r. g a ∷ r) (map_take g n l)

map_drop : {A B : Type 0} (g : A → B) (n : ℕ) (l : List A) → map g (drop n l) ≡ drop n (map g l)
map_drop g zero l = refl
map_drop g (suc n) [] = refl
map_drop g (suc n) (a ∷ l) = map_drop g n l

map_slice : {A B : Type 0} (g : A → B) (lo hi : ℕ) (l : List A) → map g (slice lo hi l) ≡ slice lo hi (map g l)
map_slice g lo hi l = map_drop g lo (take hi l) ∙ ap (drop lo) (map_take g hi l)

map_between : {A B : Type 0} (g : A → B) (f : Bool) (l : List A) (i j : ℕ) → map g (between f l i j) ≡ between f (map g l) i j
map_between g true l i j = map_slice g (min i j) (max i j) l
map_between g false l i j = map_slice g (suc (min i j)) (suc (max i j)) l

-- so the walk goes over the advances
pub walked_by : (d : Direction) (a : Axis) (l : List Slot) (i j : ℕ) (z : ℤ)
    → shifted d a l i j z ≡ stepwise (step_by (subtracts (ltb j i) (forward d))) z (between (forward d) (advances a l) i j)
unfolding shifted
walked_by d a l i j z = ap (stepwise (step_by (subtracts (ltb j i) (forward d))) z) (map_between (advance a) (forward d) l i j)

-- lines of the same advances walk alike
pub walked_same : (d : Direction) (a : Axis) (l m : List Slot) (i j : ℕ) → advances a m ≡ advances a l → shifted d a m i j ≡ shifted d a l i j
unfolding shifted
walked_same d a l m i j e =
    ap (λ (zs : List ℤ). λ (z : ℤ). stepwise (step_by (subtracts (ltb j i) (forward d))) z zs)
    (map_between (advance a) (forward d) m i j ∙ ap (λ zs. between (forward d) zs i j) e ∙ sym (map_between (advance a) (forward d) l i j))
