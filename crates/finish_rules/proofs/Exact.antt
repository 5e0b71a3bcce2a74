-- The slots that a finished line has, exact and without its steps: `final`. Their offsets are small, so nothing saturates. Assumes nothing.
use mathlib.Core.Bool.{Bool, true, false}
use mathlib.Core.List.{List}
use mathlib.Core.Path.{◌≡◌, refl, ap, ◌∙◌}
use Prim.Native.Nat.{ℕ, suc, ◌+◌, ◌*◌, ◌≤◌, ◌<◌}
use native.Mathlib.Omega.{arith}
use lib.IntN.{ℤ, pos, neg_ℤ, nat_abs, ◌+ℤ◌, ◌-ℤ◌}
use lib.ListN.{length, length-map}
use Rattle.ints.proofs.Ints.{bal_add, bal_neg, omegaℤ}
use Rattle.ints.proofs.SaturatingLaws.{plus_exact}
use Rattle.ints.proofs.SizeLaws.{abs_add, abs_sub}
use Rattle.ints.proofs.SumsLaws.{Near}
use Rattle.slots.specs.Axis.{forward}
use Rattle.slots.specs.Slot.{Slot}
use Rattle.slots.specs.Line.{slot}
use Rattle.slots.specs.Fields.{advance, offset}
use Rattle.slots.specs.declared.axis.Axis.{Axis}
use Rattle.slots.specs.declared.axis.Axis.TheVariants.{X, Y}
use Rattle.slots.specs.declared.axis.Direction.{Direction}
use Rattle.slots.specs.declared.fields.Measure.TheVariants.{Offset}
use Rattle.slots.proofs.FieldLaws.{free, measure_chain}
use Rattle.slots.proofs.ParentLaws.{parent_in_line}
use Rattle.finish_rules.specs.Finish.{advances, is_main, AttachKind, mark, cursive, neither, attach_kind, new_offset_by, shifted, with_offsets}
use Rattle.finish_rules.specs.theorems.Demand3.{Bounded, pen}
use Rattle.finish_rules.proofs.Along.{along, along_holds}
use Rattle.finish_rules.proofs.Pens.{pen_near, walk_exact, walked_by}
use Rattle.finish_rules.proofs.WalkLaws.{get_d_advances}

-- ---- the exact offsets
-- the new offset on an axis, as `taken` has it, but exact; gap is how far the parent's pen place is past the own one
abbrev pub exact : AttachKind → Bool → ℤ → ℤ → ℤ → ℤ
exact mark true gap own parents = own +ℤ parents +ℤ gap
exact mark false gap own parents = own +ℤ gap
exact cursive true gap own parents = own
exact cursive false gap own parents = own +ℤ parents
exact neither main? gap own parents = own

-- slot i's exact offset on an axis, on its parent j, which has become s
abbrev pub exact_offset : Direction → List Slot → ℕ → ℕ → Slot → Axis → ℤ
exact_offset d l i j s a = exact (attach_kind (slot l i).attach_type) (is_main d a) (pen d a l j -ℤ pen d a l i) (offset a (slot l i)) (offset a s)

-- slot i on its parent j, which has become s
abbrev pub onto : Direction → List Slot → ℕ → ℕ → Slot → Slot
onto d l i j s = with_offsets (exact_offset d l i j s X) (exact_offset d l i j s Y) (free (slot l i))

-- the slots of the finished line
abbrev pub final : Direction → List Slot → ℕ → ℕ → Slot
final d l n i = along l (λ k. free (slot l k)) (onto d l) n i

-- its offset on either axis
pub offset_onto : (d : Direction) (l : List Slot) (i j : ℕ) (s : Slot) (a : Axis) → offset a (onto d l i j s) ≡ exact_offset d l i j s a
offset_onto d l i j s X = refl
offset_onto d l i j s Y = refl

-- ---- bounds
-- an offset o at the pen place p, drawn near q, is bounded by q, p and how near that is
around : (p o q : ℤ) → nat_abs o ≤ nat_abs q + nat_abs p + nat_abs ((p +ℤ o) -ℤ q)
around p o q =
    let e : o ≡ (((p +ℤ o) -ℤ q) +ℤ q) -ℤ p = omega (omegaℤ, bal_add p o, bal_add (p +ℤ o) (neg_ℤ q), bal_neg q, bal_add ((p +ℤ o) -ℤ q) q, bal_add (((p +ℤ o) -ℤ q) +ℤ q) (neg_ℤ p), bal_neg p) in
    omega (arith, ap nat_abs e, abs_sub (((p +ℤ o) -ℤ q) +ℤ q) p, abs_add ((p +ℤ o) -ℤ q) q)

-- a slot that keeps its offset, and one that takes in its parent's
stays : (p o : ℤ) → nat_abs ((p +ℤ o) -ℤ p) ≤ nat_abs o
stays p o =
    let e : (p +ℤ o) -ℤ p ≡ o = omega (omegaℤ, bal_add p o, bal_add (p +ℤ o) (neg_ℤ p), bal_neg p) in
    omega (arith, ap nat_abs e)

telescope : (p own par p' q : ℤ) → nat_abs ((p +ℤ (own +ℤ par +ℤ (p' -ℤ p))) -ℤ q) ≤ nat_abs own + nat_abs ((p' +ℤ par) -ℤ q)
telescope p own par p' q =
    let e : (p +ℤ (own +ℤ par +ℤ (p' -ℤ p))) -ℤ q ≡ own +ℤ ((p' +ℤ par) -ℤ q) = omega (
      omegaℤ,
      bal_add (p +ℤ (own +ℤ par +ℤ (p' -ℤ p))) (neg_ℤ q),
      bal_neg q,
      bal_add p (own +ℤ par +ℤ (p' -ℤ p)),
      bal_add (own +ℤ par) (p' -ℤ p),
      bal_add own par,
      bal_add p' (neg_ℤ p),
      bal_neg p,
      bal_add own ((p' +ℤ par) -ℤ q),
      bal_add (p' +ℤ par) (neg_ℤ q),
      bal_add p' par,
    ) in
    omega (arith, ap nat_abs e, abs_add own ((p' +ℤ par) -ℤ q))

-- along the line a slot is drawn near the pen place of some slot of the line: q
pub record Anchored (p o : ℤ) (n : ℕ) : Type 0 where
  pub q : ℤ
  pub q_near : nat_abs q ≤ 536870912
  pub close : nat_abs ((p +ℤ o) -ℤ q) ≤ suc n * 524288

module _ (d : Direction) (limit : ℕ) (l : List Slot) (ok : Bounded limit l) where
  -- the advances, and the pen places
  near_advances : (a : Axis) → Near 524288 (advances a l)
  near_advances a k lt = rw (get_d_advances l a k) (ok.advances_near k a (omega (arith, length-map l (advance a))))

  pen_small : (a : Axis) (i : ℕ) → nat_abs (pen d a l i) ≤ 536870912
  pen_small a i = omega (arith, pen_near 524288 (advances a l) (near_advances a) (forward d) i, length-map l (advance a), ok.few_slots)

  -- a slot that keeps its offset is drawn near its own pen place
  anchored_own : (a : Axis) (n i : ℕ) → i < length l → Anchored (pen d a l i) (offset a (slot l i)) n
  anchored_own a n i lt =
      record {
        q = pen d a l i;
        q_near = pen_small a i;
        close = omega (arith, stays (pen d a l i) (offset a (slot l i)), ok.offsets_near i a lt);
      }

  -- a mark is drawn near where its parent is
  anchored_on : (a : Axis) (n i j : ℕ) → i < length l → (k : AttachKind) (o : ℤ) → Anchored (pen d a l j) o n
      → Anchored (pen d a l i) (exact k true (pen d a l j -ℤ pen d a l i) (offset a (slot l i)) o) (suc n)
  anchored_on a n i j lt mark o h =
      record {
        q = h.q;
        q_near = h.q_near;
        close = omega (arith, telescope (pen d a l i) (offset a (slot l i)) o (pen d a l j) h.q, ok.offsets_near i a lt, h.close);
      }
  anchored_on a n i j lt cursive o h = anchored_own a (suc n) i lt
  anchored_on a n i j lt neither o h = anchored_own a (suc n) i lt

  -- so along every chain
  anchored : (a : Axis) → is_main d a ≡ true → (n i : ℕ) → i < length l → Anchored (pen d a l i) (offset a (final d l n i)) n
  anchored a m =
      along_holds l (λ k. free (slot l k)) (onto d l) (λ n i s. i < length l → Anchored (pen d a l i) (offset a s) n)
      (λ n i lt. rw (measure_chain Offset a (pos 0) (slot l i)) (anchored_own a n i lt))
      (λ n i j s e up lt. rw (offset_onto d l i j s a, m) (anchored_on a n i j lt (attach_kind (slot l i).attach_type) (offset a s) (up (parent_in_line l i j e))))

  -- across the line each hop adds one offset at most, or starts from two pen places
  small_on : (a : Axis) (n i j : ℕ) → i < length l → (k : AttachKind) (o : ℤ) → nat_abs o ≤ suc n * 524288 + 1073741824
      → nat_abs (exact k false (pen d a l j -ℤ pen d a l i) (offset a (slot l i)) o) ≤ suc (suc n) * 524288 + 1073741824
  small_on a n i j lt mark o h =
      omega (
        arith,
        abs_add (offset a (slot l i)) (pen d a l j -ℤ pen d a l i),
        abs_sub (pen d a l j) (pen d a l i),
        pen_small a i,
        pen_small a j,
        ok.offsets_near i a lt,
      )
  small_on a n i j lt cursive o h = omega (arith, abs_add (offset a (slot l i)) o, ok.offsets_near i a lt)
  small_on a n i j lt neither o h = omega (arith, ok.offsets_near i a lt)

  -- so along every chain
  small : (a : Axis) → is_main d a ≡ false → (n i : ℕ) → i < length l → nat_abs (offset a (final d l n i)) ≤ suc n * 524288 + 1073741824
  small a m =
      along_holds l (λ k. free (slot l k)) (onto d l) (λ n i s. i < length l → nat_abs (offset a s) ≤ suc n * 524288 + 1073741824)
      (λ n i lt. rw (measure_chain Offset a (pos 0) (slot l i)) (omega (arith, ok.offsets_near i a lt)))
      (λ n i j s e up lt. rw (offset_onto d l i j s a, m) (small_on a n i j lt (attach_kind (slot l i).attach_type) (offset a s) (up (parent_in_line l i j e))))

  -- 65 times 524,288, and two pen places
  pub final_near : (a : Axis) (i : ℕ) → i < length l → nat_abs (offset a (final d l limit i)) ≤ 1107820544
  final_near a i lt = go (is_main d a) refl
    where
      go : (b : Bool) → is_main d a ≡ b → nat_abs (offset a (final d l limit i)) ≤ 1107820544
      go true e =
          let h = anchored a e limit i lt in
          omega (arith, around (pen d a l i) (offset a (final d l limit i)) h.q, h.q_near, h.close, pen_small a i, ok.nesting)
      go false e = omega (arith, small a e limit i lt, ok.nesting)

  -- so what finishing computes is exact
  pub taken_exact : (a : Axis) (i j : ℕ) → i < length l → j < length l → (k : AttachKind) (b : Bool) (o : ℤ) → nat_abs o ≤ 1107820544
      → new_offset_by k b (shifted d a l i j) (offset a (slot l i)) o ≡ exact k b (pen d a l j -ℤ pen d a l i) (offset a (slot l i)) o
  taken_exact a i j hi hj k b o h = go k b
    where
      own : nat_abs (offset a (slot l i)) ≤ 524288
      own = ok.offsets_near i a hi

      walk : (z : ℤ) → nat_abs z ≤ 1610612735 → shifted d a l i j z ≡ z +ℤ (pen d a l j -ℤ pen d a l i)
      walk z s =
          walked_by d a l i j z
          ∙ walk_exact 524288 (advances a l) (near_advances a) i j (omega (arith, length-map l (advance a))) (omega (arith, length-map l (advance a))) z
          (omega (arith, length-map l (advance a), ok.few_slots)) (forward d)

      sum : new_offset_by cursive false (shifted d a l i j) (offset a (slot l i)) o ≡ offset a (slot l i) +ℤ o
      sum = plus_exact (offset a (slot l i)) o (omega (arith, own))

      go : (k : AttachKind) (b : Bool) → new_offset_by k b (shifted d a l i j) (offset a (slot l i)) o ≡ exact k b (pen d a l j -ℤ pen d a l i) (offset a (slot l i)) o
      go mark true = ap (shifted d a l i j) sum ∙ walk (offset a (slot l i) +ℤ o) (omega (arith, own, abs_add (offset a (slot l i)) o))
      go mark false = walk (offset a (slot l i)) (omega (arith, own))
      go cursive true = refl
      go cursive false = sum
      go neither b = refl
