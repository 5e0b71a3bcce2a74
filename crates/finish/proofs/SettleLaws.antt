-- The ways through `settle`: p is what code found to be slot i's parent, l₁ the line with its chain cleared. Assumes nothing.
use mathlib.Core.Bool.{Bool, true, false}
use mathlib.Core.List.{List}
use mathlib.Core.Path.{◌≡◌, sym, ap, ◌∙◌}
use Prim.Native.Nat.{ℕ, suc, ◌+◌, ◌-◌, ◌<◌}
use native.Mathlib.Nat.{pos_of_ne-zero}
use native.Mathlib.Numerals.{add-one}
use native.Mathlib.Omega.{arith}
use borrow.Author.Tests.{eqb-true, not-false}
use lib.IntN.{nat_abs}
use Rattle.ints.specs.code.Signed.{val}
use Rattle.ints.proofs.SizeLaws.{abs_zero}
use Rattle.slots.specs.Axis.{forward}
use Rattle.slots.specs.Slot.{Slot}
use Rattle.slots.specs.Line.{slot, slots, update}
use Rattle.slots.specs.Fields.{with_chain}
use Rattle.slots.specs.Parent.{cleared, is_attached, parent}
use Rattle.slots.specs.declared.axis.Direction.{Direction}
use Rattle.slots.specs.declared.parent.Parent.{Parent}
use Rattle.slots.specs.declared.parent.Parent.TheVariants.{None, Outside, InLine}
use Rattle.slots.specs.declared.shape.Shape.{Shape}
use Rattle.slots.proofs.LineLaws.{length_slots}
use Rattle.slots.proofs.ParentLaws.{cleared_is, parent_in_line, parent_none}
use Rattle.finish_rules.specs.Finish.{finished, taken_in, settled, settled_down, settled_up}
use Rattle.finish_rules.proofs.SettledLaws.{settled_at, settled_none, settled_outside, settled_stop}

-- a parent in the line is a slot of its bytes
pub parent_counted : (w : Shape) (l : List ℕ) (i j : ℕ) {p : Parent} → p ≡ parent (slots w l) i → p ≡ InLine j → j < w.count
parent_counted w l i j is e = omega (arith, parent_in_line (slots w l) i j (sym is ∙ e), length_slots w l)

module _ (d : Direction) (n : ℕ) (l : List Slot) (i : ℕ) {p : Parent} (is : p ≡ parent l i) where
  pub settles_none : p ≡ None → l ≡ settled d n l i
  settles_none e = sym (settled_none d l i n (sym is ∙ e))

  module _ {l₁ : List Slot} (clears : l₁ ≡ update i (with_chain (val 0)) l) where
    is_cleared : l₁ ≡ cleared l i
    is_cleared = cleared_is l i clears

    pub settles_outside : p ≡ Outside → l₁ ≡ settled d n l i
    settles_outside e = is_cleared ∙ sym (settled_outside d l i n (sym is ∙ e))

    pub settles_stop : {j : ℕ} → p ≡ InLine j → n ≡ 0 → l₁ ≡ settled d n l i
    settles_stop {j} e out = is_cleared ∙ sym (settled_stop d l i j (sym is ∙ e)) ∙ ap (λ (m : ℕ). settled d m l i) (sym out)

    pub settles_at : {j : ℕ} {l₂ l₃ : List Slot} → p ≡ InLine j → (n ≡ 0 → ⊥) → l₂ ≡ settled d (n - 1) l₁ j → l₃ ≡ taken_in d l₂ i j → l₃ ≡ settled d n l i
    settles_at {j} e left up joins =
        let more : 0 < n = pos_of_ne-zero left in
        let one : n ≡ suc (n - 1) = omega arith in
        joins ∙ ap (λ m. taken_in d m i j) (up ∙ ap (λ m. settled d (n - 1) m j) is_cleared)
        ∙ sym (settled_at d l i (n - 1) j (sym is ∙ e)) ∙ ap (λ (m : ℕ). settled d m l i) (sym one)

-- a slot that isn't attached, as code tests it: b
pub settles_unattached : (d : Direction) (n : ℕ) (l : List Slot) (i : ℕ) {b : Bool} → b ≡ is_attached l i → b ≡ false → l ≡ settled d n l i
settles_unattached d n l i is off =
    let none : nat_abs (slot l i).chain ≡ 0 = eqb-true (nat_abs (slot l i).chain) 0 (not-false _ (sym is ∙ off)) in
    sym (settled_none d l i n (parent_none l i (abs_zero (slot l i).chain none)))

-- ---- the loops
module _ (d : Direction) (limit : ℕ) where
  -- one turn: m is the line before it, m' after it
  pub up_more : (l : List Slot) (i : ℕ) {m m' : List Slot} → m ≡ settled_up d limit l i → m' ≡ settled d limit m i → m' ≡ settled_up d limit l (i + 1)
  unfolding settled_up
  up_more l i done turn = rw add-one (turn ∙ ap (λ k. settled d limit k i) done)

  pub down_more : (m : List Slot) (i : ℕ) {m' whole : List Slot} → 0 < i → settled_down d limit m i ≡ whole → m' ≡ settled d limit m (i - 1)
      → settled_down d limit m' (i - 1) ≡ whole
  unfolding settled_down
  down_more m i more left turn =
      let one : i ≡ suc (i - 1) = omega arith in
      ap (λ k. settled_down d limit k (i - 1)) turn ∙ ap (settled_down d limit m) (sym one) ∙ left

  -- nothing is left to do
  pub down_done : (m : List Slot) (i : ℕ) {whole : List Slot} → i ≡ 0 → settled_down d limit m i ≡ whole → m ≡ whole
  unfolding settled_down
  down_done m i out left = ap (settled_down d limit m) (sym out) ∙ left

  -- all slots settled, upward or downward by the direction, is the line finished
  module _ (w : Shape) (l : List ℕ) {m : List Slot} where
    pub finished_up : forward d ≡ true → m ≡ settled_up d limit (slots w l) w.count → m ≡ finished d limit true (slots w l)
    unfolding finished
    finished_up f all = rw (f, length_slots w l) all

    pub finished_down : forward d ≡ false → m ≡ settled_down d limit (slots w l) w.count → m ≡ finished d limit true (slots w l)
    unfolding finished
    finished_down f all = rw (f, length_slots w l) all
