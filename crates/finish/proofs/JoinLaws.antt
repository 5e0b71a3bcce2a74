-- How a slot takes in its parent, by its type, as code writes it. Assumes nothing.
use Rattle.std.specs.Prelude.{if◌then◌else◌}
use mathlib.Core.Bool.{Bool, true, false}
use mathlib.Core.List.{List}
use mathlib.Core.Path.{◌≡◌, refl, sym, ap, ap₂, ◌∙◌}
use Prim.Native.Nat.{ℕ, zero, suc, ◌<◌}
use lib.IntN.{ℤ}
use lib.ListN.{length, set}
use Rattle.ints.specs.Saturating.{sat_add}
use Rattle.slots.specs.Axis.{cross}
use Rattle.slots.specs.Slot.{Slot}
use Rattle.slots.specs.Line.{slot, update}
use Rattle.slots.specs.Fields.{offset, with_measure}
use Rattle.slots.specs.declared.axis.Axis.{Axis}
use Rattle.slots.specs.declared.axis.Axis.TheVariants.{X, Y}
use Rattle.slots.specs.declared.axis.Direction.{Direction}
use Rattle.slots.specs.declared.axis.Direction.TheVariants.{LeftToRight, RightToLeft, TopToBottom, BottomToTop}
use Rattle.slots.specs.declared.fields.Measure.TheVariants.{Offset}
use Rattle.slots.proofs.LineLaws.{update_both, update_none}
use Rattle.finish_rules.specs.Finish.{is_main, taken_in, mark, cursive, neither, attach_kind, new_offset, new_offset_by, shifted, with_offsets}
use Rattle.finish_rules.proofs.WalkLaws.{Walked}

-- what a mark walks from: its own offset, on the main axis with its parent's added
abbrev pub mark_from : Bool → ℤ → ℤ → ℤ
mark_from main? own parents = if main? then sat_add own parents else own

-- on either axis a mark walks from there
mark_taken : (main? : Bool) (walk : ℤ → ℤ) (own parents : ℤ) → new_offset_by mark main? walk own parents ≡ walk (mark_from main? own parents)
mark_taken true walk own parents = refl
mark_taken false walk own parents = refl

-- a cursive glyph s on its parent p: the cross offset alone changes
cursive_slot : (d : Direction) (u v : ℤ → ℤ) (s p : Slot) → with_measure Offset (cross d) (sat_add (offset (cross d) s) (offset (cross d) p)) s
    ≡ with_offsets (new_offset_by cursive (is_main d X) u (offset X s) (offset X p)) (new_offset_by cursive (is_main d Y) v (offset Y s) (offset Y p)) s
cursive_slot LeftToRight u v s p = refl
cursive_slot RightToLeft u v s p = refl
cursive_slot TopToBottom u v s p = refl
cursive_slot BottomToTop u v s p = refl

-- any type but 1 and 2 is neither
other_kind : (t : ℕ) → (t ≡ 1 → ⊥) → (t ≡ 2 → ⊥) → attach_kind t ≡ neither
other_kind zero one two = refl
other_kind (suc zero) one two = absurd (one refl)
other_kind (suc (suc zero)) one two = absurd (two refl)
other_kind (suc (suc (suc t))) one two = refl

module _ (d : Direction) (l : List Slot) (i j : ℕ) where
  -- a mark's new offset, as code computes it
  mark_offset : (slot l i).attach_type ≡ 1 → (a : Axis) {from to : ℤ}
      → from ≡ mark_from (is_main d a) (offset a (slot l i)) (offset a (slot l j)) → to ≡ shifted d a l i j from → to ≡ new_offset d l i j a
  mark_offset t a from_is to_is =
      to_is ∙ ap (shifted d a l i j) from_is ∙ sym (rw t (mark_taken (is_main d a) (shifted d a l i j) (offset a (slot l i)) (offset a (slot l j))))

  -- a mark: both offsets written, x then y
  pub joined_mark : {x y x' y' : ℤ} {l₁ l₂ : List Slot} → i < length l → (slot l i).attach_type ≡ 1
      → x ≡ mark_from (is_main d X) (offset X (slot l i)) (offset X (slot l j)) → y ≡ mark_from (is_main d Y) (offset Y (slot l i)) (offset Y (slot l j))
      → Walked d l i j x y x' y'
      → l₁ ≡ update i (with_measure Offset X x') l → l₂ ≡ update i (with_measure Offset Y y') l₁ → l₂ ≡ taken_in d l i j
  unfolding taken_in
  joined_mark {x' = x'} {y' = y'} lt t x-is y-is to one two =
      update_both i (with_measure Offset X x') l (with_measure Offset Y y') lt one two
      ∙ ap₂ (λ u v. update i (with_offsets u v) l) (mark_offset t X x-is to.0) (mark_offset t Y y-is to.1)

  -- a cursive glyph: the cross offset written
  pub joined_cursive : {own above v : ℤ} {a : Axis} {l₁ : List Slot} → (slot l i).attach_type ≡ 2 → a ≡ cross d
      → own ≡ offset a (slot l i) → above ≡ offset a (slot l j) → v ≡ sat_add own above → l₁ ≡ update i (with_measure Offset a v) l → l₁ ≡ taken_in d l i j
  unfolding taken_in update
  joined_cursive {a = a} t a-is own_is above-is v-is is =
      is ∙ ap (λ w. update i (with_measure Offset a w) l) (v-is ∙ ap₂ sat_add own_is above-is)
      ∙ rw (a-is, ap attach_kind t) (ap (set l i) (cursive_slot d (shifted d X l i j) (shifted d Y l i j) (slot l i) (slot l j)))

  -- any other: nothing
  pub joined_other_type : ((slot l i).attach_type ≡ 1 → ⊥) → ((slot l i).attach_type ≡ 2 → ⊥) → l ≡ taken_in d l i j
  unfolding taken_in update
  joined_other_type one two = rw (other_kind (slot l i).attach_type one two) (sym (update_none i l))
