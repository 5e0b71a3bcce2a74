-- Demand 3 leaves one line: whatever meets it is the finished line. Assumes nothing.
use mathlib.Core.Bool.{true}
use mathlib.Core.List.{List}
use mathlib.Core.Logic.{◌⊎◌, inl, inr}
use mathlib.Core.Path.{◌≡◌, refl, sym, ap, ◌∙◌}
use Prim.Native.Nat.{ℕ, zero, suc}
use native.Mathlib.Omega.{arith}
use lib.IntN.{ℤ, pos, ◌+ℤ◌}
use lib.ListN.{length, length-map}
use lib.Seq.{ext_get_or}
use Rattle.ints.proofs.Ints.{bal_add, omegaℤ}
use Rattle.slots.specs.Axis.{cross, forward, main}
use Rattle.slots.specs.Slot.{Slot, no_slot}
use Rattle.slots.specs.Line.{slot}
use Rattle.slots.specs.Fields.{advance, offset}
use Rattle.slots.specs.Parent.{parent}
use Rattle.slots.specs.declared.axis.Axis.{Axis}
use Rattle.slots.specs.declared.axis.Axis.TheVariants.{X, Y}
use Rattle.slots.specs.declared.axis.Direction.{Direction}
use Rattle.slots.specs.declared.axis.Direction.TheVariants.{LeftToRight, RightToLeft, TopToBottom, BottomToTop}
use Rattle.slots.specs.declared.parent.Parent.{Parent}
use Rattle.slots.specs.declared.parent.Parent.TheVariants.{None, Outside, InLine}
use Rattle.slots.proofs.ParentLaws.{none_ends, outside_ends}
use Rattle.finish_rules.specs.Finish.{advances, finished}
use Rattle.finish_rules.specs.theorems.Demand3.{Bounded, Cursive, Demand3, EndsWithin, Kept, Mark, pen, pen_of}
use Rattle.finish_rules.proofs.WalkLaws.{get_d_advances}
use Rattle.finish_rules.proofs.Theorem.{demand3}

-- an axis is the main one or the cross one
axis_is : (d : Direction) (a : Axis) → (a ≡ main d) ⊎ (a ≡ cross d)
axis_is LeftToRight X = inl refl
axis_is LeftToRight Y = inr refl
axis_is RightToLeft X = inl refl
axis_is RightToLeft Y = inr refl
axis_is TopToBottom X = inr refl
axis_is TopToBottom Y = inl refl
axis_is BottomToTop X = inr refl
axis_is BottomToTop Y = inl refl

-- two slots are equal where their fields are
slot_path : (s t : Slot) → s.glyph ≡ t.glyph → s.ligature_id ≡ t.ligature_id → s.component ≡ t.component → s.flags ≡ t.flags → s.attach_type ≡ t.attach_type → s.chain ≡ t.chain → s.cluster ≡ t.cluster
    → ((a : Axis) → advance a s ≡ advance a t) → ((a : Axis) → offset a s ≡ offset a t) → s ≡ t
slot_path s t g i c f k h n a o =
    let xa : s.x_advance ≡ t.x_advance = a X in
    let ya : s.y_advance ≡ t.y_advance = a Y in
    let xo : s.x_offset ≡ t.x_offset = o X in
    let yo : s.y_offset ≡ t.y_offset = o Y in
    λ w. record { glyph = g w; ligature_id = i w; component = c w; flags = f w; attach_type = k w; chain = h w; x_advance = xa w; y_advance = ya w; x_offset = xo w; y_offset = yo w; cluster = n w }

-- the same sum at the same place has the same offset
cancel : (p a b : ℤ) → p +ℤ a ≡ p +ℤ b → a ≡ b
cancel p a b e = omega (omegaℤ, bal_add p a, bal_add p b)

-- what keeps every slot's advances keeps the line's
kept_advances : (l m : List Slot) → length m ≡ length l → ((i : ℕ) → Kept (slot l i) (slot m i)) → (a : Axis) → advances a m ≡ advances a l
kept_advances l m n k a =
    ext_get_or (pos 0) (advances a m) (advances a l) (length-map m (advance a) ∙ n ∙ sym (length-map l (advance a)))
    (λ i lt. get_d_advances m a i ∙ (k i).advances_kept a ∙ sym (get_d_advances l a i))

module _ (d : Direction) (l m m' : List Slot) (h : Demand3 d l m) (h' : Demand3 d l m') where
  -- two lines that meet demand 3 have the same advances and pen places
  same_advances : (a : Axis) → advances a m ≡ advances a m'
  same_advances a = kept_advances l m h.same_count h.rest_kept a ∙ sym (kept_advances l m' h'.same_count h'.rest_kept a)

  same_pen : (a : Axis) (i : ℕ) → pen d a m i ≡ pen d a m' i
  same_pen a i = ap (λ zs. pen_of (forward d) zs i) (same_advances a)

  -- the same offsets of a slot that is neither a mark nor a cursive glyph, so where a chain ends
  same_neither : (i : ℕ) (a : Axis) → ((j : ℕ) → Mark l i j → ⊥) → ((j : ℕ) → Cursive l i j → ⊥) → offset a (slot m i) ≡ offset a (slot m' i)
  same_neither i a k c = h.others i a k c ∙ sym (h'.others i a k c)

  same_end : (i : ℕ) (a : Axis) → ((j : ℕ) → parent l i ≡ InLine j → ⊥) → offset a (slot m i) ≡ offset a (slot m' i)
  same_end i a f = same_neither i a (λ j u. f j u.parent_is) (λ j u. f j u.parent_is)

  module _ (i j : ℕ) (e : parent l i ≡ InLine j) (up : (a : Axis) → offset a (slot m j) ≡ offset a (slot m' j)) where
    -- and, by the type, on a parent of the same offsets
    same_mark : (slot l i).attach_type ≡ 1 → (a : Axis) → (a ≡ main d) ⊎ (a ≡ cross d) → offset a (slot m i) ≡ offset a (slot m' i)
    same_mark k a (inl q) =
        let u : Mark l i j = record { type_is = k; parent_is = e } in
        rw q (cancel (pen d (main d) m i) (offset (main d) (slot m i)) (offset (main d) (slot m' i))
        (h.mark_along i j u ∙ rw (same_pen (main d) j, up (main d), same_pen (main d) i) (sym (h'.mark_along i j u))))
    same_mark k a (inr q) =
        let u : Mark l i j = record { type_is = k; parent_is = e } in
        rw q (cancel (pen d (cross d) m i) (offset (cross d) (slot m i)) (offset (cross d) (slot m' i))
        (h.mark_across i j u ∙ rw (same_pen (cross d) j, same_pen (cross d) i) (sym (h'.mark_across i j u))))

    same_cursive : (slot l i).attach_type ≡ 2 → (a : Axis) → (a ≡ main d) ⊎ (a ≡ cross d) → offset a (slot m i) ≡ offset a (slot m' i)
    same_cursive k a (inl q) =
        let u : Cursive l i j = record { type_is = k; parent_is = e } in
        rw q (h.cursive_along i j u ∙ sym (h'.cursive_along i j u))
    same_cursive k a (inr q) =
        let u : Cursive l i j = record { type_is = k; parent_is = e } in
        rw q (h.cursive_across i j u ∙ rw (up (cross d)) (sym (h'.cursive_across i j u)))

    same_other : ((slot l i).attach_type ≡ 1 → ⊥) → ((slot l i).attach_type ≡ 2 → ⊥) → (a : Axis) → offset a (slot m i) ≡ offset a (slot m' i)
    same_other one two a = same_neither i a (λ n u. one u.type_is) (λ n u. two u.type_is)

    same_at : (k : ℕ) → (slot l i).attach_type ≡ k → (a : Axis) → offset a (slot m i) ≡ offset a (slot m' i)
    same_at zero k a = same_other (λ f. omega arith) (λ f. omega arith) a
    same_at (suc zero) k a = same_mark k a (axis_is d a)
    same_at (suc (suc zero)) k a = same_cursive k a (axis_is d a)
    same_at (suc (suc (suc n))) k a = same_other (λ f. omega arith) (λ f. omega arith) a

  -- so along every chain
  same_off : (n i : ℕ) → EndsWithin l n i → (a : Axis) → offset a (slot m i) ≡ offset a (slot m' i)
  same_off zero i f a = same_end i a f
  same_off (suc n) i f a = go (parent l i) refl (λ j e. same_off n j (f j e))
    where
      go : (p : Parent) → parent l i ≡ p → ((j : ℕ) → parent l i ≡ InLine j → (a : Axis) → offset a (slot m j) ≡ offset a (slot m' j)) → offset a (slot m i) ≡ offset a (slot m' i)
      go None e up = same_end i a (none_ends e)
      go Outside e up = same_end i a (outside_ends e)
      go (InLine j) e up = same_at i j e (up j e) (slot l i).attach_type refl a

  -- slots of the same offsets are the same
  same_slot : (i : ℕ) → ((a : Axis) → offset a (slot m i) ≡ offset a (slot m' i)) → slot m i ≡ slot m' i
  same_slot i o =
      let k = h.rest_kept i in
      let k' = h'.rest_kept i in
      slot_path (slot m i) (slot m' i) (k.glyph_kept ∙ sym k'.glyph_kept) (k.id_kept ∙ sym k'.id_kept) (k.component_kept ∙ sym k'.component_kept)
      (k.flags_kept ∙ sym k'.flags_kept) (k.type_kept ∙ sym k'.type_kept) (h.no_chain i ∙ sym (h'.no_chain i)) (k.cluster_kept ∙ sym k'.cluster_kept)
      (λ a. k.advances_kept a ∙ sym (k'.advances_kept a)) o

-- two lines that meet demand 3 are equal
pub one_line : (d : Direction) (limit : ℕ) (l m m' : List Slot) → Bounded limit l → Demand3 d l m → Demand3 d l m' → m ≡ m'
one_line d limit l m m' ok h h' =
    ext_get_or no_slot m m' (h.same_count ∙ sym h'.same_count)
    (λ i lt. same_slot d l m m' h h' i (same_off d l m m' h h' limit i (ok.chains_end i (omega (arith, h.same_count)))))

-- so demand 3 says all that finishing does to such a line
pub only_finished : (d : Direction) (limit : ℕ) (l m : List Slot) → Bounded limit l → Demand3 d l m → m ≡ finished d limit true l
only_finished d limit l m ok h = one_line d limit l m (finished d limit true l) ok h (demand3 d limit l ok)
