-- Demand 3 holds of finishing. Assumes nothing.
use mathlib.Core.Bool.{true, false}
use mathlib.Core.List.{List}
use mathlib.Core.Path.{◌≡◌, refl, ap, ◌∙◌}
use Prim.Native.Nat.{ℕ, zero, suc}
use lib.IntN.{ℤ, pos, neg_ℤ, ◌+ℤ◌, ◌-ℤ◌}
use Rattle.ints.proofs.Ints.{bal_add, bal_neg, omegaℤ}
use Rattle.slots.specs.Axis.{cross, main}
use Rattle.slots.specs.Slot.{Slot}
use Rattle.slots.specs.Line.{slot}
use Rattle.slots.specs.Fields.{offset}
use Rattle.slots.specs.Parent.{parent}
use Rattle.slots.specs.declared.axis.Axis.{Axis}
use Rattle.slots.specs.declared.axis.Direction.{Direction}
use Rattle.slots.specs.declared.axis.Direction.TheVariants.{LeftToRight, RightToLeft, TopToBottom, BottomToTop}
use Rattle.slots.specs.declared.parent.Parent.{Parent}
use Rattle.slots.specs.declared.parent.Parent.TheVariants.{None, Outside, InLine}
use Rattle.slots.specs.declared.fields.Measure.TheVariants.{Advance, Offset}
use Rattle.slots.proofs.FieldLaws.{free, measure_chain}
use Rattle.slots.proofs.ParentLaws.{none_ends, outside_ends}
use Rattle.finish_rules.specs.Finish.{finished, is_main, attach_kind, with_offsets}
use Rattle.finish_rules.specs.theorems.Demand3.{Bounded, Cursive, Demand3, Kept, Mark, pen}
use Rattle.finish_rules.proofs.Along.{along_holds}
use Rattle.finish_rules.proofs.Exact.{exact, final, offset_onto, onto}
use Rattle.finish_rules.proofs.SettledLaws.{advance_moved, finished_advances, finished_count}
use Rattle.finish_rules.proofs.Settling.{fin_at, fin_end, final_chain, finished_slot}

-- the main axis is the main one, the cross axis is not
main_is : (d : Direction) → is_main d (main d) ≡ true
main_is LeftToRight = refl
main_is RightToLeft = refl
main_is TopToBottom = refl
main_is BottomToTop = refl

cross_is : (d : Direction) → is_main d (cross d) ≡ false
cross_is LeftToRight = refl
cross_is RightToLeft = refl
cross_is TopToBottom = refl
cross_is BottomToTop = refl

-- the sums
along_sum : (p own par q : ℤ) → p +ℤ (own +ℤ par +ℤ (q -ℤ p)) ≡ (q +ℤ par) +ℤ own
along_sum p own par q =
    omega (omegaℤ, bal_add p (own +ℤ par +ℤ (q -ℤ p)), bal_add (own +ℤ par) (q -ℤ p), bal_add own par, bal_add q (neg_ℤ p), bal_neg p, bal_add (q +ℤ par) own, bal_add q par)

across_sum : (p own q : ℤ) → p +ℤ (own +ℤ (q -ℤ p)) ≡ q +ℤ own
across_sum p own q = omega (omegaℤ, bal_add p (own +ℤ (q -ℤ p)), bal_add own (q -ℤ p), bal_add q (neg_ℤ p), bal_neg p, bal_add q own)

-- a slot unattached, with other offsets, keeps all else
moved_kept : (ox oy : ℤ) (s : Slot) → Kept s (with_offsets ox oy (free s))
moved_kept ox oy s = record {
  glyph_kept = refl;
  id_kept = refl;
  component_kept = refl;
  flags_kept = refl;
  type_kept = refl;
  cluster_kept = refl;
  advances_kept = λ a. advance_moved a ox oy (free s) ∙ measure_chain Advance a (pos 0) s;
}

-- so a final slot keeps all but chain and offsets
final_kept : (d : Direction) (l : List Slot) (n i : ℕ) → Kept (slot l i) (final d l n i)
final_kept d l =
    along_holds l (λ k. free (slot l k)) (onto d l) (λ n i s. Kept (slot l i) s)
    (λ n i. moved_kept (slot l i).x_offset (slot l i).y_offset (slot l i)) (λ n i j s e h. moved_kept _ _ (slot l i))

module _ (d : Direction) (limit : ℕ) (l : List Slot) (ok : Bounded limit l) where
  abbrev l' : List Slot
  l' = finished d limit true l

  -- the new offset of a slot whose parent is in the line, and of one whose isn't
  offset_at : (i j : ℕ) (a : Axis) → parent l i ≡ InLine j
      → offset a (slot l' i) ≡ exact (attach_kind (slot l i).attach_type) (is_main d a) (pen d a l j -ℤ pen d a l i) (offset a (slot l i)) (offset a (slot l' j))
  offset_at i j a e = rw (finished_slot d limit l ok i, finished_slot d limit l ok j, fin_at d limit l ok i j e) (offset_onto d l i j (final d l limit j) a)

  offset_end : (i : ℕ) (a : Axis) → ((j : ℕ) → parent l i ≡ InLine j → ⊥) → offset a (slot l' i) ≡ offset a (slot l i)
  offset_end i a h = rw (finished_slot d limit l ok i, fin_end d limit l ok i h) (measure_chain Offset a (pos 0) (slot l i))

  -- the slots that are neither a mark nor a cursive glyph
  untouched : (i : ℕ) (a : Axis) → ((j : ℕ) → Mark l i j → ⊥) → ((j : ℕ) → Cursive l i j → ⊥) → offset a (slot l' i) ≡ offset a (slot l i)
  untouched i a no-mark no-cursive = go (parent l i) refl
    where
      by : (j : ℕ) → parent l i ≡ InLine j → (k : ℕ) → (slot l i).attach_type ≡ k
          → exact (attach_kind k) (is_main d a) (pen d a l j -ℤ pen d a l i) (offset a (slot l i)) (offset a (slot l' j)) ≡ offset a (slot l i)
      by j e zero f = refl
      by j e (suc zero) f = absurd (no-mark j (record { type_is = f; parent_is = e }))
      by j e (suc (suc zero)) f = absurd (no-cursive j (record { type_is = f; parent_is = e }))
      by j e (suc (suc (suc k))) f = refl

      go : (p : Parent) → parent l i ≡ p → offset a (slot l' i) ≡ offset a (slot l i)
      go None e = offset_end i a (none_ends e)
      go Outside e = offset_end i a (outside_ends e)
      go (InLine j) e = offset_at i j a e ∙ by j e (slot l i).attach_type refl

  -- the theorem
  pub demand3 : Demand3 d l (finished d limit true l)
  demand3 =
      record {
        mark_along = λ i j m.
            let o : offset (main d) (slot l' i) ≡ offset (main d) (slot l i) +ℤ offset (main d) (slot l' j) +ℤ (pen d (main d) l j -ℤ pen d (main d) l i) = rw (m.type_is, main_is d) at (offset_at i j (main d) m.parent_is) in
            rw (o, finished_advances d l limit true (main d)) (along_sum (pen d (main d) l i) (offset (main d) (slot l i)) (offset (main d) (slot l' j)) (pen d (main d) l j));
        mark_across = λ i j m.
            let o : offset (cross d) (slot l' i) ≡ offset (cross d) (slot l i) +ℤ (pen d (cross d) l j -ℤ pen d (cross d) l i) = rw (m.type_is, cross_is d) at (offset_at i j (cross d) m.parent_is) in
            rw (o, finished_advances d l limit true (cross d)) (across_sum (pen d (cross d) l i) (offset (cross d) (slot l i)) (pen d (cross d) l j));
        cursive_across = λ i j m. rw (m.type_is, cross_is d) at (offset_at i j (cross d) m.parent_is);
        cursive_along = λ i j m. rw (m.type_is, main_is d) at (offset_at i j (main d) m.parent_is);
        others = untouched;
        rest_kept = λ i. rw (finished_slot d limit l ok i) (final_kept d l limit i);
        same_count = finished_count d l limit true;
        no_chain = λ i. ap (λ s. s.chain) (finished_slot d limit l ok i) ∙ final_chain d l limit i;
      }
