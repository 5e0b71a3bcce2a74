-- The ways through settling a slot, and what settling keeps. Assumes nothing.
use Rattle.std.specs.Prelude.{if◌then◌else◌}
use mathlib.Core.Bool.{Bool, true, false}
use mathlib.Core.List.{List, map}
use mathlib.Core.Path.{◌≡◌, refl, sym, ap, ◌∙◌}
use Prim.Native.Nat.{ℕ, zero, suc, ◌<◌}
use lib.IntN.{ℤ, pos}
use lib.ListN.{length, get_or, get_or-map}
use lib.Seq.{map-set_same}
use Rattle.slots.specs.Axis.{forward}
use Rattle.slots.specs.Slot.{Slot, no_slot}
use Rattle.slots.specs.Line.{slot, update}
use Rattle.slots.specs.Fields.{advance}
use Rattle.slots.specs.Parent.{by_parent, cleared, parent}
use Rattle.slots.specs.declared.axis.Axis.{Axis}
use Rattle.slots.specs.declared.axis.Axis.TheVariants.{X, Y}
use Rattle.slots.specs.declared.axis.Direction.{Direction}
use Rattle.slots.specs.declared.parent.Parent.{Parent}
use Rattle.slots.specs.declared.parent.Parent.TheVariants.{None, Outside, InLine}
use Rattle.slots.specs.declared.fields.Measure.TheVariants.{Advance}
use Rattle.slots.proofs.FieldLaws.{free, measure_chain}
use Rattle.slots.proofs.LineLaws.{length_update, update_other, update_same}
use Rattle.slots.proofs.ParentLaws.{cleared_count}
use Rattle.finish_rules.specs.Finish.{advances, finished, taken_in, new_offset, settled, settled_down, settled_up, with_offsets}

-- ---- one way through `settled` for each kind of parent
module _ (d : Direction) (m : List Slot) (i : ℕ) where
  pub settled_none : (n : ℕ) → parent m i ≡ None → settled d n m i ≡ m
  unfolding settled
  settled_none zero e = rw e
  settled_none (suc n) e = rw e

  pub settled_outside : (n : ℕ) → parent m i ≡ Outside → settled d n m i ≡ cleared m i
  unfolding settled
  settled_outside zero e = rw e
  settled_outside (suc n) e = rw e

  -- the limit is used up
  pub settled_stop : (j : ℕ) → parent m i ≡ InLine j → settled d zero m i ≡ cleared m i
  unfolding settled
  settled_stop j e = rw e

  pub settled_at : (n j : ℕ) → parent m i ≡ InLine j → settled d (suc n) m i ≡ taken_in d (settled d n (cleared m i) j) i j
  unfolding settled
  settled_at n j e = rw e

-- ---- what clearing and joining leave
-- a change that keeps what g reads of a slot keeps what g reads of the line
map_update : {B : Type 0} (g : Slot → B) (i : ℕ) (f : Slot → Slot) (m : List Slot) → g (f (slot m i)) ≡ g (slot m i) → map g (update i f m) ≡ map g m
unfolding update
map_update g i f m e = map-set_same g m i (f (slot m i)) no_slot e

-- other offsets change no advance
pub advance_moved : (a : Axis) (ox oy : ℤ) (s : Slot) → advance a (with_offsets ox oy s) ≡ advance a s
advance_moved X ox oy s = refl
advance_moved Y ox oy s = refl

module _ (m : List Slot) (i : ℕ) where
  pub cleared_advances : (a : Axis) → advances a (cleared m i) ≡ advances a m
  unfolding cleared
  cleared_advances a = map_update (advance a) i free m (measure_chain Advance a (pos 0) (slot m i))

  module _ (d : Direction) (j : ℕ) where
    takes : Slot → Slot
    takes = with_offsets (new_offset d m i j X) (new_offset d m i j Y)

    pub joined_count : length (taken_in d m i j) ≡ length m
    unfolding taken_in takes
    joined_count = length_update i takes m

    pub joined_advances : (a : Axis) → advances a (taken_in d m i j) ≡ advances a m
    unfolding taken_in takes
    joined_advances a = map_update (advance a) i takes m (advance_moved a (new_offset d m i j X) (new_offset d m i j Y) (slot m i))

    pub joined_own : i < length m → slot (taken_in d m i j) i ≡ with_offsets (new_offset d m i j X) (new_offset d m i j Y) (slot m i)
    unfolding taken_in takes
    joined_own lt = update_same i takes m lt

    pub joined_other : (k : ℕ) → (k ≡ i → ⊥) → slot (taken_in d m i j) k ≡ slot m k
    unfolding taken_in takes
    joined_other k ne = update_other i takes m k ne

    pub joined_chain : (k : ℕ) → (slot (taken_in d m i j) k).chain ≡ (slot m k).chain
    unfolding taken_in takes
    joined_chain k =
        sym (get_or-map (λ s. s.chain) (taken_in d m i j) k no_slot)
        ∙ ap (λ cs. get_or cs k no_slot.chain) (map_update (λ s. s.chain) i takes m refl)
        ∙ get_or-map (λ s. s.chain) m k no_slot

-- ---- what clearing and joining keep, settling and finishing keep
module _ (d : Direction) (P : List Slot → Type 0) (clears : (m : List Slot) (i : ℕ) → P m → P (cleared m i)) (joins : (m : List Slot) (i j : ℕ) → P m → P (taken_in d m i j)) where
  pub settled_holds : (n : ℕ) (m : List Slot) (i : ℕ) → P m → P (settled d n m i)
  unfolding settled
  settled_holds zero m i h = go (parent m i)
    where
      go : (p : Parent) → P (by_parent p m (cleared m i) (λ j. cleared m i))
      go None = h
      go Outside = clears m i h
      go (InLine j) = clears m i h
  settled_holds (suc n) m i h = go (parent m i) (λ j. settled_holds n (cleared m i) j (clears m i h))
    where
      go : (p : Parent) → ((j : ℕ) → P (settled d n (cleared m i) j)) → P (by_parent p m (cleared m i) (λ j. taken_in d (settled d n (cleared m i) j) i j))
      go None up = h
      go Outside up = clears m i h
      go (InLine j) up = joins (settled d n (cleared m i) j) i j (up j)

  pub up_holds : (limit : ℕ) (l : List Slot) (k : ℕ) → P l → P (settled_up d limit l k)
  unfolding settled_up
  up_holds limit l zero h = h
  up_holds limit l (suc k) h = settled_holds _ (settled_up d limit l k) k (up_holds limit l k h)

  pub down_holds : (limit : ℕ) (l : List Slot) (k : ℕ) → P l → P (settled_down d limit l k)
  unfolding settled_down
  down_holds limit l zero h = h
  down_holds limit l (suc k) h = down_holds limit (settled d limit l k) k (settled_holds _ l k h)

  pub finished_holds : (limit : ℕ) (flag : Bool) (l : List Slot) → P l → P (finished d limit flag l)
  unfolding finished
  finished_holds limit false l h = h
  finished_holds limit true l h = go (forward d)
    where
      go : (f : Bool) → P (if f then settled_up d limit l (length l) else settled_down d limit l (length l))
      go true = up_holds limit l (length l) h
      go false = down_holds limit l (length l) h

-- so they keep the number of slots, and the advances
module _ (d : Direction) (l : List Slot) where
  pub finished_count : (limit : ℕ) (flag : Bool) → length (finished d limit flag l) ≡ length l
  finished_count limit flag = finished_holds d (λ m. length m ≡ length l) (λ m i h. cleared_count m i ∙ h) (λ m i j h. joined_count m i d j ∙ h) limit flag l refl

  pub finished_advances : (limit : ℕ) (flag : Bool) (a : Axis) → advances a (finished d limit flag l) ≡ advances a l
  finished_advances limit flag a =
      finished_holds d (λ m. advances a m ≡ advances a l) (λ m i h. cleared_advances m i a ∙ h) (λ m i j h. joined_advances m i d j a ∙ h) limit flag l refl
