-- What bytes can hold before finishing, they can hold after it. Assumes nothing.
use mathlib.Core.Bool.{Bool, true, false}
use mathlib.Core.List.{List, [], ◌∷◌}
use Prim.Native.Nat.{ℕ, zero, suc, ◌-◌}
use native.Mathlib.Omega.{arith}
use lib.Dec.{ltb}
use lib.IntN.{ℤ, pos, ◌+ℤ◌, ◌-ℤ◌}
use lib.ListN.{set}
use Rattle.ints.specs.Signed.{InBytes}
use Rattle.ints.specs.Sums.{stepwise}
use Rattle.ints.proofs.BigEndianLaws.{nat_at_fits}
use Rattle.ints.proofs.SaturatingLaws.{clamp_fits}
use Rattle.slots.specs.Axis.{forward}
use Rattle.slots.specs.Slot.{Slot, no_slot, slot_size}
use Rattle.slots.specs.theorems.Storable.{Storable, AllStorable}
use Rattle.slots.specs.Line.{slot, update}
use Rattle.slots.specs.Fields.{offset, with_chain}
use Rattle.slots.specs.declared.axis.Axis.{Axis}
use Rattle.slots.specs.declared.axis.Axis.TheVariants.{X, Y}
use Rattle.slots.specs.declared.axis.Direction.{Direction}
use Rattle.slots.specs.Parent.{cleared}
use Rattle.slots.proofs.FieldLaws.{free}
use Rattle.finish_rules.specs.Finish.{advances, between, finished, taken_in, AttachKind, mark, cursive, neither, attach_kind, is_main, new_offset, step_by, subtracts, new_offset_by, shifted, with_offsets}
use Rattle.finish_rules.proofs.SettledLaws.{finished_holds}

-- ---- one slot of a line
empty_storable : (z : ℕ) → Storable z no_slot
empty_storable z =
    record {
      glyph_fits = omega arith;
      id_fits = omega arith;
      component_fits = omega arith;
      flags_fit = omega arith;
      type_fits = omega arith;
      chain_fits = omega arith;
      x_advance_fits = omega arith;
      y_advance_fits = omega arith;
      x_offset_fits = omega arith;
      y_offset_fits = omega arith;
      cluster_fits = omega (arith, nat_at_fits (z - slot_size) [] 0 (λ k. omega arith));
    }

slot_storable : (z : ℕ) (l : List Slot) (i : ℕ) → AllStorable z l → Storable z (slot l i)
unfolding AllStorable
slot_storable z [] i h = empty_storable z
slot_storable z (s ∷ l) zero h = h.0
slot_storable z (s ∷ l) (suc i) h = slot_storable z l i h.1

set_storable : (z : ℕ) (l : List Slot) (i : ℕ) (s : Slot) → Storable z s → AllStorable z l → AllStorable z (set l i s)
unfolding AllStorable
set_storable z [] i s g h = h
set_storable z (t ∷ l) zero s g h = (g, h.1)
set_storable z (t ∷ l) (suc i) s g h = (h.0, set_storable z l i s g h.1)

-- ---- a slot with another chain and other offsets
changed_storable : {z : ℕ} (c ox oy : ℤ) (s : Slot) → InBytes 2 c → InBytes 4 ox → InBytes 4 oy → Storable z s → Storable z (with_chain c (with_offsets ox oy s))
changed_storable c ox oy s fc fx fy h =
    record {
      glyph_fits = h.glyph_fits;
      id_fits = h.id_fits;
      component_fits = h.component_fits;
      flags_fit = h.flags_fit;
      type_fits = h.type_fits;
      chain_fits = fc;
      x_advance_fits = h.x_advance_fits;
      y_advance_fits = h.y_advance_fits;
      x_offset_fits = fx;
      y_offset_fits = fy;
      cluster_fits = h.cluster_fits;
    }

-- ---- the new offset is a number of 32 bits: each sum is brought to one
offset_fits : {z : ℕ} (a : Axis) (s : Slot) → Storable z s → InBytes 4 (offset a s)
offset_fits X s h = h.x_offset_fits
offset_fits Y s h = h.y_offset_fits

step_fits : (b : Bool) (z v : ℤ) → InBytes 4 (step_by b z v)
step_fits true z v = clamp_fits (z -ℤ v)
step_fits false z v = clamp_fits (z +ℤ v)

steps_fit : (b : Bool) (z : ℤ) (zs : List ℤ) → InBytes 4 z → InBytes 4 (stepwise (step_by b) z zs)
unfolding stepwise
steps_fit b z [] h = h
steps_fit b z (v ∷ zs) h = steps_fit b (step_by b z v) zs (step_fits b z v)

taken_fits : (k : AttachKind) (main? : Bool) (walk : ℤ → ℤ) → ((z : ℤ) → InBytes 4 z → InBytes 4 (walk z)) → (own parents : ℤ) → InBytes 4 own
    → InBytes 4 (new_offset_by k main? walk own parents)
taken_fits mark true walk w own parents h = w _ (clamp_fits (own +ℤ parents))
taken_fits mark false walk w own parents h = w own h
taken_fits cursive true walk w own parents h = h
taken_fits cursive false walk w own parents h = clamp_fits (own +ℤ parents)
taken_fits neither main? walk w own parents h = h

module _ (z : ℕ) (d : Direction) where
  -- so slot i's new offset, the line cleared at i and the line joined at i
  new_fits : (l : List Slot) (i j : ℕ) (a : Axis) → AllStorable z l → InBytes 4 (new_offset d l i j a)
  unfolding shifted
  new_fits l i j a h =
      taken_fits (attach_kind (slot l i).attach_type) (is_main d a) (shifted d a l i j)
      (λ v g. steps_fit (subtracts (ltb j i) (forward d)) v (advances a (between (forward d) l i j)) g)
      (offset a (slot l i)) (offset a (slot l j)) (offset_fits a (slot l i) (slot_storable z l i h))

  cleared_storable : (l : List Slot) (i : ℕ) → AllStorable z l → AllStorable z (cleared l i)
  unfolding cleared update
  cleared_storable l i h =
      let s = slot l i in
      let k = slot_storable z l i h in
      set_storable z l i (free s) (changed_storable (pos 0) s.x_offset s.y_offset s (omega arith) k.x_offset_fits k.y_offset_fits k) h

  joined_storable : (l : List Slot) (i j : ℕ) → AllStorable z l → AllStorable z (taken_in d l i j)
  unfolding taken_in update
  joined_storable l i j h =
      let s = slot l i in
      let k = slot_storable z l i h in
      set_storable z l i (with_offsets (new_offset d l i j X) (new_offset d l i j Y) s)
      (changed_storable s.chain (new_offset d l i j X) (new_offset d l i j Y) s k.chain_fits (new_fits l i j X h) (new_fits l i j Y h) k) h

  -- a finished line can be read back from its bytes
  pub finished_storable : (limit : ℕ) (flag : Bool) (l : List Slot) → AllStorable z l → AllStorable z (finished d limit flag l)
  finished_storable = finished_holds d (AllStorable z) cleared_storable joined_storable
