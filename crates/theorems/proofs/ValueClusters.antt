-- A value record is applied to a slot without its cluster. Assumes nothing.
use mathlib.Core.List.{List}
use mathlib.Core.Path.{◌≡◌, refl}
use Prim.Native.Nat.{ℕ, zero, suc}
use lib.IntN.{ℤ}
use Rattle.ints.specs.Saturating.{sat_sub, sat_add}
use Rattle.ints.specs.Scale.{scaled}
use Rattle.slots.specs.Slot.{Slot}
use Rattle.slots.specs.Fields.{with_cluster, with_measure}
use Rattle.slots.specs.declared.axis.Direction.{Direction}
use Rattle.theorems.proofs.ClusterLaws.{if_keeps, keeps_after, keeps_by, measure_keeps, measure_sees, SlotKeeps}
use Rattle.values.specs.Format.{field_value, has}
use Rattle.values.specs.FieldEffect.{FieldEffect, skipped, added, subtracted, with_effect, effect_of}
use Rattle.values.specs.Value.{cut, valued, with_field, with_fields}

-- a scaled value put to what is touched
effect_keeps : (t : FieldEffect) (z : ℤ) → SlotKeeps (with_effect t z)
effect_keeps skipped z = λ c s. refl
effect_keeps (added m a) z = keeps_by (measure_sees m a) (λ w. with_measure m a (sat_add w z)) (λ w. measure_keeps m a (sat_add w z))
effect_keeps (subtracted m a) z = keeps_by (measure_sees m a) (λ w. with_measure m a (sat_sub w z)) (λ w. measure_keeps m a (sat_sub w z))

module _ (s u : ℕ) (d : Direction) (r : List ℕ) (f : ℕ) where
  -- one field
  field_keeps : (b : ℕ) → SlotKeeps (with_field s u d r f b)
  field_keeps b =
      let z : ℤ = scaled (field_value r f b) s u in
      if_keeps (with_effect (effect_of d b) z) (λ slot. slot) (effect_keeps (effect_of d b) z) (λ c slot. refl) (has f b)

  -- the first n fields
  fields_keep : (n : ℕ) → SlotKeeps (with_fields s u d r f n)
  unfolding with_fields
  fields_keep zero = λ c slot. refl
  fields_keep (suc n) = keeps_after (with_fields s u d r f n) (with_field s u d r f n) (fields_keep n) (field_keeps n)

  -- the whole record, cut or not
  pub valued_keeps : (c : ℕ) (slot : Slot) → valued s u d r f (with_cluster c slot) ≡ with_cluster c (valued s u d r f slot)
  unfolding valued
  valued_keeps = if_keeps (λ slot. slot) (with_fields s u d r f 8) (λ c slot. refl) (fields_keep 8) (cut r f)
