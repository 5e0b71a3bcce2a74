-- A value record leaves what a slot is, and so do the calls that apply one or two: single and pair adjustment. Assumes nothing.
use Rattle.std.specs.Prelude.{None, Option, Some}
use mathlib.Core.List.{List}
use mathlib.Core.Path.{◌≡◌, refl, ◌∙◌}
use Prim.Native.Nat.{ℕ, zero, suc}
use lib.IntN.{ℤ}
use Rattle.ints.specs.Saturating.{sat_add, sat_sub}
use Rattle.ints.specs.Scale.{scaled}
use Rattle.slots.specs.Slot.{Slot}
use Rattle.slots.specs.Line.{slot, update}
use Rattle.slots.specs.Fields.{measure}
use Rattle.slots.specs.theorems.Identity.{identities, identity}
use Rattle.slots.specs.declared.axis.Direction.{Direction}
use Rattle.answers.specs.declared.Neighbour.{Neighbour}
use Rattle.values.specs.FieldEffect.{FieldEffect, skipped, added, subtracted, effect_of, with_effect}
use Rattle.values.specs.Format.{field_value, has, record_at}
use Rattle.values.specs.Value.{cut, valued, with_field, with_fields}
use Rattle.single.specs.SinglePos.{adjusted, place_for, single_adjustment, value_format}
use Rattle.pair.specs.PairPos.{value_format1, value_format2}
use Rattle.pair.specs.Plan.{Plan, stop, adjust, plan_of}
use Rattle.pair.specs.Adjustment.{first_record, first_valued, pair_adjustment, planned, second_record}
use Rattle.lookup.proofs.Kept.{choice, measure_kept, update_kept}

-- a scaled value put to what a field touches
effect_kept : (t : FieldEffect) (z : ℤ) (s : Slot) → identity (with_effect t z s) ≡ identity s
effect_kept skipped z s = refl
effect_kept (added m a) z s = measure_kept m a (sat_add (measure m a s) z) s
effect_kept (subtracted m a) z s = measure_kept m a (sat_sub (measure m a s) z) s

module _ (s u : ℕ) (d : Direction) where
  module _ (r : List ℕ) (f : ℕ) where
    -- one field
    field_kept : (b : ℕ) (one : Slot) → identity (with_field s u d r f b one) ≡ identity one
    field_kept b one =
        let z : ℤ = scaled (field_value r f b) s u in
        choice (λ x. identity x ≡ identity one) (with_effect (effect_of d b) z one) one (effect_kept (effect_of d b) z one) refl (has f b)

    -- the first n fields
    fields_kept : (n : ℕ) (one : Slot) → identity (with_fields s u d r f n one) ≡ identity one
    unfolding with_fields
    fields_kept zero one = refl
    fields_kept (suc n) one = field_kept n (with_fields s u d r f n one) ∙ fields_kept n one

    -- the whole record, cut or not
    valued_kept : (one : Slot) → identity (valued s u d r f one) ≡ identity one
    unfolding valued
    valued_kept one = choice (λ x. identity x ≡ identity one) one (with_fields s u d r f 8 one) refl (fields_kept 8 one) (cut r f)

  module _ (t : List ℕ) (i : ℕ) where
    -- a record at a place, if there is one
    adjusted_kept : (p : Option ℕ) (ss : List Slot) → identities (adjusted s u d t i p ss) ≡ identities ss
    adjusted_kept (Some at) ss = update_kept i _ (valued_kept (record_at t at (value_format t)) (value_format t)) ss
    adjusted_kept None ss = refl

    -- two records, if a pair has them
    planned_kept : (p : Plan) (ss : List Slot) → identities (planned s u d t i p ss) ≡ identities ss
    planned_kept (stop hazards) ss = refl
    planned_kept (adjust table at second) ss =
        update_kept second _ (valued_kept (second_record t table at) (value_format2 t)) (update i (first_valued s u d t table at) ss)
        ∙ update_kept i _ (valued_kept (first_record t table at) (value_format1 t)) ss

module _ (t : List ℕ) (d : Direction) (s u i : ℕ) where
  -- single adjustment
  pub single_kept : (ss : List Slot) → identities ((single_adjustment t d s u i).leaves ss) ≡ identities ss
  single_kept ss = adjusted_kept s u d t i (place_for t (slot ss i).glyph) ss

  -- pair adjustment
  pub pair_kept : (second : Neighbour) (ss : List Slot) → identities ((pair_adjustment t d s u i second).leaves ss) ≡ identities ss
  pair_kept second ss = planned_kept s u d t i (plan_of t ss i second) ss
