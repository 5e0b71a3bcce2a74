-- Applying a value record to a slot. Assumes nothing.
use Rattle.std.specs.Prelude.{Bool, false, not, ◌&&◌, ◌||◌, List, ℕ, zero, suc, eqb, ltb, nat_abs, length, if◌then◌else◌}
use Rattle.ints.specs.Scale.{scaled}
use Rattle.slots.specs.Slot.{Slot}
use Rattle.slots.specs.declared.axis.Direction.{Direction}
use Rattle.values.specs.Format.{field_value, has, record_length}
use Rattle.values.specs.FieldEffect.{applies, with_effect, effect_of}

-- field b of the record r, of the format f, applied to a slot in the direction d at the scale s / u: nothing where the
-- record lacks it
abbrev pub with_field : ℕ → ℕ → Direction → List ℕ → ℕ → ℕ → Slot → Slot
with_field s u d r f b slot =
    if has f b then with_effect (effect_of d b) (scaled (field_value r f b) s u) slot else slot

-- the first n fields, in bit order
unfoldable pub with_fields : ℕ → ℕ → Direction → List ℕ → ℕ → ℕ → Slot → Slot
with_fields s u d r f zero slot = slot
with_fields s u d r f (suc n) slot = with_field s u d r f n (with_fields s u d r f n slot)

-- field b is there, applies, and is not zero, before scaling
abbrev pub field_works : Direction → List ℕ → ℕ → ℕ → Bool
field_works d r f b = has f b && (applies (effect_of d b) && not (eqb (nat_abs (field_value r f b)) 0))

-- one of the first n fields works
unfoldable pub fields_work : Direction → List ℕ → ℕ → ℕ → Bool
fields_work d r f zero = false
fields_work d r f (suc n) = fields_work d r f n || field_works d r f n

-- the record r is cut: it has fewer bytes than its format says
abbrev pub cut : List ℕ → ℕ → Bool
cut r f = ltb (length r) (record_length f)

-- the slot with the record applied: a cut record does nothing
unfoldable pub valued : ℕ → ℕ → Direction → List ℕ → ℕ → Slot → Slot
valued s u d r f slot = if cut r f then slot else with_fields s u d r f 8 slot

-- the record worked: one of its fields does; a cut record has not
unfoldable pub worked : Direction → List ℕ → ℕ → Bool
worked d r f = if cut r f then false else fields_work d r f 8
