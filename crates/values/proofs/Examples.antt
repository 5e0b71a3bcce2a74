-- Values worked by hand from the rules: records cut, empty and full, devices, directions, the scale. They compute. Assumes nothing.
use mathlib.Core.Path.{◌≡◌, refl}
use mathlib.Core.Bool.{Bool, true, false}
use mathlib.Core.List.{List, [], ◌∷◌, map}
use Prim.Native.Nat.{ℕ}
use lib.IntN.{ℤ, pos}
use Rattle.ints.specs.BigEndian.{nat_at}
use Rattle.ints.specs.Saturating.{clamp32, minus}
use Rattle.ints.specs.Scale.{scaled}
use Rattle.ints.specs.Signed.{int_at, signed}
use Rattle.slots.specs.Axis.{direction_of}
use Rattle.slots.specs.Slot.{Slot, no_slot}
use Rattle.slots.specs.Fields.{with_place}
use Rattle.values.specs.Format.{set_below}
use Rattle.values.specs.FieldEffect.{effect_of}
use Rattle.values.specs.Value.{fields_work, valued, with_fields, worked}

-- what a slot becomes, and whether the record worked
pub record Made : Type 0 where
  pub slot : Slot
  pub works : Bool

-- what the definitions make of a slot that is all 0, and what is right
pub record Row : Type 0 where
  pub done : Made
  pub right : Made

-- format, record, number of the direction, s and u; x offset, y offset, x advance, y advance, and whether it worked
abbrev row : ℕ → List ℕ → ℕ → ℕ → ℕ → ℤ → ℤ → ℤ → ℤ → Bool → Row
row f r n s u xo yo xa ya w =
    let d = direction_of n in
    record {
      done = record { slot = valued s u d r f no_slot; works = worked d r f };
      right = record { slot = with_place xa ya xo yo no_slot; works = w };
    }

-- the cases, one to a line
abbrev pub table : List Row
table =
    -- x placement -10, x advance 20, cut by one byte: nothing, not worked
    row 5 (255 ∷ 246 ∷ 0 ∷ []) 0 1000 1000 (pos 0) (pos 0) (pos 0) (pos 0) false
    -- value 1 at the smallest scale: nothing moves, worked
    ∷ row 4 (0 ∷ 1 ∷ []) 0 1 16384 (pos 0) (pos 0) (pos 0) (pos 0) true
    ∷ []

-- each is as it should be
pub computed : map (λ (x : Row). x.done) table ≡ map (λ (x : Row). x.right) table
unfolding nat_at clamp32 scaled int_at signed set_below effect_of fields_work valued with_fields worked
computed = refl

-- ---- at the ends
-- eight fields, 1 to 8
abbrev eight : List ℕ
eight = 0 ∷ 1 ∷ 0 ∷ 2 ∷ 0 ∷ 3 ∷ 0 ∷ 4 ∷ 0 ∷ 5 ∷ 0 ∷ 6 ∷ 0 ∷ 7 ∷ 0 ∷ 8 ∷ []

abbrev pub ends : List Row
ends =
    -- no field: nothing, not worked
    row 0 [] 0 1000 1000 (pos 0) (pos 0) (pos 0) (pos 0) false
    -- all fields: the placements and one advance, y subtracted; devices never
    ∷ row 255 eight 1 1000 1000 (pos 1) (pos 2) (pos 3) (pos 0) true
    ∷ row 255 eight 3 1000 1000 (pos 1) (pos 2) (pos 0) (minus 4) true
    -- devices alone have not worked
    ∷ row 240 (0 ∷ 1 ∷ 0 ∷ 1 ∷ 0 ∷ 1 ∷ 0 ∷ 1 ∷ []) 0 1000 1000 (pos 0) (pos 0) (pos 0) (pos 0) false
    -- the advance that applies is 0, the other is not: it has worked by direction alone
    ∷ row 12 (0 ∷ 0 ∷ 0 ∷ 20 ∷ []) 0 1000 1000 (pos 0) (pos 0) (pos 0) (pos 0) false
    ∷ row 12 (0 ∷ 0 ∷ 0 ∷ 20 ∷ []) 2 1000 1000 (pos 0) (pos 0) (pos 0) (minus 20) true
    -- y advance is scaled and subtracted: -3 at half size is -2
    ∷ row 8 (255 ∷ 253 ∷ []) 2 500 1000 (pos 0) (pos 0) (pos 0) (pos 2) true
    ∷ []

pub at_ends : map (λ (x : Row). x.done) ends ≡ map (λ (x : Row). x.right) ends
unfolding nat_at clamp32 scaled int_at signed set_below effect_of fields_work valued with_fields worked
at_ends = refl

-- x offset 2147483647 and 1 more, y advance -2147483648 less 1: both stay
pub saturates : valued 1000 1000 (direction_of 3) (0 ∷ 1 ∷ 0 ∷ 1 ∷ []) 9 (with_place (pos 0) (minus 2147483648) (pos 2147483647) (pos 0) no_slot)
    ≡ with_place (pos 0) (minus 2147483648) (pos 2147483647) (pos 0) no_slot
unfolding nat_at clamp32 scaled int_at signed set_below effect_of valued with_fields
saturates = refl
