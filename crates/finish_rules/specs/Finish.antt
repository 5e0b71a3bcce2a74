-- What finishing does to a line. Assumes nothing.
use Rattle.std.specs.Prelude.{Bool, true, false, List, map, ℕ, zero, suc, min, max, ltb, ℤ, length, if◌then◌else◌}
use Rattle.std.proofs.Math.Seq.{slice}
use Rattle.ints.specs.Saturating.{sat_sub, sat_add}
use Rattle.ints.specs.Sums.{stepwise}
use Rattle.slots.specs.Axis.{forward, main, same_axis}
use Rattle.slots.specs.Slot.{Slot}
use Rattle.slots.specs.Line.{slot, update}
use Rattle.slots.specs.Fields.{advance, with_place, offset}
use Rattle.slots.specs.Parent.{by_parent, cleared, parent}
use Rattle.slots.specs.declared.axis.Axis.{Axis}
use Rattle.slots.specs.declared.axis.Axis.TheVariants.{X, Y}
use Rattle.slots.specs.declared.axis.Direction.{Direction}

-- ---- how a slot takes in its parent

-- The part of the line between slot i and slot j: from the lower up to the higher of the two, without the higher one in
-- a forward direction, without the lower one in a backward direction.
abbrev pub between : {A : Type 0} → Bool → List A → ℕ → ℕ → List A
between true l i j = slice (min i j) (max i j) l
between false l i j = slice (suc (min i j)) (suc (max i j)) l

-- the advances of a line, slot by slot
abbrev pub advances : Axis → List Slot → List ℤ
advances a l = map (advance a) l

-- one advance subtracted from z, or added to it
abbrev pub step_by : Bool → ℤ → ℤ → ℤ
step_by true = sat_sub
step_by false = sat_add

-- Are the advances between a slot and its parent subtracted? With the parent before the slot (the first flag) a forward
-- direction (the second) subtracts them and a backward one adds them; with the parent after the slot it is the other
-- way round.
abbrev pub subtracts : Bool → Bool → Bool
subtracts true true = true
subtracts true false = false
subtracts false true = false
subtracts false false = true

-- z with the advances between slot i and its parent j subtracted from it or added to it, one by one
unfoldable pub shifted : Direction → Axis → List Slot → ℕ → ℕ → ℤ → ℤ
shifted d a l i j z = stepwise (step_by (subtracts (ltb j i) (forward d))) z (advances a (between (forward d) l i j))

-- a slot's type, as a whole byte: 1 a mark, 2 cursive, any other adds nothing
pub data AttachKind : Type 0 where
  mark : AttachKind
  cursive : AttachKind
  neither : AttachKind

-- the kind of a type byte
abbrev pub attach_kind : ℕ → AttachKind
attach_kind zero = neither
attach_kind (suc zero) = mark
attach_kind (suc (suc zero)) = cursive
attach_kind (suc (suc (suc n))) = neither

-- is it the axis along the line?
abbrev pub is_main : Direction → Axis → Bool
is_main d a = same_axis (main d) a

-- The new offset on an axis, from the own one and the parent's. Along the line a mark takes the parent's offset in,
-- then the advances between; across it the advances alone, since the cross offsets of its base and of the base's
-- cursive parents were added when the mark was attached (marks/specs/Attachment): older HarfBuzz, which didn't add it
-- there, adds it here. A cursive glyph takes the parent's offset in, across the line only.
abbrev pub new_offset_by : AttachKind → Bool → (ℤ → ℤ) → ℤ → ℤ → ℤ
new_offset_by mark true shift own parents = shift (sat_add own parents)
new_offset_by mark false shift own parents = shift own
new_offset_by cursive true shift own parents = own
new_offset_by cursive false shift own parents = sat_add own parents
new_offset_by neither main? shift own parents = own

-- slot i's offset on an axis, once it has taken its parent j in
abbrev pub new_offset : Direction → List Slot → ℕ → ℕ → Axis → ℤ
new_offset d l i j a = new_offset_by (attach_kind (slot l i).attach_type) (is_main d a) (shifted d a l i j)
    (offset a (slot l i)) (offset a (slot l j))

-- ---- finishing

-- the most parents that are followed from a slot (`MAX_NESTING_LEVEL`)
abbrev pub max_nesting_level : ℕ
max_nesting_level = 64

-- the slot with other offsets, all else as it was
abbrev pub with_offsets : ℤ → ℤ → Slot → Slot
with_offsets ox oy s = with_place s.x_advance s.y_advance ox oy s

-- the line with slot i having taken its parent j in
unfoldable pub taken_in : Direction → List Slot → ℕ → ℕ → List Slot
taken_in d l i j = update i (with_offsets (new_offset d l i j X) (new_offset d l i j Y)) l

-- Slot i settled, by the limit: nothing if it is unattached. Else its chain is cleared; and if its parent is in the
-- line and the limit isn't used up, the parent is settled first, by one less, and then taken in.
unfoldable pub settled : Direction → ℕ → List Slot → ℕ → List Slot
settled d zero l i = by_parent (parent l i) l (cleared l i) (λ j. cleared l i)
settled d (suc n) l i = by_parent (parent l i) l (cleared l i) (λ j. taken_in d (settled d n (cleared l i) j) i j)

-- the first k slots settled, from the first up
unfoldable pub settled_up : Direction → ℕ → List Slot → ℕ → List Slot
settled_up d limit l zero = l
settled_up d limit l (suc k) = settled d limit (settled_up d limit l k) k

-- the first k slots settled, from the last of them down
unfoldable pub settled_down : Direction → ℕ → List Slot → ℕ → List Slot
settled_down d limit l zero = l
settled_down d limit l (suc k) = settled_down d limit (settled d limit l k) k

-- the line finished: with the attachment flag, from its first slot up in forward directions, from its last down in
-- backward ones
unfoldable pub finished : Direction → ℕ → Bool → List Slot → List Slot
finished d limit false l = l
finished d limit true l = if forward d then settled_up d limit l (length l) else settled_down d limit l (length l)
