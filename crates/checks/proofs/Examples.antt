-- Values worked by hand from the rules: the tests of calls at the ends of their ranges, and their order. They compute. Assumes nothing.
use mathlib.Core.Bool.{Bool, true, false}
use mathlib.Core.List.{List, [], ◌∷◌, map}
use mathlib.Core.Path.{◌≡◌, refl}
use Prim.Native.Nat.{ℕ}
use lib.Dec.{leb}
use lib.ListN.{length}
use Rattle.ints.specs.BigEndian.{digits, nat_at}
use Rattle.ints.specs.Signed.{int_at, pattern, signed}
use Rattle.slots.specs.Fields.{with_byte}
use Rattle.slots.specs.Line.{bytes, slots, slots_n}
use Rattle.slots.specs.Slot.{no_slot, plain_bytes, slot_of}
use Rattle.slots.specs.declared.fields.ByteField.{ByteField}
use Rattle.slots.specs.declared.fields.ByteField.TheVariants.{LigatureId, Component, Flags, AttachType}
use Rattle.answers.specs.Outcome.{answer_to}
use Rattle.answers.specs.Said.{Said, done, refused}
use Rattle.answers.specs.declared.Neighbour.TheVariants.{Named, Missing}
use Rattle.checks.specs.Ranges.{bad_slot, bad_slots, some}
use Rattle.ints.specs.Scale.{bad_scale}
use Rattle.checks.specs.Arguments.{applying}
use Rattle.checks.specs.Neighbours.{bad_previous, bad_second}

-- is a slot with one byte at n, all else 0, out of range?
abbrev out : ByteField → ℕ → Bool
out f n = bad_slot (with_byte f n no_slot)

-- a line of one slot that is well, and one with a spare flag bit, of slots of z bytes
abbrev pub well : ℕ → List ℕ
well z = bytes z (no_slot ∷ [])

abbrev pub spare : ℕ → List ℕ
spare z = bytes z (with_byte Flags 8 no_slot ∷ [])

-- what an applying call with a bad subtable says of a line, a direction, s and an index, where u is 1000
abbrev bad : ℕ → List ℕ → ℕ → ℕ → ℕ → Said
bad z l direction s i = answer_to (applying direction s 1000 (λ ss. leb (length ss) i) true (λ d. record { says = λ ss. done; leaves = λ ss. ss })) z l

-- the lowest number: a length, a direction, a scale, a slot, an index, a subtable, all bad and then made good one by one
abbrev ordered : ℕ → List Said
ordered z =
    bad z (9 ∷ spare z) 4 0 1 ∷ bad z (spare z) 4 0 1 ∷ bad z (spare z) 3 0 1 ∷ bad z (spare z) 3 1 1 ∷ bad z (well z) 3 1 1 ∷ bad z (well z) 3 1 0 ∷ []

pub record Worked : Type 0 where
  -- refusal 4: id 7, component 15, flags 7 are in range, one more is not; any type is
  pub ranges : (map (out LigatureId) (7 ∷ 8 ∷ []) ≡ (false ∷ true ∷ [])) × (map (out Component) (15 ∷ 16 ∷ []) ≡ (false ∷ true ∷ []))
      × (map (out Flags) (7 ∷ 8 ∷ []) ≡ (false ∷ true ∷ [])) × (map (out AttachType) (0 ∷ 3 ∷ 255 ∷ []) ≡ (false ∷ false ∷ false ∷ []))
  -- it looks at every slot, the last too
  pub last_slot : bad_slots (no_slot ∷ with_byte Flags 8 no_slot ∷ []) ≡ true
  -- s and u at the ends of their ranges, and just outside
  pub scales_in : (bad_scale 1 16 ≡ false) × (bad_scale 32768 16384 ≡ false)
  pub scales_out : (bad_scale 0 16 ≡ true) × (bad_scale 32769 16 ≡ true) × (bad_scale 1 15 ≡ true) × (bad_scale 1 16385 ≡ true)
  -- three slots, index 1: second is 2 alone; a bound may be the slot count, and as low as 0
  pub seconds : map (bad_second 3 1) (Named 0 ∷ Named 1 ∷ Named 2 ∷ Named 3 ∷ Missing 0 ∷ Missing 3 ∷ Missing 4 ∷ []) ≡ (true ∷ true ∷ false ∷ true ∷ false ∷ false ∷ true ∷ [])
  -- previous is 0 alone; nothing is before index 0; an index at the count is bad with any neighbour
  pub previous : map (bad_previous 3 1) (Named 0 ∷ Named 1 ∷ Named 3 ∷ Missing 0 ∷ Missing 3 ∷ Missing 4 ∷ []) ≡ (false ∷ true ∷ true ∷ false ∷ false ∷ true ∷ [])
  pub at_count : (bad_previous 3 0 (Named 0) ≡ true) × (bad_previous 3 3 (Named 0) ≡ true) × (bad_second 3 3 (Missing 3) ≡ true)
  -- the order of refusals, for both sizes
  pub order : (ordered 24 ≡ map refused (1 ∷ 2 ∷ 3 ∷ 4 ∷ 5 ∷ 6 ∷ [])) × (ordered 28 ≡ map refused (1 ∷ 2 ∷ 3 ∷ 4 ∷ 5 ∷ 6 ∷ []))
  -- an empty line has no index: refusal 5 of an applying call, if there is no lower one
  pub empty : (bad 24 [] 0 1 0 ≡ refused 5) × (bad 24 [] 4 1 0 ≡ refused 2)

pub worked : Worked
unfolding digits nat_at pattern signed int_at slot_of plain_bytes slots_n slots bytes some
worked = record {
  ranges = (refl, refl, refl, refl);
  last_slot = refl;
  scales_in = (refl, refl);
  scales_out = (refl, refl, refl, refl);
  seconds = refl;
  previous = refl;
  at_count = (refl, refl, refl);
  order = (refl, refl);
  empty = (refl, refl);
}
