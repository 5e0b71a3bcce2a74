-- A write to a slot's bytes is a change of one field: one law for the four fields of one byte, one for the four measures. Assumes nothing.
use mathlib.Core.Path.{◌≡◌, refl}
use mathlib.Core.List.{List, []}
use mathlib.Core.Bool.{not}
use Prim.Native.Nat.{ℕ, zero, suc, ◌*◌, ◌<◌, ◌≤◌}
use borrow.Author.Tests.{eq-eqb, ne_eqb}
use lib.Dec.{eqb}
use native.Mathlib.Omega.{arith}
use lib.IntN.{ℤ, pos}
use lib.ListN.{length, get_or, set}
use Rattle.ints.specs.BigEndian.{digits, nat_at, with_nat}
use Rattle.ints.specs.Signed.{InBytes, int_at, with_int}
use Rattle.ints.proofs.BigEndianLaws.{nat_at_digits}
use Rattle.ints.proofs.SignedLaws.{int_at_digits}
use Rattle.slots.specs.Slot.{Slot, slot_of, slot_size}
use Rattle.slots.specs.code.Fields.{byte_at, measure_at}
use Rattle.slots.specs.Fields.{byte_of, measure, with_byte, with_chain, with_glyph, with_measure}
use Rattle.slots.specs.declared.axis.Axis.{Axis}
use Rattle.slots.specs.declared.axis.Axis.TheVariants.{X, Y}
use Rattle.slots.specs.declared.fields.ByteField.{ByteField}
use Rattle.slots.specs.declared.fields.ByteField.TheVariants.{LigatureId, Component, Flags, AttachType}
use Rattle.slots.specs.declared.fields.Measure.{Measure}
use Rattle.slots.specs.declared.fields.Measure.TheVariants.{Advance, Offset}
use Rattle.slots.proofs.Cells.{by_cells}

-- ---- reading
pub byte_get : (f : ByteField) (q : List ℕ) → get_or q (byte_at f) 0 ≡ byte_of f (slot_of q)
unfolding slot_of
byte_get LigatureId q = refl
byte_get Component q = refl
byte_get Flags q = refl
byte_get AttachType q = refl

pub measure_get : (m : Measure) (a : Axis) (q : List ℕ) → int_at 4 q (measure_at m a) ≡ measure m a (slot_of q)
unfolding slot_of
measure_get Advance X q = refl
measure_get Advance Y q = refl
measure_get Offset X q = refl
measure_get Offset Y q = refl

-- ---- writing
pub byte_put : (f : ByteField) (n : ℕ) (q : List ℕ) → slot_size ≤ length q → slot_of (set q (byte_at f) n) ≡ with_byte f n (slot_of q)
unfolding slot_of nat_at int_at
byte_put LigatureId n = by_cells (λ (q : List ℕ). slot_of (set q 2 n) ≡ with_byte LigatureId n (slot_of q)) (λ g r. refl)
byte_put Component n = by_cells (λ (q : List ℕ). slot_of (set q 3 n) ≡ with_byte Component n (slot_of q)) (λ g r. refl)
byte_put Flags n = by_cells (λ (q : List ℕ). slot_of (set q 4 n) ≡ with_byte Flags n (slot_of q)) (λ g r. refl)
byte_put AttachType n = by_cells (λ (q : List ℕ). slot_of (set q 5 n) ≡ with_byte AttachType n (slot_of q)) (λ g r. refl)

pub glyph_put : (n : ℕ) → n < 65536 → (q : List ℕ) → slot_size ≤ length q → slot_of (with_nat 2 q 0 n) ≡ with_glyph n (slot_of q)
unfolding slot_of nat_at int_at with_nat digits
glyph_put n h = by_cells (λ (q : List ℕ). slot_of (with_nat 2 q 0 n) ≡ with_glyph n (slot_of q)) (λ g r. rw (nat_at_digits 2 n h []))

pub chain_put : (z : ℤ) → InBytes 2 z → (q : List ℕ) → slot_size ≤ length q → slot_of (with_int 2 q 6 z) ≡ with_chain z (slot_of q)
unfolding slot_of nat_at int_at with_nat with_int digits
chain_put z h = by_cells (λ (q : List ℕ). slot_of (with_int 2 q 6 z) ≡ with_chain z (slot_of q)) (λ g r. rw (int_at_digits 2 z (omega arith) h []))

module _ (z : ℤ) (h : InBytes 4 z) where
  pub measure_put : (m : Measure) (a : Axis) (q : List ℕ) → slot_size ≤ length q → slot_of (with_int 4 q (measure_at m a) z) ≡ with_measure m a z (slot_of q)
  unfolding slot_of nat_at int_at with_nat with_int digits
  measure_put Advance X = by_cells (λ (q : List ℕ). slot_of (with_int 4 q 8 z) ≡ with_measure Advance X z (slot_of q)) (λ g r. rw (int_at_digits 4 z (omega arith) h []))
  measure_put Advance Y = by_cells (λ (q : List ℕ). slot_of (with_int 4 q 12 z) ≡ with_measure Advance Y z (slot_of q)) (λ g r. rw (int_at_digits 4 z (omega arith) h []))
  measure_put Offset X = by_cells (λ (q : List ℕ). slot_of (with_int 4 q 16 z) ≡ with_measure Offset X z (slot_of q)) (λ g r. rw (int_at_digits 4 z (omega arith) h []))
  measure_put Offset Y = by_cells (λ (q : List ℕ). slot_of (with_int 4 q 20 z) ≡ with_measure Offset Y z (slot_of q)) (λ g r. rw (int_at_digits 4 z (omega arith) h []))

-- ---- the slot with chain 0, all else as it was
abbrev pub free : Slot → Slot
free s = with_chain (pos 0) s

-- ---- another chain leaves the advances and the offsets
pub measure_chain : (m : Measure) (a : Axis) (c : ℤ) (s : Slot) → measure m a (with_chain c s) ≡ measure m a s
measure_chain Advance X c s = refl
measure_chain Advance Y c s = refl
measure_chain Offset X c s = refl
measure_chain Offset Y c s = refl

-- ---- a bit that is set, b of weight d
pub bit_test : (m d b : ℕ) → 0 < d → b < 2 → m ≡ b * d → not (eqb m 0) ≡ eqb b 1
bit_test m d zero h k e = rw (eq-eqb m 0 (omega arith))
bit_test m d (suc zero) h k e = rw (ne_eqb m 0 (λ z. omega arith))
bit_test m d (suc (suc b)) h k e = absurd (omega arith)
