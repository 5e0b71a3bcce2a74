-- Laws of applying a record: a field that is absent, skipped or applied, one field more, fields passed over, and a record cut, whole or without fields. Assumes nothing.
use mathlib.Core.Path.{◌≡◌, refl, sym, ap, subst, ◌∙◌}
use mathlib.Core.Bool.{Bool, true, false, not, or-false, ◌||◌}
use mathlib.Core.List.{List}
use Prim.Native.Nat.{ℕ, zero, suc, ◌+◌, ◌-◌, ◌/◌, ◌%◌, ◌^◌, ◌≤◌, ◌<◌}
use native.Mathlib.Decide.{dec_lt}
use native.Mathlib.Nat.{add-zero}
use native.Mathlib.Numerals.{add-one}
use native.Mathlib.Omega.{arith}
use borrow.Author.Tests.{eq-eqb, ne_eqb, lt-ltb, le-ltb}
use lib.Dec.{eqb}
use lib.IntN.{ℤ, nat_abs}
use lib.ListN.{length, set}
use lib.Pow.{shr-shr}
use Rattle.std.proofs.lemmas.Nat.Bits.{bit_at-zero}
use Rattle.ints.specs.Scale.{scaled}
use Rattle.ints.specs.Signed.{signed}
use Rattle.ints.specs.code.Signed.{val}
use Rattle.ints.proofs.SignedLaws.{signed_same}
use Rattle.ints.proofs.SizeLaws.{abs_zero}
use Rattle.slots.specs.Slot.{Slot}
use Rattle.slots.specs.Line.{slot, update}
use Rattle.slots.specs.Fields.{measure, with_measure}
use Rattle.slots.specs.declared.axis.Axis.{Axis}
use Rattle.slots.specs.declared.axis.Direction.{Direction}
use Rattle.slots.specs.declared.fields.Measure.{Measure}
use Rattle.slots.proofs.LineLaws.{update_both, update_none}
use Rattle.values.specs.Format.{bit_of, field_value, record_length, set_below}
use Rattle.values.specs.FieldEffect.{FieldEffect, skipped, added, subtracted, applies, with_effect, effect_of}
use Rattle.values.specs.Value.{field_works, fields_work, valued, with_field, with_fields, worked}

-- ---- one slot of a line
-- a measure set to op of what it was and z: old and new are the measure before and after
pub put_measure : (op : ℤ → ℤ → ℤ) (m : Measure) (a : Axis) (i : ℕ) (z old new : ℤ) (ss next : List Slot) → old ≡ measure m a (slot ss i) → new ≡ op old z →
    next ≡ update i (with_measure m a new) ss → next ≡ update i (λ s. with_measure m a (op (measure m a s) z) s) ss
unfolding update
put_measure op m a i z old new ss next e g h = h ∙ ap (λ (x : ℤ). set ss i (with_measure m a x (slot ss i))) (g ∙ ap (λ (x : ℤ). op x z) e)

-- ---- one field
-- the bits are 0 where the integer is
zero_bits : (v : ℕ) → v < 4294967296 → eqb v 0 ≡ eqb (nat_abs (val v)) 0
unfolding signed
zero_bits v h = go (dec_lt 0 v)
  where
    nonzero : 0 < v → nat_abs (val v) ≡ 0 → ⊥
    nonzero l e = let z : v ≡ 0 = signed_same 4 v 0 h (omega arith) (abs_zero (val v) e) in omega arith

    go : Dec (0 < v) → eqb v 0 ≡ eqb (nat_abs (val v)) 0
    go (yes l) = ne_eqb v 0 (λ e. omega arith) ∙ sym (ne_eqb (nat_abs (val v)) 0 (nonzero l))
    go (no n) = let e : v ≡ 0 = omega arith in rw e

-- what doesn't apply is skipped
unapplied : (e : FieldEffect) → applies e ≡ false → e ≡ skipped
unapplied skipped h = refl
unapplied (added m a) h = cc
unapplied (subtracted m a) h = cc

module _ (s u : ℕ) (d : Direction) (r : List ℕ) (f b i : ℕ) (ss : List Slot) where
  -- the line next is ss with field b applied to slot i, and w says whether it worked
  abbrev pub OneField : List Slot → Bool → Type 0
  OneField next w = (next ≡ update i (with_field s u d r f b) ss) × (w ≡ field_works d r f b)

  -- a field that the record lacks changes nothing and has not worked, nor does one that is skipped
  field_absent : (bit_of f b ≡ 1 → ⊥) → OneField ss false
  unfolding update
  field_absent ne =
      let e = ne_eqb (bit_of f b) 1 ne in
      (simp e (sym (update_none i ss)), simp e)

  pub field_skipped : {e : FieldEffect} → bit_of f b ≡ 1 → e ≡ effect_of d b → applies e ≡ false → OneField ss false
  unfolding update
  field_skipped h t n =
      let o = eq-eqb (bit_of f b) 1 h in
      let k : effect_of d b ≡ skipped = unapplied (effect_of d b) (ap applies (sym t) ∙ n) in
      (simp (o, k) (sym (update_none i ss)), simp (o, k))

  -- a field that applies: v is the value's bits, and z those of the scaled value
  pub field_applied : {e : FieldEffect} (v z : ℕ) {next : List Slot} → bit_of f b ≡ 1 → e ≡ effect_of d b → applies e ≡ true → v < 4294967296 →
      val v ≡ field_value r f b → val z ≡ scaled (val v) s u → next ≡ update i (with_effect e (val z)) ss → OneField next (not (eqb v 0))
  unfolding update
  field_applied v z h t n k p q g =
      let o = eq-eqb (bit_of f b) 1 h in
      let y : applies (effect_of d b) ≡ true = ap applies (sym t) ∙ n in (
        simp (o, ← t, ← p, ← q) g,
        simp (o, y) (ap not (zero_bits v k ∙ ap (λ (x : ℤ). eqb (nat_abs x) 0) p)),
      )

-- ---- the fields of a record
module _ (s u : ℕ) (d : Direction) (r : List ℕ) (f i : ℕ) (ss : List Slot) where
  -- the line next is ss with the first n fields applied to slot i, and w says whether one of them worked
  abbrev pub Fields : ℕ → List Slot → Bool → Type 0
  Fields n next w = (next ≡ update i (with_fields s u d r f n) ss) × (w ≡ fields_work d r f n)

  -- before the first field
  pub no_fields : Fields 0 ss false
  unfolding with_fields fields_work
  no_fields = (sym (update_none i ss), refl)

  -- one field more
  pub more_fields : (n : ℕ) (now next : List Slot) (w x : Bool) → i < length ss → Fields n now w → OneField s u d r f n i now next x → Fields (n + 1) next (w || x)
  unfolding with_fields fields_work
  more_fields n now next w x h e g = rw add-one (
    update_both i (with_fields s u d r f n) ss (with_field s u d r f n) h e.0 g.0,
    rw (e.1, g.1),
  )

  -- ---- fields that are not there
  -- fields whose bits are clear are passed over
  pub absent_fields : (k n : ℕ) (next : List Slot) (w : Bool) → i < length ss → ((j : ℕ) → j < k → bit_of f (n + j) ≡ 0) → Fields n next w → Fields (n + k) next w
  absent_fields zero n next w h z e = subst (λ (m : ℕ). Fields m next w) (sym (add-zero n)) e
  absent_fields (suc k) n next w h z e =
      let q : n + k + 1 ≡ n + suc k = omega arith in
      let before = absent_fields k n next w h (λ j l. z j (omega arith)) e in
      subst (λ (m : ℕ). Fields m next w) q (subst (λ (v : Bool). Fields (n + k + 1) next v) (or-false w)
      (more_fields (n + k) next next w false h before (field_absent s u d r f (n + k) i next (λ o. omega (arith, z k (omega arith), o)))))

  -- none is left where no bit is
  pub all_fields : (n : ℕ) (next : List Slot) (w : Bool) → i < length ss → n ≤ 8 → f / 2 ^ n ≡ 0 → Fields n next w → Fields 8 next w
  all_fields n next w h l z e =
      let q : n + (8 - n) ≡ 8 = omega arith in
      let none = λ (j : ℕ) (m : j < 8 - n). ap (λ (x : ℕ). x % 2) (sym (shr-shr f n j)) ∙ ap (λ (x : ℕ). x / 2 ^ j % 2) z ∙ bit_at-zero j in
      subst (λ (m : ℕ). Fields m next w) q (absent_fields (8 - n) n next w h none e)

  -- ---- the record
  -- the line next is ss with the record applied to slot i, and w says whether it worked
  abbrev pub Whole : List Slot → Bool → Type 0
  Whole next w = (next ≡ update i (valued s u d r f) ss) × (w ≡ worked d r f)

  -- a cut record changes nothing and hasn't worked; another is its eight fields
  record_cut : length r < record_length f → Whole ss false
  unfolding valued worked update
  record_cut h =
      let e = lt-ltb (length r) (record_length f) h in
      (simp e (sym (update_none i ss)), simp e)

  pub record_whole : (next : List Slot) (w : Bool) → record_length f ≤ length r → Fields 8 next w → Whole next w
  unfolding valued worked update
  record_whole next w h e =
      let q = le-ltb (length r) (record_length f) h in
      (simp q e.0, simp q e.1)

  -- no field where no bit is set
  unset_fields : (n : ℕ) → i < length ss → set_below f n ≡ 0 → Fields n ss false
  unfolding set_below
  unset_fields zero h e = no_fields
  unset_fields (suc n) h e =
      subst (λ (m : ℕ). Fields m ss false) (add-one n)
      (more_fields n ss ss false false h (unset_fields n h (omega arith)) (field_absent s u d r f n i ss (λ o. omega arith)))

  -- an empty record is cut, or its format has no bit
  pub record_empty : i < length ss → length r ≡ 0 → Whole ss false
  record_empty h e = go (dec_lt 0 (record_length f))
    where
      go : Dec (0 < record_length f) → Whole ss false
      go (yes l) = record_cut (omega arith)
      go (no n) = record_whole ss false (omega arith) (unset_fields 8 h (omega arith))
