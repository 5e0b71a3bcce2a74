-- Chains as code computes them, and a slot hung by one. Assumes nothing.
use mathlib.Core.List.{List}
use mathlib.Core.Path.{◌≡◌, refl, sym, ap, ◌∙◌}
use mathlib.Core.Logic.{◌⊎◌, ⊎_elim}
use Prim.Native.Nat.{ℕ, zero, suc, ◌+◌, ◌-◌, ◌<◌, ◌≤◌}
use native.Mathlib.Nat.{eq-or-lt_of_le}
use native.Mathlib.Omega.{arith}
use borrow.Author.Tests.{le-ltb, lt-ltb}
use lib.IntN.{ℤ, pos, negsuc, nat_abs, neg_ℤ}
use lib.ListN.{length}
use lib.Signed.{mag}
use Rattle.ints.specs.Saturating.{sat_neg}
use Rattle.ints.specs.Signed.{InBytes, signed}
use Rattle.ints.specs.code.Signed.{val}
use Rattle.ints.proofs.Ints.{by_sign, diff, sub_pos}
use Rattle.ints.proofs.SaturatingLaws.{negated_exact}
use Rattle.ints.proofs.SignedLaws.{signed_low, signed_same}
use Rattle.slots.specs.Slot.{Slot}
use Rattle.slots.specs.Line.{update}
use Rattle.slots.specs.Fields.{attached, with_byte, with_chain, with_measure}
use Rattle.slots.specs.declared.axis.Axis.{Axis}
use Rattle.slots.specs.declared.fields.ByteField.TheVariants.{AttachType}
use Rattle.slots.specs.declared.fields.Measure.TheVariants.{Offset}
use Rattle.slots.proofs.ChainLaws.{back_bits, near_fits}
use Rattle.slots.proofs.LineLaws.{update_both}
use Rattle.chains.specs.Chains.{chain_to, reach}

-- a distance that fits 16 bits is its own chain; any other leaves the slot unattached
pub reach_near : (z : ℤ) → mag z < 32768 → reach z ≡ z
reach_near z h = simp (lt-ltb (mag z) 32768 h)

reach_far : (z : ℤ) → 32768 ≤ mag z → reach z ≡ pos 0
reach_far z h = simp (le-ltb (mag z) 32768 h)

-- ---- the chain from a child to a parent
module _ (child parent : ℕ) where
  -- n stands for the distance, which fits
  near : (n : ℕ) → val n ≡ diff parent child → parent < child + 32768 → child ≤ parent + 32768 → (val n ≡ chain_to child parent) × InBytes 2 (val n)
  near n e h k =
      let m = near_fits parent child h k in
      (e ∙ sym (ap reach (sub_pos parent child) ∙ reach_near (diff parent child) m), rw e m)

  -- the parent is the child itself or after it, and near
  pub chain_on : child ≤ parent → parent - child < 32768 → (val (parent - child) ≡ chain_to child parent) × InBytes 2 (val (parent - child))
  chain_on h k = near (parent - child) (signed_low 4 (parent - child) parent child (omega arith) (omega arith)) (omega arith) (omega arith)

  -- the parent is before the child, and near
  pub chain_before : parent < child → child - parent ≤ 32768
      → (val (4294967296 - (child - parent)) ≡ chain_to child parent) × InBytes 2 (val (4294967296 - (child - parent)))
  chain_before h k =
      near (4294967296 - (child - parent)) (back_bits child parent h k) (omega arith) (omega arith)

  -- it is too far
  pub chain_far : (child + 32768 ≤ parent) ⊎ (parent + 32768 < child) → (val 0 ≡ chain_to child parent) × InBytes 2 (val 0)
  unfolding signed
  chain_far h =
      let m : 32768 ≤ mag (diff parent child) = ⊎_elim
      (λ k. by_sign (λ z. 32768 ≤ mag z) parent child (λ l. omega arith) (λ l. absurd (omega arith)))
      (λ k. by_sign (λ z. 32768 ≤ mag z) parent child (λ l. absurd (omega arith)) (λ l. omega arith)) h in
      (sym (ap reach (sub_pos parent child) ∙ reach_far (diff parent child) m), omega arith)

-- ---- a chain negated
-- the least number of 16 bits has no negation of 16 bits
pub back_least : (val 0 ≡ reach (neg_ℤ (val 4294934528))) × InBytes 2 (val 0)
unfolding signed
back_least = (refl, omega arith)

-- which code knows by its pattern
least_bits : (v : ℕ) → v < 4294967296 → val v ≡ negsuc 32767 → v ≡ 4294934528
unfolding signed
least_bits v h e = signed_same 4 v 4294934528 h (omega arith) e

-- any other number of 16 bits has one
neg_fits : (z : ℤ) → nat_abs z ≤ 32768 → (z ≡ negsuc 32767 → ⊥) → mag (neg_ℤ z) < 32768
neg_fits (pos zero) h ne = omega arith
neg_fits (pos (suc n)) h ne = omega arith
neg_fits (negsuc n) h ne =
    let le : n ≤ 32767 = omega arith in
    ⊎_elim (λ e. absurd (ne (ap negsuc e))) (λ l. omega arith) (eq-or-lt_of_le le)

-- and code's negation of it does not saturate
pub back_other : (v r : ℕ) → v < 4294967296 → (v ≡ 4294934528 → ⊥) → nat_abs (val v) ≤ 32768 → val r ≡ sat_neg (val v)
    → (val r ≡ reach (neg_ℤ (val v))) × InBytes 2 (val r)
back_other v r lt ne h e =
    let m : mag (neg_ℤ (val v)) < 32768 = neg_fits (val v) h (λ q. ne (least_bits v lt q)) in
    let is : val r ≡ neg_ℤ (val v) = e ∙ negated_exact (val v) (omega arith) in
    (is ∙ sym (reach_near (neg_ℤ (val v)) m), rw is m)

-- ---- offset, chain and type set one after the other hang the slot
pub attached_by : (i kind : ℕ) (c : ℤ) (a : Axis) (z : ℤ) (ss : List Slot) {ss₁ ss₂ ss₃ : List Slot} → i < length ss → ss₁ ≡ update i (with_measure Offset a z) ss
    → ss₂ ≡ update i (with_chain c) ss₁ → ss₃ ≡ update i (with_byte AttachType kind) ss₂ → ss₃ ≡ update i (λ s. attached kind c (with_measure Offset a z s)) ss
attached_by i kind c a z ss lt first second third =
    update_both i (λ s. with_chain c (with_measure Offset a z s)) ss (with_byte AttachType kind) lt
    (update_both i (with_measure Offset a z) ss (with_chain c) lt first second)
    third
