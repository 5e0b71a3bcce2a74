-- Reversal: each call that goes on clears one attached slot; and one equation for each way through it. Assumes nothing.
use Rattle.std.specs.Prelude.{if◌then◌else◌}
use mathlib.Core.Bool.{Bool, true, false, not}
use mathlib.Core.List.{List}
use mathlib.Core.Path.{◌≡◌, refl, sym, ap, ◌∙◌}
use Prim.Native.Nat.{ℕ, zero, suc, ◌<◌}
use borrow.Author.Tests.{eq-eqb, ne_eqb}
use lib.Dec.{eqb}
use lib.IntN.{ℤ, nat_abs, neg_ℤ}
use lib.ListN.{length}
use Rattle.ints.specs.Saturating.{sat_neg}
use Rattle.ints.specs.code.Signed.{val}
use Rattle.ints.proofs.SizeLaws.{abs_zero}
use Rattle.ints.proofs.TestLaws.{clash}
use Rattle.slots.specs.Slot.{Slot}
use Rattle.slots.specs.Line.{slot, update}
use Rattle.slots.specs.Fields.{attached, cursive_bit, offset, with_chain, with_measure}
use Rattle.slots.specs.Parent.{by_parent, cleared, parent, is_attached}
use Rattle.slots.specs.declared.axis.Axis.{Axis}
use Rattle.slots.specs.declared.fields.Measure.TheVariants.{Offset}
use Rattle.slots.specs.declared.parent.Parent.{Parent}
use Rattle.slots.specs.declared.parent.Parent.TheVariants.{None, Outside, InLine}
use Rattle.slots.proofs.LineLaws.{length_update}
use Rattle.slots.proofs.ParentLaws.{cleared_count, cleared_is, cleared_other, cleared_own, parent_none}
use Rattle.ints.proofs.TallyLaws.{tally_drop}
use Rattle.chains.specs.Chains.{attached_count, reach}
use Rattle.chains.specs.Reversal.{reversed, reversed_in, turned}

-- ---- a parent hung onto its child
pub length_turned : (a : Axis) (was : Slot) (ss : List Slot) (i j : ℕ) → length (turned a was ss i j) ≡ length ss
unfolding turned
length_turned a was ss i j = length_update j _ ss

-- ---- the measure
-- the slot has a chain
abbrev chained : Slot → Bool
chained s = not (eqb (nat_abs s.chain) 0)

-- clearing a slot that has a parent leaves one attached slot less
pub attached_clear : (ss : List Slot) (i : ℕ) → i < length ss → (parent ss i ≡ None → ⊥) → attached_count ss ≡ suc (attached_count (cleared ss i))
unfolding attached_count
attached_clear ss i lt ne = rw (cleared_count ss i)
    (tally_drop (is_attached ss) (is_attached (cleared ss i)) (length ss) i lt
    (ap not (ne_eqb (nat_abs (slot ss i).chain) 0 (λ e. ne (parent_none ss i (abs_zero (slot ss i).chain e)))))
    (ap chained (cleared_own ss i lt))
    (λ k other. sym (ap chained (cleared_other ss i k other))))

-- ---- the number of slots stays
-- what holds on each way through a call holds
ways : (P : List Slot → Type 0) (same clear : List Slot) (on : ℕ → List Slot) (p : ℕ) → P same → P clear → ((j : ℕ) → P (on j))
    → (t : Bool) (q : Parent) → P (if t then by_parent q same clear (λ j. if eqb j p then clear else on j) else same)
ways P same clear on p s c o false q = s
ways P same clear on p s c o true None = s
ways P same clear on p s c o true Outside = c
ways P same clear on p s c o true (InLine j) = go (eqb j p)
  where
    go : (t : Bool) → P (if t then clear else on j)
    go true = c
    go false = o j

length_reversed_in : (n : ℕ) (a : Axis) (ss : List Slot) (i p : ℕ) → length (reversed_in n a ss i p) ≡ length ss
unfolding reversed_in
length_reversed_in zero a ss i p = refl
length_reversed_in (suc n) a ss i p =
    ways (λ r. length r ≡ length ss) ss (cleared ss i) (λ j. turned a (slot ss i) (reversed_in n a (cleared ss i) j p) i j) p refl (cleared_count ss i)
    (λ j. length_turned a (slot ss i) (reversed_in n a (cleared ss i) j p) i j ∙ length_reversed_in n a (cleared ss i) j p ∙ cleared_count ss i)
    (cursive_bit (slot ss i).attach_type) (parent ss i)

pub length_reversed : (a : Axis) (ss : List Slot) (i p : ℕ) → length (reversed a ss i p) ≡ length ss
unfolding reversed
length_reversed a ss i p = length_reversed_in (attached_count ss) a ss i p

-- ---- the ways through
-- a choice between two lines that are the same
alike : (t : Bool) (ss : List Slot) → (if t then ss else ss) ≡ ss
alike true ss = refl
alike false ss = refl

module _ (a : Axis) (ss : List Slot) (i p : ℕ) where
  -- a type without the cursive bit: nothing changes
  pub reversed_plain : cursive_bit (slot ss i).attach_type ≡ false → reversed a ss i p ≡ ss
  unfolding reversed reversed_in
  reversed_plain e = go (attached_count ss)
    where
      go : (n : ℕ) → reversed_in n a ss i p ≡ ss
      go zero = refl
      go (suc n) = simp e

  -- no parent: nothing changes
  pub reversed_free : parent ss i ≡ None → reversed a ss i p ≡ ss
  unfolding reversed reversed_in
  reversed_free e = go (attached_count ss)
    where
      go : (n : ℕ) → reversed_in n a ss i p ≡ ss
      go zero = refl
      go (suc n) = rw e (alike (cursive_bit (slot ss i).attach_type) ss)

  module _ (lt : i < length ss) (bit : cursive_bit (slot ss i).attach_type ≡ true) where
    -- a slot that has a parent has cleared a chain: there is fuel for one call more
    fuel : (q : Parent) → parent ss i ≡ q → (q ≡ None → ⊥) → attached_count ss ≡ suc (attached_count (cleared ss i))
    fuel q e ne = attached_clear ss i lt (λ n. ne (sym e ∙ n))

    -- a parent outside the line: the chain is cleared
    pub reversed_outside : parent ss i ≡ Outside → reversed a ss i p ≡ cleared ss i
    unfolding reversed reversed_in
    reversed_outside e =
        rw (fuel Outside e (λ n. clash (cc))) (simp (bit, e))

    module _ (j : ℕ) (e : parent ss i ≡ InLine j) where
      fuel_at : attached_count ss ≡ suc (attached_count (cleared ss i))
      fuel_at = fuel (InLine j) e (λ n. clash (cc))

      -- the new parent: the chain is cleared
      pub reversed_new : j ≡ p → reversed a ss i p ≡ cleared ss i
      unfolding reversed reversed_in
      reversed_new new = rw fuel_at (simp (bit, e, eq-eqb j p new))

      -- else the parent's own chain is reversed, and the parent is hung onto this slot
      pub reversed_on : (j ≡ p → ⊥) → reversed a ss i p ≡ turned a (slot ss i) (reversed a (cleared ss i) j p) i j
      unfolding reversed reversed_in
      reversed_on other = rw fuel_at (simp (bit, e, ne_eqb j p other))

-- ---- the same over code's variables
module _ (a : Axis) (ss : List Slot) (i p : ℕ) {kind : ℕ} (is : kind ≡ (slot ss i).attach_type) where
  -- no cursive bit: the line stays
  pub stays_plain : cursive_bit kind ≡ false → ss ≡ reversed a ss i p
  stays_plain e = sym (reversed_plain a ss i p (rw is at e))

  module _ (lt : i < length ss) (on : cursive_bit kind ≡ true) {ss₁ : List Slot} (clears : ss₁ ≡ update i (with_chain (val 0)) ss) where
    -- the bit is that of the slot's type
    bit : cursive_bit (slot ss i).attach_type ≡ true
    bit = rw is at on

    is_cleared : ss₁ ≡ cleared ss i
    is_cleared = cleared_is ss i clears

    -- the parent is outside the line, or the new parent: the line with the chain cleared is the answer
    pub ends_outside : parent ss i ≡ Outside → ss₁ ≡ reversed a ss i p
    ends_outside e = is_cleared ∙ sym (reversed_outside a ss i p lt bit e)

    pub ends_new : (j : ℕ) → parent ss i ≡ InLine j → j ≡ p → ss₁ ≡ reversed a ss i p
    ends_new j e new = is_cleared ∙ sym (reversed_new a ss i p lt bit j e new)

    -- the number of attached slots falls
    pub falls_at : (j : ℕ) → parent ss i ≡ InLine j → attached_count ss ≡ suc (attached_count ss₁)
    falls_at j e = rw is_cleared (fuel_at a ss i p lt bit j e)

    -- else: recursion, and the parent hung with what was read after it
    pub goes_on : (j : ℕ) → parent ss i ≡ InLine j → (j ≡ p → ⊥) → {ss₂ ss₃ : List Slot} {chain off neg back : ℤ} → chain ≡ (slot ss i).chain
        → ss₂ ≡ reversed a ss₁ j p → off ≡ offset a (slot ss₂ i) → neg ≡ sat_neg off → back ≡ reach (neg_ℤ chain)
        → ss₃ ≡ update j (λ s. attached kind back (with_measure Offset a neg s)) ss₂ → ss₃ ≡ reversed a ss i p
    unfolding turned
    goes_on j e other {ss₂} chain_is after off-is neg_is back_is hangs =
        let r : ss₂ ≡ reversed a (cleared ss i) j p = after ∙ ap (λ (l : List Slot). reversed a l j p) is_cleared in
        rw (reversed_on a ss i p lt bit j e other, ← r)
        (hangs ∙ rw (back_is, neg_is, off-is, chain_is, is))
