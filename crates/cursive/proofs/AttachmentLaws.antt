-- A slot of the line changed twice, and code's test for the parent that hangs on the child. Assumes nothing.
use mathlib.Core.Bool.{true, false}
use mathlib.Core.Path.{◌≡◌, refl, sym, ◌∙◌}
use Prim.Native.Nat.{ℕ, ◌<◌}
use native.Mathlib.Omega.{arith}
use lib.IntN.{ℤ, pos, negsuc, neg_ℤ}
use Rattle.ints.specs.Saturating.{sat_neg}
use Rattle.ints.specs.Signed.{InBytes, same_as, signed}
use Rattle.ints.specs.code.Signed.{val}
use Rattle.ints.proofs.SaturatingLaws.{negated_exact}
use Rattle.ints.proofs.SignedLaws.{signed_same}
use Rattle.ints.proofs.SizeLaws.{mag_abs}
use Rattle.slots.proofs.ChainLaws.{zero_fits}
use Rattle.slots.proofs.LineLaws.{length_slots}
use Rattle.std.proofs.lemmas.Bool.{false_from_ne_true}
use Rattle.std.proofs.lemmas.List.{get_or-set_same, set-set}

-- a slot changed is read, and changed again
pub ruleset changed_again = (length_slots, get_or-set_same, set-set)

-- the test for the same integer: an integer passes with itself, and with no other
same_self : (z : ℤ) → same_as z z ≡ true
same_self (pos n) = grind arith
same_self (negsuc n) = grind arith

same_eq : (z w : ℤ) → same_as z w ≡ true → z ≡ w
same_eq (pos a) (pos b) e = grind arith
same_eq (pos a) (negsuc b) e = grind arith
same_eq (negsuc a) (pos b) e = grind arith
same_eq (negsuc a) (negsuc b) e = grind arith

-- the test of the chain `here` for the opposite of `chain`, whose pattern is `back`
module _ (chain here back : ℕ) {z : ℤ} (small : InBytes 2 (val chain)) (here-is : val here ≡ z) (back_is : val back ≡ sat_neg (val chain)) where
  -- the negation of a number of 16 bits is exact
  back_exact : val back ≡ neg_ℤ (val chain)
  back_exact = back_is ∙ negated_exact (val chain) (omega (arith, mag_abs (val chain)))

  pub is_opposite : here ≡ back → same_as z (neg_ℤ (val chain)) ≡ true
  is_opposite e = grind (arith, same_self, back_exact)

  -- code compares patterns, one for each integer
  pub no_opposite : here < 4294967296 → back < 4294967296 → (here ≡ back → ⊥) → same_as z (neg_ℤ (val chain)) ≡ false
  no_opposite h k ne = false_from_ne_true _ (λ t. ne (signed_same 4 here back h k (here-is ∙ same_eq z _ t ∙ sym back_exact)))

-- no chain, and no offset
pub zero_is : val 0 ≡ pos 0
unfolding signed
zero_is = refl

-- the parent separated, or not
pub ruleset opposites = (is_opposite, no_opposite, zero_is, zero_fits)
