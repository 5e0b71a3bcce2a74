-- Sums worked by hand, computed from the definitions: reversals, and the ends of a chain. Assumes nothing.
use mathlib.Core.List.{[], ◌∷◌}
use mathlib.Core.Path.{◌≡◌, refl}
use Prim.Native.Nat.{ℕ}
use native.Mathlib.Omega.{arith}
use lib.IntN.{ℤ, pos}
use Rattle.ints.specs.Saturating.{clamp32, minus}
use Rattle.ints.specs.Tally.{bit, tally}
use Rattle.slots.specs.Slot.{Slot}
use Rattle.slots.specs.Line.{update}
use Rattle.slots.specs.Parent.{cleared, parent}
use Rattle.slots.specs.declared.axis.Axis.TheVariants.{Y}
use Rattle.chains.specs.Chains.{attached_count, chain_to}
use Rattle.chains.specs.Reversal.{reversed, reversed_in, turned}
use Rattle.chains.proofs.Sound.{SoundChain}

-- a slot of glyph g, with its type and chain, its advances and its offsets
abbrev pub glyph_slot : ℕ → ℕ → ℤ → ℤ → ℤ → ℤ → ℤ → Slot
glyph_slot g type chain xa ya xo yo =
    record {
      glyph = g;
      ligature_id = 0;
      component = 0;
      flags = 0;
      attach_type = type;
      chain = chain;
      x_advance = xa;
      y_advance = ya;
      x_offset = xo;
      y_offset = yo;
      cluster = 0;
    }

-- a slot that is attached across a horizontal line
abbrev hanging : ℤ → ℤ → Slot
hanging chain y = glyph_slot 5 2 chain (pos 0) (pos 0) (pos 0) y

-- the old chain that P8 reverses, from slot 1 to slot 0, is sound
pub P8-sound : SoundChain (hanging (pos 0) (pos 0) ∷ hanging (minus 1) (pos 8) ∷ hanging (pos 0) (pos 0) ∷ []) 1 2 (0 ∷ [])
unfolding parent
P8-sound =
    record {
      linked = (record { in_line = omega arith; cursive = refl; hangs_on = refl }, refl);
      distinct = ((λ e. omega arith, tt), (tt, tt));
      not_new = (λ e. omega arith, tt);
    }

-- two levels deep: 2 hangs on 1, and 1 on 0; afterwards 0 hangs on 1, and 1 on 2, with the offsets that 1 and 2 had, negated
pub deep : reversed Y (hanging (pos 0) (pos 1) ∷ hanging (minus 1) (pos 2) ∷ hanging (minus 1) (pos 4) ∷ hanging (pos 0) (pos 8) ∷ []) 2 3
    ≡ hanging (pos 1) (minus 2) ∷ hanging (pos 1) (minus 4) ∷ hanging (pos 0) (pos 4) ∷ hanging (pos 0) (pos 8) ∷ []
unfolding reversed reversed_in turned cleared attached_count tally bit update parent clamp32
deep = refl

-- a loop: 0 and 1 hang on each other; slot 1's offset is read after the recursion has rewritten it
pub looping : reversed Y (hanging (pos 1) (pos 5) ∷ hanging (minus 1) (pos 7) ∷ hanging (pos 0) (pos 0) ∷ []) 1 2
    ≡ hanging (pos 1) (pos 5) ∷ hanging (minus 1) (minus 5) ∷ hanging (pos 0) (pos 0) ∷ []
unfolding reversed reversed_in turned cleared attached_count tally bit update parent clamp32
looping = refl

-- ---- at the ends
-- a slot of a type, attached across a horizontal line
abbrev typed : ℕ → ℤ → ℤ → Slot
typed type chain y = glyph_slot 5 type chain (pos 0) (pos 0) (pos 0) y

-- the cursive bit alone is tested, and the whole type byte is copied; the offset is negated and saturates
pub type_255 : reversed Y (typed 1 (pos 0) (pos 1) ∷ typed 255 (minus 1) (minus 2147483648) ∷ typed 0 (pos 0) (pos 0) ∷ []) 1 2
    ≡ typed 255 (pos 1) (pos 2147483647) ∷ typed 255 (pos 0) (minus 2147483648) ∷ typed 0 (pos 0) (pos 0) ∷ []
unfolding reversed reversed_in turned cleared attached_count tally bit update parent clamp32
type_255 = refl

-- a type without the bit is not followed, and keeps its chain; a parent outside the line, and the new parent, only end it at the child
pub ends_at_child : (reversed Y (typed 0 (pos 0) (pos 1) ∷ typed 1 (minus 1) (pos 8) ∷ []) 1 0 ≡ typed 0 (pos 0) (pos 1) ∷ typed 1 (minus 1) (pos 8) ∷ [])
    × (reversed Y (typed 0 (pos 0) (pos 1) ∷ typed 2 (minus 32768) (pos 8) ∷ []) 1 0 ≡ typed 0 (pos 0) (pos 1) ∷ typed 2 (pos 0) (pos 8) ∷ [])
    × (reversed Y (typed 2 (pos 1) (pos 1) ∷ typed 2 (minus 1) (pos 8) ∷ []) 1 0 ≡ typed 2 (pos 1) (pos 1) ∷ typed 2 (pos 0) (pos 8) ∷ [])
unfolding reversed reversed_in turned cleared attached_count tally bit update parent clamp32
ends_at_child = (refl, refl, refl)

-- the distances that a chain of 16 bits holds
pub reaches : (chain_to 0 32767 ≡ pos 32767) × (chain_to 0 32768 ≡ pos 0) × (chain_to 32768 0 ≡ minus 32768) × (chain_to 32769 0 ≡ pos 0)
reaches = (refl, refl, refl, refl)
