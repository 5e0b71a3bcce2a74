-- After finishing no chain remains, on any line, loops too, and at any limit. Assumes nothing.
use Rattle.std.specs.Prelude.{if◌then◌else◌}
use mathlib.Core.Bool.{Bool, true, false}
use mathlib.Core.List.{List}
use mathlib.Core.Path.{◌≡◌, refl, ap, ◌∙◌}
use Prim.Native.Nat.{ℕ, zero, suc, ◌≤◌, ◌<◌}
use native.Mathlib.Omega.{arith}
use native.Mathlib.Decide.{ℕ_discrete, dec_lt}
use lib.IntN.{ℤ, pos}
use lib.ListN.{length, get_or-eq_default}
use Rattle.slots.specs.Axis.{forward}
use Rattle.slots.specs.Slot.{Slot, no_slot}
use Rattle.slots.specs.Line.{slot}
use Rattle.slots.specs.Parent.{cleared, parent}
use Rattle.slots.specs.declared.axis.Direction.{Direction}
use Rattle.slots.specs.declared.parent.Parent.{Parent}
use Rattle.slots.specs.declared.parent.Parent.TheVariants.{None, Outside, InLine}
use Rattle.slots.proofs.ParentLaws.{chain_zero, cleared_count, cleared_other, cleared_own}
use Rattle.finish_rules.specs.Finish.{finished, settled, settled_down, settled_up}
use Rattle.finish_rules.proofs.SettledLaws.{finished_count, joined_chain, settled_at, settled_holds, settled_none, settled_outside, settled_stop}

-- slot k's chain
abbrev chain_at : List Slot → ℕ → ℤ
chain_at l k = (slot l k).chain

-- past the end of a line nothing is attached
past : (m : List Slot) (k : ℕ) → length m ≤ k → chain_at m k ≡ pos 0
past m k le = ap (λ s. s.chain) (get_or-eq_default m no_slot {n = k} le)

-- the slot that is cleared is unattached, and what is unattached stays so
cleared_free : (m : List Slot) (i : ℕ) → chain_at (cleared m i) i ≡ pos 0
cleared_free m i = go (dec_lt i (length m))
  where
    go : Dec (i < length m) → chain_at (cleared m i) i ≡ pos 0
    go (yes lt) = ap (λ s. s.chain) (cleared_own m i lt)
    go (no ge) = past (cleared m i) i (omega (arith, cleared_count m i))

cleared_keeps : (m : List Slot) (i k : ℕ) → chain_at m k ≡ pos 0 → chain_at (cleared m i) k ≡ pos 0
cleared_keeps m i k h = go (ℕ_discrete k i)
  where
    go : Dec (k ≡ i) → chain_at (cleared m i) k ≡ pos 0
    go (yes q) = rw q (cleared_free m i)
    go (no ne) = ap (λ s. s.chain) (cleared_other m i k ne) ∙ h

module _ (d : Direction) where
  settled_keeps : (n : ℕ) (m : List Slot) (i k : ℕ) → chain_at m k ≡ pos 0 → chain_at (settled d n m i) k ≡ pos 0
  settled_keeps n m i k = settled_holds d (λ m. chain_at m k ≡ pos 0) (λ m i h. cleared_keeps m i k h) (λ m i j h. joined_chain m i d j k ∙ h) n m i

  -- the slot itself is unattached afterwards
  settled_own : (n : ℕ) (m : List Slot) (i : ℕ) → chain_at (settled d n m i) i ≡ pos 0
  settled_own n m i = go n (parent m i) refl
    where
      go : (n : ℕ) (p : Parent) → parent m i ≡ p → chain_at (settled d n m i) i ≡ pos 0
      go n None e = rw (settled_none d m i n e) (chain_zero m i e)
      go n Outside e = rw (settled_outside d m i n e) (cleared_free m i)
      go zero (InLine j) e = rw (settled_stop d m i j e) (cleared_free m i)
      go (suc n) (InLine j) e = rw (settled_at d m i n j e) (joined_chain (settled d n (cleared m i) j) i d j i ∙ settled_keeps n (cleared m i) j i (cleared_free m i))

  -- from a up to b no slot is attached
  abbrev Clear : ℕ → ℕ → List Slot → Type 0
  Clear a b m = (k : ℕ) → a ≤ k → k < b → chain_at m k ≡ pos 0

  -- one slot more, at either end
  one_more : (n : ℕ) (m : List Slot) (i a b a' b' : ℕ) → Clear a b m → ((k : ℕ) → a' ≤ k → k < b' → (k ≡ i → ⊥) → (a ≤ k) × (k < b)) → Clear a' b' (settled d n m i)
  one_more n m i a b a' b' h wider k ge le = go (ℕ_discrete k i)
    where
      go : Dec (k ≡ i) → chain_at (settled d n m i) k ≡ pos 0
      go (yes q) = rw q (settled_own n m i)
      go (no ne) = let w = wider k ge le ne in settled_keeps n m i k (h k w.0 w.1)

  module _ (limit : ℕ) where
    -- the loops
    up_clear : (l : List Slot) (k : ℕ) → Clear 0 k (settled_up d limit l k)
    unfolding settled_up
    up_clear l zero = λ k ge lt. absurd (omega arith)
    up_clear l (suc k) = one_more _ (settled_up d limit l k) k 0 k 0 (suc k) (up_clear l k) (λ i ge lt ne. (omega arith, omega arith))

    down_clear : (m : List Slot) (k b : ℕ) → Clear k b m → Clear 0 b (settled_down d limit m k)
    unfolding settled_down
    down_clear m zero b h = h
    down_clear m (suc k) b h = down_clear (settled d limit m k) k b (one_more limit m k (suc k) b k b h (λ i ge lt ne. (omega arith, omega arith)))

    -- whatever the line and the limit, no chain remains
    pub finished_clear : (l : List Slot) (k : ℕ) → (slot (finished d limit true l) k).chain ≡ pos 0
    unfolding finished
    finished_clear l k = go (dec_lt k (length l))
      where
        inside : k < length l → (f : Bool) → chain_at (if f then settled_up d limit l (length l) else settled_down d limit l (length l)) k ≡ pos 0
        inside lt true = up_clear l (length l) k (omega arith) lt
        inside lt false = down_clear l (length l) (length l) (λ i ge le. absurd (omega arith)) k (omega arith) lt

        go : Dec (k < length l) → chain_at (finished d limit true l) k ≡ pos 0
        go (yes lt) = inside lt (forward d)
        go (no ge) = past (finished d limit true l) k (omega (arith, finished_count d l limit true))
