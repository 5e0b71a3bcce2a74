-- Finishing reaches the exact offsets: on the way each slot is either as it was, or final. Assumes nothing.
use Rattle.std.specs.Prelude.{if◌then◌else◌}
use mathlib.Core.List.{List}
use mathlib.Core.Logic.{◌⊎◌, inl, inr}
use mathlib.Core.Path.{◌≡◌, refl, sym, ap, ap₂, ◌∙◌}
use mathlib.Core.Bool.{Bool, true, false}
use Prim.Native.Nat.{ℕ, zero, suc, ◌≤◌, ◌<◌}
use native.Mathlib.Omega.{arith}
use native.Mathlib.Decide.{ℕ_discrete, dec_lt}
use lib.IntN.{pos}
use lib.ListN.{length, get_or-eq_default}
use Rattle.slots.specs.Axis.{forward}
use Rattle.slots.specs.Slot.{Slot, no_slot}
use Rattle.slots.specs.Line.{slot}
use Rattle.slots.specs.Fields.{offset, with_chain}
use Rattle.slots.specs.Parent.{cleared, parent}
use Rattle.slots.specs.declared.axis.Axis.{Axis}
use Rattle.slots.specs.declared.axis.Axis.TheVariants.{X, Y}
use Rattle.slots.specs.declared.axis.Direction.{Direction}
use Rattle.slots.specs.declared.parent.Parent.{Parent}
use Rattle.slots.specs.declared.parent.Parent.TheVariants.{None, Outside, InLine}
use Rattle.slots.specs.declared.fields.Measure.TheVariants.{Offset}
use Rattle.slots.proofs.FieldLaws.{free, measure_chain}
use Rattle.slots.proofs.ParentLaws.{at_hangs, chain_zero, child_in_line, cleared_count, cleared_other, cleared_own, none_ends, outside_ends, outside_hangs, parent_in_line, parent_none, parent_same}
use Rattle.finish_rules.specs.Finish.{advances, finished, is_main, taken_in, attach_kind, new_offset, settled, settled_down, settled_up, with_offsets}
use Rattle.finish_rules.specs.theorems.Demand3.{Bounded}
use Rattle.finish_rules.proofs.Along.{along, along_at, along_end, along_holds}
use Rattle.finish_rules.proofs.Pens.{walked_same}
use Rattle.finish_rules.proofs.Exact.{exact_offset, final, final_near, onto, taken_exact}
use Rattle.finish_rules.proofs.SettledLaws.{cleared_advances, joined_advances, joined_count, joined_other, joined_own, settled_at, settled_holds, settled_none, settled_outside}

-- how many hops a chain has, counted up to n
abbrev hops_in : List Slot → ℕ → ℕ → ℕ
hops_in l n i = along l (λ k. 0) (λ k j r. suc r) n i

hops_le : (l : List Slot) (n i : ℕ) → hops_in l n i ≤ n
hops_le l = along_holds l (λ k. 0) (λ k j r. suc r) (λ n i r. r ≤ n) (λ n i. omega arith) (λ n i j r e h. omega arith)

-- a final slot is unattached
pub final_chain : (d : Direction) (l : List Slot) (n i : ℕ) → (final d l n i).chain ≡ pos 0
final_chain d l = along_holds l (λ k. free (slot l k)) (onto d l) (λ n i s. s.chain ≡ pos 0) (λ n i. refl) (λ n i j s e h. refl)

-- an unattached slot is as if cleared
free_zero : (s : Slot) → s.chain ≡ pos 0 → s ≡ free s
free_zero s e = ap (λ c. with_chain c s) e

module _ (d : Direction) (limit : ℕ) (l : List Slot) (ok : Bounded limit l) where
  -- a final slot, and the hops from a slot
  abbrev fin : ℕ → Slot
  fin i = final d l limit i

  abbrev hops : ℕ → ℕ
  hops i = hops_in l limit i

  -- by one hop, and where the chain ends
  pub fin_at : (i j : ℕ) → parent l i ≡ InLine j → fin i ≡ onto d l i j (fin j)
  fin_at i j e = along_at l (λ k. free (slot l k)) (onto d l) limit i j (ok.chains_end i (child_in_line l i j e)) e

  pub fin_end : (i : ℕ) → ((j : ℕ) → parent l i ≡ InLine j → ⊥) → fin i ≡ free (slot l i)
  fin_end i h = along_end l (λ k. free (slot l k)) (onto d l) limit i h

  hops_at : (i j : ℕ) → parent l i ≡ InLine j → hops i ≡ suc (hops j)
  hops_at i j e = along_at l (λ k. 0) (λ k j r. suc r) limit i j (ok.chains_end i (child_in_line l i j e)) e

  -- ---- a line on the way: as many slots, the same advances
  record Like (m : List Slot) : Type 0 where
    count : length m ≡ length l
    advs : (a : Axis) → advances a m ≡ advances a l

  like_cleared : (m : List Slot) (i : ℕ) → Like m → Like (cleared m i)
  like_cleared m i h = record { count = cleared_count m i ∙ h.count; advs = λ a. cleared_advances m i a ∙ h.advs a }

  like_joined : (m : List Slot) (i j : ℕ) → Like m → Like (taken_in d m i j)
  like_joined m i j h = record { count = joined_count m i d j ∙ h.count; advs = λ a. joined_advances m i d j a ∙ h.advs a }

  like_settled : (n : ℕ) (m : List Slot) (i : ℕ) → Like m → Like (settled d n m i)
  like_settled = settled_holds d Like like_cleared like_joined

  -- each slot of at most r hops is as it was, or final: none of them is being settled
  abbrev Good : ℕ → List Slot → Type 0
  Good r m = (k : ℕ) → hops k ≤ r → (slot m k ≡ slot l k) ⊎ (slot m k ≡ fin k)

  -- slot k stays as it was, or it was attached and has become final
  abbrev Goes : List Slot → List Slot → ℕ → Type 0
  Goes m m' k = (slot m' k ≡ slot m k) ⊎ (((slot m k).chain ≡ pos 0 → ⊥) × (slot m' k ≡ fin k))

  -- slot i has become final, and each other slot stays or has become final
  record Settled (m : List Slot) (i : ℕ) (m' : List Slot) : Type 0 where
    done : slot m' i ≡ fin i
    changed : (k : ℕ) → Goes m m' k

  -- a slot that has taken in its final parent is final
  module _ (m : List Slot) (i j : ℕ) (same : Like m) (e : parent l i ≡ InLine j) (own : slot m i ≡ free (slot l i)) (par : slot m j ≡ fin j) where
    new_exact : (a : Axis) → new_offset d m i j a ≡ exact_offset d l i j (fin j) a
    new_exact a =
        rw (walked_same d a l m i j (same.advs a), own, par, measure_chain Offset a (pos 0) (slot l i))
        (taken_exact d limit l ok a i j (child_in_line l i j e) (parent_in_line l i j e) (attach_kind (slot l i).attach_type) (is_main d a) (offset a (fin j))
        (final_near d limit l ok a j (parent_in_line l i j e)))

    joined_final : slot (taken_in d m i j) i ≡ fin i
    joined_final =
        joined_own m i d j (omega (arith, same.count, child_in_line l i j e))
        ∙ ap (with_offsets (new_offset d m i j X) (new_offset d m i j Y)) own
        ∙ ap₂ (λ u v. with_offsets u v (free (slot l i))) (new_exact X) (new_exact Y)
        ∙ sym (fin_at i j e)

  -- ---- one way for each kind of parent
  -- nothing to do
  idle : (n : ℕ) (m : List Slot) (i : ℕ) → parent m i ≡ None → slot m i ≡ fin i → Settled m i (settled d n m i)
  idle n m i e f = rw (settled_none d m i n e) (record { done = f; changed = λ k. inl refl })

  -- no parent in the line: the chain is cleared
  cut : (n : ℕ) (m : List Slot) (i : ℕ) → i < length l → Like m → slot m i ≡ slot l i → parent l i ≡ Outside → Settled m i (settled d n m i)
  cut n m i lt h own e = rw (settled_outside d m i n out) (record { done = here; changed = λ k. go k (ℕ_discrete k i) })
    where
      out : parent m i ≡ Outside
      out = parent_same l m i h.count own ∙ e

      here : slot (cleared m i) i ≡ fin i
      here = cleared_own m i (omega (arith, h.count)) ∙ ap free own ∙ sym (fin_end i (outside_ends e))

      go : (k : ℕ) → Dec (k ≡ i) → Goes m (cleared m i) k
      go k (yes q) = inr (rw q (outside_hangs m i out, here))
      go k (no ne) = inl (cleared_other m i k ne)

  -- a parent in the line, settled after this slot is cleared: it is taken in
  hop : (n : ℕ) (m : List Slot) (i j : ℕ) → Like m → slot m i ≡ slot l i → parent l i ≡ InLine j
      → Settled (cleared m i) j (settled d n (cleared m i) j) → Settled m i (settled d (suc n) m i)
  hop n m i j h own e up = rw (settled_at d m i n j on) (record { done = here; changed = λ k. go k (ℕ_discrete k i) })
    where
      on : parent m i ≡ InLine j
      on = parent_same l m i h.count own ∙ e

      m₂ : List Slot
      m₂ = settled d n (cleared m i) j

      waiting : slot (cleared m i) i ≡ free (slot l i)
      waiting = cleared_own m i (child_in_line m i j on) ∙ ap free own

      kept : Goes (cleared m i) m₂ i → slot m₂ i ≡ free (slot l i)
      kept (inl same) = same ∙ waiting
      kept (inr new) = absurd (new.0 (ap (λ s. s.chain) waiting))

      here : slot (taken_in d m₂ i j) i ≡ fin i
      here = joined_final m₂ i j (like_settled n (cleared m i) j (like_cleared m i h)) e (kept (up.changed i)) up.done

      other : (k : ℕ) → (k ≡ i → ⊥) → Goes (cleared m i) m₂ k → Goes m (taken_in d m₂ i j) k
      other k ne (inl same) = inl (joined_other m₂ i d j k ne ∙ same ∙ cleared_other m i k ne)
      other k ne (inr new) = inr (rw (cleared_other m i k ne) at new.0, joined_other m₂ i d j k ne ∙ new.1)

      go : (k : ℕ) → Dec (k ≡ i) → Goes m (taken_in d m₂ i j) k
      go k (yes q) = inr (rw q (at_hangs m i j on, here))
      go k (no ne) = other k ne (up.changed k)

  -- settling a slot, given the case of a parent in the line
  turn : (n : ℕ) (m : List Slot) (i : ℕ) → i < length l → Like m → Good (hops i) m
      → ((j : ℕ) → parent l i ≡ InLine j → slot m i ≡ slot l i → Settled m i (settled d n m i)) → Settled m i (settled d n m i)
  turn n m i lt h g up = go (g i (omega arith))
    where
      by : (p : Parent) → parent l i ≡ p → slot m i ≡ slot l i → Settled m i (settled d n m i)
      by None e own =
          idle n m i (parent_same l m i h.count own ∙ e) (own ∙ free_zero (slot l i) (chain_zero l i e) ∙ sym (fin_end i (none_ends e)))
      by Outside e own = cut n m i lt h own e
      by (InLine j) e own = up j e own

      go : (slot m i ≡ slot l i) ⊎ (slot m i ≡ fin i) → Settled m i (settled d n m i)
      go (inl own) = by (parent l i) refl own
      go (inr f) = idle n m i (parent_none m i (ap (λ s. s.chain) f ∙ final_chain d l limit i)) f

  -- with slot i cleared, the slots of fewer hops are as they were
  good_cleared : (m : List Slot) (i j : ℕ) → parent l i ≡ InLine j → Good (hops i) m → Good (hops j) (cleared m i)
  good_cleared m i j e g k le =
      let apart : k ≡ i → ⊥ = λ q. omega (arith, hops_at i j e, ap hops q) in
      rw (cleared_other m i k apart) (g k (omega (arith, hops_at i j e)))

  -- settling a slot makes it final, if its hops are within the limit
  settles : (n : ℕ) (m : List Slot) (i : ℕ) → i < length l → hops i ≤ n → Like m → Good (hops i) m → Settled m i (settled d n m i)
  settles zero m i lt le h g = turn zero m i lt h g (λ j e own. absurd (omega (arith, hops_at i j e)))
  settles (suc n) m i lt le h g =
      turn (suc n) m i lt h g
      (λ j e own. hop n m i j h own e
      (settles n (cleared m i) j (parent_in_line l i j e) (omega (arith, hops_at i j e)) (like_cleared m i h) (good_cleared m i j e g)))

  -- ---- the loops
  -- the line on the way, with the slots from a up to b final
  record Reached (a b : ℕ) (m : List Slot) : Type 0 where
    like : Like m
    good : (k : ℕ) → (slot m k ≡ slot l k) ⊎ (slot m k ≡ fin k)
    done : (k : ℕ) → a ≤ k → k < b → slot m k ≡ fin k

  -- one slot more, at either end
  more : (a b : ℕ) (m : List Slot) (i : ℕ) → Reached a b m → i < length l → (a' b' : ℕ)
      → ((k : ℕ) → a' ≤ k → k < b' → (k ≡ i → ⊥) → (a ≤ k) × (k < b)) → Reached a' b' (settled d limit m i)
  more a b m i r lt a' b' wider =
      record {
        like = like_settled limit m i r.like;
        good = λ k. still k (after.changed k) (r.good k);
        done = λ k ge le. go k ge le (ℕ_discrete k i);
      }
    where
      after : Settled m i (settled d limit m i)
      after = settles limit m i lt (hops_le l limit i) r.like (λ k le. r.good k)

      still : (k : ℕ) → Goes m (settled d limit m i) k → (slot m k ≡ slot l k) ⊎ (slot m k ≡ fin k) → (slot (settled d limit m i) k ≡ slot l k) ⊎ (slot (settled d limit m i) k ≡ fin k)
      still k (inl same) (inl old) = inl (same ∙ old)
      still k (inl same) (inr new) = inr (same ∙ new)
      still k (inr new) old = inr new.1

      stays : (k : ℕ) → Goes m (settled d limit m i) k → slot m k ≡ fin k → slot (settled d limit m i) k ≡ fin k
      stays k (inl same) f = same ∙ f
      stays k (inr new) f = new.1

      go : (k : ℕ) → a' ≤ k → k < b' → Dec (k ≡ i) → slot (settled d limit m i) k ≡ fin k
      go k ge le (yes q) = rw q after.done
      go k ge le (no ne) = let w = wider k ge le ne in stays k (after.changed k) (r.done k w.0 w.1)

  -- nothing is reached yet
  start : (a : ℕ) → Reached a a l
  start a = record { like = record { count = refl; advs = λ b. refl }; good = λ k. inl refl; done = λ k ge lt. absurd (omega arith) }

  -- upward, downward, and by the direction
  reached_up : (k : ℕ) → k ≤ length l → Reached 0 k (settled_up d limit l k)
  unfolding settled_up
  reached_up zero le = start 0
  reached_up (suc k) le = more 0 k (settled_up d limit l k) k (reached_up k (omega arith)) le 0 (suc k) (λ i ge lt ne. (omega arith, omega arith))

  reached_down : (k : ℕ) (m : List Slot) → k ≤ length l → Reached k (length l) m → Reached 0 (length l) (settled_down d limit m k)
  unfolding settled_down
  reached_down zero m le r = r
  reached_down (suc k) m le r = reached_down k (settled d limit m k) (omega arith) (more (suc k) (length l) m k r le k (length l) (λ i ge lt ne. (omega arith, omega arith)))

  reached : Reached 0 (length l) (finished d limit true l)
  unfolding finished
  reached = go (forward d)
    where
      go : (f : Bool) → Reached 0 (length l) (if f then settled_up d limit l (length l) else settled_down d limit l (length l))
      go true = reached_up (length l) (omega arith)
      go false = reached_down (length l) l (omega arith) (start (length l))

  -- every slot of the finished line is final; one past its end is the slot of zeros, which is final too
  pub finished_slot : (i : ℕ) → slot (finished d limit true l) i ≡ final d l limit i
  finished_slot i = go (dec_lt i (length l))
    where
      go : Dec (i < length l) → slot (finished d limit true l) i ≡ fin i
      go (yes lt) = reached.done i (omega arith) lt
      go (no ge) =
          let here : slot l i ≡ no_slot = get_or-eq_default l no_slot {n = i} (omega arith) in
          let there : slot (finished d limit true l) i ≡ no_slot = get_or-eq_default (finished d limit true l) no_slot {n = i} (omega (arith, reached.like.count)) in
          there ∙ ap free (sym here) ∙ sym (fin_end i (λ j e. ge (child_in_line l i j e)))
