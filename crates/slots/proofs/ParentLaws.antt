-- Laws of a slot's parent: where it and its child are, what its chain is, what clearing a chain leaves, and the parent as code finds it. Assumes nothing.
use mathlib.Core.List.{List}
use mathlib.Core.Path.{◌≡◌, refl, sym, ap, ◌∙◌}
use Prim.Native.Nat.{ℕ, zero, suc, ◌+◌, ◌-◌, ◌<◌, ◌≤◌}
use native.Mathlib.Omega.{arith}
use native.Mathlib.Decide.{dec_lt}
use borrow.Author.Tests.{lt-ltb, le-ltb}
use lib.IntN.{ℤ, pos, negsuc, ◌+ℤ◌, ◌-ℤ◌}
use lib.ListN.{length, get_or-eq_default}
use Rattle.ints.specs.Signed.{signed}
use Rattle.ints.specs.code.Signed.{val}
use Rattle.ints.proofs.Ints.{bal, bal_add, by_sign, diff, eq_diff, eq_in, pos_add_diff, pos_diff, same, sub_pos}
use Rattle.ints.proofs.TestLaws.{clash}
use Rattle.ints.specs.Signed.{signed}
use Rattle.slots.specs.code.Fields.{swapped}
use Rattle.slots.proofs.ChainLaws.{attached as hangs}
use Rattle.slots.specs.Slot.{Slot, no_slot}
use Rattle.slots.specs.Line.{slot, update}
use Rattle.slots.specs.Fields.{with_chain}
use Rattle.slots.specs.Parent.{cleared, parent, parent_by, placed}
use Rattle.slots.specs.declared.parent.Parent.{Parent}
use Rattle.slots.specs.declared.parent.Parent.TheVariants.{None, Outside, InLine}
use Rattle.slots.proofs.LineLaws.{length_update, update_other, update_same}

-- ---- the three kinds are apart: where there is no parent in the line, a chain ends
pub none_ends : {p : Parent} → p ≡ None → (j : ℕ) → p ≡ InLine j → ⊥
none_ends e j f = clash (cc)

pub outside_ends : {p : Parent} → p ≡ Outside → (j : ℕ) → p ≡ InLine j → ⊥
outside_ends e j f = clash (cc)

-- ---- a parent in the line: it and its child are in the line, and the chain is the distance
placed_at : (n : ℕ) (z : ℤ) (j : ℕ) → placed n z ≡ InLine j → (j < n) × (z ≡ pos j)
placed_at n (pos k) j e = go (dec_lt k n)
  where
    go : Dec (k < n) → (j < n) × (pos k ≡ pos j)
    go (yes lt) = let f : InLine k ≡ InLine j = rw (lt-ltb k n lt) at e in let is : k ≡ j = cc in (omega arith, ap pos is)
    go (no ge) = let f : Outside ≡ InLine j = rw (le-ltb k n (omega arith)) at e in absurd (outside_ends refl j f)
placed_at n (negsuc k) j e = absurd (outside_ends refl j e)

by_at : (n i : ℕ) (z : ℤ) (j : ℕ) → parent_by n i z ≡ InLine j → (j < n) × (pos i +ℤ z ≡ pos j)
by_at n i (pos zero) j e = absurd (none_ends refl j e)
by_at n i (pos (suc c)) j e = placed_at n (pos i +ℤ pos (suc c)) j e
by_at n i (negsuc c) j e = placed_at n (pos i +ℤ negsuc c) j e

pub parent_in_line : (l : List Slot) (i j : ℕ) → parent l i ≡ InLine j → j < length l
unfolding parent
parent_in_line l i j e = (by_at (length l) i (slot l i).chain j e).0

pub child_in_line : (l : List Slot) (i j : ℕ) → parent l i ≡ InLine j → i < length l
unfolding parent
child_in_line l i j e = go (dec_lt i (length l))
  where
    go : Dec (i < length l) → i < length l
    go (yes lt) = lt
    go (no ge) = let f : None ≡ InLine j = rw (get_or-eq_default l no_slot {n = i} (omega arith)) at e in absurd (none_ends refl j f)

pub chain_is : (l : List Slot) (i j : ℕ) → parent l i ≡ InLine j → (slot l i).chain ≡ diff j i
unfolding parent
chain_is l i j e =
    let z : ℤ = (slot l i).chain in
    same z (diff j i) (omega (arith, bal_add (pos i) z, eq_in (pos i +ℤ z) (pos j) (by_at (length l) i z j e).1, bal j i))

-- a chain that isn't 0 leads to slot number plus chain
attached_at : (n i : ℕ) (z : ℤ) → (z ≡ pos 0 → ⊥) → parent_by n i z ≡ placed n (pos i +ℤ z)
attached_at n i (pos zero) h = absurd (h refl)
attached_at n i (pos (suc c)) h = refl
attached_at n i (negsuc c) h = refl

-- so a chain that is the distance to another slot of the line leads there
pub parent_is : (l : List Slot) (i j : ℕ) → j < length l → (j ≡ i → ⊥) → (slot l i).chain ≡ diff j i → parent l i ≡ InLine j
unfolding parent
parent_is l i j h ne is =
    let far : diff j i ≡ pos 0 → ⊥ = λ e. ne (omega (arith, eq_in (diff j i) (pos 0) e, bal j i)) in
    let to : pos i +ℤ diff j i ≡ pos j = pos_add_diff j i i ∙ eq_diff (i + j) i j 0 (omega arith) ∙ sym (pos_diff j) in
    rw is (attached_at (length l) i (diff j i) far ∙ ap (placed (length l)) to ∙ rw (lt-ltb j (length l) h))

-- ---- no parent: chain 0, and the other way round
placed_some : (n : ℕ) (z : ℤ) → placed n z ≡ None → ⊥
placed_some n (pos k) e = go (dec_lt k n)
  where
    go : Dec (k < n) → ⊥
    go (yes lt) = let f : InLine k ≡ None = rw (lt-ltb k n lt) at e in none_ends f k refl
    go (no ge) = let f : Outside ≡ None = rw (le-ltb k n (omega arith)) at e in clash (cc)
placed_some n (negsuc k) e = clash (cc)

none_zero : (n i : ℕ) (c : ℤ) → parent_by n i c ≡ None → c ≡ pos 0
none_zero n i (pos zero) e = refl
none_zero n i (pos (suc c)) e = absurd (placed_some n (pos i +ℤ pos (suc c)) e)
none_zero n i (negsuc c) e = absurd (placed_some n (pos i +ℤ negsuc c) e)

pub chain_zero : (l : List Slot) (i : ℕ) → parent l i ≡ None → (slot l i).chain ≡ pos 0
unfolding parent
chain_zero l i e = none_zero (length l) i (slot l i).chain e

pub parent_none : (l : List Slot) (i : ℕ) → (slot l i).chain ≡ pos 0 → parent l i ≡ None
unfolding parent
parent_none l i e = rw e

-- a slot with a parent, in the line or outside it, is attached
pub outside_hangs : (l : List Slot) (i : ℕ) → parent l i ≡ Outside → (slot l i).chain ≡ pos 0 → ⊥
outside_hangs l i e z = let f = parent_none l i z in clash (cc)

pub at_hangs : (l : List Slot) (i j : ℕ) → parent l i ≡ InLine j → (slot l i).chain ≡ pos 0 → ⊥
at_hangs l i j e z = none_ends (parent_none l i z) j e

-- the parent is the same in a line of as many slots with the same slot
pub parent_same : (l m : List Slot) (i : ℕ) → length m ≡ length l → slot m i ≡ slot l i → parent m i ≡ parent l i
unfolding parent
parent_same l m i n e = rw (n, e)

-- ---- a slot's chain cleared
module _ (l : List Slot) (i : ℕ) where
  pub cleared_own : i < length l → slot (cleared l i) i ≡ with_chain (pos 0) (slot l i)
  unfolding cleared
  cleared_own h = update_same i _ l h

  pub cleared_other : (k : ℕ) → (k ≡ i → ⊥) → slot (cleared l i) k ≡ slot l k
  unfolding cleared
  cleared_other k ne = update_other i _ l k ne

  pub cleared_count : length (cleared l i) ≡ length l
  unfolding cleared
  cleared_count = length_update i _ l

  -- by the bits 0, as code has it
  pub cleared_is : {m : List Slot} → m ≡ update i (with_chain (val 0)) l → m ≡ cleared l i
  unfolding cleared signed
  cleared_is e = e

-- ---- the parent as code finds it: c is the chain, raised by h
module _ (h n i c : ℕ) (z : ℤ) (is : z ≡ pos c -ℤ pos h) where
  -- where that is: i + c - h
  sum : pos i +ℤ z ≡ diff (i + c) h
  sum = ap (λ w. pos i +ℤ w) (is ∙ sub_pos c h) ∙ pos_add_diff c h i

  module _ (ne : z ≡ pos 0 → ⊥) where
    pub parent_below : i + c < h → parent_by n i z ≡ Outside
    parent_below lt =
        attached_at n i z ne ∙ ap (placed n) sum
        ∙ by_sign (λ w. placed n w ≡ Outside) (i + c) h (λ k. absurd (omega arith)) (λ k. refl)

    pub parent_above : h ≤ i + c → n ≤ i + c - h → parent_by n i z ≡ Outside
    parent_above le k =
        attached_at n i z ne ∙ ap (placed n) sum
        ∙ by_sign (λ w. placed n w ≡ Outside) (i + c) h (λ l. rw (le-ltb (i + c - h) n k)) (λ l. refl)

    pub parent_in : h ≤ i + c → i + c - h < n → parent_by n i z ≡ InLine (i + c - h)
    parent_in le k =
        attached_at n i z ne ∙ ap (placed n) sum
        ∙ by_sign (λ w. placed n w ≡ InLine (i + c - h)) (i + c) h (λ l. rw (lt-ltb (i + c - h) n k)) (λ l. absurd (omega arith))

-- by the chain's bytes, and the chain 2 ^ 15 higher, in a line of n slots
module _ (l : List Slot) (i n chain high : ℕ) (count : length l ≡ n) (is : signed 2 (swapped chain) ≡ (slot l i).chain)
    (raised : signed 2 (swapped chain) ≡ pos high -ℤ pos 32768) (fits : chain < 65536) (ne : chain ≡ 0 → ⊥) where
  pub found_in : (j : ℕ) → 32768 ≤ i + high → j ≡ i + high - 32768 → j < n → InLine j ≡ parent l i
  unfolding parent
  found_in j h e k =
      rw e (sym (ap (parent_by (length l) i) (sym is)
      ∙ parent_in 32768 (length l) i high (signed 2 (swapped chain)) raised (hangs chain fits ne) h (omega arith)))

  pub found_past : (j : ℕ) → 32768 ≤ i + high → j ≡ i + high - 32768 → n ≤ j → Outside ≡ parent l i
  unfolding parent
  found_past j h e k =
      sym (ap (parent_by (length l) i) (sym is)
      ∙ parent_above 32768 (length l) i high (signed 2 (swapped chain)) raised (hangs chain fits ne) h (omega arith))

  pub found_before : i + high < 32768 → Outside ≡ parent l i
  unfolding parent
  found_before h =
      sym (ap (parent_by (length l) i) (sym is)
      ∙ parent_below 32768 (length l) i high (signed 2 (swapped chain)) raised (hangs chain fits ne) h)
