-- Laws of the neighbours that the seen bits give: one turn of the search upward, what stays found at a later slot, where it is, and that two lines whose
-- slots are the same give the same. Assumes nothing.
use Rattle.std.specs.Prelude.{None, Option, Some}
use Rattle.std.specs.Prelude.{if◌then◌else◌}
use mathlib.Core.Bool.{Bool, true, false}
use mathlib.Core.List.{List}
use mathlib.Core.Path.{◌≡◌, refl, ap, ap₂, fun_ext, ◌∙◌}
use Prim.Native.Nat.{ℕ, zero, suc, ◌+◌, ◌-◌, ◌≤◌, ◌<◌}
use native.Mathlib.Nat.{zero-sub}
use native.Mathlib.Numerals.{add-one, unary_clauses}
use native.Mathlib.Omega.{arith}
use lib.ListN.{length}
use Rattle.ints.specs.Tally.{lowest, nearest}
use Rattle.ints.proofs.TestLaws.{clash}
use Rattle.slots.specs.Slot.{Slot}
use Rattle.slots.specs.theorems.Identity.{identities}
use Rattle.slots.specs.declared.fields.Flag.TheVariants.{Seen}
use Rattle.answers.specs.code.Neighbours.{Before}
use Rattle.answers.specs.declared.Neighbour.TheVariants.{Named, Missing}
use Rattle.pair.specs.code.Meant.{After}
use Rattle.targets.proofs.SearchLaws.{known_before}
use Rattle.lookup.specs.Neighbours.{neighbour_for, or_missing, previous, second, seen, seen_from}
use Rattle.lookup.specs.declared.kinds.Kind.{Kind}
use Rattle.lookup.specs.declared.kinds.Kind.TheVariants.{Single, Pair, Cursive, MarkBase, MarkLigature, MarkMark}
use Rattle.lookup.proofs.IdentityLaws.{nearest_same, same_flag, same_length}
use Rattle.lookup.proofs.Kept.{choice}

-- ---- the lowest number that passes
-- what was found is from a up and below b
abbrev Within : ℕ → ℕ → Option ℕ → Type 0
Within a b (Some j) = (a ≤ j) × (j < b)
Within a b None = Unit {0}

wider : (a b : ℕ) (o : Option ℕ) → Within (suc a) b o → Within a b o
wider a b (Some j) h = (omega arith, omega arith)
wider a b None h = tt

module _ (p : ℕ → Bool) where
  -- it is one of the n numbers from i up
  lowest_within : (n i : ℕ) → Within i (i + n) (lowest p i n)
  unfolding lowest
  lowest_within zero i = tt
  lowest_within (suc n) i =
      let end : suc i + n ≡ i + suc n = omega arith in
      choice (Within i (i + suc n)) (Some i) (lowest p (suc i) n) (omega arith, omega arith)
      (wider i (i + suc n) (lowest p (suc i) n) (rw end at (lowest_within n (suc i)))) (p i)

  -- the same is found d numbers on, unless it was among these
  lowest_moved : (d i n : ℕ) → ((j : ℕ) → lowest p i n ≡ Some j → i + d ≤ j) → lowest p i n ≡ lowest p (i + d) (n - d)
  unfolding lowest
  lowest_moved zero i n h = simp unary_clauses
  lowest_moved (suc d) i zero h = simp zero-sub
  lowest_moved (suc d) i (suc n) h =
      let start : suc i + d ≡ i + suc d = omega arith in
      let left : n - d ≡ suc n - suc d = omega arith in
      choice (λ (o : Option ℕ). ((j : ℕ) → o ≡ Some j → i + suc d ≤ j) → o ≡ lowest p (i + suc d) (suc n - suc d)) (Some i) (lowest p (suc i) n)
      (λ k. absurd (omega (arith, k i refl))) (λ k. rw (start, left) at (lowest_moved d (suc i) n (λ j e. omega (arith, k j e)))) (p i) h

-- ---- from slot i up
module _ (ss : List Slot) (i : ℕ) where
  one_left : i < length ss → length ss - i ≡ suc (length ss - (i + 1))
  one_left h = omega arith

  -- one turn of the search
  pub from_turn : i < length ss → (t : Bool) → t ≡ seen ss i → seen_from ss i ≡ (if t then Named i else seen_from ss (i + 1))
  unfolding lowest
  from_turn h true e = rw (one_left h, ← e)
  from_turn h false e = rw (one_left h, ← e, add-one)

  -- past the last slot there is none
  pub from_end : length ss ≤ i → seen_from ss i ≡ Missing (length ss)
  unfolding lowest
  from_end h = let none_left : length ss - i ≡ 0 = omega arith in rw none_left

-- ---- the second glyph of a pair
-- it is after slot i and in the line
pub second_after : (ss : List Slot) (i : ℕ) → After (length ss) i (second ss i)
second_after ss i = go (lowest (seen ss) (i + 1) (length ss - (i + 1))) (lowest_within (seen ss) (length ss - (i + 1)) (i + 1))
  where
    go : (o : Option ℕ) → Within (i + 1) (i + 1 + (length ss - (i + 1))) o → After (length ss) i (or_missing (length ss) o)
    go (Some j) h = (omega arith, omega arith)
    go None h = tt

-- it is that of a later slot n too, unless n has reached it
module _ (ss : List Slot) (i n : ℕ) (later : i ≤ n) where
  second_moved : ((j : ℕ) → second ss i ≡ Named j → n < j) → second ss i ≡ second ss n
  second_moved h =
      let start : i + 1 + (n - i) ≡ n + 1 = omega arith in
      let left : length ss - (i + 1) - (n - i) ≡ length ss - (n + 1) = omega arith in
      rw (start, left) at (ap (or_missing (length ss)) (lowest_moved (seen ss) (n - i) (i + 1) (length ss - (i + 1))
      (λ j e. omega (arith, h j (ap (or_missing (length ss)) e)))))

  pub named_moved : (j : ℕ) → Named j ≡ second ss i → n < j → Named j ≡ second ss n
  named_moved j e h = e ∙ second_moved (λ k f. let same : j ≡ k = cc in omega arith)

  pub missing_moved : (bound : ℕ) → Missing bound ≡ second ss i → Missing bound ≡ second ss n
  missing_moved bound e = e ∙ second_moved (λ k f. clash (cc))

-- ---- the previous glyph of a cursive attachment, or the earlier mark
-- it is before slot i
pub previous_before : (ss : List Slot) (i : ℕ) → Before i (previous ss i)
previous_before ss i = go (nearest (seen ss) i) refl
  where
    go : (o : Option ℕ) → o ≡ nearest (seen ss) i → Before i (or_missing 0 o)
    go (Some j) e = known_before (seen ss) (Some j) i i e (omega arith)
    go None e = tt

-- slot 0 has none
pub previous_first : (ss : List Slot) → Missing 0 ≡ previous ss 0
unfolding nearest
previous_first ss = refl

-- ---- of each kind: the same where the slots are the same
pub neighbour_same : (kind : Kind) (ss ss' : List Slot) → identities ss ≡ identities ss' → (i : ℕ) → neighbour_for kind ss i ≡ neighbour_for kind ss' i
neighbour_same Pair ss ss' e i =
    ap₂ (λ (p : ℕ → Bool) (n : ℕ). or_missing n (lowest p (i + 1) (n - (i + 1)))) (fun_ext (same_flag ss ss' e Seen)) (same_length ss ss' e)
neighbour_same Cursive ss ss' e i = ap (or_missing 0) (nearest_same (seen ss) (seen ss') (same_flag ss ss' e Seen) i)
neighbour_same MarkMark ss ss' e i = ap (or_missing 0) (nearest_same (seen ss) (seen ss') (same_flag ss ss' e Seen) i)
neighbour_same Single ss ss' e i = refl
neighbour_same MarkBase ss ss' e i = refl
neighbour_same MarkLigature ss ss' e i = refl
