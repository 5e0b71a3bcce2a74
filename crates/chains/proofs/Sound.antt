-- Reversal of a sound chain: its slots hang the other way round, and no other slot changes. Assumes nothing.
use mathlib.Core.Bool.{true}
use mathlib.Core.List.{List, [], ◌∷◌}
use mathlib.Core.Path.{◌≡◌, refl, sym, ap, ap₂, ◌∙◌}
use Prim.Native.Nat.{ℕ, ◌<◌, ◌≤◌}
use lib.IntN.{ℤ, pos, neg_ℤ}
use lib.ListN.{length}
use native.Mathlib.Omega.{arith}
use Rattle.ints.proofs.Ints.{diff, neg_diff}
use Rattle.ints.specs.Saturating.{sat_neg}
use Rattle.slots.specs.Slot.{Slot}
use Rattle.slots.specs.Line.{slot}
use Rattle.slots.specs.Fields.{attached, cursive_bit, offset, with_chain, with_measure}
use Rattle.slots.specs.Parent.{cleared, parent}
use Rattle.slots.specs.declared.axis.Axis.{Axis}
use Rattle.slots.specs.declared.axis.Axis.TheVariants.{X, Y}
use Rattle.slots.specs.declared.fields.Measure.TheVariants.{Offset}
use Rattle.slots.specs.declared.parent.Parent.TheVariants.{None, InLine}
use Rattle.slots.proofs.ChainLaws.{near_fits}
use Rattle.slots.proofs.FieldLaws.{measure_chain}
use Rattle.slots.proofs.LineLaws.{update_other, update_same}
use Rattle.slots.proofs.ParentLaws.{chain_is, chain_zero, cleared_count, cleared_other, cleared_own, parent_in_line, parent_is, parent_same}
use Rattle.chains.specs.Chains.{reach}
use Rattle.chains.specs.Reversal.{reversed, turned}
use Rattle.chains.proofs.ChainsLaws.{reach_near}
use Rattle.chains.proofs.ReversalLaws.{length_turned, reversed_free, reversed_on}

-- ---- what is asked
-- slot i hangs on slot j by a type that reversal follows
pub record Link (ss : List Slot) (i j : ℕ) : Type 0 where
  pub in_line : i < length ss
  pub cursive : cursive_bit (slot ss i).attach_type ≡ true
  pub hangs_on : parent ss i ≡ InLine j

-- from slot i the parents are js, in this order, and the last slot hangs on nothing
abbrev pub Chain : List Slot → ℕ → List ℕ → Type 0
Chain ss i [] = parent ss i ≡ None
Chain ss i (j ∷ js) = Link ss i j × Chain ss j js

-- k is none of js
abbrev pub Apart : ℕ → List ℕ → Type 0
Apart k [] = Unit {0}
Apart k (j ∷ js) = (k ≡ j → ⊥) × Apart k js

-- no number stands twice in js
abbrev pub Distinct : List ℕ → Type 0
Distinct [] = Unit {0}
Distinct (j ∷ js) = Apart j js × Distinct js

-- a sound chain: from slot i over the slots js, none of them twice, and none of js the new parent p
pub record SoundChain (ss : List Slot) (i p : ℕ) (js : List ℕ) : Type 0 where
  pub linked : Chain ss i js
  pub distinct : Distinct (i ∷ js)
  pub not_new : Apart p js

-- ---- what reversal does
-- a slot hung onto the slot `child`, which hung on it: by the child's type and negated chain, with the child's offset, negated; all else as it was
abbrev pub hung_onto : Axis → Slot → Slot → Slot
hung_onto a child s = attached child.attach_type (reach (neg_ℤ child.chain)) (with_measure Offset a (sat_neg (offset a child)) s)

-- each of js has been hung onto the one before it (i is before the first)
abbrev pub AllTurned : Axis → List Slot → List Slot → ℕ → List ℕ → Type 0
AllTurned a ss r i [] = Unit {0}
AllTurned a ss r i (j ∷ js) = (slot r j ≡ hung_onto a (slot ss i) (slot ss j)) × AllTurned a ss r j js

-- each of js hangs on the one before it
abbrev pub Backwards : List Slot → ℕ → List ℕ → Type 0
Backwards r i [] = Unit {0}
Backwards r i (j ∷ js) = (parent r j ≡ InLine i) × Backwards r j js

-- from ss to r, the chain from slot i over the slots js is reversed
pub record Reversed (a : Axis) (ss : List Slot) (i : ℕ) (js : List ℕ) (r : List Slot) : Type 0 where
  -- the line has as many slots as before
  pub count_kept : length r ≡ length ss
  -- the first slot hangs on nothing, and nothing else of it changes
  pub first_freed : slot r i ≡ with_chain (pos 0) (slot ss i)
  -- each parent is hung onto its child: type, negated chain, negated offset
  pub parents_turned : AllTurned a ss r i js
  -- so that, in a line whose distances fit a chain, it hangs on its child
  pub backwards : length ss ≤ 32768 → Backwards r i js
  -- no other slot changes
  pub others_kept : (k : ℕ) → Apart k (i ∷ js) → slot r k ≡ slot ss k

-- ---- clearing slot i leaves the rest of the chain
module _ (ss : List Slot) (i : ℕ) where
  -- other slots hang as they did
  parent_kept : (k : ℕ) → (k ≡ i → ⊥) → parent (cleared ss i) k ≡ parent ss k
  parent_kept k ne = parent_same ss (cleared ss i) k (cleared_count ss i) (cleared_other ss i k ne)

  -- and so does a chain that slot i is not on
  chain_kept : (j : ℕ) (js : List ℕ) → Apart i (j ∷ js) → Chain ss j js → Chain (cleared ss i) j js
  chain_kept j [] out free = parent_kept j (λ e. out.0 (sym e)) ∙ free
  chain_kept j (k ∷ js) out on =
      let ne : j ≡ i → ⊥ = λ e. out.0 (sym e) in (
        record {
          in_line = rw (cleared_count ss i) on.0.in_line;
          cursive = rw (cleared_other ss i j ne) on.0.cursive;
          hangs_on = parent_kept j ne ∙ on.0.hangs_on;
        },
        chain_kept k js out.1 on.1,
      )

-- ---- a slot whose chain is changed is the same once it is hung
hung_again : (a : Axis) (t : ℕ) (c d z : ℤ) (s : Slot) → ◌≡◌ {A = Slot} (attached t c (with_measure Offset a z (with_chain d s))) (attached t c (with_measure Offset a z s))
hung_again X t c d z s = refl
hung_again Y t c d z s = refl

-- in a line whose distances fit a chain, a slot's chain, negated, leads back from its parent
leads_back : (ss r : List Slot) (i j : ℕ) → length r ≡ length ss → length ss ≤ 32768 → i < length ss → (i ≡ j → ⊥) → parent ss i ≡ InLine j
    → (slot r j).chain ≡ reach (neg_ℤ (slot ss i).chain) → parent r j ≡ InLine i
leads_back ss r i j n short h ne on is =
    let k : j < length ss = parent_in_line ss i j on in
    let back : (slot r j).chain ≡ diff i j = is ∙ ap (λ z. reach (neg_ℤ z)) (chain_is ss i j on) ∙ ap reach (neg_diff j i) ∙ reach_near (diff i j) (near_fits i j (omega arith) (omega arith)) in
    parent_is r j i (omega arith) ne back

-- so what was hung hangs
hang_back : (a : Axis) (ss r : List Slot) → length r ≡ length ss → length ss ≤ 32768 → (i : ℕ) (js : List ℕ) → Chain ss i js → Distinct (i ∷ js)
    → AllTurned a ss r i js → Backwards r i js
hang_back a ss r n short i [] chain apart w = tt
hang_back a ss r n short i (j ∷ js) chain apart w = (
  leads_back ss r i j n short chain.0.in_line apart.0.0 chain.0.hangs_on (ap (λ (s : Slot). s.chain) w.0),
  hang_back a ss r n short j js chain.1 apart.1 w.1,
)

-- ---- one slot more: r is the line with slot i cleared and the chain from j on reversed
module _ (a : Axis) (ss : List Slot) (i j : ℕ) (js : List ℕ) (r : List Slot) (chain : Chain ss i (j ∷ js)) (apart : Distinct (i ∷ j ∷ js))
    (rest : Reversed a (cleared ss i) j js r) where
  -- the whole line afterwards
  abbrev on : List Slot
  on = turned a (slot ss i) r i j

  -- it has as many slots
  length_on : length on ≡ length ss
  length_on = length_turned a (slot ss i) r i j ∙ rest.count_kept ∙ cleared_count ss i

  -- slot i is not on the rest of the chain: after the recursion it is as it was but for its chain
  child_after : slot r i ≡ with_chain (pos 0) (slot ss i)
  child_after = rest.others_kept i apart.0 ∙ cleared_own ss i chain.0.in_line

  -- it differs from r in slot j alone
  on_other : (k : ℕ) → (k ≡ j → ⊥) → slot on k ≡ slot r k
  unfolding turned
  on_other k ne = update_other j _ r k ne

  -- which hangs onto slot i
  on_parent : slot on j ≡ hung_onto a (slot ss i) (slot ss j)
  unfolding turned
  on_parent =
      let in_line : j < length r = rw (rest.count_kept, cleared_count ss i) (parent_in_line ss i j chain.0.hangs_on) in
      update_same j _ r in_line
      ∙ rw (child_after, measure_chain Offset a (pos 0) (slot ss i), rest.first_freed, cleared_other ss i j (λ e. apart.0.0 (sym e)), hung_again a (slot ss i).attach_type)

  -- while the rest stays turned
  on_rest : (c : ℕ) (ks : List ℕ) → Apart i (c ∷ ks) → Apart j ks → AllTurned a (cleared ss i) r c ks → AllTurned a ss on c ks
  on_rest c [] ni nj w = tt
  on_rest c (k ∷ ks) ni nj w = (
    on_other k (λ e. nj.0 (sym e)) ∙ w.0 ∙ ap₂ (hung_onto a) (cleared_other ss i c (λ e. ni.0 (sym e))) (cleared_other ss i k (λ e. ni.1.0 (sym e))),
    on_rest k ks ni.1 nj.1 w.1,
  )

  -- so the chain with one slot more is reversed
  step : Reversed a ss i (j ∷ js) on
  step =
      let w : AllTurned a ss on i (j ∷ js) = (on_parent, on_rest j js apart.0 apart.1.0 rest.parents_turned) in
      record {
        count_kept = length_on;
        first_freed = on_other i apart.0.0 ∙ child_after;
        parents_turned = w;
        backwards = λ short. hang_back a ss on length_on short i (j ∷ js) chain apart w;
        others_kept = λ k out. on_other k out.1.0 ∙ rest.others_kept k out.1 ∙ cleared_other ss i k out.0;
      }

-- ---- the law
pub reversal_sound : (a : Axis) (js : List ℕ) (ss : List Slot) (i p : ℕ) → SoundChain ss i p js → Reversed a ss i js (reversed a ss i p)
reversal_sound a [] ss i p h = rw (reversed_free a ss i p h.linked)
    (record {
      count_kept = refl;
      first_freed = ap (λ (c : ℤ). with_chain c (slot ss i)) (chain_zero ss i h.linked);
      parents_turned = tt;
      backwards = λ short. tt;
      others_kept = λ k out. refl;
    })
reversal_sound a (j ∷ js) ss i p h =
    let link : Link ss i j = h.linked.0 in
    let apart : Distinct (i ∷ j ∷ js) = h.distinct in
    let below : SoundChain (cleared ss i) j p js = record { linked = chain_kept ss i j js apart.0 h.linked.1; distinct = apart.1; not_new = h.not_new.1 } in
    rw (reversed_on a ss i p link.in_line link.cursive j link.hangs_on (λ e. h.not_new.0 (sym e)))
    (step a ss i j js (reversed a (cleared ss i) j p) h.linked apart (reversal_sound a js (cleared ss i) j p below))
