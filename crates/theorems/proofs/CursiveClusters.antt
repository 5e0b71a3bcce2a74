-- Cursive attachment neither looks at clusters nor writes them. Assumes nothing.
use Rattle.std.specs.Prelude.{None, Option, Some, if◌then◌else◌}
use mathlib.Core.Bool.{Bool, true, false}
use mathlib.Core.List.{List}
use mathlib.Core.Path.{refl, ap, ◌∙◌}
use Prim.Native.Nat.{ℕ, zero, suc}
use lib.Dec.{eqb}
use lib.IntN.{ℤ, pos, neg_ℤ}
use lib.ListN.{length}
use Rattle.ints.specs.Saturating.{sat_sub, sat_neg, sat_add}
use Rattle.slots.specs.Axis.{cross, main}
use Rattle.slots.specs.Slot.{Slot}
use Rattle.slots.specs.Line.{update}
use Rattle.slots.specs.Fields.{advance, attached, cursive_bit, with_chain, with_cluster, with_measure}
use Rattle.slots.specs.theorems.Clusters.{Blind, KeepsClusters, with_clusters}
use Rattle.slots.specs.Parent.{by_parent, cleared, is_attached, parent}
use Rattle.slots.specs.declared.axis.Axis.{Axis}
use Rattle.slots.specs.declared.axis.Axis.TheVariants.{X, Y}
use Rattle.slots.specs.declared.axis.Direction.{Direction}
use Rattle.slots.specs.declared.axis.Direction.TheVariants.{LeftToRight, RightToLeft, TopToBottom, BottomToTop}
use Rattle.slots.specs.declared.fields.Measure.TheVariants.{Advance, Offset}
use Rattle.theorems.proofs.ClusterLaws.{attached_blind, blind_as, blind_by, by_parent_keeps, chain_blind, cleared_keeps, glyph_blind, if_keeps, keeps_after, keeps_by, length_blind, measure_blind, measure_keeps, measure_sees, parent_blind, same_keeps, slot_blind, SlotKeeps, update_keeps}
use Rattle.tables.specs.Anchor.{Point}
use Rattle.answers.specs.declared.Neighbour.{Neighbour}
use Rattle.answers.specs.declared.Neighbour.TheVariants.{Named, Missing}
use Rattle.ints.specs.Tally.{tally}
use Rattle.ints.proofs.TallyLaws.{tally_same}
use Rattle.chains.specs.Chains.{attached_count, chain_to, reach}
use Rattle.chains.specs.Reversal.{reversed, reversed_in, turned}
use Rattle.cursive.specs.CursivePos.{Plan, stop, join, entry_of, after_covered, after_entry, after_neighbour, after_previous, index_of, plan_of}
use Rattle.cursive.specs.Attachment.{crossed, ended, child_attached, joined_at, planned, previous_joined, pulled, right_to_left, scaled_at, separated_by, this_joined, tied}
use Rattle.ints.specs.Signed.{same_as}

-- ---- the plan
module _ (t : List ℕ) (i : ℕ) where
  -- by the previous slot
  neighbour_blind : (n : Neighbour) (entry : Point) → Blind (λ ss. after_neighbour t ss i n entry)
  neighbour_blind (Named j) entry = blind_as (glyph_blind j) (λ g. after_previous t i j entry (index_of t g))
  neighbour_blind (Missing f) entry = λ cs ss. refl

  -- by the entry anchor
  entry_blind : (n : Neighbour) (e : Option Point) → Blind (λ ss. after_entry t ss i n e)
  entry_blind n (Some entry) = neighbour_blind n entry
  entry_blind n None = λ cs ss. refl

  -- by the coverage
  covered_blind : (n : Neighbour) (c : Option ℕ) → Blind (λ ss. after_covered t ss i n c)
  covered_blind n (Some k) = entry_blind n (entry_of t k)
  covered_blind n None = λ cs ss. refl

  -- the whole
  pub plan_blind : (previous : Neighbour) → Blind (λ ss. plan_of t ss i previous)
  unfolding plan_of
  plan_blind previous = blind_by (blind_as (glyph_blind i) (index_of t)) (λ c ss. after_covered t ss i previous c) (covered_blind previous)

-- ---- reversal
-- how many slots are attached
count_blind : Blind attached_count
unfolding attached_count
count_blind cs ss =
    ap (tally (is_attached (with_clusters cs ss))) (length_blind cs ss)
    ∙ tally_same (is_attached (with_clusters cs ss)) (is_attached ss) (length ss) (λ k lt. attached_blind k cs ss)

-- another offset, then another type and chain
attached_keeps : (a : Axis) (kind : ℕ) (c z : ℤ) → SlotKeeps (λ s. attached kind c (with_measure Offset a z s))
attached_keeps a kind c z n s = ap (attached kind c) (measure_keeps Offset a z n s)

-- a parent hung onto its child
turned_keeps : (a : Axis) (was : Slot) (i j : ℕ) → KeepsClusters (λ ss. turned a was ss i j)
unfolding turned
turned_keeps a was i j = keeps_by (measure_blind Offset a i)
    (λ z. update j (λ s. attached was.attach_type (reach (neg_ℤ was.chain)) (with_measure Offset a (sat_neg z) s)))
    (λ z. update_keeps _ (attached_keeps a was.attach_type (reach (neg_ℤ was.chain)) (sat_neg z)) j)

module _ (a : Axis) (p : ℕ) where
  -- one call, by slot i as it was but for its cluster, where the parent's own chain is reversed without clusters
  call_keeps : (n i : ℕ) → ((j : ℕ) → KeepsClusters (λ ss. reversed_in n a ss j p)) → (was : Slot)
      → KeepsClusters (λ ss. if cursive_bit was.attach_type then
      by_parent (parent ss i) ss (cleared ss i) (λ j. if eqb j p then cleared ss i else turned a was (reversed_in n a (cleared ss i) j p) i j)
      else ss)
  call_keeps n i up was =
      if_keeps (λ ss. by_parent (parent ss i) ss (cleared ss i) (λ j. on j ss)) (λ ss. ss)
      (keeps_by (parent_blind i) (λ q ss. by_parent q ss (cleared ss i) (λ j. on j ss)) (by_parent_keeps _ _ same_keeps (cleared_keeps i) on on_keeps))
      same_keeps (cursive_bit was.attach_type)
    where
      on : ℕ → List Slot → List Slot
      on j ss = if eqb j p then cleared ss i else turned a was (reversed_in n a (cleared ss i) j p) i j

      on_keeps : (j : ℕ) → KeepsClusters (on j)
      on_keeps j =
          if_keeps (λ ss. cleared ss i) (λ ss. turned a was (reversed_in n a (cleared ss i) j p) i j) (cleared_keeps i)
          (keeps_after (λ ss. reversed_in n a (cleared ss i) j p) (λ ss. turned a was ss i j)
          (keeps_after (λ ss. cleared ss i) (λ ss. reversed_in n a ss j p) (cleared_keeps i) (up j)) (turned_keeps a was i j))
          (eqb j p)

  -- in at most n calls
  calls_keep : (n i : ℕ) → KeepsClusters (λ ss. reversed_in n a ss i p)
  unfolding reversed_in turned
  calls_keep zero i = same_keeps
  calls_keep (suc n) i = keeps_by (slot_blind (with_cluster 0) (λ c s. refl) i) _ (call_keeps n i (calls_keep n))

  -- the whole
  reversed_keeps : (i : ℕ) → KeepsClusters (λ ss. reversed a ss i p)
  unfolding reversed
  reversed_keeps i = keeps_by count_blind (λ n ss. reversed_in n a ss i p) (λ n. calls_keep n i)

-- ---- along the line
module _ (a : Axis) (z : ℤ) where
  -- a glyph that ends at its anchor
  ended_keeps : SlotKeeps (ended a z)
  ended_keeps = keeps_by (measure_sees Offset a) (λ o. with_measure Advance a (sat_add z o)) (λ o. measure_keeps Advance a (sat_add z o))

  -- a glyph pulled back to its anchor
  pulled_keeps : SlotKeeps (pulled a z)
  pulled_keeps = keeps_by (measure_sees Offset a) (λ o s. put o (advance a s) s) (λ o. keeps_by (measure_sees Advance a) (put o)
      (λ v. keeps_after (with_measure Advance a _) (with_measure Offset a _) (measure_keeps Advance a (sat_sub v (sat_add z o))) (measure_keeps Offset a (sat_sub o (sat_add z o)))))
    where
      put : ℤ → ℤ → Slot → Slot
      put o v s = with_measure Offset a (sat_sub o (sat_add z o)) (with_measure Advance a (sat_sub v (sat_add z o)) s)

-- the previous glyph
previous_keeps : (d : Direction) (z : ℤ) → SlotKeeps (previous_joined d z)
previous_keeps LeftToRight z = ended_keeps X z
previous_keeps RightToLeft z = pulled_keeps X z
previous_keeps TopToBottom z = ended_keeps Y z
previous_keeps BottomToTop z = pulled_keeps Y z

-- this glyph
this_keeps : (d : Direction) (z : ℤ) → SlotKeeps (this_joined d z)
this_keeps LeftToRight z = pulled_keeps X z
this_keeps RightToLeft z = ended_keeps X z
this_keeps TopToBottom z = pulled_keeps Y z
this_keeps BottomToTop z = measure_keeps Advance Y z

-- ---- across the line
-- a child hung on a parent
attachment_keeps : (a : Axis) (child parent : ℕ) (z : ℤ) → KeepsClusters (child_attached a child parent z)
attachment_keeps a child parent z = keeps_after (λ ss. reversed a ss child parent) (update child (λ s. attached 2 (chain_to child parent) (with_measure Offset a z s)))
    (reversed_keeps a parent child) (update_keeps _ (attached_keeps a 2 (chain_to child parent) z) child)

-- the parent separated
separated_keeps : (a : Axis) (c : ℤ) (parent : ℕ) → KeepsClusters (separated_by a c parent)
unfolding separated_by
separated_keeps a c parent =
    keeps_by (blind_as (chain_blind parent) (λ z. same_as z (neg_ℤ c))) (λ t ss. if t then update parent apart ss else ss)
    (if_keeps (update parent apart) (λ ss. ss) (update_keeps apart (λ n s. ap (with_chain (pos 0)) (measure_keeps Offset a (pos 0) n s)) parent) same_keeps)
  where
    apart : Slot → Slot
    apart s = with_chain (pos 0) (with_measure Offset a (pos 0) s)

-- a child hung and the parent separated
tied_keeps : (a : Axis) (child parent : ℕ) (z : ℤ) → KeepsClusters (tied a child parent z)
unfolding tied
tied_keeps a child parent z =
    keeps_after (child_attached a child parent z) (separated_by a (chain_to child parent) parent) (attachment_keeps a child parent z)
    (separated_keeps a (chain_to child parent) parent)

-- by the flag
crossed_keeps : (a : Axis) (later : Bool) (i idx : ℕ) (exit entry : ℤ) → KeepsClusters (crossed a later i idx exit entry)
crossed_keeps a true i idx exit entry = tied_keeps a i idx (sat_sub entry exit)
crossed_keeps a false i idx exit entry = tied_keeps a idx i (sat_neg (sat_sub entry exit))

-- ---- both
module _ (s u : ℕ) (d : Direction) (flag i : ℕ) where
  -- two slots joined
  joined_keeps : (j : ℕ) (exit entry : Point) → KeepsClusters (joined_at s u d flag j i exit entry)
  unfolding joined_at
  joined_keeps j exit entry =
      keeps_after _ (crossed (cross d) (right_to_left flag) j i (scaled_at s u (cross d) exit) (scaled_at s u (cross d) entry))
      (keeps_after (update j _) (update i _)
      (update_keeps _ (previous_keeps d (scaled_at s u (main d) exit)) j) (update_keeps _ (this_keeps d (scaled_at s u (main d) entry)) i))
      (crossed_keeps (cross d) (right_to_left flag) j i (scaled_at s u (cross d) exit) (scaled_at s u (cross d) entry))

  -- by a plan
  pub planned_keeps : (p : Plan) → KeepsClusters (planned s u d flag i p)
  planned_keeps (stop hazards) = same_keeps
  planned_keeps (join j exit entry) = joined_keeps j exit entry
