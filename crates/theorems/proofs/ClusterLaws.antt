-- Slots with other clusters: which reads don't see them, which changes commute with them, and what that says of clusters. Assumes nothing.
use Rattle.std.specs.Prelude.{if◌then◌else◌}
use mathlib.Core.Bool.{Bool, true, false, not, ◌||◌}
use mathlib.Core.List.{List, [], ◌∷◌, map}
use mathlib.Core.Path.{◌≡◌, refl, sym, ap, ap₂, ◌∙◌}
use Prim.Native.Nat.{ℕ, zero, suc}
use native.Mathlib.Omega.{arith}
use lib.Dec.{eqb}
use lib.IntN.{ℤ, pos, nat_abs}
use lib.ListN.{length, take, drop, length-map}
use lib.Seq.{slice}
use Rattle.slots.specs.Slot.{Slot}
use Rattle.slots.specs.Line.{slot, update}
use Rattle.slots.specs.Fields.{advance, measure, with_chain, with_cluster, with_measure}
use Rattle.slots.specs.theorems.Clusters.{Blind, clusters, KeepsClusters, with_clusters}
use Rattle.slots.specs.theorems.Identity.{identities, identity}
use Rattle.slots.specs.Numbered.{numbered_from}
use Rattle.slots.specs.Parent.{by_parent, cleared, is_attached, parent, parent_by}
use Rattle.slots.specs.declared.axis.Axis.{Axis}
use Rattle.slots.specs.declared.axis.Axis.TheVariants.{X, Y}
use Rattle.slots.specs.declared.fields.Measure.{Measure}
use Rattle.slots.specs.declared.fields.Measure.TheVariants.{Advance, Offset}
use Rattle.slots.specs.declared.parent.Parent.{Parent}
use Rattle.slots.specs.declared.parent.Parent.TheVariants.{None, Outside, InLine}
use Rattle.start.specs.Start.{started, unattached}
use Rattle.checks.specs.Ranges.{bad_slots, some}
use Rattle.lookup.proofs.IdentityLaws.{same_bad, same_length}

-- ---- the slots with other clusters
-- no clusters leave the slots
pub none_with : (ss : List Slot) → with_clusters [] ss ≡ ss
unfolding with_clusters
none_with [] = refl
none_with (s ∷ ss) = refl

-- slot i is as it was but for its cluster, outside the line too
pub slot_with : (i : ℕ) (cs : List ℕ) (ss : List Slot) → slot (with_clusters cs ss) i ≡ with_cluster (slot (with_clusters cs ss) i).cluster (slot ss i)
unfolding with_clusters
slot_with i cs [] = refl
slot_with i [] (s ∷ ss) = refl
slot_with zero (c ∷ cs) (s ∷ ss) = refl
slot_with (suc i) (c ∷ cs) (s ∷ ss) = slot_with i cs ss

-- the first n slots
pub take_keeps : (n : ℕ) → KeepsClusters (λ ss. take n ss)
unfolding with_clusters
take_keeps zero cs ss = refl
take_keeps (suc n) cs [] = refl
take_keeps (suc n) [] (s ∷ ss) = refl
take_keeps (suc n) (c ∷ cs) (s ∷ ss) = ap (λ (r : List Slot). with_cluster c s ∷ r) (take_keeps n cs ss)

-- the slots after the first n: as many clusters are dropped
pub drop_with : (n : ℕ) (cs : List ℕ) (ss : List Slot) → drop n (with_clusters cs ss) ≡ with_clusters (drop n cs) (drop n ss)
unfolding with_clusters
drop_with zero cs ss = refl
drop_with (suc n) cs [] = refl
drop_with (suc n) [] (s ∷ ss) = sym (none_with (drop n ss))
drop_with (suc n) (c ∷ cs) (s ∷ ss) = drop_with n cs ss

-- a part of the slots
pub slice_with : (i j : ℕ) (cs : List ℕ) (ss : List Slot) → slice i j (with_clusters cs ss) ≡ with_clusters (drop i cs) (slice i j ss)
slice_with i j cs ss = ap (drop i) (take_keeps j cs ss) ∙ drop_with i cs (take j ss)

-- ---- reads and changes put together
module _ {A : Type 0} {read : List Slot → A} (b : Blind read) where
  -- a read by what was read
  pub blind_by : {B : Type 0} (next : A → List Slot → B) → ((a : A) → Blind (next a)) → Blind (λ ss. next (read ss) ss)
  blind_by next n cs ss = ap (λ (a : A). next a (with_clusters cs ss)) (b cs ss) ∙ n (read ss) cs ss

  -- what a read is made into
  pub blind_as : {B : Type 0} (f : A → B) → Blind (λ ss. f (read ss))
  blind_as f cs ss = ap f (b cs ss)

  -- a read after a change
  pub blind_after : (change : List Slot → List Slot) → KeepsClusters change → Blind (λ ss. read (change ss))
  blind_after change k cs ss = ap read (k cs ss) ∙ b cs (change ss)

  -- a read of a part
  pub slice_blind : (i j : ℕ) → Blind (λ ss. read (slice i j ss))
  slice_blind i j cs ss = ap read (slice_with i j cs ss) ∙ b (drop i cs) (slice i j ss)

-- no change
pub same_keeps : KeepsClusters (λ ss. ss)
same_keeps cs ss = refl

-- `with` puts other clusters in, of one slot or of all
module _ {C S : Type 0} {with : C → S → S} where
  -- a change by what was read
  pub keeps_by : {A : Type 0} {read : S → A} → ((c : C) (x : S) → read (with c x) ≡ read x) → (change : A → S → S)
      → ((a : A) (c : C) (x : S) → change a (with c x) ≡ with c (change a x)) → (c : C) (x : S) → change (read (with c x)) (with c x) ≡ with c (change (read x) x)
  keeps_by {A} {read} b change k c x = ap (λ (a : A). change a (with c x)) (b c x) ∙ k (read x) c x

  module _ (f g : S → S) (h : (c : C) (x : S) → f (with c x) ≡ with c (f x)) (k : (c : C) (x : S) → g (with c x) ≡ with c (g x)) where
    -- two changes, one after the other
    pub keeps_after : (c : C) (x : S) → g (f (with c x)) ≡ with c (g (f x))
    keeps_after c x = ap g (h c x) ∙ k c (f x)

    -- a choice between two changes
    pub if_keeps : (t : Bool) (c : C) (x : S) → (if t then f (with c x) else g (with c x)) ≡ with c (if t then f x else g x)
    if_keeps true = h
    if_keeps false = k

module _ (f g : List Slot → List Slot) (h : KeepsClusters f) (k : KeepsClusters g) where
  -- a choice by a parent
  pub by_parent_keeps : (at : ℕ → List Slot → List Slot) → ((j : ℕ) → KeepsClusters (at j))
      → (p : Parent) → KeepsClusters (λ ss. by_parent p (f ss) (g ss) (λ j. at j ss))
  by_parent_keeps at m None = h
  by_parent_keeps at m Outside = k
  by_parent_keeps at m (InLine j) = m j

-- ---- one slot with another cluster
-- a read of a slot doesn't see its cluster
abbrev pub SlotBlind : {A : Type 0} → (Slot → A) → Type 0
SlotBlind {A} g = (c : ℕ) (s : Slot) → g (with_cluster c s) ≡ g s

-- a change of a slot commutes with another cluster
abbrev pub SlotKeeps : (Slot → Slot) → Type 0
SlotKeeps f = (c : ℕ) (s : Slot) → f (with_cluster c s) ≡ with_cluster c (f s)

-- an advance or an offset is read without the cluster
pub measure_sees : (m : Measure) (a : Axis) → SlotBlind (measure m a)
measure_sees Advance X c s = refl
measure_sees Advance Y c s = refl
measure_sees Offset X c s = refl
measure_sees Offset Y c s = refl

-- and written without it
pub measure_keeps : (m : Measure) (a : Axis) (z : ℤ) → SlotKeeps (with_measure m a z)
measure_keeps Advance X z c s = refl
measure_keeps Advance Y z c s = refl
measure_keeps Offset X z c s = refl
measure_keeps Offset Y z c s = refl

-- ---- what is read of one slot, and of all
module _ {A : Type 0} (g : Slot → A) (h : SlotBlind g) where
  -- what is read of slot i
  pub slot_blind : (i : ℕ) → Blind (λ ss. g (slot ss i))
  slot_blind i cs ss = ap g (slot_with i cs ss) ∙ h (slot (with_clusters cs ss) i).cluster (slot ss i)

  -- what is read of each slot
  pub map_blind : Blind (λ ss. map g ss)
  unfolding with_clusters
  map_blind cs [] = refl
  map_blind [] (s ∷ ss) = refl
  map_blind (c ∷ cs) (s ∷ ss) = ap₂ (λ (a : A) (r : List A). a ∷ r) (h c s) (map_blind cs ss)

-- whether some slot passes a test
pub some_blind : (p : Slot → Bool) → SlotBlind p → Blind (some p)
unfolding with_clusters some
some_blind p h cs [] = refl
some_blind p h [] (s ∷ ss) = refl
some_blind p h (c ∷ cs) (s ∷ ss) = ap₂ ◌||◌ (h c s) (some_blind p h cs ss)

-- what the slots are: their clusters are no part of that
pub identities_blind : Blind identities
identities_blind = map_blind identity (λ c s. refl)

-- so they are as many
pub length_blind : Blind (λ ss. length ss)
length_blind cs ss = same_length (with_clusters cs ss) ss (identities_blind cs ss)

-- and as much out of range
pub range_blind : Blind bad_slots
range_blind cs ss = same_bad (with_clusters cs ss) ss (identities_blind cs ss)

-- an advance or an offset of slot i
pub measure_blind : (m : Measure) (a : Axis) (i : ℕ) → Blind (λ ss. measure m a (slot ss i))
measure_blind m a = slot_blind (measure m a) (measure_sees m a)

-- the advances of all slots
pub advances_blind : (a : Axis) → Blind (λ ss. map (advance a) ss)
advances_blind a = map_blind (advance a) (measure_sees Advance a)

-- slot i's glyph
pub glyph_blind : (i : ℕ) → Blind (λ ss. (slot ss i).glyph)
glyph_blind = slot_blind (λ s. s.glyph) (λ c s. refl)

-- slot i's type
pub type_blind : (i : ℕ) → Blind (λ ss. (slot ss i).attach_type)
type_blind = slot_blind (λ s. s.attach_type) (λ c s. refl)

-- slot i's chain
pub chain_blind : (i : ℕ) → Blind (λ ss. (slot ss i).chain)
chain_blind = slot_blind (λ s. s.chain) (λ c s. refl)

-- whether slot i is attached
pub attached_blind : (i : ℕ) → Blind (λ ss. is_attached ss i)
attached_blind = slot_blind (λ s. not (eqb (nat_abs s.chain) 0)) (λ c s. refl)

-- what slot i hangs on
pub parent_blind : (i : ℕ) → Blind (λ ss. parent ss i)
unfolding parent
parent_blind i cs ss = ap₂ (λ (n : ℕ) (z : ℤ). parent_by n i z) (length_blind cs ss) (chain_blind i cs ss)

-- ---- what is changed of one slot, and of all
module _ (f : Slot → Slot) (h : SlotKeeps f) where
  -- a change of slot i
  pub update_keeps : (i : ℕ) → KeepsClusters (update i f)
  unfolding with_clusters update
  update_keeps i cs [] = refl
  update_keeps i [] (s ∷ ss) = sym (none_with (update i f (s ∷ ss)))
  update_keeps zero (c ∷ cs) (s ∷ ss) = ap (λ (r : Slot). r ∷ with_clusters cs ss) (h c s)
  update_keeps (suc i) (c ∷ cs) (s ∷ ss) = ap (λ (r : List Slot). with_cluster c s ∷ r) (update_keeps i cs ss)

  -- a change of every slot
  pub map_keeps : KeepsClusters (λ ss. map f ss)
  unfolding with_clusters
  map_keeps cs [] = refl
  map_keeps [] (s ∷ ss) = refl
  map_keeps (c ∷ cs) (s ∷ ss) = ap₂ (λ (a : Slot) (r : List Slot). a ∷ r) (h c s) (map_keeps cs ss)

-- a chain cleared
pub cleared_keeps : (i : ℕ) → KeepsClusters (λ ss. cleared ss i)
unfolding cleared
cleared_keeps = update_keeps (with_chain (pos 0)) (λ c s. refl)

-- the line started
pub started_keeps : KeepsClusters started
started_keeps = map_keeps unattached (λ c s. refl)

-- ---- the clusters themselves
-- as many clusters as slots are theirs
pub clusters_with : (cs : List ℕ) (ss : List Slot) → length cs ≡ length ss → clusters (with_clusters cs ss) ≡ cs
unfolding with_clusters
clusters_with [] [] e = refl
clusters_with (c ∷ cs) [] e = absurd (omega arith)
clusters_with [] (s ∷ ss) e = absurd (omega arith)
clusters_with (c ∷ cs) (s ∷ ss) e = ap (λ (r : List ℕ). c ∷ r) (clusters_with cs ss (omega arith))

-- slots have their own clusters
pub own_clusters : (ss : List Slot) → with_clusters (clusters ss) ss ≡ ss
unfolding with_clusters
own_clusters [] = refl
own_clusters (s ∷ ss) = ap (λ (r : List Slot). s ∷ r) (own_clusters ss)

-- so a change that keeps clusters, and the number of slots, leaves the clusters
pub clusters_kept : (change : List Slot → List Slot) → KeepsClusters change → (ss : List Slot) → length (change ss) ≡ length ss
    → clusters (change ss) ≡ clusters ss
clusters_kept change k ss n =
    ap (λ (r : List Slot). clusters (change r)) (sym (own_clusters ss)) ∙ ap clusters (k (clusters ss) ss)
    ∙ clusters_with (clusters ss) (change ss) (length-map ss (λ s. s.cluster) ∙ sym n)

-- n numbers from k up
abbrev pub up_from : ℕ → ℕ → List ℕ
up_from k zero = []
up_from k (suc n) = k ∷ up_from (suc k) n

-- numbered slots have these for clusters
pub numbered_with : (k : ℕ) (ss : List Slot) → numbered_from k ss ≡ with_clusters (up_from k (length ss)) ss
unfolding numbered_from with_clusters
numbered_with k [] = refl
numbered_with k (s ∷ ss) = ap (λ (r : List Slot). with_cluster k s ∷ r) (numbered_with (suc k) ss)
