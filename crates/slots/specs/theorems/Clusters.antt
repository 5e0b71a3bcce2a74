-- Lines with other clusters, or without: what theorems say of the calls. Assumes nothing.
use Rattle.std.specs.Prelude.{List, [], ◌∷◌, ◌++◌, map, ◌≡◌, ℕ, zero, suc, take, drop}
use Rattle.slots.specs.Slot.{clustered_size, Slot, slot_size}
use Rattle.slots.specs.Line.{count}
use Rattle.slots.specs.Fields.{with_cluster}

-- the clusters of slots, in order
abbrev pub clusters : List Slot → List ℕ
clusters ss = map (λ (s : Slot). s.cluster) ss

-- the slots with other clusters, in order; slots past the last of these keep their own
unfoldable pub with_clusters : List ℕ → List Slot → List Slot
with_clusters cs [] = []
with_clusters [] (s ∷ ss) = s ∷ ss
with_clusters (c ∷ cs) (s ∷ ss) = with_cluster c s ∷ with_clusters cs ss

-- the first 24 bytes of each of n slots with a cluster
unfoldable pub plain_n : ℕ → List ℕ → List ℕ
plain_n zero l = []
plain_n (suc n) l = take slot_size l ++ plain_n n (drop clustered_size l)

-- a line of slots with a cluster as the line of their old 24 bytes
abbrev pub plain_line : List ℕ → List ℕ
plain_line l = plain_n (count clustered_size l) l

-- what is read of slots doesn't depend on their clusters
abbrev pub Blind : {A : Type 0} → (List Slot → A) → Type 0
Blind {A} read = (cs : List ℕ) (ss : List Slot) → read (with_clusters cs ss) ≡ read ss

-- a change of slots neither looks at clusters nor writes them
abbrev pub KeepsClusters : (List Slot → List Slot) → Type 0
KeepsClusters change = (cs : List ℕ) (ss : List Slot) → change (with_clusters cs ss) ≡ with_clusters cs (change ss)
