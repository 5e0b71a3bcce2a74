-- A line of slots with a cluster, and the line of their old 24 bytes. Assumes nothing.
use mathlib.Core.Path.{◌≡◌, refl, sym, ap, ap₂, ◌∙◌}
use mathlib.Core.Bool.{true, false}
use mathlib.Core.List.{List, [], ◌∷◌, ◌++◌, append_assoc, append-nil}
use Prim.Native.Nat.{ℕ, zero, suc, ◌-◌, ◌*◌, ◌%◌, ◌^◌, ◌<◌, ◌≤◌}
use native.Mathlib.Omega.{arith}
use native.Mathlib.Nat.{suc-mul, zero-mul}
use borrow.Author.Tests.{eq-eqb, le-ltb}
use lib.ListN.{length, replicate, take, drop, length-append, length-drop}
use lib.Seq.{take_at, drop_at, length-take-le}
use Rattle.ints.specs.BigEndian.{digits, nat_at}
use Rattle.ints.specs.Signed.{int_at}
use Rattle.ints.proofs.TestLaws.{clash}
use Rattle.slots.specs.Slot.{bytes_of, clustered_size, known, plain_bytes, Slot, slot_of, slot_size}
use Rattle.slots.specs.theorems.Storable.{AllStorable}
use Rattle.slots.specs.Line.{bytes, count, line_slots, slots, slots_n}
use Rattle.slots.specs.Checks.{bad_line, most_slots}
use Rattle.slots.specs.Fields.{with_cluster}
use Rattle.slots.specs.theorems.Clusters.{clusters, plain_line, plain_n, with_clusters}
use Rattle.slots.proofs.Cells.{by_cells}
use Rattle.slots.proofs.LineLaws.{line_short, shapely}
use Rattle.slots.proofs.SlotLaws.{cluster_read, length_bytes_of, length_plain}

-- ---- one slot
-- its bytes without a cluster don't tell it
bytes_of_plain : (c : ℕ) (s : Slot) → bytes_of slot_size (with_cluster c s) ≡ bytes_of slot_size s
unfolding plain_bytes digits
bytes_of_plain c s = refl

-- its first 24 bytes are those without a cluster
take_plain : (s : Slot) (t : List ℕ) → take slot_size (bytes_of clustered_size s ++ t) ≡ bytes_of slot_size s
unfolding digits
take_plain s t =
    ap (take slot_size) (append_assoc (plain_bytes s) (digits 4 s.cluster) t)
    ∙ take_at (plain_bytes s) (digits 4 s.cluster ++ t) slot_size (length_plain s) ∙ sym (append-nil (plain_bytes s))

-- read from its first 24 bytes it has cluster 0
slot_plain : (p : List ℕ) → slot_size ≤ length p → slot_of (take slot_size p) ≡ with_cluster 0 (slot_of p)
unfolding slot_of nat_at int_at
slot_plain = by_cells (λ (p : List ℕ). slot_of (take slot_size p) ≡ with_cluster 0 (slot_of p)) (λ g r. refl)

take_less : (l : List ℕ) → slot_size ≤ length l → take slot_size (take clustered_size l) ≡ take slot_size l
take_less = by_cells (λ (l : List ℕ). take slot_size (take clustered_size l) ≡ take slot_size l) (λ g r. refl)

-- its cluster is read back from its bytes, whatever the other fields are
cluster_at_lem : (z : ℕ) → known z ≡ true → (s : Slot) → s.cluster < 256 ^ (z - slot_size) → (slot_of (bytes_of z s)).cluster ≡ s.cluster
unfolding slot_of plain_bytes digits nat_at
cluster_at_lem z k s h = cluster_read z k s.cluster h

-- ---- a line
-- the bytes of slots without clusters don't tell them
pub bytes_without : (cs : List ℕ) (ss : List Slot) → bytes slot_size (with_clusters cs ss) ≡ bytes slot_size ss
unfolding bytes with_clusters
bytes_without cs [] = refl
bytes_without [] (s ∷ ss) = refl
bytes_without (c ∷ cs) (s ∷ ss) = ap₂ ◌++◌ (bytes_of_plain c s) (bytes_without cs ss)

-- the old bytes of slots are their bytes without clusters
pub plain_bytes_lem : (ss : List Slot) → plain_n (length ss) (bytes clustered_size ss) ≡ bytes slot_size ss
unfolding bytes plain_n
plain_bytes_lem [] = refl
plain_bytes_lem (s ∷ ss) =
    ap₂ ◌++◌ (take_plain s (bytes clustered_size ss))
    (ap (plain_n (length ss)) (drop_at (bytes_of clustered_size s) (bytes clustered_size ss) clustered_size (length_bytes_of clustered_size refl s)) ∙ plain_bytes_lem ss)

-- the slots of the old bytes are the slots, all with cluster 0
pub slots_plain : (n : ℕ) (l : List ℕ) → n * clustered_size ≤ length l → slots_n slot_size n (plain_n n l) ≡ with_clusters (replicate n 0) (slots_n clustered_size n l)
unfolding slots_n plain_n with_clusters
slots_plain zero l h = refl
slots_plain (suc n) l h =
    let more = suc-mul n clustered_size in
    let first : length (take slot_size l) ≡ slot_size = length-take-le slot_size l (omega arith) in
    let whole : length (take clustered_size l) ≡ clustered_size = length-take-le clustered_size l (omega arith) in
    let rest : n * clustered_size ≤ length (drop clustered_size l) = simp length-drop (omega arith) in
    let tail = plain_n n (drop clustered_size l) in
    ap₂ (λ (s : Slot) (ss : List Slot). s ∷ ss)
    (ap slot_of (take_at (take slot_size l) tail slot_size first ∙ sym (take_less l (omega arith))) ∙ slot_plain (take clustered_size l) (omega (arith, whole)))
    (ap (slots_n slot_size n) (drop_at (take slot_size l) tail slot_size first) ∙ slots_plain n (drop clustered_size l) rest)

-- the clusters of slots are read back from their bytes, where they are those of slots that can be held
pub clusters_read : (z : ℕ) → known z ≡ true → (ss old : List Slot) → AllStorable z old → clusters ss ≡ clusters old
    → clusters (slots_n z (length ss) (bytes z ss)) ≡ clusters ss
unfolding bytes slots_n AllStorable
clusters_read z k [] old h e = refl
clusters_read z k (s ∷ ss) [] h e = clash (cc)
clusters_read z k (s ∷ ss) (o ∷ old) h e =
    let same : s.cluster ≡ o.cluster = cc in
    let others : clusters ss ≡ clusters old = cc in
    ap₂ (λ (c : ℕ) (cs : List ℕ). c ∷ cs)
    (ap (λ (p : List ℕ). (slot_of p).cluster) (take_at (bytes_of z s) (bytes z ss) z (length_bytes_of z k s)) ∙ cluster_at_lem z k s (rw same h.0.cluster_fits))
    (ap (λ (p : List ℕ). clusters (slots_n z (length ss) p)) (drop_at (bytes_of z s) (bytes z ss) z (length_bytes_of z k s)) ∙ clusters_read z k ss old h.1 others)

-- ---- a line that isn't bad
length_plain_n : (n : ℕ) (l : List ℕ) → n * clustered_size ≤ length l → length (plain_n n l) ≡ n * slot_size
unfolding plain_n
length_plain_n zero l h = rw zero-mul
length_plain_n (suc n) l h =
    let more = suc-mul n clustered_size in
    let rest : n * clustered_size ≤ length (drop clustered_size l) = simp length-drop (omega arith) in
    rw (length-append (take slot_size l) (plain_n n (drop clustered_size l)), length-take-le slot_size l (omega arith), length_plain_n n (drop clustered_size l) rest)
    (omega (arith, suc-mul n slot_size))

module _ (l : List ℕ) (good : bad_line clustered_size l ≡ false) where
  abbrev many : ℕ
  many = count clustered_size l

  whole : length l ≡ many * clustered_size
  whole = (shapely clustered_size l good).whole

  length_line : length (plain_line l) ≡ many * slot_size
  length_line = length_plain_n many l (omega (arith, whole))

  few : many ≤ most_slots
  few = omega (arith, whole, line_short clustered_size l good)

  -- its old bytes aren't, either
  pub plain_good : bad_line slot_size (plain_line l) ≡ false
  plain_good =
      let none : length (plain_line l) % slot_size ≡ 0 = omega (arith, length_line) in
      rw (eq-eqb (length (plain_line l) % slot_size) 0 none, le-ltb (most_slots * slot_size) (length (plain_line l)) (omega (arith, length_line, few)))

  -- and have its slots, all with cluster 0
  pub plain_slots : line_slots slot_size (plain_line l) ≡ with_clusters (replicate many 0) (line_slots clustered_size l)
  unfolding slots
  plain_slots =
      let same : count slot_size (plain_line l) ≡ many = omega (arith, length_line) in
      rw same (slots_plain many l (omega (arith, whole)))
