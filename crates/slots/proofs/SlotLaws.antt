-- A slot and its 24 or 28 bytes: both round trips. Assumes nothing.
use mathlib.Core.Path.{◌≡◌, refl, sym, ap, ◌∙◌, subst}
use mathlib.Core.Bool.{Bool, true, false}
use mathlib.Core.List.{List, [], ◌++◌, append-nil}
use Prim.Native.Nat.{ℕ, ◌-◌, ◌^◌, ◌<◌, ◌≤◌}
use native.Mathlib.Omega.{arith}
use borrow.Author.Tests.{eqb-true}
use lib.Dec.{eqb}
use lib.ListN.{length, get_or, take, drop, length-append, get_or-eq_default, take-append-drop}
use Rattle.ints.specs.BigEndian.{AllBytes, digits, nat_at}
use Rattle.ints.specs.Signed.{int_at}
use Rattle.ints.proofs.BigEndianLaws.{digits_nat_at, length_digits, nat_at_digits, nat_at_fits}
use Rattle.ints.proofs.SignedLaws.{digits_int_at, int_at_digits, int_at_in}
use Rattle.ints.proofs.TestLaws.{clash}
use Rattle.slots.specs.Slot.{Slot, bytes_of, clustered_size, known, plain_bytes, slot_of, slot_size}
use Rattle.slots.specs.theorems.Storable.{Storable}
use Rattle.slots.specs.Fields.{with_cluster}
use Rattle.slots.proofs.Cells.{by_all_cells, by_cells, cells}

-- ---- the two sizes
-- what holds of both sizes holds of every size that a slot may have
pub by_size : (P : ℕ → Type 0) → P slot_size → P clustered_size → (z : ℕ) → known z ≡ true → P z
by_size P small large z k = go (eqb z slot_size) (eqb z clustered_size) refl refl
  where
    go : (a b : Bool) → eqb z slot_size ≡ a → eqb z clustered_size ≡ b → P z
    go true b e f = subst P (sym (eqb-true z slot_size e)) small
    go false true e f = subst P (sym (eqb-true z clustered_size f)) large
    go false false e f = let no_size : ◌≡◌ {A = Bool} false true = rw (e, f) at k in clash (cc)

pub size_wide : (z : ℕ) → known z ≡ true → slot_size ≤ z
size_wide = by_size (λ z. slot_size ≤ z) (omega arith) (omega arith)

-- ---- the first 24 bytes, which every slot has
-- they are the bytes of the slot that was read from them
plain_of : (p : List ℕ) → slot_size ≤ length p → AllBytes p → plain_bytes (slot_of p) ≡ take slot_size p
unfolding plain_bytes slot_of
plain_of =
    by_cells (λ (p : List ℕ). AllBytes p → plain_bytes (slot_of p) ≡ take slot_size p)
    (λ g r h.
    let p : List ℕ = cells slot_size g r in
    rw (
      digits_nat_at 2 p 0 h (omega arith),
      digits_int_at 2 p 6 h (omega arith),
      digits_int_at 4 p 8 h (omega arith),
      digits_int_at 4 p 12 h (omega arith),
      digits_int_at 4 p 16 h (omega arith),
      digits_int_at 4 p 20 h (omega arith),
    ))

pub length_plain : (s : Slot) → length (plain_bytes s) ≡ slot_size
unfolding plain_bytes digits
length_plain s = refl

-- the slot read from them, and from what follows
slot_of_lem : (z : ℕ) (s : Slot) → Storable z s → (t : List ℕ) → slot_of (plain_bytes s ++ t) ≡ with_cluster (nat_at 4 t 0) s
unfolding plain_bytes slot_of digits nat_at int_at
slot_of_lem z s h t =
    rw (
      nat_at_digits 2 s.glyph h.glyph_fits [],
      int_at_digits 2 s.chain (omega arith) h.chain_fits [],
      int_at_digits 4 s.x_advance (omega arith) h.x_advance_fits [],
      int_at_digits 4 s.y_advance (omega arith) h.y_advance_fits [],
      int_at_digits 4 s.x_offset (omega arith) h.x_offset_fits [],
      int_at_digits 4 s.y_offset (omega arith) h.y_offset_fits [],
    )

-- ---- the cluster, in the bytes that are left
past : (p : List ℕ) (k : ℕ) → length p ≤ k → get_or p k 0 ≡ 0
past p k h = get_or-eq_default p 0 {n = k} h

-- written again it is those bytes
no_cluster : (p : List ℕ) → length p ≡ slot_size → digits 0 (nat_at 4 p slot_size) ≡ drop slot_size p
unfolding digits
no_cluster = by_all_cells slot_size (λ (p : List ℕ). digits 0 (nat_at 4 p slot_size) ≡ drop slot_size p) (λ g. refl)

four_cluster : (p : List ℕ) → length p ≡ clustered_size → AllBytes p → digits 4 (nat_at 4 p slot_size) ≡ drop slot_size p
four_cluster =
    by_all_cells clustered_size (λ (p : List ℕ). AllBytes p → digits 4 (nat_at 4 p slot_size) ≡ drop slot_size p)
    (λ g h. digits_nat_at 4 (cells clustered_size g []) slot_size h (omega arith))

cluster_of : (z : ℕ) → known z ≡ true → (p : List ℕ) → length p ≡ z → AllBytes p → digits (z - slot_size) (nat_at 4 p slot_size) ≡ drop slot_size p
cluster_of =
    by_size (λ z. (p : List ℕ) → length p ≡ z → AllBytes p → digits (z - slot_size) (nat_at 4 p slot_size) ≡ drop slot_size p)
    (λ p e h. no_cluster p e)
    four_cluster

-- and it is read again where it fits
none_read : (n : ℕ) → n < 1 → nat_at 4 (digits 0 n) 0 ≡ n
unfolding digits nat_at
none_read n h = omega arith

pub cluster_read : (z : ℕ) → known z ≡ true → (n : ℕ) → n < 256 ^ (z - slot_size) → nat_at 4 (digits (z - slot_size) n) 0 ≡ n
cluster_read =
    by_size (λ z. (n : ℕ) → n < 256 ^ (z - slot_size) → nat_at 4 (digits (z - slot_size) n) 0 ≡ n)
    none_read
    (λ n h. ap (λ (l : List ℕ). nat_at 4 l 0) (sym (append-nil (digits 4 n))) ∙ nat_at_digits 4 n h [])

-- a cluster that was read fits its bytes: there is none in 24
no_cluster_in : (p : List ℕ) → length p ≤ slot_size → nat_at 4 p slot_size ≡ 0
unfolding nat_at
no_cluster_in p e = rw (past p 24 (omega arith), past p 25 (omega arith), past p 26 (omega arith), past p 27 (omega arith))

pub plain_cluster : (p : List ℕ) → length p ≤ slot_size → (slot_of p).cluster ≡ 0
unfolding slot_of
plain_cluster = no_cluster_in

cluster_in : (z : ℕ) → known z ≡ true → (p : List ℕ) → length p ≤ z → AllBytes p → nat_at 4 p slot_size < 256 ^ (z - slot_size)
cluster_in =
    by_size (λ z. (p : List ℕ) → length p ≤ z → AllBytes p → nat_at 4 p slot_size < 256 ^ (z - slot_size))
    (λ p e h. omega (arith, no_cluster_in p e))
    (λ p e h. nat_at_fits 4 p slot_size h)

-- ---- both
-- the bytes of the slot of some bytes are those bytes
pub bytes_of_slot_of : (z : ℕ) → known z ≡ true → (p : List ℕ) → length p ≡ z → AllBytes p → bytes_of z (slot_of p) ≡ p
unfolding slot_of
bytes_of_slot_of z k p e h =
    rw (plain_of p (omega (arith, size_wide z k)) h, cluster_of z k p e h) (take-append-drop slot_size p)

-- the slot of a slot's bytes is the slot
pub slot_of_bytes_of : (z : ℕ) → known z ≡ true → (s : Slot) → Storable z s → slot_of (bytes_of z s) ≡ s
slot_of_bytes_of z k s h = slot_of_lem z s h (digits (z - slot_size) s.cluster) ∙ ap (λ (n : ℕ). with_cluster n s) (cluster_read z k s.cluster h.cluster_fits)

pub length_bytes_of : (z : ℕ) → known z ≡ true → (s : Slot) → length (bytes_of z s) ≡ z
length_bytes_of z k s = rw (length-append (plain_bytes s) (digits (z - slot_size) s.cluster), length_plain s, length_digits (z - slot_size) s.cluster) (omega (arith, size_wide z k))

-- what bytes hold can be held
pub slot_of_storable : (z : ℕ) → known z ≡ true → (p : List ℕ) → length p ≤ z → AllBytes p → Storable z (slot_of p)
unfolding slot_of
slot_of_storable z k p e h =
    record {
      glyph_fits = nat_at_fits 2 p 0 h;
      id_fits = h 2;
      component_fits = h 3;
      flags_fit = h 4;
      type_fits = h 5;
      chain_fits = int_at_in 2 p 6 (omega arith) h;
      x_advance_fits = int_at_in 4 p 8 (omega arith) h;
      y_advance_fits = int_at_in 4 p 12 (omega arith) h;
      x_offset_fits = int_at_in 4 p 16 (omega arith) h;
      y_offset_fits = int_at_in 4 p 20 (omega arith) h;
      cluster_fits = cluster_in z k p e h;
    }
