-- Moving a line to slots with a cluster, and back: a slot copied, a turn of the loop, and that there and back is the line. Assumes nothing.
use mathlib.Core.Path.{◌≡◌, refl, sym, ap, ap₂, ◌∙◌}
use mathlib.Core.Bool.{Bool, true}
use mathlib.Core.List.{List, [], ◌∷◌, ◌++◌, map}
use Prim.Native.Nat.{ℕ, zero, suc, ◌+◌, ◌*◌, ◌<◌, ◌≤◌}
use native.Mathlib.Nat.{add-zero, zero-add}
use native.Mathlib.Omega.{arith}
use native.Mathlib.Numerals.{add-one}
use borrow.Author.Tests.{eq-eqb, eqb-true}
use borrow.Rule.Slice.PartMut.{put_mid}
use lib.Dec.{eqb}
use lib.ListN.{length, get_or, take, drop}
use lib.Seq.{take_all, take-suc, take-suc-set}
use Rattle.ints.specs.BigEndian.{digits, nat_at, with_nat}
use Rattle.ints.specs.Signed.{int_at, with_int}
use Rattle.ints.specs.code.Signed.{val}
use Rattle.ints.proofs.BigEndianLaws.{nat_at_with_nat}
use Rattle.ints.proofs.SignedLaws.{pattern_signed}
use Rattle.ints.proofs.TestLaws.{and_left, and_right}
use Rattle.slots.specs.Slot.{Slot, bytes_of, clustered_size, no_slot, plain_bytes, slot_of, slot_size}
use Rattle.slots.specs.Line.{bytes, shape_with, slot, slots, slots_n}
use Rattle.slots.specs.code.Shape.{Inside}
use Rattle.slots.specs.Fields.{with_cluster}
use Rattle.slots.specs.Numbered.{is_numbered_from, numbered_from}
use Rattle.slots.specs.declared.shape.Shape.{Shape}
use Rattle.std.specs.Bool.{Decides}
use Rattle.std.specs.Simd.{first_chunks}
use Rattle.std.proofs.lemmas.Bool.Decides.{same_from_decides}
use Rattle.slots.proofs.Cells.{by_cells, cells}
use Rattle.slots.proofs.LineLaws.{lent, lent_length, length_slots, line_get, line_put}

-- ---- a slot's bytes copied
-- the first k numbers of p, and then those of t
abbrev pub copied : ℕ → List ℕ → List ℕ → List ℕ
copied k p t = take k p ++ drop k t

-- all 24: the slot of p, with the cluster of t
pub copied_slot : (p : List ℕ) → slot_size ≤ length p → (t : List ℕ) → slot_size ≤ length t
    → slot_of (copied slot_size p t) ≡ with_cluster (slot_of t).cluster (slot_of p)
unfolding slot_of nat_at int_at
copied_slot =
    by_cells (λ (p : List ℕ). (t : List ℕ) → slot_size ≤ length t → slot_of (copied slot_size p t) ≡ with_cluster (slot_of t).cluster (slot_of p))
    (λ g r.
    let p : List ℕ = cells slot_size g r in
    by_cells (λ (t : List ℕ). slot_of (copied slot_size p t) ≡ with_cluster (slot_of t).cluster (slot_of p)) (λ f q. refl))

-- ---- a slot's cluster
-- four bytes that code writes at 24, as a number of 32 bits, are the cluster
pub cluster_put : (n : ℕ) → n < 4294967296 → (q : List ℕ) → clustered_size ≤ length q → (slot_of (with_int 4 q slot_size (val n))).cluster ≡ n
unfolding slot_of with_int
cluster_put n h q e = ap (λ (m : ℕ). nat_at 4 (with_nat 4 q slot_size m) slot_size) (pattern_signed 4 n h) ∙ nat_at_with_nat 4 q slot_size n e h

-- ---- a loop that moves a line slot by slot: rs are the slots that it makes, and the first i of them are made
-- one slot more: f makes slot i of what slot i of the line l is
pub move_turn : (w v : Shape) (l t : List ℕ) (rs : List Slot) (i : ℕ) → Inside w l i → Inside v t i → (f : Slot → Slot) (q : List ℕ)
    → length q ≡ length (lent v t i) → slot_of q ≡ f (slot_of (lent w l i)) → i < length rs → slot rs i ≡ f (slot (slots w l) i)
    → take i (slots v t) ≡ take i rs
    → take (i + 1) (slots v (put_mid (i * v.size) (lent_length v.size i) t q)) ≡ take (i + 1) rs
move_turn w v l t rs i g h f q lq sq lt is made =
    let new : slot_of q ≡ slot rs i = sq ∙ ap f (line_get w l i g) ∙ sym is in
    rw (add-one, line_put v t i h q lq, take-suc-set (slots v t) i (slot_of q) (omega (arith, length_slots v t)), made, new) (sym (take-suc rs i no_slot lt))

-- all of them
pub move_done : (v : Shape) (t : List ℕ) (rs : List Slot) (i : ℕ) → v.count ≤ i → length rs ≡ v.count → take i (slots v t) ≡ take i rs → slots v t ≡ rs
move_done v t rs i h e made = sym (take_all i (slots v t) (omega (arith, length_slots v t))) ∙ made ∙ take_all i rs (omega arith)

-- ---- slots numbered
-- they are as many
pub length_numbered : (k : ℕ) (ss : List Slot) → length (numbered_from k ss) ≡ length ss
unfolding numbered_from
length_numbered k [] = refl
length_numbered k (s ∷ ss) = ap suc (length_numbered (suc k) ss)

-- slot i has number k + i
numbered_from_lem : (k i : ℕ) (ss : List Slot) → i < length ss → slot (numbered_from k ss) i ≡ with_cluster (k + i) (slot ss i)
unfolding numbered_from
numbered_from_lem k i [] h = absurd (omega arith)
numbered_from_lem k zero (s ∷ ss) h = ap (λ (n : ℕ). with_cluster n s) (sym (add-zero k))
numbered_from_lem k (suc i) (s ∷ ss) h =
    let e : suc k + i ≡ k + suc i = omega arith in
    numbered_from_lem (suc k) i ss (omega arith) ∙ ap (λ (n : ℕ). with_cluster n (slot ss i)) e

-- so it has number i, from 0 up
pub numbered_at : (i : ℕ) (ss : List Slot) → i < length ss → slot (numbered_from 0 ss) i ≡ with_cluster i (slot ss i)
numbered_at i ss h = numbered_from_lem 0 i ss h ∙ ap (λ (n : ℕ). with_cluster n (slot ss i)) (zero-add i)

-- ---- slots whose clusters are looked at one by one, each in its bytes: qs are the bytes of the n slots
-- each cluster is its slot's number, from k up
numbered_each : (z k n : ℕ) (l : List ℕ) → is_numbered_from k (slots_n z n l) ≡ true
    → (i : ℕ) → i < n → (slot_of (get_or (first_chunks z n l) i [])).cluster ≡ k + i
unfolding is_numbered_from slots_n
numbered_each z k zero l e i h = absurd (omega arith)
numbered_each z k (suc n) l e zero h =
    eqb-true (slot_of (take z l)).cluster k (and_left (eqb (slot_of (take z l)).cluster k) (is_numbered_from (suc k) (slots_n z n (drop z l))) e)
    ∙ sym (add-zero k)
numbered_each z k (suc n) l e (suc i) h =
    let rest = and_right (eqb (slot_of (take z l)).cluster k) (is_numbered_from (suc k) (slots_n z n (drop z l))) e in
    let next : suc k + i ≡ k + suc i = omega arith in
    numbered_each z (suc k) n (drop z l) rest i (omega arith) ∙ next

each_numbered : (z k n : ℕ) (l : List ℕ) → ((i : ℕ) → i < n → (slot_of (get_or (first_chunks z n l) i [])).cluster ≡ k + i)
    → is_numbered_from k (slots_n z n l) ≡ true
unfolding is_numbered_from slots_n
each_numbered z k zero l h = refl
each_numbered z k (suc n) l h =
    let next : (i : ℕ) → k + suc i ≡ suc k + i = λ i. omega arith in
    rw (eq-eqb (slot_of (take z l)).cluster k (h zero (omega arith) ∙ add-zero k))
    (each_numbered z (suc k) n (drop z l) (λ i lt. h (suc i) (omega arith) ∙ next i))

-- so a test of that is the test of the line
pub numbered_chunks : (z n : ℕ) (l : List ℕ) (qs : List (List ℕ)) (b : Bool) → qs ≡ first_chunks z n l → length qs ≡ n
    → Decides b ((i : ℕ) → i < length qs → (slot_of (get_or qs i [])).cluster ≡ i) → b ≡ is_numbered_from 0 (slots (shape_with z n) l)
unfolding slots
numbered_chunks z n l qs b are many d =
    let at : (i : ℕ) → (slot_of (get_or qs i [])).cluster ≡ (slot_of (get_or (first_chunks z n l) i [])).cluster = λ i. rw are refl in
    same_from_decides b (is_numbered_from 0 (slots_n z n l)) d (
      λ e i h. at i ∙ numbered_each z 0 n l e i (omega arith) ∙ zero-add i,
      λ h. each_numbered z 0 n l (λ i lt. sym (at i) ∙ h i (omega arith) ∙ sym (zero-add i)),
    )

-- ---- there and back
-- numbered slots are numbered
pub numbered_is : (k : ℕ) (ss : List Slot) → is_numbered_from k (numbered_from k ss) ≡ true
unfolding is_numbered_from numbered_from
numbered_is k [] = refl
numbered_is k (s ∷ ss) = rw (eq-eqb k k refl) (numbered_is (suc k) ss)

-- slots that are numbered are themselves, with their clusters dropped and numbered again
pub numbered_again : (k : ℕ) (ss : List Slot) → is_numbered_from k ss ≡ true → numbered_from k (map (with_cluster 0) ss) ≡ ss
unfolding is_numbered_from numbered_from
numbered_again k [] e = refl
numbered_again k (s ∷ ss) e =
    let here : s.cluster ≡ k = eqb-true s.cluster k (and_left (eqb s.cluster k) (is_numbered_from (suc k) ss) e) in
    let rest = numbered_again (suc k) ss (and_right (eqb s.cluster k) (is_numbered_from (suc k) ss) e) in
    ap₂ (λ (n : ℕ) (t : List Slot). with_cluster n s ∷ t) (sym here) rest

-- 24 bytes have no cluster
pub bytes_plain : (ss : List Slot) → bytes slot_size (map (with_cluster 0) ss) ≡ bytes slot_size ss
unfolding bytes plain_bytes digits
bytes_plain [] = refl
bytes_plain (s ∷ ss) = ap (λ (l : List ℕ). bytes_of slot_size s ++ l) (bytes_plain ss)

-- clusters that are dropped leave no trace of the numbers
plain_numbered : (k : ℕ) (ss : List Slot) → map (with_cluster 0) (numbered_from k ss) ≡ map (with_cluster 0) ss
unfolding numbered_from
plain_numbered k [] = refl
plain_numbered k (s ∷ ss) = ap (λ (t : List Slot). with_cluster 0 s ∷ t) (plain_numbered (suc k) ss)

-- so slots numbered and dropped again are the same bytes
pub dropped_again : (k : ℕ) (ss : List Slot) → bytes slot_size (map (with_cluster 0) (numbered_from k ss)) ≡ bytes slot_size ss
dropped_again k ss = ap (bytes slot_size) (plain_numbered k ss) ∙ bytes_plain ss
