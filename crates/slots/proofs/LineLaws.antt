-- Laws of the line: its bytes and its slots, a slot lent and put back, a part of whole slots. Assumes nothing.
use mathlib.Core.Path.{◌≡◌, refl, sym, ap, ◌∙◌}
use mathlib.Core.Bool.{true, false, not}
use mathlib.Core.List.{List, [], ◌∷◌, ◌++◌, append_assoc}
use Prim.Native.Nat.{ℕ, zero, suc, ◌+◌, ◌-◌, ◌*◌, ◌/◌, ◌%◌, ◌<◌, ◌≤◌}
use native.Mathlib.Omega.{arith}
use native.Mathlib.Nat.{add-mul, div-add-mod', mul-div_cancel, mul-le-mul_left, mul-le-mul_right, suc-mul, zero-mul}
use lib.Dec.{eqb, ltb}
use lib.ListN.{length, get_or, set, take, drop, length-append, length-drop, length-set, take-append-drop}
use lib.Seq.{take_at, drop_at, drop-drop, take-add, length-take-le, get_or-set_other, get_or-set_same, set-get_or, set-set, slice, take-nil}
use borrow.Author.Tests.{eqb-true, ltb-false, not-false}
use borrow.Rule.Slice.PartMut.{mid_of, put_mid}
use Rattle.ints.specs.BigEndian.{AllBytes}
use Rattle.ints.proofs.BigEndianLaws.{bytes_drop, bytes_take}
use Rattle.ints.proofs.TestLaws.{or_false}
use Rattle.slots.specs.Slot.{Slot, bytes_of, known, no_slot, slot_of, slot_size}
use Rattle.slots.specs.theorems.Storable.{AllStorable}
use Rattle.slots.specs.Line.{bytes, count, line_slots, shape_of, shape_with, slot, slots, slots_n, update}
use Rattle.slots.specs.code.Shape.{Fits, Inside, part_shape}
use Rattle.slots.specs.Checks.{bad_line, most_slots, bad_length}
use Rattle.slots.specs.declared.shape.Shape.{Shape}
use Rattle.slots.proofs.SlotLaws.{bytes_of_slot_of, length_bytes_of, size_wide, slot_of_bytes_of, slot_of_storable}

length_take_most : (n : ℕ) (l : List ℕ) → length (take n l) ≤ n
length_take_most zero l = omega arith
length_take_most (suc n) [] = omega arith
length_take_most (suc n) (x ∷ l) = omega (arith, length_take_most n l)

-- ---- slots one by one, of z bytes each
module _ (z : ℕ) where
  length_slots_n : (n : ℕ) (l : List ℕ) → length (slots_n z n l) ≡ n
  unfolding slots_n
  length_slots_n zero l = refl
  length_slots_n (suc n) l = ap suc (length_slots_n n (drop z l))

  -- skipping, and keeping, one slot more
  skip : (i : ℕ) (l : List ℕ) → drop (suc i * z) l ≡ drop (i * z) (drop z l)
  skip i l =
      let e : suc i * z ≡ z + i * z = omega (arith, suc-mul i z) in
      ap (λ (k : ℕ). drop k l) e ∙ sym (drop-drop (i * z) z l)

  keep : (i : ℕ) (l : List ℕ) → take (suc i * z) l ≡ take z l ++ take (i * z) (drop z l)
  keep i l =
      let e : suc i * z ≡ z + i * z = omega (arith, suc-mul i z) in
      ap (λ (k : ℕ). take k l) e ∙ take-add z (i * z) l

  -- the bytes of slot i, and the line with other bytes for slot i
  abbrev part_of : List ℕ → ℕ → List ℕ
  part_of l i = take z (drop (i * z) l)

  abbrev with_part : List ℕ → ℕ → List ℕ → List ℕ
  with_part l i q = take (i * z) l ++ (q ++ drop z (drop (i * z) l))

  length_part : (l : List ℕ) (i : ℕ) → i * z + z ≤ length l → length (part_of l i) ≡ z
  length_part l i h = length-take-le z (drop (i * z) l) (simp length-drop (omega arith))

  get_d_slots_n : (n i : ℕ) (l : List ℕ) (d : Slot) → i < n → get_or (slots_n z n l) i d ≡ slot_of (part_of l i)
  unfolding slots_n
  get_d_slots_n zero i l d h = absurd (omega arith)
  get_d_slots_n (suc n) zero l d h = rw zero-mul
  get_d_slots_n (suc n) (suc i) l d h =
      let k : i < n = omega arith in
      get_d_slots_n n i (drop z l) d k ∙ ap (λ (p : List ℕ). slot_of (take z p)) (sym (skip i l))

  with_part_suc : (l q : List ℕ) (i : ℕ) → with_part l (suc i) q ≡ take z l ++ with_part (drop z l) i q
  with_part_suc l q i = rw (keep i l, skip i l) (simp append_assoc)

  put_slots_n : (n i : ℕ) (l q : List ℕ) → i < n → n * z ≤ length l → length q ≡ z → slots_n z n (with_part l i q) ≡ set (slots_n z n l) i (slot_of q)
  unfolding slots_n
  put_slots_n zero i l q h w e = absurd (omega arith)
  put_slots_n (suc n) zero l q h w e = rw (zero-mul, take_at q (drop z l) z e, drop_at q (drop z l) z e)
  put_slots_n (suc n) (suc i) l q h w e =
      let more = suc-mul n z in
      let a : length (take z l) ≡ z = length-take-le z l (omega arith) in
      let k : n * z ≤ length (drop z l) = simp length-drop (omega arith) in
      rw (with_part_suc l q i, take_at (take z l) _ z a, drop_at (take z l) _ z a)
      (ap (λ (ss : List Slot). slot_of (take z l) ∷ ss) (put_slots_n n i (drop z l) q (omega arith) k e))

  slots_n_drop : (j n : ℕ) (l : List ℕ) → slots_n z n (drop (j * z) l) ≡ drop j (slots_n z (j + n) l)
  unfolding slots_n
  slots_n_drop zero n l = let e : 0 + n ≡ n = omega arith in let o : 0 * z ≡ 0 = omega arith in rw (e, o)
  slots_n_drop (suc j) n l =
      let e : suc j + n ≡ suc (j + n) = omega arith in
      rw (e, skip j l) (slots_n_drop j n (drop z l))

  slots_n_take : (m n : ℕ) (l : List ℕ) → m * z ≤ length l → slots_n z m (take (m * z) l) ≡ take m (slots_n z (m + n) l)
  unfolding slots_n
  slots_n_take zero n l h = refl
  slots_n_take (suc m) n l h =
      let more = suc-mul m z in
      let e : suc m + n ≡ suc (m + n) = omega arith in
      let a : length (take z l) ≡ z = length-take-le z l (omega arith) in
      let k : m * z ≤ length (drop z l) = simp length-drop (omega arith) in
      rw (e, keep m l, take_at (take z l) _ z a, drop_at (take z l) _ z a)
      (ap (λ (ss : List Slot). slot_of (take z l) ∷ ss) (slots_n_take m n (drop z l) k))

pub length_slots : (w : Shape) (l : List ℕ) → length (slots w l) ≡ w.count
unfolding slots
length_slots w l = length_slots_n w.size w.count l

-- ---- the shape of a line
fits : (w : Shape) (l : List ℕ) → slot_size ≤ w.size → length l ≡ w.count * w.size → Fits w l
fits w l h e = record { wide = h; whole = e; few = omega (arith, mul-le-mul_left w.count h) }

-- a line that isn't bad has slots of a known size, and its shape
pub known_size : (z : ℕ) (l : List ℕ) → bad_line z l ≡ false → known z ≡ true
known_size z l e = not-false (known z) (or_false (not (known z)) (bad_length z (length l)) e).0

pub shapely : (z : ℕ) (l : List ℕ) → bad_line z l ≡ false → Fits (shape_of z l) l
shapely z l e =
    let even = eqb (length l % z) 0 in
    let right : bad_length z (length l) ≡ false = (or_false (not (known z)) (bad_length z (length l)) e).1 in
    let none : length l % z ≡ 0 = eqb-true (length l % z) 0 (not-false even (or_false (not even) (ltb (most_slots * z) (length l)) right).0) in
    fits (shape_of z l) l (size_wide z (known_size z l e)) (omega (arith, div-add-mod' (length l) z))

-- and is no longer than the longest line
pub line_short : (z : ℕ) (l : List ℕ) → bad_line z l ≡ false → length l ≤ most_slots * z
line_short z l e =
    let right : bad_length z (length l) ≡ false = (or_false (not (known z)) (bad_length z (length l)) e).1 in
    ltb-false (most_slots * z) (length l) (or_false (not (eqb (length l % z) 0)) (ltb (most_slots * z) (length l)) right).1

-- a line as long as another has its shape
pub kept_shape : (z : ℕ) (l l' : List ℕ) → length l' ≡ length l → line_slots z l' ≡ slots (shape_of z l) l'
kept_shape z l l' n = ap (λ (k : ℕ). slots (shape_with z (k / z)) l') n

-- ---- bytes to slots and back, of a size that slots may have
module _ (z : ℕ) (k : known z ≡ true) where
  bytes_slots_n : (n : ℕ) (l : List ℕ) → length l ≡ n * z → AllBytes l → bytes z (slots_n z n l) ≡ l
  unfolding bytes slots_n
  bytes_slots_n zero [] e h = refl
  bytes_slots_n zero (x ∷ l) e h = absurd (omega arith)
  bytes_slots_n (suc n) l e h =
      let more = suc-mul n z in
      let a : length (take z l) ≡ z = length-take-le z l (omega arith) in
      let d : length (drop z l) ≡ n * z = simp length-drop (omega arith) in
      rw (bytes_of_slot_of z k (take z l) a (bytes_take z l h), bytes_slots_n n (drop z l) d (bytes_drop z l h)) (take-append-drop z l)

  -- a line of whole slots is the bytes of its slots
  pub bytes_slots : (l : List ℕ) → Fits (shape_of z l) l → AllBytes l → bytes z (line_slots z l) ≡ l
  unfolding slots
  bytes_slots l w h = bytes_slots_n (count z l) l w.whole h

  -- what the slots of a whole line are decides its bytes
  pub from_slots : (l : List ℕ) (ss : List Slot) → Fits (shape_of z l) l → AllBytes l → line_slots z l ≡ ss → l ≡ bytes z ss
  from_slots l ss e h s = sym (bytes_slots l e h) ∙ ap (bytes z) s

  -- two whole lines of the same slots are the same bytes
  pub same_slots : (m l : List ℕ) → Fits (shape_of z m) m → Fits (shape_of z l) l → AllBytes m → AllBytes l → line_slots z m ≡ line_slots z l → m ≡ l
  same_slots m l e d g h s = from_slots m (line_slots z l) e g s ∙ bytes_slots l d h

  pub length_bytes : (ss : List Slot) → length (bytes z ss) ≡ length ss * z
  unfolding bytes
  length_bytes [] = rw zero-mul
  length_bytes (s ∷ ss) = rw (length-append (bytes_of z s) (bytes z ss), length_bytes_of z k s, length_bytes ss) (omega (arith, suc-mul (length ss) z))

  slots_n_bytes : (ss : List Slot) → AllStorable z ss → slots_n z (length ss) (bytes z ss) ≡ ss
  unfolding bytes slots_n AllStorable
  slots_n_bytes [] h = refl
  slots_n_bytes (s ∷ ss) h =
      rw (take_at (bytes_of z s) (bytes z ss) z (length_bytes_of z k s), drop_at (bytes_of z s) (bytes z ss) z (length_bytes_of z k s), slot_of_bytes_of z k s h.0, slots_n_bytes ss h.1)

  -- the bytes of n slots have room for n slots
  pub count_bytes : (ss : List Slot) → count z (bytes z ss) ≡ length ss
  count_bytes ss = rw (length_bytes ss) (mul-div_cancel (length ss) (omega (arith, size_wide z k)))

  -- the slots of the bytes of slots are those slots, where each can be held
  pub slots_bytes : (ss : List Slot) → AllStorable z ss → line_slots z (bytes z ss) ≡ ss
  unfolding slots
  slots_bytes ss h = rw (count_bytes ss) (slots_n_bytes ss h)

  storable_slots_n : (n : ℕ) (l : List ℕ) → AllBytes l → AllStorable z (slots_n z n l)
  unfolding slots_n AllStorable
  storable_slots_n zero l h = tt
  storable_slots_n (suc n) l h = (slot_of_storable z k (take z l) (length_take_most z l) (bytes_take z l h), storable_slots_n n (drop z l) (bytes_drop z l h))

  -- the slots of bytes can be held by bytes
  pub slots_storable : (l : List ℕ) → AllBytes l → AllStorable z (line_slots z l)
  unfolding slots
  slots_storable l h = storable_slots_n (count z l) l h

-- ---- slot i's bytes, lent as code lends them: from i * z to i * z + z
abbrev pub lent_length : ℕ → ℕ → ℕ
lent_length z i = i * z + z - i * z

abbrev pub lent : Shape → List ℕ → ℕ → List ℕ
lent w l i = mid_of (i * w.size) (lent_length w.size i) l

-- a slot of the line ends in it
pub slot_end : (w : Shape) (l : List ℕ) (i : ℕ) → Inside w l i → i * w.size + w.size ≤ length l
slot_end w l i h = omega (arith, suc-mul i w.size, mul-le-mul_right w.size h.below, h.fits.whole)

module _ (w : Shape) (l : List ℕ) (i : ℕ) (h : Inside w l i) where
  whole : lent_length w.size i ≡ w.size
  whole = omega arith

  pub lent_size : length (lent w l i) ≡ w.size
  lent_size = rw whole (length_part w.size l i (slot_end w l i h))

  -- they are slot i
  pub line_get : slot_of (lent w l i) ≡ slot (slots w l) i
  unfolding slots
  line_get = rw whole (sym (get_d_slots_n w.size w.count i l no_slot h.below))

  -- and the line where q came back for them has q's slot in its place
  pub line_put : (q : List ℕ) → length q ≡ length (lent w l i) → slots w (put_mid (i * w.size) (lent_length w.size i) l q) ≡ set (slots w l) i (slot_of q)
  unfolding slots
  line_put q lq = rw whole (put_slots_n w.size w.count i l q h.below (omega (arith, h.fits.whole)) (lq ∙ lent_size))

  -- so a callee that changes the lent slot by f changes slot i of the line by f
  pub line_update : (f : Slot → Slot) (q : List ℕ) → length q ≡ length (lent w l i) → slot_of q ≡ f (slot_of (lent w l i))
      → slots w (put_mid (i * w.size) (lent_length w.size i) l q) ≡ update i f (slots w l)
  unfolding update
  line_update f q lq sq = line_put q lq ∙ ap (λ (s : Slot). set (slots w l) i s) (sq ∙ ap f line_get)

  -- the same from s to e, where code has them
  module _ (s e : ℕ) (is : s ≡ i * w.size) (ie : e ≡ i * w.size + w.size) where
    pub place_wide : slot_size ≤ length (mid_of s (e - s) l)
    place_wide = rw (is, ie) (omega (arith, lent_size, h.fits.wide))

    pub place_get : slot_of (mid_of s (e - s) l) ≡ slot (slots w l) i
    place_get = rw (is, ie) line_get

    pub place_update : (f : Slot → Slot) (q : List ℕ) → length q ≡ length (mid_of s (e - s) l) → slot_of q ≡ f (slot_of (mid_of s (e - s) l))
        → slots w (put_mid s (e - s) l q) ≡ update i f (slots w l)
    place_update f q = rw (is, ie) (line_update f q)

-- ---- one slot changed
-- a change that leaves the slot leaves the line
pub update_none : (i : ℕ) (ss : List Slot) → update i (λ s. s) ss ≡ ss
unfolding update
update_none i ss = set-get_or ss i no_slot

module _ (i : ℕ) (f : Slot → Slot) (ss : List Slot) where
  pub update_same : i < length ss → slot (update i f ss) i ≡ f (slot ss i)
  unfolding update
  update_same h = get_or-set_same ss i (f (slot ss i)) no_slot h

  pub update_other : (j : ℕ) → (j ≡ i → ⊥) → slot (update i f ss) j ≡ slot ss j
  unfolding update
  update_other j h = get_or-set_other ss i j (f (slot ss i)) no_slot h

  -- two changes that agree on the slot are the same
  pub update_as : (g : Slot → Slot) → f (slot ss i) ≡ g (slot ss i) → update i f ss ≡ update i g ss
  unfolding update
  update_as g e = ap (set ss i) e

  pub length_update : length (update i f ss) ≡ length ss
  unfolding update
  length_update = length-set ss i (f (slot ss i))

  -- two changes of one slot are one
  update_twice : (g : Slot → Slot) → i < length ss → update i g (update i f ss) ≡ update i (λ s. g (f s)) ss
  unfolding update
  update_twice g h = rw (get_or-set_same ss i (f (slot ss i)) no_slot h, set-set)

  -- one after the other, as code makes them
  pub update_both : (g : Slot → Slot) {ss₁ ss₂ : List Slot} → i < length ss → ss₁ ≡ update i f ss → ss₂ ≡ update i g ss₁ → ss₂ ≡ update i (λ s. g (f s)) ss
  update_both g lt first second = second ∙ ap (update i g) first ∙ update_twice g lt

-- ---- a part of whole slots
drop_take : {A : Type 0} (j m : ℕ) (l : List A) → take m (drop j l) ≡ drop j (take (j + m) l)
drop_take zero m l = let e : 0 + m ≡ m = omega arith in rw e
drop_take (suc j) m [] = take-nil m ∙ sym (ap (drop (suc j)) (take-nil (suc j + m)))
drop_take (suc j) m (x ∷ l) = let e : suc j + m ≡ suc (j + m) = omega arith in rw e (drop_take j m l)

-- the part from slot i up to slot j, j not included, is those slots: k is its length in bytes, as the code computes it
module _ (w : Shape) (l : List ℕ) (i j : ℕ) (f : Fits w l) (h : i ≤ j) (g : j ≤ w.count) where
  -- its length in bytes, as code computes it
  part_size : j * w.size - i * w.size ≡ (j - i) * w.size
  part_size = let e : i + (j - i) ≡ j = omega arith in omega (arith, rw e at (add-mul i (j - i) w.size))

  part_in : i * w.size + (j - i) * w.size ≤ length l
  part_in = omega (arith, part_size, mul-le-mul_right w.size h, mul-le-mul_right w.size g, f.whole)

  pub part_fits : Fits (part_shape w (j - i)) (mid_of (i * w.size) (j * w.size - i * w.size) l)
  part_fits =
      fits (part_shape w (j - i)) (mid_of (i * w.size) (j * w.size - i * w.size) l) f.wide
      (rw part_size (length-take-le ((j - i) * w.size) (drop (i * w.size) l) (simp length-drop (omega (arith, part_in)))))

  pub slots_part : slots (part_shape w (j - i)) (mid_of (i * w.size) (j * w.size - i * w.size) l) ≡ slice i j (slots w l)
  unfolding slots
  slots_part =
      let z : ℕ = w.size in
      let m : ℕ = j - i in
      let r : ℕ = w.count - j in
      let c : w.count ≡ i + (m + r) = omega arith in
      let d : i + m ≡ j = omega arith in
      let v : m * z ≤ length (drop (i * z) l) = simp length-drop (omega (arith, part_in)) in
      rw part_size (
      slots_n_take z m r (drop (i * z) l) v
      ∙ ap (take m) (slots_n_drop z i (m + r) l ∙ ap (λ (n : ℕ). drop i (slots_n z n l)) (sym c))
      ∙ drop_take i m (slots_n z w.count l)
      ∙ ap (λ (n : ℕ). drop i (take n (slots_n z w.count l))) d
      )
