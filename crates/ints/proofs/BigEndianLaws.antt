-- Laws of numbers in bytes, once over the width. Assumes nothing.
use mathlib.Core.Path.{◌≡◌, refl, sym, ap, ◌∙◌}
use mathlib.Core.List.{List, [], ◌∷◌, ◌++◌, append_assoc, append-nil}
use Prim.Native.Nat.{ℕ, zero, suc, ◌+◌, ◌-◌, ◌*◌, ◌/◌, ◌%◌, ◌^◌, ◌<◌, ◌≤◌}
use native.Mathlib.Nat.{pow-suc, add-zero}
use native.Mathlib.Omega.{arith}
use native.Mathlib.Numerals.{add-one}
use lib.ListN.{length, get_or, set, take, drop, length-append, length-drop, take-append-drop}
use lib.Seq.{drop-drop, get_or_at, get_or-drop, get_or-set_other, get_or-set_same, length-take-le, sets, sets-eq, take-suc}
use borrow.Rule.Slice.PartMut.{put_mid}
use Rattle.ints.specs.BigEndian.{AllBytes, digits, nat_at, with_nat}

-- ---- the bytes of a number
pub length_digits : (w n : ℕ) → length (digits w n) ≡ w
unfolding digits
length_digits zero n = refl
length_digits (suc w) n = rw (length-append (digits w (n / 256)), length_digits w (n / 256)) (omega arith)

-- a number is that of its bytes, wherever these stand
pub nat_at_same : (w : ℕ) (l k : List ℕ) (at to : ℕ) → ((i : ℕ) → i < w → get_or l (at + i) 0 ≡ get_or k (to + i) 0) → nat_at w l at ≡ nat_at w k to
unfolding nat_at
nat_at_same zero l k at to h = refl
nat_at_same (suc w) l k at to h = let e = nat_at_same w l k at to (λ i p. h i (omega arith)) in let f = h w (omega arith) in omega arith

-- the number of a number's bytes is the number
pub nat_at_digits : (w n : ℕ) → n < 256 ^ w → (t : List ℕ) → nat_at w (digits w n ++ t) 0 ≡ n
unfolding nat_at digits
nat_at_digits zero n h t = omega arith
nat_at_digits (suc w) n h t =
    let a : n < 256 ^ w * 256 = rw pow-suc at h in
    let x : nat_at w (digits w (n / 256) ++ (n % 256 ∷ t)) 0 ≡ n / 256 = nat_at_digits w (n / 256) (omega arith) (n % 256 ∷ t) in
    let y : get_or (digits w (n / 256) ++ (n % 256 ∷ t)) (0 + w) 0 ≡ n % 256 = get_or_at (digits w (n / 256)) (n % 256) t 0 (0 + w) (length_digits w (n / 256) ∙ omega arith) in
    rw (append_assoc (digits w (n / 256)) (n % 256 ∷ []) t, x, y) (omega arith)

-- bytes give a number that fits
pub nat_at_fits : (w : ℕ) (l : List ℕ) (at : ℕ) → AllBytes l → nat_at w l at < 256 ^ w
unfolding nat_at
nat_at_fits zero l at h = omega arith
nat_at_fits (suc w) l at h =
    let x : nat_at w l at < 256 ^ w = nat_at_fits w l at h in
    let y : get_or l (at + w) 0 < 256 = h (at + w) in
    rw pow-suc (omega arith)

-- the bytes of a number that was read are those bytes
pub digits_nat_at : (w : ℕ) (l : List ℕ) (at : ℕ) → AllBytes l → at + w ≤ length l → digits w (nat_at w l at) ≡ take w (drop at l)
unfolding digits nat_at
digits_nat_at zero l at h f = refl
digits_nat_at (suc w) l at h f =
    let b : get_or l (at + w) 0 < 256 = h (at + w) in
    let x : (nat_at w l at * 256 + get_or l (at + w) 0) / 256 ≡ nat_at w l at = omega arith in
    let y : (nat_at w l at * 256 + get_or l (at + w) 0) % 256 ≡ get_or l (at + w) 0 = omega arith in
    let n : w < length (drop at l) = simp length-drop (omega arith) in
    rw (x, y, digits_nat_at w l at h (omega arith), take-suc (drop at l) w 0 n, get_or-drop at l w 0)

-- ---- a part of bytes is bytes
pub bytes_take : (n : ℕ) (l : List ℕ) → AllBytes l → AllBytes (take n l)
bytes_take zero l h k = omega arith
bytes_take (suc n) [] h k = omega arith
bytes_take (suc n) (x ∷ l) h zero = h 0
bytes_take (suc n) (x ∷ l) h (suc k) = bytes_take n l (λ j. h (suc j)) k

pub bytes_drop : (n : ℕ) (l : List ℕ) → AllBytes l → AllBytes (drop n l)
bytes_drop n l h k = rw (get_or-drop n l k 0) (h (n + k))

-- ---- writing
-- a list written at i: what is before i stays, and what was written is there
sets_below : (l : List ℕ) (i : ℕ) (vs : List ℕ) (j : ℕ) → j < i → get_or (sets l i vs) j 0 ≡ get_or l j 0
sets_below l i [] j h = refl
sets_below l i (v ∷ vs) j h = sets_below (set l i v) (suc i) vs j (omega arith) ∙ get_or-set_other l i j v 0 (λ e. omega arith)

sets_at : (l : List ℕ) (i : ℕ) (vs : List ℕ) (k : ℕ) → i + length vs ≤ length l → k < length vs → get_or (sets l i vs) (i + k) 0 ≡ get_or vs k 0
sets_at l i [] k h f = absurd (omega arith)
sets_at l i (v ∷ vs) zero h f = rw add-zero (sets_below (set l i v) (suc i) vs i (omega arith) ∙ get_or-set_same l i v 0 (omega arith))
sets_at l i (v ∷ vs) (suc k) h f =
    let e : i + suc k ≡ suc i + k = omega arith in
    rw e (sets_at (set l i v) (suc i) vs k (simp lib.ListN.length-set (omega arith)) (omega arith))

-- what was written is read
pub nat_at_with_nat : (w : ℕ) (l : List ℕ) (at n : ℕ) → at + w ≤ length l → n < 256 ^ w → nat_at w (with_nat w l at n) at ≡ n
unfolding with_nat
nat_at_with_nat w l at n f h =
    nat_at_same w (sets l at (digits w n)) (digits w n ++ []) at 0
    (λ i p. sets_at l at (digits w n) i (omega (arith, length_digits w n)) (omega (arith, length_digits w n)) ∙ ap (λ (q : List ℕ). get_or q i 0) (sym (append-nil (digits w n))) ∙ ap (λ (k : ℕ). get_or (digits w n ++ []) k 0) (omega arith))
    ∙ nat_at_digits w n h []

-- a write of what was read changes nothing
pub with_nat_nat_at : (w : ℕ) (l : List ℕ) (at : ℕ) → AllBytes l → at + w ≤ length l → with_nat w l at (nat_at w l at) ≡ l
unfolding with_nat
with_nat_nat_at w l at h f =
    let n : length (take w (drop at l)) ≡ w = length-take-le w (drop at l) (simp length-drop (omega arith)) in
    rw (digits_nat_at w l at h f, sets-eq (take w (drop at l)) l at (omega arith), n, ← (drop-drop w at l), append_assoc (take at l) (take w (drop at l)) (drop w (drop at l))) (ap (λ (t : List ℕ). take at l ++ t) (take-append-drop w (drop at l)) ∙ take-append-drop at l)

-- ---- at two bytes and at four, byte by byte, as code reads and writes them
module _ (l : List ℕ) (at : ℕ) where
  pub nat_at_2 : nat_at 2 l at ≡ get_or l at 0 * 256 + get_or l (at + 1) 0
  unfolding nat_at
  nat_at_2 = rw (add-zero at) (omega arith)

  pub nat_at_4 : nat_at 4 l at ≡ get_or l at 0 * 16777216 + get_or l (at + 1) 0 * 65536 + get_or l (at + 2) 0 * 256 + get_or l (at + 3) 0
  unfolding nat_at
  nat_at_4 = rw (add-zero at) (omega arith)

  pub with_nat_2 : (n : ℕ) → with_nat 2 l at n ≡ set (set l at (n / 256 % 256)) (at + 1) (n % 256)
  unfolding with_nat digits
  with_nat_2 n = rw (add-one at)

-- bytes copied over a part are a write of their number
pub put_digits : (w : ℕ) (l ys : List ℕ) (at n : ℕ) → at + w ≤ length l → ys ≡ digits w n → put_mid at (at + w - at) l ys ≡ with_nat w l at n
unfolding with_nat
put_digits w l ys at n f e =
    let k : at + w - at ≡ w = omega arith in
    let d = length_digits w n in
    rw (e, k, drop-drop w at l, sets-eq (digits w n) l at (omega arith), d, append_assoc (take at l) (digits w n) (drop (at + w) l))

pub digits_4 : (n : ℕ) → digits 4 n ≡ (n / 16777216 % 256 ∷ n / 65536 % 256 ∷ n / 256 % 256 ∷ n % 256 ∷ [])
unfolding digits
digits_4 n =
    let a : n / 256 / 256 / 256 % 256 ≡ n / 16777216 % 256 = omega arith in
    let b : n / 256 / 256 % 256 ≡ n / 65536 % 256 = omega arith in
    rw (a, b)
