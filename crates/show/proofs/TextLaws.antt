-- A number has one text; and how the text of a number of 32 bits is made. Assumes nothing.
use mathlib.Core.Path.{◌≡◌, refl, sym, ap, subst, ◌∙◌}
use mathlib.Core.List.{List, [], ◌∷◌, ◌++◌, append_assoc}
use Prim.Native.Nat.{ℕ, suc, ◌+◌, ◌-◌, ◌≤◌, ◌<◌}
use native.Mathlib.Nat.{not-suc-le-zero}
use native.Mathlib.Numerals.{add-one}
use native.Mathlib.Omega.{arith}
use lib.IntN.{ℤ, pos, negsuc, nat_abs}
use lib.ListN.{length, length-append, take, set}
use lib.Seq.{length-take-le, take-append-add, take-append-le, take-suc-set}
use Rattle.ints.specs.code.Signed.{val}
use Rattle.ints.proofs.Ints.{negsuc_diff, pos_diff}
use Rattle.ints.proofs.SignedLaws.{signed_high, signed_low}
use Rattle.show.specs.Digits.{last_digits, IsDigitCount}
use Rattle.show.specs.Text.{end, Grown, Grows, sign, Spelled, then}
use Rattle.show.proofs.DigitLaws.{at_most}

-- two texts of one number are equal
pub one_text : (z : ℤ) (s t : List ℕ) → Spelled z s → Spelled z t → s ≡ t
one_text z s t p q = p.digits_are ∙ ap (λ (k : ℕ). sign z ++ last_digits 10 k (nat_abs z)) same ∙ sym q.digits_are
  where
    no_more : (k m : ℕ) → IsDigitCount 10 1 (nat_abs z) k → IsDigitCount 10 1 (nat_abs z) m → k ≤ m
    no_more k m f g = at_most (nat_abs z) k m f g.0 g.1

    same : p.places ≡ q.places
    same = omega (arith, no_more p.places q.places p.fewest q.fewest, no_more q.places p.places q.fewest p.fewest)

-- bits below the half stand for themselves
pub low : (v : ℕ) → v < 2147483648 → val v ≡ pos v
low v h = signed_low 4 v v 0 h (omega arith) ∙ sym (pos_diff v)

-- ---- the text of the bits v, from k digits
module _ (v k : ℕ) (text : List ℕ) where
  -- from 0 up: the digits
  pub spelled_low : v < 2147483648 → IsDigitCount 10 1 v k → text ≡ last_digits 10 k v → Spelled (val v) text
  spelled_low h f e = rw (low v h) (record { places = k; fewest = f; digits_are = e })

  -- below 0: the sign, and the digits of what is left to 2 ^ 32
  pub spelled_high : 2147483648 ≤ v → v < 4294967296 → IsDigitCount 10 1 (4294967296 - v) k → text ≡ 45 ∷ last_digits 10 k (4294967296 - v) → Spelled (val v) text
  spelled_high h l f e =
      let m = 4294967295 - v in
      let n : 4294967296 - v ≡ suc m = omega arith in
      let is : val v ≡ negsuc m = signed_high 4 v 0 (suc m) h (omega arith) ∙ sym (negsuc_diff m) in
      rw is (record { places = k; fewest = rw n at f; digits_are = rw n at e })

-- a sign stored at the front, and then the digits that were written after it
pub after_sign : (l ys rest ds : List ℕ) (k : ℕ) → 0 < length l → k ≤ length ys → take k ys ≡ ds → take (k + 1) (take 1 (set l 0 45) ++ (ys ++ rest)) ≡ 45 ∷ ds
after_sign [] ys rest ds k some h e = absurd (not-suc-le-zero some)
after_sign (x ∷ l) ys rest ds k some h e = rw (add-one k) (ap (λ (t : List ℕ). 45 ∷ t) (take-append-le k ys rest h ∙ e))

-- ---- a text that grows
-- what was put after p, and a byte stored after k of it
put_after : (p ys rest : List ℕ) (k b : ℕ) → k < length ys → take (length p + k + 1) (set (p ++ (ys ++ rest)) (length p + k) b) ≡ p ++ (take k ys ++ (b ∷ []))
put_after p ys rest k b h =
    rw (add-one (length p + k)) (take-suc-set (p ++ (ys ++ rest)) (length p + k) b (simp length-append (omega arith)))
    ∙ ap (λ (t : List ℕ). t ++ (b ∷ [])) (take-append-add p (ys ++ rest) k ∙ ap (λ (t : List ℕ). p ++ t) (take-append-le k ys rest (omega arith)))
    ∙ append_assoc p (take k ys) (b ∷ [])

pub grown_put : (z : ℤ) (b : ℕ) (l ys rest : List ℕ) (at k : ℕ) → at ≤ length l → k < length ys → Spelled z (take k ys)
    → Grown z b (take at l) (take (at + k + 1) (set (take at l ++ (ys ++ rest)) (at + k) b))
grown_put z b l ys rest at k h some e =
    record { added = take k ys; spelled = e; grown = rw (length-take-le at l h) at (put_after (take at l) ys rest k b some) }

-- of an equal number
pub grown_by : {z z' : ℤ} {b : ℕ} {s t : List ℕ} → z ≡ z' → Grown z b s t → Grown z' b s t
grown_by {z} {z'} {b} {s} {t} e g = subst (λ (y : ℤ). Grown y b s t) e g

-- a text that grows by the same numbers becomes one text: so a slot has one row
one_grown : {z : ℤ} {b : ℕ} {s t t' : List ℕ} → Grown z b s t → Grown z b s t' → t' ≡ t
one_grown {z} {b} {s} g g' = g'.grown ∙ ap (λ (x : List ℕ). s ++ (x ++ (b ∷ []))) (one_text z g'.added g.added g'.spelled g.spelled) ∙ sym g.grown

pub one_growth : {s t t' : List ℕ} {zs : List (ℤ × ℕ)} → Grows s zs t → Grows s zs t' → t ≡ t'
one_growth end end = refl
one_growth {t' = t'} (then {zs = zs} g r) (then g' r') = one_growth r (subst (λ (x : List ℕ). Grows x zs t') (one_grown g g') r')
