-- Integers as differences of natural numbers: the kit by which omega proves facts of ℤ. Assumes nothing.
use mathlib.Core.Path.{◌≡◌, refl, sym, ap, ◌∙◌}
use mathlib.Core.Bool.{Bool, true, false, not, cond}
use Prim.Native.Nat.{ℕ, zero, suc, ◌+◌, ◌*◌, ◌-◌, ◌<◌, ◌≤◌}
use native.Mathlib.Omega.{arith}
use lib.Dec.{T, ltb, ltb→lt, nltb→le, leb→le, le→leb}
use lib.IntN.{ℤ, pos, negsuc, neg_ℤ, sub_ℕ, ◌+ℤ◌, ◌-ℤ◌, ◌*ℤ◌, neg_ℤ-+ℤ}
use lib.Signed.{lt_z, le_z, ◌≤ℤ◌}
use borrow.Author.Tests.{lt-ltb, le-ltb}

-- a - b
unfoldable pub diff : ℕ → ℕ → ℤ
diff a b = sub_ℕ a b

-- the part above 0, and the part below
abbrev pub up : ℤ → ℕ
up (pos n) = n
up (negsuc n) = 0

abbrev pub dn : ℤ → ℕ
dn (pos n) = 0
dn (negsuc n) = suc n

-- to show P of a - b, show it where that is 0, 1, .. and where it is -1, -2, ..
pub by_sign : (P : ℤ → Type 0) (a b : ℕ) → (b ≤ a → P (pos (a - b))) → (a < b → P (negsuc (b - suc a))) → P (diff a b)
unfolding diff
by_sign P a b f g = go (ltb a b) (λ t. g (ltb→lt a b t)) (λ t. f (nltb→le a b t))
  where
    go : (t : Bool) → (T t → P (negsuc (b - suc a))) → (T (not t) → P (pos (a - b))) → P (cond t (negsuc (b - suc a)) (pos (a - b)))
    go true n p = n tt
    go false n p = p tt

-- the parts of a - b
pub up_diff : (a b : ℕ) → up (diff a b) ≡ a - b
up_diff a b = by_sign (λ z. up z ≡ a - b) a b (λ h. refl) (λ h. omega arith)

pub dn_diff : (a b : ℕ) → dn (diff a b) ≡ b - a
dn_diff a b = by_sign (λ z. dn z ≡ b - a) a b (λ h. omega arith) (λ h. omega arith)

-- two integers are equal where the differences of their parts are: up z - dn z and up w - dn w
pub same : (z w : ℤ) → up z + dn w ≡ up w + dn z → z ≡ w
same (pos a) (pos b) h = ap pos (omega arith)
same (pos a) (negsuc b) h = absurd (omega arith)
same (negsuc a) (pos b) h = absurd (omega arith)
same (negsuc a) (negsuc b) h = ap negsuc (omega arith)

-- and two differences a - b and c - d where a + d is c + b
pub eq_diff : (a b c d : ℕ) → a + d ≡ c + b → diff a b ≡ diff c d
eq_diff a b c d h = same (diff a b) (diff c d) (simp (up_diff, dn_diff) (omega arith))

-- one of the two parts is 0, so neither is taken off the other
pub one_side : (z : ℤ) → (up z - dn z) + dn z ≡ up z + (dn z - up z)
one_side (pos n) = omega arith
one_side (negsuc n) = omega arith

-- an integer is the difference of its parts
pub diff_of : (z : ℤ) → diff (up z) (dn z) ≡ z
diff_of z = same (diff (up z) (dn z)) z (simp (up_diff, dn_diff) (one_side z))

-- the parts of a sum, of a negation and of a product
pub up_add : (z w : ℤ) → up (z +ℤ w) ≡ (up z + up w) - (dn z + dn w)
unfolding diff
up_add (pos a) (pos b) = omega arith
up_add (pos a) (negsuc b) = up_diff a (suc b) ∙ omega arith
up_add (negsuc a) (pos b) = up_diff b (suc a) ∙ omega arith
up_add (negsuc a) (negsuc b) = omega arith

pub up_neg : (z : ℤ) → up (neg_ℤ z) ≡ dn z
up_neg (pos zero) = refl
up_neg (pos (suc n)) = refl
up_neg (negsuc n) = refl

pub dn_neg : (z : ℤ) → dn (neg_ℤ z) ≡ up z
dn_neg (pos zero) = refl
dn_neg (pos (suc n)) = refl
dn_neg (negsuc n) = refl

-- the part below of a sum is the part above of the negated sum
pub dn_add : (z w : ℤ) → dn (z +ℤ w) ≡ (dn z + dn w) - (up z + up w)
dn_add z w = sym (up_neg (z +ℤ w)) ∙ ap up (neg_ℤ-+ℤ z w) ∙ up_add (neg_ℤ z) (neg_ℤ w) ∙ rw (up_neg z, up_neg w, dn_neg z, dn_neg w)

pub up_mul : (z : ℤ) (k : ℕ) → up (z *ℤ pos k) ≡ up z * k
up_mul (pos a) k = refl
up_mul (negsuc a) k = up_neg (pos (suc a * k)) ∙ omega arith

pub dn_mul : (z : ℤ) (k : ℕ) → dn (z *ℤ pos k) ≡ dn z * k
dn_mul (pos a) k = omega arith
dn_mul (negsuc a) k = dn_neg (pos (suc a * k))

-- ---- the same without a truncated difference: what omega reads with no case split
pub bal : (a b : ℕ) → up (diff a b) + b ≡ a + dn (diff a b)
bal a b = simp (up_diff, dn_diff) (omega arith)

pub bal_add : (z w : ℤ) → up (z +ℤ w) + (dn z + dn w) ≡ (up z + up w) + dn (z +ℤ w)
bal_add z w = simp (up_add, dn_add) (omega arith)

-- ---- sums, negations and products of differences
pub add_diff : (a b c d : ℕ) → diff a b +ℤ diff c d ≡ diff (a + c) (b + d)
add_diff a b c d = same (diff a b +ℤ diff c d) (diff (a + c) (b + d)) (omega (arith, bal_add (diff a b) (diff c d), bal a b, bal c d, bal (a + c) (b + d)))

pub neg_diff : (a b : ℕ) → neg_ℤ (diff a b) ≡ diff b a
neg_diff a b = same (neg_ℤ (diff a b)) (diff b a) (simp (up_neg, dn_neg, up_diff, dn_diff))

pub pos_diff : (n : ℕ) → pos n ≡ diff n 0
pos_diff n = same (pos n) (diff n 0) (simp (up_diff, dn_diff) (omega arith))

pub negsuc_diff : (n : ℕ) → negsuc n ≡ diff 0 (suc n)
negsuc_diff n = same (negsuc n) (diff 0 (suc n)) (simp (up_diff, dn_diff) (omega arith))

pub sub_pos : (a b : ℕ) → pos a -ℤ pos b ≡ diff a b
sub_pos a b = same (pos a -ℤ pos b) (diff a b) (omega (arith, bal_add (pos a) (neg_ℤ (pos b)), up_neg (pos b), dn_neg (pos b), bal a b))

pub pos_add_diff : (a b c : ℕ) → pos c +ℤ diff a b ≡ diff (c + a) b
pos_add_diff a b c = rw (pos_diff c, add_diff c 0 a b) (eq_diff (c + a) (0 + b) (c + a) b (omega arith))

-- ---- the order
pub lt_diff : (a b c d : ℕ) → lt_z (diff a b) (diff c d) ≡ ltb (a + d) (c + b)
lt_diff a b c d =
    by_sign (λ z. lt_z z (diff c d) ≡ ltb (a + d) (c + b)) a b
    (λ h. by_sign (λ z. lt_z (pos (a - b)) z ≡ ltb (a + d) (c + b)) c d
    (λ k. ltb_iff (a - b) (c - d) (a + d) (c + b) (omega arith))
    (λ k. sym (le-ltb (a + d) (c + b) (omega arith))))
    (λ h. by_sign (λ z. lt_z (negsuc (b - suc a)) z ≡ ltb (a + d) (c + b)) c d
    (λ k. sym (lt-ltb (a + d) (c + b) (omega arith)))
    (λ k. ltb_iff (d - suc c) (b - suc a) (a + d) (c + b) (omega arith)))
  where
    go : (t : Bool) (a b c d : ℕ) → t ≡ ltb c d → (T t → a < b) → (T (not t) → b ≤ a) → ltb a b ≡ t
    go true a b c d e f g = lt-ltb a b (f tt)
    go false a b c d e f g = le-ltb a b (g tt)

    ltb_iff : (a b c d : ℕ) → (c < d → a < b) × (d ≤ c → b ≤ a) → ltb a b ≡ ltb c d
    ltb_iff a b c d h = go (ltb c d) a b c d refl (λ t. h.0 (ltb→lt c d t)) (λ t. h.1 (nltb→le c d t))

-- ---- facts of integers for omega: listed, these turn the hypotheses and the goal into facts of natural numbers
pub eq_in : (z w : ℤ) → z ≡ w → up z + dn w ≡ up w + dn z
eq_in z w e = ap (λ x. up x + dn w) e ∙ ap (λ x. up w + dn x) (sym e)

le' : (z w : ℤ) → T (le_z z w) → up z + dn w ≤ up w + dn z
le' (pos a) (pos b) t = omega (arith, leb→le a b t)
le' (pos a) (negsuc b) t = absurd t
le' (negsuc a) (pos b) t = omega arith
le' (negsuc a) (negsuc b) t = omega (arith, leb→le b a t)

pub le_in : (z w : ℤ) → z ≤ℤ w → up z + dn w ≤ up w + dn z
le_in z w h = le' z w h.le

le'' : (z w : ℤ) → up z + dn w ≤ up w + dn z → T (le_z z w)
le'' (pos a) (pos b) h = le→leb a b (omega arith)
le'' (pos a) (negsuc b) h = absurd (omega arith)
le'' (negsuc a) (pos b) h = tt
le'' (negsuc a) (negsuc b) h = le→leb b a (omega arith)

pub le_out : (z w : ℤ) → up z + dn w ≤ up w + dn z → z ≤ℤ w
le_out z w h = record { le = le'' z w h }

pub bal_neg : (z : ℤ) → up (neg_ℤ z) + up z ≡ dn z + dn (neg_ℤ z)
bal_neg z = simp (up_neg, dn_neg) (omega arith)

pub ruleset omegaℤ = (arith, same, eq_in, le_in, le_out)
