-- What holds of any 24 numbers and a rest holds of a list of at least 24: byte-to-slot laws are then computed. Assumes nothing.
use mathlib.Core.Path.{◌≡◌, refl, sym, ap, ◌∙◌, subst}
use mathlib.Core.List.{List, [], ◌∷◌}
use Prim.Native.Nat.{ℕ, zero, suc, ◌≤◌}
use native.Mathlib.Omega.{arith}
use lib.ListN.{length, get_or, drop}
use Rattle.slots.specs.Slot.{slot_size}

-- the list of g 0, g 1, .., n long, and then r
abbrev pub cells : ℕ → (ℕ → ℕ) → List ℕ → List ℕ
cells zero g r = r
cells (suc n) g r = g 0 ∷ cells n (λ k. g (suc k)) r

-- a list is the list of its first elements, and then the rest
elems : (n : ℕ) (p : List ℕ) → n ≤ length p → p ≡ cells n (λ k. get_or p k 0) (drop n p)
elems zero p h = refl
elems (suc n) [] h = absurd (omega arith)
elems (suc n) (x ∷ p) h = ap (λ (l : List ℕ). x ∷ l) (elems n p (omega arith))

-- so what holds of every list of 24 numbers, written out, and a rest holds of a list of at least 24
pub by_cells : (P : List ℕ → Type 0) → ((g : ℕ → ℕ) (r : List ℕ) → P (cells slot_size g r)) → (p : List ℕ) → slot_size ≤ length p → P p
by_cells P h p e = subst P (sym (elems slot_size p e)) (h (λ k. get_or p k 0) (drop slot_size p))

-- and of every list of n, of a list of length n
pub by_all_cells : (n : ℕ) (P : List ℕ → Type 0) → ((g : ℕ → ℕ) → P (cells n g [])) → (p : List ℕ) → length p ≡ n → P p
by_all_cells n P h p e =
    subst P (sym (elems n p (omega arith) ∙ ap (cells n (λ k. get_or p k 0)) (none p n (omega arith)))) (h (λ k. get_or p k 0))
  where
    none : (p : List ℕ) (n : ℕ) → length p ≤ n → drop n p ≡ []
    none [] zero h = refl
    none [] (suc n) h = refl
    none (x ∷ p) zero h = absurd (omega arith)
    none (x ∷ p) (suc n) h = none p n (omega arith)
