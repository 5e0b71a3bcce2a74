-- What std's `{}` writes of an integer is its text. Assumes nothing.
use mathlib.Core.Path.{◌≡◌, refl, sym, ap, ◌∙◌}
use mathlib.Core.List.{List, [], ◌∷◌, ◌++◌, append-nil, append_assoc}
use mathlib.Core.Bool.{false}
use Prim.Native.Nat.{ℕ, zero, suc, ◌-◌, ◌*◌, ◌/◌, ◌%◌, ◌^◌, ◌≤◌, ◌<◌}
use native.Mathlib.Nat.{pow-suc}
use native.Mathlib.Numerals.{unary_clauses}
use native.Mathlib.Omega.{arith}
use lib.Dec.{eqb-suc-zero}
use lib.IntN.{ℤ, pos, negsuc, nat_abs}
use Rattle.std.specs.Fmt.{digits, digits_onto, signed_decimal}
use Rattle.show.specs.Digits.{hex_digit_ascii, last_digits, IsDigitCount}
use Rattle.show.specs.Text.{Spelled}

-- the text is the fewest digits that hold n, and then the rest
pub record Written (n : ℕ) (text rest : List ℕ) : Type 0 where
  pub places : ℕ
  pub fewest : IsDigitCount 10 1 n places
  pub digits_are : text ≡ last_digits 10 places n ++ rest

-- a digit more: the one that was taken off
one_more : (n m k : ℕ) → n / 10 ≡ suc m → IsDigitCount 10 1 (suc m) k → IsDigitCount 10 1 n (suc k)
one_more n m zero e f = absurd (omega arith)
one_more n m (suc zero) e f = (omega arith, omega arith, λ _. omega arith)
one_more n m (suc (suc k)) e f =
    let least : 10 ^ k * 10 ≤ suc m = simp unary_clauses at f.2 (omega arith) in
    (omega arith, omega (arith, pow-suc 10 (suc (suc k))), λ _. simp unary_clauses (omega arith))

more : (n m : ℕ) (text rest : List ℕ) → n / 10 ≡ suc m → Written (suc m) text (hex_digit_ascii (n % 10) ∷ rest) → Written n text rest
more n m text rest e w = record {
  places = suc w.places;
  fewest = one_more n m w.places e w.fewest;
  digits_are = rw e (w.digits_are ∙ sym (append_assoc (last_digits 10 w.places (suc m)) (hex_digit_ascii (n % 10) ∷ []) rest));
}

-- one digit, where no more is left
one : (n room : ℕ) (rest : List ℕ) → n / 10 ≡ 0 → Written n (digits_onto (suc room) 10 false n rest) rest
one n room rest e = rw e (record { places = 1; fewest = (omega arith, omega arith, λ b. absurd (omega arith)); digits_are = refl })

-- where the digits have room, they are written
pub written : (room n : ℕ) (rest : List ℕ) → n < 10 ^ suc room → Written n (digits_onto (suc room) 10 false n rest) rest
written zero n rest h = one n zero rest (omega arith)
written (suc room) n rest h = by_rest (λ m r h. written room m r h) (n / 10) refl
  where
    by_rest : ((m : ℕ) (r : List ℕ) → m < 10 ^ suc room → Written m (digits_onto (suc room) 10 false m r) r)
        → (m : ℕ) → n / 10 ≡ m → Written n (digits_onto (suc (suc room)) 10 false n rest) rest
    by_rest before zero e = one n (suc room) rest e
    by_rest before (suc m) e = rw (e, eqb-suc-zero m) (more n m _ rest e (before (suc m) _ (omega (arith, pow-suc 10 (suc room)))))

-- so is that of an integer
pub spelled : (z : ℤ) → nat_abs z < 10 ^ 64 → Spelled z (signed_decimal z)
unfolding digits
spelled (pos n) h =
    let w = written 63 n [] h in
    record { places = w.places; fewest = w.fewest; digits_are = w.digits_are ∙ append-nil _ }
spelled (negsuc n) h =
    let w = written 63 (suc n) [] h in
    record { places = w.places; fewest = w.fewest; digits_are = ap (λ (t : List ℕ). 45 ∷ t) (w.digits_are ∙ append-nil _) }
