-- The text of an integer, in ASCII. Assumes nothing.
use Rattle.std.specs.Prelude.{List, [], ◌∷◌, ◌++◌, ◌≡◌, ℕ, ℤ, pos, negsuc, nat_abs}
use Rattle.slots.specs.Slot.{Slot}
use Rattle.show.specs.Digits.{last_digits, IsDigitCount}

-- the sign: `-` before a negative number, else nothing
abbrev pub sign : ℤ → List ℕ
sign (pos n) = []
sign (negsuc n) = 45 ∷ []

-- the text is z in decimal: its sign, then the fewest digits, and at least one, that hold its absolute value
pub record Spelled (z : ℤ) (text : List ℕ) : Type 0 where
  pub places : ℕ
  pub fewest : IsDigitCount 10 1 (nat_abs z) places
  pub digits_are : text ≡ sign z ++ last_digits 10 places (nat_abs z)

-- s' is the text s with z in decimal and the byte b after it
pub record Grown (z : ℤ) (b : ℕ) (s s' : List ℕ) : Type 0 where
  pub added : List ℕ
  pub spelled : Spelled z added
  pub grown : s' ≡ s ++ (added ++ (b ∷ []))

-- the text s grows to s' by these numbers, one after the other, each with its byte after it
pub data Grows : List ℕ → List (ℤ × ℕ) → List ℕ → Type 0 where
  end : {s : List ℕ} → Grows s [] s
  then : {s t s' : List ℕ} {z : ℤ} {b : ℕ} {zs : List (ℤ × ℕ)} → Grown z b s t → Grows t zs s'
      → Grows s ((z, b) ∷ zs) s'

-- what is printed of slot i: its number, its advances, its offsets, of each x before y, with single spaces between them
-- and a line end after the last
abbrev pub row_numbers : ℕ → Slot → List (ℤ × ℕ)
row_numbers i s = (pos i, 32) ∷ (s.x_advance, 32) ∷ (s.y_advance, 32) ∷ (s.x_offset, 32) ∷ (s.y_offset, 10) ∷ []

abbrev pub Row : ℕ → Slot → List ℕ → Type 0
Row i s text = Grows [] (row_numbers i s) text
