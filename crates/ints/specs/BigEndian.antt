-- Numbers in bytes, the highest byte first, at any width w: 2 bytes are 16 bits, 4 bytes are 32. Assumes nothing.
use Rattle.std.specs.Prelude.{List, [], ◌∷◌, ◌++◌, ℕ, zero, suc, ◌+◌, ◌*◌, ◌/◌, ◌%◌, ◌<◌, get_or}
use Rattle.std.proofs.lemmas.List.Edits.{sets}

-- each element is a byte
abbrev pub AllBytes : List ℕ → Type 0
AllBytes l = (k : ℕ) → get_or l k 0 < 256

-- the w bytes of the number n
unfoldable pub digits : ℕ → ℕ → List ℕ
digits zero n = []
digits (suc w) n = digits w (n / 256) ++ (n % 256 ∷ [])

-- the number in the w bytes at `at`
unfoldable pub nat_at : ℕ → List ℕ → ℕ → ℕ
nat_at zero l at = 0
nat_at (suc w) l at = nat_at w l at * 256 + get_or l (at + w) 0

-- the uint16 at `at`
abbrev pub u16_at : List ℕ → ℕ → ℕ
u16_at l at = nat_at 2 l at

-- the list with the number n in the w bytes at `at`
unfoldable pub with_nat : ℕ → List ℕ → ℕ → ℕ → List ℕ
with_nat w l at n = sets l at (digits w n)
