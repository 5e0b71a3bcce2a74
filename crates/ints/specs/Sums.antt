-- Sums of lists of integers, exact and step by step. Assumes nothing.
use Rattle.std.specs.Prelude.{List, [], ◌∷◌, ℤ, pos, ◌+ℤ◌}

-- the exact sum
unfoldable pub total : List ℤ → ℤ
total [] = pos 0
total (z ∷ zs) = z +ℤ total zs

-- z with each of the list added or subtracted, as f says, one by one from the front
unfoldable pub stepwise : (ℤ → ℤ → ℤ) → ℤ → List ℤ → ℤ
stepwise f z [] = z
stepwise f z (a ∷ zs) = stepwise f (f z a) zs
