-- A walk by any step over numbers. Assumes nothing.
use Rattle.std.specs.Prelude.{ℕ, zero, suc}

-- where k steps by `next` lead from i
unfoldable pub steps : (ℕ → ℕ) → ℕ → ℕ → ℕ
steps next i zero = i
steps next i (suc k) = next (steps next i k)
