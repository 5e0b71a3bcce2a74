-- The numbers that pass a test: how many below n, the nearest below n, the lowest from i up. Assumes nothing.
use Rattle.std.specs.Prelude.{None, Option, Some}
use Rattle.std.specs.Prelude.{Bool, true, false, ℕ, zero, suc, ◌+◌, if◌then◌else◌}

-- 1 for true, 0 for false
unfoldable pub bit : Bool → ℕ
bit true = 1
bit false = 0

-- how many pass
unfoldable pub tally : (ℕ → Bool) → ℕ → ℕ
tally p zero = zero
tally p (suc n) = tally p n + bit (p n)

-- the nearest number below n that passes the test
unfoldable pub nearest : (ℕ → Bool) → ℕ → Option ℕ
nearest p zero = None
nearest p (suc n) = if p n then Some n else nearest p n

-- the lowest of the n numbers from i up that passes the test
unfoldable pub lowest : (ℕ → Bool) → ℕ → ℕ → Option ℕ
lowest p i zero = None
lowest p i (suc n) = if p i then Some i else lowest p (suc i) n
