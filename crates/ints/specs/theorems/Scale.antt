-- Rounding as a reader would say it, to hold the scale to. Assumes nothing.
use Rattle.std.specs.Prelude.{◌≡◌, ℕ, ◌≤◌, ℤ, pos, nat_abs, ◌-ℤ◌, ◌*ℤ◌}

-- how far the whole number k is from v s / u, in parts of which u make one
abbrev pub away : ℤ → ℕ → ℕ → ℤ → ℕ
away v s u k = nat_abs (v *ℤ pos s -ℤ k *ℤ pos u)

-- q is v s / u rounded: no whole number is nearer, and none as near is further from zero
pub record Rounding (v : ℤ) (s u : ℕ) (q : ℤ) : Type 0 where
  pub nearest : (k : ℤ) → away v s u q ≤ away v s u k
  pub tie : (k : ℤ) → away v s u k ≡ away v s u q → nat_abs k ≤ nat_abs q
