-- The rest is n without its last k digits, and where more than one was taken off, something was left before the last. Assumes nothing.
use mathlib.Core.Path.{◌≡◌}
use Prim.Native.Nat.{◌+◌, ◌-◌, ◌/◌, ◌^◌, ◌≤◌, ◌<◌}
use Rattle.show.proofs.numbers.places.Given as goal

abbrev pub invariant-loop-rest : goal.invariant-loop-rest
invariant-loop-rest l = (0 < l.k) × (l.k + l.rest < 2 ^ 64) × (l.rest ≡ l.n / 10 ^ l.k) × (1 < l.k → 10 ^ (l.k - 1) ≤ l.n)

abbrev pub decreases-loop-rest : goal.decreases-loop-rest
decreases-loop-rest l = l.rest
