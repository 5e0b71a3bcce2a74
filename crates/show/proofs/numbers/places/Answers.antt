-- The rest is n without its last k digits, and where more than one was taken off, something was left before the last. Assumes nothing.
use mathlib.Core.Path.{ap, ◌∙◌}
use Prim.Native.Nat.{ℕ, ◌/◌}
use native.Mathlib.Omega.{arith}
use Rattle.show.proofs.DigitLaws.{again, held, wanted}
use Rattle.show.proofs.numbers.places.Goals as goal

pub loop-rest-preserved : goal.loop-rest-preserved
loop-rest-preserved c =
    let l = c.loop-rest in
    let n = c.args.n in
    (omega arith, omega arith, ap (λ (m : ℕ). m / 10) l.invariant.2 ∙ again n l.k, λ _. wanted n l.k (omega arith))

pub returns : goal.returns
returns c =
    let l = c.loop-rest in
    (omega arith, held c.args.n l.k (omega arith), l.invariant.3)
