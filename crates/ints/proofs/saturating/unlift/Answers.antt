-- Lifting what was unlifted gives it back. Assumes nothing.
use mathlib.Core.Path.{◌≡◌, sym, ap, ◌∙◌}
use Prim.Native.Nat.{◌+◌, ◌%◌}
use native.Mathlib.Omega.{arith}
use Rattle.ints.specs.code.Saturating.{unlifted}
use Rattle.ints.proofs.SaturatingLaws.{lifted}
use Rattle.ints.proofs.saturating.unlift.Goals as goal

pub returns : goal.returns
returns c =
    let n = c.args.n in
    let e : ((n + 2147483648) % 4294967296 + 2147483648) % 4294967296 ≡ n = omega arith in
    sym (lifted ((n + 2147483648) % 4294967296) (omega arith)) ∙ ap unlifted e
