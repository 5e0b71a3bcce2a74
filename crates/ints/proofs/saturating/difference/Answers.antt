-- Two numbers of 16 bits are too near to saturate. Assumes nothing.
use mathlib.Core.Path.{◌∙◌}
use native.Mathlib.Omega.{arith}
use Rattle.ints.specs.code.Signed.{val}
use Rattle.ints.proofs.SaturatingLaws.{less_exact}
use Rattle.ints.proofs.SizeLaws.{abs_sub}
use Rattle.ints.proofs.saturating.difference.Goals as goal

pub returns : goal.returns
returns c =
    let a = val c.args.a in
    let b = val c.args.b in
    let e = c.sat_sub.ensures ∙ less_exact a b (omega arith) in
    (e, rw e (omega (arith, abs_sub a b)))
