-- Ten digits hold the number, so it takes no more. Assumes nothing.
use native.Mathlib.Omega.{arith}
use Rattle.show.proofs.DigitLaws.{at_most}
use Rattle.show.proofs.numbers.spell_natural.Goals as goal

pub put_digits-requires : goal.put_digits-requires
put_digits-requires c =
    let p = c.places-k in
    omega (arith, at_most c.args.n p.result 10 p.ensures (omega arith) (omega arith))

pub returns : goal.returns
returns c =
    let p = c.places-k in
    (at_most c.args.n p.result 10 p.ensures (omega arith) (omega arith), p.ensures, c.put_digits.ensures)
