-- The text so far, the number's, and the byte that is stored after it. Assumes nothing.
use native.Mathlib.Omega.{arith}
use Rattle.show.proofs.TextLaws.{grown_put}
use Rattle.show.proofs.rows.put.Goals as goal

pub returns : goal.returns
returns c =
    let a = c.args in
    let call = c.spell-k in
    let ys = call.new.out in
    (omega arith, grown_put _ a.after a.out.now ys _ a.at call.result (omega arith) (omega arith) call.ensures.1)
