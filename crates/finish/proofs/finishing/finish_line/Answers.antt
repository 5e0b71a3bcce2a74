-- Each kind of direction has its own return. Assumes nothing.
use mathlib.Core.Path.{sym, ◌∙◌}
use Rattle.finish.proofs.SettleLaws.{finished_down, finished_up}
use Rattle.finish.proofs.finishing.finish_line.Goals as goal

pub returns-then-is_forward : goal.returns-then-is_forward
returns-then-is_forward c =
    let a = c.args in
    finished_up a.d a.limit a.shape a.line.now (sym c.is_forward.ensures ∙ c.if-is_forward.true) c.settle_up.ensures

pub returns : goal.returns
returns c =
    let a = c.args in
    finished_down a.d a.limit a.shape a.line.now (sym c.is_forward.ensures ∙ c.if-is_forward.false) c.settle_down.ensures
