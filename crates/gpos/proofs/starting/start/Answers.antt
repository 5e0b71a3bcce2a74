-- The slots decide the bytes. Assumes nothing.
use Rattle.gpos.specs.Starting as call
use Rattle.gpos.proofs.DoneLaws.{done_so}
use Rattle.gpos.proofs.starting.start.Goals as goal

pub returns : goal.returns
returns c =
    let a = c.args in
    let core = c.start_line in
    done_so call.start a.size a.line.now (λ w. w) _ c.in_ok-shape.ensures core.new.line (λ j. (c.type_inv.line j).fits) core.auto.line core.ensures
