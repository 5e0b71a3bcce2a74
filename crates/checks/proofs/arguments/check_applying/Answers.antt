-- The tests that follow decide. Assumes nothing.
use Rattle.std.proofs.Common.{rules, is_none}
use Rattle.checks.proofs.CheckLaws.{bad_index, follows}
use Rattle.checks.proofs.arguments.check_applying.Goals as goal

pub returns-in_err-check_place-clause-shape : goal.returns-in_err-check_place-clause-shape
returns-in_err-check_place-clause-shape g c =
    let a = c.args in
    let e = bad_index a.size a.line.now a.direction a.s a.u a.index a.beside (is_none a.subtable) _ c.in_ok-shape.ensures.shape _ c.check_place.ensures _ c.in_err-check_place.was in
    search rules

pub returns-in_err-subtable-clause-shape : goal.returns-in_err-subtable-clause-shape
returns-in_err-subtable-clause-shape g c =
    let a = c.args in
    let e = follows a.size a.line.now a.direction a.s a.u a.index a.beside (is_none a.subtable) _ c.in_ok-shape.ensures.shape _ c.check_place.ensures _ c.in_ok-check_place.was in
    search rules

pub returns-clause-shape : goal.returns-clause-shape
returns-clause-shape g c =
    let a = c.args in
    let e = follows a.size a.line.now a.direction a.s a.u a.index a.beside (is_none a.subtable) _ c.in_ok-shape.ensures.shape _ c.check_place.ensures _ c.in_ok-check_place.was in
    search rules
