-- The call's parts; all else is the applying calls' laws. Assumes nothing.
use Rattle.std.proofs.Common.{rules}
use Rattle.std.specs.Prelude.{Ok}
use Rattle.single.specs.SinglePos.{single_adjustment, single_good}
use Rattle.checks.specs.declared.neighbours.Beside.TheVariants.{Nothing}
use mathlib.Core.List.{List}
use Prim.Native.Nat.{ℕ}
use Rattle.answers.specs.Said.{said}
use Rattle.gpos.proofs.ApplyingLaws.{bad_subtable, made, Parts, placed, refuses}
use Rattle.gpos.proofs.single_pos.single.Goals as goal

-- what the call is told, by name
abbrev parts : List ℕ → (direction s u index : ℕ) → Parts
parts t direction s u index =
    record {
      direction = direction;
      s = s;
      u = u;
      index = index;
      beside = Nothing;
      good = single_good t;
      core = λ d. single_adjustment t d s u index;
    }

pub returns-in_err-shape : goal.returns-in_err-shape
returns-in_err-shape c =
    let a = c.args in
    let e = refuses (parts a.subtable.now a.direction a.s a.u a.index) a.size a.line.now _ c.in_err-shape.ensures.shape in
    search rules

pub returns-in_err-subtable : goal.returns-in_err-subtable
returns-in_err-subtable c =
    let a = c.args in
    let e = bad_subtable (parts a.subtable.now a.direction a.s a.u a.index) a.size a.line.now (c.in_ok-shape.shape, c.in_ok-shape.frame, tt) c.in_ok-shape.ensures.shape in
    search rules

pub apply-requires : goal.apply-requires
apply-requires c =
    let a = c.args in
    (placed (parts a.subtable.now a.direction a.s a.u a.index) a.size a.line.now (c.in_ok-shape.shape, c.in_ok-shape.frame, tt) c.in_ok-shape.ensures.shape).0

pub returns : goal.returns
returns c =
    let a = c.args in
    let f = c.in_ok-shape.ensures.frame in
    let checked = rw c.in_ok-subtable.ensures.ok_part at c.new.ensures in
    made (parts a.subtable.now a.direction a.s a.u a.index) a.size a.line.now (c.in_ok-shape.shape, c.in_ok-shape.frame, tt) c.in_ok-shape.ensures.shape checked.0
    c.apply.new.line (said (Ok c.apply.result)) (λ n. (c.slice_known-1.given n).fits) (λ n. (c.type_inv.line n).fits) c.apply.auto.line (rw (f.0, f.1, f.2, checked.1) at c.apply.ensures)
