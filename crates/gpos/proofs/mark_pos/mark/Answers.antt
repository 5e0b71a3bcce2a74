-- The call's parts; all else is the applying calls' laws. Assumes nothing.
use Rattle.std.proofs.Common.{rules}
use Rattle.marks.specs.Attachment.{mark_attachment}
use Rattle.targets.specs.MarkPos.{marks_good}
use Rattle.targets.specs.code.Meant.{WayBefore}
use Rattle.targets.specs.declared.place.Way.{Way}
use Rattle.targets.specs.declared.place.Way.TheVariants.{Search, Earlier}
use Rattle.gpos.proofs.NeighbourLaws.{Near}
use Rattle.gpos.specs.MarkPos.{beside_of}
use mathlib.Core.List.{List}
use Prim.Native.Nat.{ℕ}
use Rattle.answers.specs.Said.{said}
use Rattle.gpos.proofs.ApplyingLaws.{bad_subtable, made, Parts, placed, refuses}
use Rattle.gpos.proofs.mark_pos.mark.Goals as goal

-- what the call is told, by name
abbrev parts : List ℕ → (direction s u index : ℕ) (way : Way) → Parts
parts t direction s u index way =
    record {
      direction = direction;
      s = s;
      u = u;
      index = index;
      beside = beside_of way;
      good = marks_good t;
      core = λ d. mark_attachment way t d s u index;
    }

-- an earlier mark that is named is before the index
before : (n i : ℕ) (way : Way) → Near n i (beside_of way) → WayBefore i way
before n i (Search target) near = tt
before n i (Earlier earlier) near = near

pub returns-in_err-shape : goal.returns-in_err-shape
returns-in_err-shape c =
    let a = c.args in
    let e = refuses (parts a.subtable.now a.direction a.s a.u a.index a.way) a.size a.line.now _ (rw c.beside_of.ensures at c.in_err-shape.ensures.shape) in
    search rules

pub returns-in_err-subtable : goal.returns-in_err-subtable
returns-in_err-subtable c =
    let a = c.args in
    let e = bad_subtable (parts a.subtable.now a.direction a.s a.u a.index a.way) a.size a.line.now (c.in_ok-shape.shape, c.in_ok-shape.frame, tt) (rw c.beside_of.ensures at c.in_ok-shape.ensures.shape) in
    search rules

pub apply-requires : goal.apply-requires
apply-requires c =
    let a = c.args in
    let core = placed (parts a.subtable.now a.direction a.s a.u a.index a.way) a.size a.line.now (c.in_ok-shape.shape, c.in_ok-shape.frame, tt) (rw c.beside_of.ensures at c.in_ok-shape.ensures.shape) in
    (core.0, before c.in_ok-shape.shape.count a.index a.way core.1)

pub returns : goal.returns
returns c =
    let a = c.args in
    let f = c.in_ok-shape.ensures.frame in
    let checked = rw c.in_ok-subtable.ensures.ok_part at c.new.ensures in
    made (parts a.subtable.now a.direction a.s a.u a.index a.way) a.size a.line.now (c.in_ok-shape.shape, c.in_ok-shape.frame, tt) (rw c.beside_of.ensures at c.in_ok-shape.ensures.shape) checked.0
    c.apply.new.line (said c.apply.result) (λ n. (c.slice_known-1.given n).fits) (λ n. (c.type_inv.line n).fits) c.apply.auto.line (rw (f.0, f.1, f.2, checked.1) at c.apply.ensures)
