-- The finished slots decide the bytes, and without attachments the line is its own. Assumes nothing.
use mathlib.Core.Path.{◌≡◌, refl}
use Prim.Native.Nat.{ℕ}
use Rattle.slots.specs.declared.axis.Direction.{Direction}
use Rattle.slots.specs.declared.shape.Shape.{Shape}
use Rattle.finish_rules.specs.Finish.{finished}
use Rattle.gpos.specs.Finishing as gpos
use Rattle.gpos.proofs.DoneLaws.{done_so}
use Rattle.gpos.proofs.finishing.finish.Goals as goal

abbrev shape : Shape × Direction × ℕ → Shape
shape x = x.0

pub returns-then-attachments : goal.returns-then-attachments
returns-then-attachments c =
    let a = c.args in
    let core = c.finish_line in
    let same : c.in_ok-shape.limit ≡ a.limit = rw c.in_ok-shape.ensures.numbers.1 at c.within_most.ensures.same in
    done_so (gpos.finish a.direction a.limit a.attachments) a.size a.line.now shape (c.in_ok-shape.shape, c.in_ok-shape.direction, c.in_ok-shape.limit) (rw c.within_most.ensures.above at c.in_ok-shape.ensures.shape) core.new.line (λ j. (c.type_inv.line j).fits) core.auto.line
    (rw (← same, c.if-attachments.true, ← c.in_ok-shape.ensures.numbers.0) core.ensures)

pub returns-else-attachments : goal.returns-else-attachments
unfolding finished
returns-else-attachments c =
    let a = c.args in
    done_so (gpos.finish a.direction a.limit a.attachments) a.size a.line.now shape (c.in_ok-shape.shape, c.in_ok-shape.direction, c.in_ok-shape.limit) (rw c.within_most.ensures.above at c.in_ok-shape.ensures.shape) a.line.now (λ j. (c.slice_known-1.given j).fits) refl (rw c.if-attachments.false refl)
