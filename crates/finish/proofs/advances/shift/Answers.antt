-- By the direction and by which of the two slots is before the other, the part between and the flag are those of the definition. Assumes nothing.
use mathlib.Core.Bool.{true, false}
use mathlib.Core.List.{List}
use mathlib.Core.Path.{◌≡◌, sym, ◌∙◌}
use Prim.Native.Nat.{ℕ, ◌+◌, ◌-◌}
use native.Mathlib.Omega.{arith}
use Rattle.ints.specs.code.Signed.{val}
use Rattle.slots.specs.Slot.{Slot}
use Rattle.slots.specs.code.Shape.{part_shape}
use Rattle.slots.specs.Line.{slots}
use Rattle.slots.specs.declared.shape.Shape.{Shape}
use Rattle.finish_rules.proofs.WalkLaws.{walked_part}
use Rattle.finish.proofs.advances.shift.Goals as goal

-- the shape that code makes for the part is the part's
part_is : {ss : List Slot} (w v : Shape) (n m : ℕ) (p : List ℕ) → v ≡ part_shape w n → n ≡ m → slots (part_shape w m) p ≡ ss → slots v p ≡ ss
part_is w v n m p e g f = rw (e, g) f

pub returns-then-j-i : goal.returns-then-j-i
returns-then-j-i c =
    let a = c.args in
    walked_part a.d (slots a.shape a.line.now) a.i a.j true true (val a.from.x) (val a.from.y) (sym c.is_forward.ensures ∙ c.if-is_forward.true) c.if-j-i.true (part_is a.shape _ (a.i - a.j) (a.i - a.j) _ c.part_shape.ensures (omega arith) c.slots_between.ensures.0) c.step_all.ensures

pub returns-then-is_forward : goal.returns-then-is_forward
returns-then-is_forward c =
    let a = c.args in
    walked_part a.d (slots a.shape a.line.now) a.i a.j true false (val a.from.x) (val a.from.y) (sym c.is_forward.ensures ∙ c.if-is_forward.true) c.if-j-i.false (part_is a.shape _ (a.j - a.i) (a.j - a.i) _ c.part_shape-then-is_forward.ensures (omega arith) c.slots_between-then-is_forward.ensures.0) c.step_all-then-is_forward.ensures

pub returns-then-j-i-2 : goal.returns-then-j-i-2
returns-then-j-i-2 c =
    let a = c.args in
    walked_part a.d (slots a.shape a.line.now) a.i a.j false true (val a.from.x) (val a.from.y) (sym c.is_forward.ensures ∙ c.if-is_forward.false) c.if-j-i-2.true (part_is a.shape _ (a.i - a.j) (a.i + 1 - (a.j + 1)) _ c.part_shape-then-j-i-2.ensures (omega arith) c.slots_between-then-j-i-2.ensures.0) c.step_all-then-j-i-2.ensures

pub returns : goal.returns
returns c =
    let a = c.args in
    walked_part a.d (slots a.shape a.line.now) a.i a.j false false (val a.from.x) (val a.from.y) (sym c.is_forward.ensures ∙ c.if-is_forward.false) c.if-j-i-2.false (part_is a.shape _ (a.j - a.i) (a.j + 1 - (a.i + 1)) _ c.part_shape-2.ensures (omega arith) c.slots_between-2.ensures.0) c.step_all-2.ensures
