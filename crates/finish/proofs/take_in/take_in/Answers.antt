-- Any type but 1 and 2 leaves the line as it was. Assumes nothing.
use mathlib.Core.Path.{◌∙◌}
use Rattle.slots.specs.Line.{slots}
use Rattle.finish.proofs.JoinLaws.{joined_other_type}
use Rattle.finish.proofs.take_in.take_in.Goals as goal

pub returns-else-kind-eq-CURSIVE_TYPE : goal.returns-else-kind-eq-CURSIVE_TYPE
returns-else-kind-eq-CURSIVE_TYPE c =
    let a = c.args in
    let type_is = c.get_byte-kind.ensures in
    joined_other_type a.d (slots a.shape a.line.now) a.i a.j (λ e. c.if-kind-eq-MARK_TYPE.false (type_is ∙ e)) (λ e. c.if-kind-eq-CURSIVE_TYPE.false (type_is ∙ e))
