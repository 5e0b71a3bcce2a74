-- Above the clear bits stands a set one. Assumes nothing.
use mathlib.Core.Path.{refl}
use Rattle.values.proofs.FormatLaws.{next_set}
use Rattle.values.proofs.format.next_field.Goals as goal

pub returns : goal.returns
returns c =
    let n = next_set c.args.format c.args.field c.requires.0 c.requires.2 in
    (refl, n.0, n.1)
