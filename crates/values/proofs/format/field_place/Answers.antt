-- The mask leaves the bits below the field's own. Assumes nothing.
use mathlib.Core.Path.{ap, ◌∙◌}
use Prim.Native.Nat.{ℕ, ◌*◌}
use lib.Count.{ones}
use Rattle.values.proofs.FormatLaws.{mask, ones_below}
use Rattle.values.proofs.format.field_place.Goals as goal

pub returns : goal.returns
returns c =
    let a = c.args in
    ap (λ (n : ℕ). 2 * n) (ap ones (mask a.format a.field c.requires) ∙ ones_below a.field a.format)
