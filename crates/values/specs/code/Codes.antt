-- What stands in the table of 32 for what a field does. Assumes nothing.
use Rattle.values.specs.FieldEffect.{FieldEffect, skipped, added, subtracted}
use Rattle.values.specs.declared.field_effect.Effect.{Effect}
use Rattle.values.specs.declared.field_effect.Effect.TheVariants.{Skip, Add, Subtract}

-- what code's effect stands for
abbrev pub effect_by : Effect → FieldEffect
effect_by Skip = skipped
effect_by (Add m a) = added m a
effect_by (Subtract m a) = subtracted m a
