-- Each row of the table is the list of what the rule says of its direction. Assumes nothing.
use mathlib.Core.List.{map}
use mathlib.Core.Path.{◌≡◌, refl, ap, ◌∙◌}
use native.Mathlib.Nat.{zero-add}
use Prim.Native.Nat.{ℕ, ◌<◌}
use lib.ListN.{get_or}
use Rattle.std.proofs.lemmas.List.FromFn.{get_or-map-range_with_len}
use Rattle.std.specs.List.{range_with_len}
use Rattle.slots.specs.declared.axis.Direction.{Direction}
use Rattle.slots.specs.declared.axis.Direction.TheVariants.{LeftToRight, RightToLeft, TopToBottom, BottomToTop}
use Rattle.values.specs.FieldEffect.{FieldEffect, skipped, added, subtracted, effect_of}
use Rattle.values.specs.code.Codes.{effect_by}
use Rattle.values.specs.declared.field_effect.Effect.{Effect}
use Rattle.values.specs.declared.field_effect.Effect.TheVariants.{Skip, Add, Subtract}
use Rattle.values.proofs.field_effect.effect_of.Goals as goal

-- a direction is one of the four
by_direction : {P : Type 0} (d : Direction) → (d ≡ LeftToRight → P) → (d ≡ RightToLeft → P) → (d ≡ TopToBottom → P) → (d ≡ BottomToTop → P) → P
by_direction LeftToRight f g h k = f refl
by_direction RightToLeft f g h k = g refl
by_direction TopToBottom f g h k = h refl
by_direction BottomToTop f g h k = k refl

-- the entry for an effect stands for it
abbrev entry : FieldEffect → Effect
entry skipped = Skip
entry (added m a) = Add m a
entry (subtracted m a) = Subtract m a

entry_means : (e : FieldEffect) → effect_by (entry e) ≡ e
entry_means skipped = refl
entry_means (added m a) = refl
entry_means (subtracted m a) = refl

-- so does the one at b of a direction's eight
at : (d : Direction) (b : ℕ) → b < 8 → effect_by (get_or (map (λ k. entry (effect_of d k)) (range_with_len 0 8)) b Skip) ≡ effect_of d b
at d b h = ap effect_by (get_or-map-range_with_len (λ k. entry (effect_of d k)) 0 8 b b Skip h (zero-add b)) ∙ entry_means (effect_of d b)

pub returns : goal.returns
unfolding effect_of
returns c =
    let row = λ (d : Direction). at d c.args.field c.requires in
    by_direction c.args.d (λ e. rw e (row LeftToRight)) (λ e. rw e (row RightToLeft)) (λ e. rw e (row TopToBottom)) (λ e. rw e (row BottomToTop))
