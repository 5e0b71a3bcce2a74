-- The two axes and the four directions. Assumes nothing.
use Rattle.std.specs.Prelude.{Bool, true, false, ℕ, eqb, if◌then◌else◌}
use Rattle.slots.specs.declared.axis.Axis.{Axis}
use Rattle.slots.specs.declared.axis.Axis.TheVariants.{X, Y}
use Rattle.std.specs.Prelude.{◌≡◌, ◌<◌, Result, MatchResult}
use Rattle.slots.specs.declared.axis.Direction.{Direction}
use Rattle.slots.specs.declared.axis.UnknownDirection.{UnknownDirection}
use Rattle.slots.specs.declared.axis.Direction.TheVariants.{LeftToRight, RightToLeft, TopToBottom, BottomToTop}

-- the directions 0, 1, 2, 3
abbrev pub direction_of : ℕ → Direction
direction_of n =
    if eqb n 0 then LeftToRight
    else (if eqb n 1 then RightToLeft
    else (if eqb n 2 then TopToBottom
    else BottomToTop))

-- code's direction of a number, which only 0 to 3 have
abbrev pub Numbered : ℕ → Result Direction UnknownDirection → Type 0
Numbered n r = MatchResult r (λ d. (n < 4) × (d ≡ direction_of n)) (λ _. 3 < n)

-- 0 and 1 are horizontal
abbrev pub horizontal : Direction → Bool
horizontal LeftToRight = true
horizontal RightToLeft = true
horizontal TopToBottom = false
horizontal BottomToTop = false

-- 0 and 2 are forward
abbrev pub forward : Direction → Bool
forward LeftToRight = true
forward RightToLeft = false
forward TopToBottom = true
forward BottomToTop = false

-- the main axis, along the line: x when horizontal
abbrev pub main : Direction → Axis
main LeftToRight = X
main RightToLeft = X
main TopToBottom = Y
main BottomToTop = Y

-- the other of the two
abbrev pub other : Axis → Axis
other X = Y
other Y = X

-- the cross axis, across the line
abbrev pub cross : Direction → Axis
cross d = other (main d)

-- are the two axes the same?
abbrev pub same_axis : Axis → Axis → Bool
same_axis X X = true
same_axis X Y = false
same_axis Y X = false
same_axis Y Y = true
