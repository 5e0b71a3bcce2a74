-- What code's anchors and marks stand for, and the bounds that code leans on. Assumes nothing.
use Rattle.std.specs.Prelude.{None, Option, Some}
use Rattle.std.specs.Prelude.{ℕ, ◌^◌}
use Rattle.ints.specs.code.Signed.{val}
use Rattle.tables.specs.Anchor.{Point}
use Rattle.tables.specs.MarkArray.{MarkAnchor}
use Rattle.tables.specs.declared.point.Point.{Point as CodePoint}
use Rattle.tables.specs.declared.mark_array.Mark.{Mark}

-- code's point
abbrev pub point_of : CodePoint → Point
point_of p = record { x = val p.x; y = val p.y }

-- code's anchor
abbrev pub anchor_point : Option CodePoint → Option Point
anchor_point (Some p) = Some (point_of p)
anchor_point None = None

-- code's mark
abbrev pub mark_anchor : Option Mark → Option MarkAnchor
mark_anchor (Some m) = Some (record { class = m.class; anchor = point_of m.anchor })
mark_anchor None = None

-- an array of offsets, counted by rows and columns of 16 bits, has fewer
abbrev pub offsets_end : ℕ
offsets_end = 2 ^ 32
