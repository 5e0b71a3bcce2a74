-- The Anchor table (OpenType, GPOS): uint16 anchorFormat, int16 xCoordinate, int16 yCoordinate; then in format 2 a
-- uint16, in format 3 two offsets, which are left unread. Assumes nothing.
use Rattle.std.specs.Prelude.{None, Option, Some}
use Rattle.std.specs.Prelude.{Bool, ◌&&◌, List, ℕ, ◌+◌, ◌*◌, leb, ℤ, length, if◌then◌else◌}
use Rattle.ints.specs.BigEndian.{u16_at}
use Rattle.ints.specs.Signed.{int_at}
use Rattle.slots.specs.declared.axis.Axis.{Axis}
use Rattle.slots.specs.declared.axis.Axis.TheVariants.{X, Y}

-- the place that an anchor names, in the font's units
pub record Point : Type 0 where
  pub x : ℤ
  pub y : ℤ

-- its coordinate on an axis
abbrev pub coordinate : Axis → Point → ℤ
coordinate X p = p.x
coordinate Y p = p.y

-- the bytes of the format, a uint16
abbrev pub format_size : ℕ
format_size = 2

-- which layout the table has
abbrev pub anchor_format : List ℕ → ℕ
anchor_format t = u16_at t 0

-- how far to the right
abbrev pub x_coordinate : List ℕ → ℤ
x_coordinate t = int_at 2 t 2

-- how far up
abbrev pub y_coordinate : List ℕ → ℤ
y_coordinate t = int_at 2 t 4

-- the bytes of an anchor of a format: 6, 8 or 10
abbrev pub anchor_size : ℕ → ℕ
anchor_size format = 4 + 2 * format

-- the format can be read and is known, and the bytes that it asks for are there
abbrev pub anchor_there : List ℕ → Bool
anchor_there t =
    leb format_size (length t)
    && (leb 1 (anchor_format t) && (leb (anchor_format t) 3 && leb (anchor_size (anchor_format t)) (length t)))

-- the anchor of a table: none where it is cut or of unknown format
abbrev pub anchor_of : List ℕ → Option Point
anchor_of t = if anchor_there t then Some (record { x = x_coordinate t; y = y_coordinate t }) else None
