-- What code's values stand for, and the bounds that code leans on. Assumes nothing.
use Rattle.std.specs.Prelude.{ℕ, ◌<◌, Result, Ok, Err}
use Rattle.tables.specs.code.Meant.{point_of}
use Rattle.answers.specs.declared.Hazard.{Hazard}
use Rattle.answers.specs.declared.UpToTwo.{UpToTwo}
use Rattle.answers.specs.Said.{ranges}
use Rattle.cursive.specs.CursivePos.{Plan, stop, join}
use Rattle.cursive.specs.declared.cursive_pos.Join.{Join}
use Rattle.cursive.specs.declared.cursive_pos.Side.{Side}
use Rattle.cursive.specs.declared.cursive_pos.Side.TheVariants.{Entry, Exit}

-- the number of a record's offset
abbrev pub side_number : Side → ℕ
side_number Entry = 0
side_number Exit = 1

-- the plan that code's plan stands for
abbrev pub meant : Result Join (UpToTwo Hazard) → Plan
meant (Ok j) = join j.previous (point_of j.exit) (point_of j.entry)
meant (Err hs) = stop (ranges hs)

-- the slot to join is before this one
abbrev pub Sound : ℕ → Result Join (UpToTwo Hazard) → Type 0
Sound idx (Ok j) = j.previous < idx
Sound idx (Err hs) = Unit {0}
