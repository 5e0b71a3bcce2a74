-- What code's values stand for. Assumes nothing.
use Rattle.std.specs.Prelude.{[], ℕ, ◌<◌, Result, Ok, Err}
use Rattle.answers.specs.Said.{ranges}
use Rattle.answers.specs.declared.Hazard.{Hazard}
use Rattle.answers.specs.declared.UpToTwo.{UpToTwo}
use Rattle.answers.specs.declared.Neighbour.{Neighbour}
use Rattle.answers.specs.declared.Neighbour.TheVariants.{Named, Missing}
use Rattle.pair.specs.Plan.{Plan, stop, adjust, missed}
use Rattle.pair.specs.declared.pair_set.Missed.{Missed}
use Rattle.pair.specs.declared.pair_set.Missed.TheVariants.{Nothing, Cut}
use Rattle.pair.specs.declared.plan.Adjust.{Adjust}
use Rattle.pair.specs.declared.records.Records.{Records}

-- the plan that code's stands for
abbrev pub meant : Result Adjust (UpToTwo Hazard) → Plan
meant (Ok a) = adjust a.records.table.now a.records.at a.second
meant (Err hazards) = stop (ranges hazards)

-- the plan for slot idx and the slot `second`, by the records that code found
abbrev pub found_plan : ℕ → ℕ → Result Records Missed → Plan
found_plan idx second (Ok r) = adjust r.table.now r.at second
found_plan idx second (Err Nothing) = missed idx second
found_plan idx second (Err Cut) = stop []

-- a neighbour that is named is after this slot and in the line of n slots
abbrev pub After : ℕ → ℕ → Neighbour → Type 0
After n idx (Named second) = (idx < second) × (second < n)
After n idx (Missing e) = Unit {0}
