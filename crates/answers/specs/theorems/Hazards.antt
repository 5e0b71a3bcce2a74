-- How many hazards a call may report. Assumes nothing.
use Rattle.std.specs.Prelude.{ℕ, ◌≤◌, length}
use Rattle.answers.specs.Said.{Said, applied, declined, refused, done, hazards_of}

-- applied: up to two; declined: one or none; refused or done: none
abbrev pub most_hazards : Said → ℕ
most_hazards (applied n hs a) = 2
most_hazards (declined hs) = 1
most_hazards (refused n) = 0
most_hazards done = 0

-- no more hazards than its kind of answer may have
abbrev pub FewHazards : Said → Type 0
FewHazards s = length (hazards_of s) ≤ most_hazards s
