-- Where a call that is applied says to go on. Assumes nothing.
use Rattle.std.specs.Prelude.{ℕ, ◌<◌, ◌≤◌}
use Rattle.answers.specs.Said.{Said, applied, declined, refused, done}

-- applied: the next index is above idx and at most n; declined, refused or done: nothing
abbrev pub Advances : ℕ → ℕ → Said → Type 0
Advances idx n (applied next hs a) = (idx < next) × (next ≤ n)
Advances idx n (declined hs) = Unit {0}
Advances idx n (refused m) = Unit {0}
Advances idx n done = Unit {0}
