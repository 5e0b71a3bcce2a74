-- The subtables of a lookup, end to end in one buffer, with their lengths in a list. Assumes nothing.
use Rattle.std.specs.Prelude.{Bool, true, ◌&&◌, List, [], ◌∷◌, ℕ, ◌+◌, drop, get_or, take}

-- a lookup may have so many
abbrev pub most_subtables : ℕ
most_subtables = 8

-- how long they are together; no sum wraps
unfoldable pub total : List ℕ → ℕ
total [] = 0
total (n ∷ ns) = n + total ns

-- each starts where the one before ended, and sees its own bytes only
unfoldable pub subtables : List ℕ → List ℕ → List (List ℕ)
subtables [] b = []
subtables (n ∷ ns) b = take n b ∷ subtables ns (drop n b)

-- subtable k
abbrev pub subtable : List ℕ → List ℕ → ℕ → List ℕ
subtable lengths b k = get_or (subtables lengths b) k []

-- do all pass the test?
unfoldable pub every : (List ℕ → Bool) → List (List ℕ) → Bool
every p [] = true
every p (t ∷ ts) = p t && every p ts
