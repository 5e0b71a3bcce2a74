-- What is known of an index, and of what is beside it, that refusal 5 finds no fault with. Assumes nothing.
use mathlib.Core.Path.{◌≡◌}
use mathlib.Core.Bool.{Bool, false, ◌||◌}
use Prim.Native.Nat.{ℕ, ◌<◌}
use borrow.Author.Tests.{leb-false}
use lib.Dec.{leb}
use Rattle.ints.proofs.TestLaws.{or_false}
use Rattle.answers.specs.code.Neighbours.{Before}
use Rattle.answers.specs.declared.Neighbour.{Neighbour}
use Rattle.answers.specs.declared.Neighbour.TheVariants.{Named, Missing}
use Rattle.pair.specs.code.Meant.{After}
use Rattle.checks.specs.Neighbours.{bad_after, bad_before, bad_place}
use Rattle.checks.specs.declared.neighbours.Beside.{Beside}
use Rattle.checks.specs.declared.neighbours.Beside.TheVariants.{Nothing, Second, Previous}

-- where neither the index nor the rest of the test is bad, the index is in the line
index_in : (n i : ℕ) (bad : Bool) → leb n i || bad ≡ false → (i < n) × (bad ≡ false)
index_in n i bad e = let f = or_false (leb n i) bad e in (leb-false n i f.0, f.1)

-- a previous glyph that is named is before the index
before : (n i : ℕ) (b : Neighbour) → bad_before n i b ≡ false → Before i b
before n i (Named k) e = leb-false i k e
before n i (Missing f) e = tt

-- a second glyph that is named is after the index and in the line
after : (n i : ℕ) (b : Neighbour) → bad_after n i b ≡ false → After n i b
after n i (Named j) e = let f = or_false (leb j i) (leb n j) e in (leb-false j i f.0, leb-false n j f.1)
after n i (Missing m) e = tt

-- what the cores are told of what is beside the index
abbrev pub Near : ℕ → ℕ → Beside → Type 0
Near n i Nothing = Unit {0}
Near n i (Second b) = After n i b
Near n i (Previous b) = Before i b

pub in_place : (n i : ℕ) (b : Beside) → bad_place n i b ≡ false → (i < n) × Near n i b
in_place n i Nothing e = (leb-false n i e, tt)
in_place n i (Second b) e = let f = index_in n i (bad_after n i b) e in (f.0, after n i b f.1)
in_place n i (Previous b) e = let f = index_in n i (bad_before n i b) e in (f.0, before n i b f.1)
