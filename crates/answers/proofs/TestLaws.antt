-- A table of tests, read in two steps, and what holds of all that it may say. Assumes nothing.
use Rattle.std.specs.Prelude.{if◌then◌else◌}
use mathlib.Core.Path.{◌≡◌, refl}
use mathlib.Core.Bool.{Bool, true, false}
use mathlib.Core.List.{List, [], ◌∷◌, ◌++◌}
use Prim.Native.Nat.{ℕ}
use Rattle.ints.proofs.TestLaws.{clash}
use Rattle.answers.specs.Said.{Said, done, refused, unless}

module _ (b : List (Bool × ℕ)) (s : Said) where
  -- where a first table refuses, the whole one does, with the same number
  pub refused_early : (a : List (Bool × ℕ)) (n : ℕ) → unless a done ≡ refused n → unless (a ++ b) s ≡ refused n
  refused_early [] n e = clash (cc)
  refused_early (t ∷ a) n e = go t.0 e (refused_early a n)
    where
      go : (c : Bool) → (if c then refused t.1 else unless a done) ≡ refused n → (unless a done ≡ refused n → unless (a ++ b) s ≡ refused n)
          → (if c then refused t.1 else unless (a ++ b) s) ≡ refused n
      go true f rest = f
      go false f rest = rest f

  -- where it doesn't, the rest decides
  pub go_on : (a : List (Bool × ℕ)) → unless a done ≡ done → unless (a ++ b) s ≡ unless b s
  go_on [] e = refl
  go_on (t ∷ a) e = go t.0 e (go_on a)
    where
      go : (c : Bool) → (if c then refused t.1 else unless a done) ≡ done → (unless a done ≡ done → unless (a ++ b) s ≡ unless b s)
          → (if c then refused t.1 else unless (a ++ b) s) ≡ unless b s
      go true f rest = clash (cc)
      go false f rest = rest f

-- a table that doesn't refuse: its first test does not hold, and the rest doesn't refuse
pub clear_first : (t : Bool) (n : ℕ) (a : List (Bool × ℕ)) → unless ((t, n) ∷ a) done ≡ done → (t ≡ false) × (unless a done ≡ done)
clear_first true n a e = clash (cc)
clear_first false n a e = (refl, e)

-- a table that doesn't refuse: no part of it does
pub clear_parts : (a b : List (Bool × ℕ)) → unless (a ++ b) done ≡ done → (unless a done ≡ done) × (unless b done ≡ done)
clear_parts [] b e = (refl, e)
clear_parts (t ∷ a) b e = go t.0 e (clear_parts a b)
  where
    go : (c : Bool) → (if c then refused t.1 else unless (a ++ b) done) ≡ done → (unless (a ++ b) done ≡ done → (unless a done ≡ done) × (unless b done ≡ done))
        → ((if c then refused t.1 else unless a done) ≡ done) × (unless b done ≡ done)
    go true f rest = clash (cc)
    go false f rest = rest f

-- what holds of each refusal, and of what follows where no test holds, holds of what is said
pub of_unless : (P : Said → Type 0) → ((n : ℕ) → P (refused n)) → (ts : List (Bool × ℕ)) (s : Said) → (unless ts done ≡ done → P s) → P (unless ts s)
of_unless P refuses [] s follows = follows refl
of_unless P refuses (t ∷ ts) s follows = go t.0 follows (of_unless P refuses ts s)
  where
    go : (c : Bool) → ((if c then refused t.1 else unless ts done) ≡ done → P s) → ((unless ts done ≡ done → P s) → P (unless ts s))
        → P (if c then refused t.1 else unless ts s)
    go true f rest = refuses t.1
    go false f rest = rest f
