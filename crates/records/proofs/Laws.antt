-- Laws over plain values: of the records of hazards, and of a list that records went into. Assumes nothing.
use mathlib.Core.Path.{◌≡◌, refl, ap, ◌∙◌}
use mathlib.Core.List.{List, [], ◌∷◌, ◌++◌, map}
use native.Mathlib.Nat.{not-suc-le-zero, le_of_suc-le-suc, add-zero}
use native.Mathlib.Omega.{arith}
use Prim.Native.Nat.{ℕ, suc, ◌+◌, ◌≤◌}
use lib.ListN.{length, drop, set, length-set}
use Rattle.answers.specs.Said.{Range}
use Rattle.answers.specs.declared.UpToTwo.{UpToTwo}
use Rattle.answers.specs.declared.UpToTwo.TheVariants.{None, One, Two}
use Rattle.records.specs.Records.{record_of, records_of, records, set_all}
use Rattle.records.specs.declared.HazardRecord.{HazardRecord}

-- of at most two hazards none is lost
pub records_all : (rs : List Range) → length rs ≤ 2 → records (records_of rs) ≡ map record_of rs
records_all [] h = refl
records_all (a ∷ []) h = refl
records_all (a ∷ b ∷ []) h = refl
records_all (a ∷ b ∷ c ∷ rs) h = absurd (not-suc-le-zero (le_of_suc-le-suc (le_of_suc-le-suc h)))

-- one single call has at most two records
pub few : (hs : UpToTwo HazardRecord) → length (records hs) ≤ 2
few None = omega arith
few (One a) = omega arith
few (Two a b) = omega arith

-- ---- the list after records went into it
pub length_set_all : (ys : List HazardRecord) (n : ℕ) (rs : List HazardRecord) → length (set_all ys n rs) ≡ length ys
unfolding set_all
length_set_all ys n [] = refl
length_set_all ys n (r ∷ rs) = length_set_all (set ys n r) (n + 1) rs ∙ length-set ys n r

-- records that go in after others go in with them
pub set_all-++ : (ys : List HazardRecord) (n : ℕ) (rs cs : List HazardRecord)
    → set_all (set_all ys n rs) (n + length rs) cs ≡ set_all ys n (rs ++ cs)
unfolding set_all
set_all-++ ys n [] cs = ap (λ (k : ℕ). set_all ys k cs) (add-zero n)
set_all-++ ys n (r ∷ rs) cs =
    ap (λ (k : ℕ). set_all (set_all (set ys n r) (n + 1) rs) k cs) (next n (length rs))
    ∙ set_all-++ (set ys n r) (n + 1) rs cs
  where
    next : (n k : ℕ) → n + suc k ≡ (n + 1) + k
    next n k = omega arith

-- records that go in past the first place leave what is there
past : (x : HazardRecord) (xs : List HazardRecord) (n : ℕ) (rs : List HazardRecord)
    → set_all (x ∷ xs) (suc n) rs ≡ x ∷ set_all xs n rs
unfolding set_all
past x xs n [] = refl
past x xs n (r ∷ rs) = ap (λ (k : ℕ). set_all (x ∷ set xs n r) k rs) (next n) ∙ past x (set xs n r) (n + 1) rs
  where
    next : (n : ℕ) → suc n + 1 ≡ suc (n + 1)
    next n = omega arith

-- records that go in from the first place on are the front of the list, and the rest of it is as it was
pub front : (xs rs : List HazardRecord) → length rs ≤ length xs → set_all xs 0 rs ≡ rs ++ drop (length rs) xs
unfolding set_all
front xs [] h = refl
front [] (r ∷ rs) h = absurd (not-suc-le-zero h)
front (x ∷ xs) (r ∷ rs) h = past r xs 0 rs ∙ ap (λ (l : List HazardRecord). r ∷ l) (front xs rs (le_of_suc-le-suc h))
