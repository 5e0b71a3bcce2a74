-- Each public call leaves one answer and one line: two results that meet its contract are equal, answer and bytes; of a run, the list too. Assumes nothing.
use mathlib.Core.Path.{◌≡◌, sym, ◌∙◌}
use mathlib.Core.Bool.{Bool}
use mathlib.Core.List.{List}
use Prim.Native.Nat.{ℕ}
use Rattle.targets.specs.declared.place.Way.{Way}
use Rattle.answers.specs.declared.Neighbour.{Neighbour}
use Rattle.answers.specs.Said.{said, said_done, said_moved}
use Rattle.answers.proofs.OutcomeLaws.{one_outcome}
use Rattle.answers.proofs.SaidLaws.{said_same, said_done_same, said_moved_same, said_run_same}
use Rattle.records.specs.declared.HazardRecord.{HazardRecord}
use Rattle.lookup.specs.declared.state.Settings.{Settings}
use Rattle.gpos.specs.Starting.{StartCall}
use Rattle.gpos.specs.Finishing.{FinishCall}
use Rattle.gpos.specs.SinglePos.{SingleCall}
use Rattle.gpos.specs.PairPos.{PairCall}
use Rattle.gpos.specs.CursivePos.{CursiveCall}
use Rattle.gpos.specs.MarkPos.{MarkCall}
use Rattle.gpos.specs.Moving.{ToClustersCall, FromClustersCall}
use Rattle.gpos.specs.Running.{LookupCall}

-- at most one answer and one line meet a contract
abbrev pub Unique : {R : Type 0} → (R → List ℕ → Type 0) → Type 0
Unique {R} Meets = (r₁ r₂ : R) (l₁ l₂ : List ℕ) → Meets r₁ l₁ → Meets r₂ l₂ → (r₁ ≡ r₂) × (l₁ ≡ l₂)

-- gpos::start
pub start_unique : (z : ℕ) (l : List ℕ) → Unique (StartCall z l)
start_unique z l r₁ r₂ l₁ l₂ p q = one_outcome said_done said_done_same z l _ _ l₁ l₂ r₁ r₂ p q

-- gpos::finish
pub finish_unique : (z : ℕ) (l : List ℕ) (direction limit : ℕ) (flag : Bool) → Unique (FinishCall z l direction limit flag)
finish_unique z l direction limit flag r₁ r₂ l₁ l₂ p q = one_outcome said_done said_done_same z l _ _ l₁ l₂ r₁ r₂ p q

module _ (z : ℕ) (l t : List ℕ) (direction s u i : ℕ) where
  -- gpos::single
  pub single_unique : Unique (SingleCall z l t direction s u i)
  single_unique r₁ r₂ l₁ l₂ p q = one_outcome said said_same z l _ _ l₁ l₂ r₁ r₂ p q

  -- gpos::pair
  pub pair_unique : (second : Neighbour) → Unique (PairCall z l t direction s u i second)
  pair_unique second r₁ r₂ l₁ l₂ p q = one_outcome said said_same z l _ _ l₁ l₂ r₁ r₂ p q

  -- gpos::cursive
  pub cursive_unique : (previous : Neighbour) (flag : ℕ) → Unique (CursiveCall z l t direction s u i previous flag)
  cursive_unique previous flag r₁ r₂ l₁ l₂ p q = one_outcome said said_same z l _ _ l₁ l₂ r₁ r₂ p q

  -- gpos::mark_base, gpos::mark_ligature and gpos::mark_mark, by the way
  pub mark_unique : (way : Way) → Unique (MarkCall way z l t direction s u i)
  mark_unique way r₁ r₂ l₁ l₂ p q = one_outcome said said_same z l _ _ l₁ l₂ r₁ r₂ p q

-- gpos::to_clusters and gpos::from_clusters
module _ (l t : List ℕ) where
  pub to_clusters_unique : Unique (ToClustersCall l t)
  to_clusters_unique r₁ r₂ l₁ l₂ p q = one_outcome said_moved said_moved_same _ t _ _ l₁ l₂ r₁ r₂ p q

  pub from_clusters_unique : Unique (FromClustersCall l t)
  from_clusters_unique r₁ r₂ l₁ l₂ p q = one_outcome said_moved said_moved_same _ t _ _ l₁ l₂ r₁ r₂ p q

-- at most one answer, one line and one list meet the contract of a run
abbrev pub UniqueRun : {R : Type 0} → (R → List ℕ → List HazardRecord → Type 0) → Type 0
UniqueRun {R} Meets = (r₁ r₂ : R) (l₁ l₂ : List ℕ) (list₁ list₂ : List HazardRecord) → Meets r₁ l₁ list₁ → Meets r₂ l₂ list₂ → (r₁ ≡ r₂) × (l₁ ≡ l₂) × (list₁ ≡ list₂)

-- gpos::lookup
pub lookup_unique : (g : Settings) (l b lengths : List ℕ) (list : List HazardRecord) → UniqueRun (LookupCall g l b lengths list)
lookup_unique g l b lengths list r₁ r₂ l₁ l₂ list₁ list₂ p q =
    (said_run_same r₁ r₂ (p.answer ∙ sym q.answer), p.line ∙ sym q.line, p.list_is ∙ sym q.list_is)
