-- Each export leaves one result and one line, and of a run one list, since its namesake does. Assumes nothing.
use mathlib.Core.Path.{sym, ap, ◌∙◌}
use mathlib.Core.List.{List}
use Prim.Native.Nat.{ℕ}
use Rattle.gpos.specs.CursivePos.{CursiveCall}
use Rattle.gpos.specs.Finishing.{FinishCall}
use Rattle.gpos.specs.MarkPos.{MarkCall}
use Rattle.gpos.specs.Moving.{ToClustersCall, FromClustersCall}
use Rattle.gpos.specs.PairPos.{PairCall}
use Rattle.gpos.specs.SinglePos.{SingleCall}
use Rattle.gpos.specs.Starting.{StartCall}
use Rattle.gpos.specs.Running.{LookupCall}
use Rattle.gpos.proofs.Unique.{Unique, UniqueRun}
use Rattle.gpos.proofs.Unique as gpos
use Rattle.targets.specs.declared.place.Way.{Way}
use Rattle.records.specs.declared.HazardRecord.{HazardRecord}
use Rattle.gpos_c.specs.Layout.{done_number, to_c, IsLayoutOf, moved_number, neighbour, ran_to_c, set, settings}

-- where a call leaves one answer and one line, so does its export
module _ {A : Type 0} {C : Type 0} (layout : A → C) (May : A → List ℕ → Type 0) (one : Unique May) where
  laid_unique : Unique (λ (r : C) (l : List ℕ). IsLayoutOf layout (λ a. May a l) r)
  laid_unique r₁ r₂ l₁ l₂ p q =
      let same = one p.answer q.answer l₁ l₂ p.may q.may in
      (p.numbers ∙ ap layout same.0 ∙ sym q.numbers, same.1)

pub start_unique : (z : ℕ) (l : List ℕ) → Unique (λ (r : ℕ) (l' : List ℕ). IsLayoutOf done_number (λ d. StartCall z l d l') r)
start_unique z l = laid_unique done_number (StartCall z l) (gpos.start_unique z l)

pub finish_unique : (z : ℕ) (l : List ℕ) (direction limit attachments : ℕ) → Unique (λ (r : ℕ) (l' : List ℕ). IsLayoutOf done_number (λ d. FinishCall z l direction limit (set attachments) d l') r)
finish_unique z l direction limit attachments = laid_unique done_number (FinishCall z l direction limit (set attachments)) (gpos.finish_unique z l direction limit (set attachments))

module _ (z : ℕ) (l t : List ℕ) (direction s u i : ℕ) where
  pub single_unique : Unique (λ r (l' : List ℕ). IsLayoutOf to_c (λ a. SingleCall z l t direction s u i a l') r)
  single_unique = laid_unique to_c (SingleCall z l t direction s u i) (gpos.single_unique z l t direction s u i)

  pub pair_unique : (missing second : ℕ) → Unique (λ r (l' : List ℕ). IsLayoutOf to_c (λ a. PairCall z l t direction s u i (neighbour missing second) a l') r)
  pair_unique missing second = laid_unique to_c (PairCall z l t direction s u i (neighbour missing second)) (gpos.pair_unique z l t direction s u i (neighbour missing second))

  pub cursive_unique : (missing previous flag : ℕ) → Unique (λ r (l' : List ℕ). IsLayoutOf to_c (λ a. CursiveCall z l t direction s u i (neighbour missing previous) flag a l') r)
  cursive_unique missing previous flag =
      laid_unique to_c (CursiveCall z l t direction s u i (neighbour missing previous) flag) (gpos.cursive_unique z l t direction s u i (neighbour missing previous) flag)

  pub mark_unique : (way : Way) → Unique (λ r (l' : List ℕ). IsLayoutOf to_c (λ a. MarkCall way z l t direction s u i a l') r)
  mark_unique way = laid_unique to_c (MarkCall way z l t direction s u i) (gpos.mark_unique z l t direction s u i way)

module _ (l t : List ℕ) where
  pub to_clusters_unique : Unique (λ (r : ℕ) (t' : List ℕ). IsLayoutOf moved_number (λ m. ToClustersCall l t m t') r)
  to_clusters_unique = laid_unique moved_number (ToClustersCall l t) (gpos.to_clusters_unique l t)

  pub from_clusters_unique : Unique (λ (r : ℕ) (t' : List ℕ). IsLayoutOf moved_number (λ m. FromClustersCall l t m t') r)
  from_clusters_unique = laid_unique moved_number (FromClustersCall l t) (gpos.from_clusters_unique l t)

pub lookup_unique : (z kind flag direction s u : ℕ) (l b lengths : List ℕ) (list : List HazardRecord)
    → UniqueRun (λ r (l' : List ℕ) (list' : List HazardRecord). IsLayoutOf ran_to_c (λ a. LookupCall (settings z kind flag direction s u) l b lengths list a l' list') r)
lookup_unique z kind flag direction s u l b lengths list r₁ r₂ l₁ l₂ list₁ list₂ p q =
    let same = gpos.lookup_unique (settings z kind flag direction s u) l b lengths list p.answer q.answer l₁ l₂ list₁ list₂ p.may q.may in
    (p.numbers ∙ ap ran_to_c same.0 ∙ sym q.numbers, same.1, same.2)
