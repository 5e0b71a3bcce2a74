-- What is computed along a chain, from its end down to a slot, and that it goes by one equation for each hop. Assumes nothing.
use mathlib.Core.List.{List}
use mathlib.Core.Path.{◌≡◌, refl, sym, ap}
use Prim.Native.Nat.{ℕ, zero, suc}
use Rattle.slots.specs.Slot.{Slot}
use Rattle.slots.specs.Parent.{by_parent, parent}
use Rattle.slots.specs.declared.parent.Parent.{Parent}
use Rattle.slots.specs.declared.parent.Parent.TheVariants.{None, Outside, InLine}
use Rattle.finish_rules.specs.theorems.Demand3.{EndsWithin}

module _ {A : Type 0} (l : List Slot) (base : ℕ → A) (step : ℕ → ℕ → A → A) where
  -- by at most n hops from slot i: `base` where the chain ends, `step` from a parent to its child
  unfoldable pub along : ℕ → ℕ → A
  along zero i = base i
  along (suc n) i = by_parent (parent l i) (base i) (base i) (λ j. step i j (along n j))

  -- where the chain ends at once
  pub along_end : (n i : ℕ) → ((j : ℕ) → parent l i ≡ InLine j → ⊥) → along n i ≡ base i
  unfolding along
  along_end zero i h = refl
  along_end (suc n) i h = go (parent l i) refl
    where
      go : (p : Parent) → parent l i ≡ p → by_parent p (base i) (base i) (λ j. step i j (along n j)) ≡ base i
      go None e = refl
      go Outside e = refl
      go (InLine j) e = absurd (h j e)

  -- hops beyond the chain's end change nothing
  along_more : (n i : ℕ) → EndsWithin l n i → along n i ≡ along (suc n) i
  unfolding along
  along_more zero i h = sym (along_end 1 i h)
  along_more (suc n) i h = go (parent l i) refl (λ j e. along_more n j (h j e))
    where
      go : (p : Parent) → parent l i ≡ p → ((j : ℕ) → parent l i ≡ InLine j → along n j ≡ along (suc n) j)
          → by_parent p (base i) (base i) (λ j. step i j (along n j)) ≡ by_parent p (base i) (base i) (λ j. step i j (along (suc n) j))
      go None e up = refl
      go Outside e up = refl
      go (InLine j) e up = ap (step i j) (up j e)

  -- one hop
  pub along_at : (n i j : ℕ) → EndsWithin l n i → parent l i ≡ InLine j → along n i ≡ step i j (along n j)
  unfolding along
  along_at zero i j h e = absurd (h j e)
  along_at (suc n) i j h e = rw e (ap (step i j) (along_more n j (h j e)))

  -- what holds where a chain ends, and of a child when it holds of its parent, holds along every chain
  pub along_holds : (P : ℕ → ℕ → A → Type 0) → ((n i : ℕ) → P n i (base i)) → ((n i j : ℕ) (r : A) → parent l i ≡ InLine j → P n j r → P (suc n) i (step i j r))
      → (n i : ℕ) → P n i (along n i)
  unfolding along
  along_holds P end hop zero i = end zero i
  along_holds P end hop (suc n) i = go (parent l i) refl (λ j. along_holds P end hop n j)
    where
      go : (p : Parent) → parent l i ≡ p → ((j : ℕ) → P n j (along n j)) → P (suc n) i (by_parent p (base i) (base i) (λ j. step i j (along n j)))
      go None e up = end (suc n) i
      go Outside e up = end (suc n) i
      go (InLine j) e up = hop n i j (along n j) e (up j)
