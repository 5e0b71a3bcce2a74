-- Laws of the probe of a pair set: one step at a time, however many steps are left so long as they are enough. Assumes nothing.
use mathlib.Core.Path.{◌≡◌, refl, ◌∙◌}
use mathlib.Core.List.{List}
use Rattle.std.specs.Prelude.{Result, Ok, Err}
use Prim.Native.Nat.{ℕ, zero, suc, ◌+◌, ◌≤◌, ◌<◌}
use native.Mathlib.Omega.{arith}
use lib.ListN.{length}
use borrow.Author.Tests.{le-ltb, lt-ltb}
use Rattle.pair.specs.PairSet.{middle, probe_in, pair_value_record, second_glyph}
use Rattle.pair.specs.declared.pair_set.Missed.{Missed}
use Rattle.pair.specs.declared.pair_set.Missed.TheVariants.{Nothing, Cut}

-- the whole answer is that of the records from lo up to hi
pub record Left (set : List ℕ) (size g : ℕ) (all : Result ℕ Missed) (lo hi : ℕ) : Type 0 where
  pub steps : ℕ
  pub enough : hi ≤ lo + steps
  pub same : all ≡ probe_in steps set size g lo hi

-- the probe of no records, of a middle that is cut, of one above the glyph, below it, and at it
module _ (set : List ℕ) (size g n lo hi : ℕ) where
  pub probe_over : hi ≤ lo → probe_in n set size g lo hi ≡ Err Nothing
  unfolding probe_in
  probe_over h = go n
    where
      go : (n : ℕ) → probe_in n set size g lo hi ≡ Err Nothing
      go zero = refl
      go (suc n) = simp (le-ltb lo hi h)

  module _ (h : lo < hi) where
    pub probe_cut : length set < pair_value_record size (middle lo hi) + 2 → probe_in (suc n) set size g lo hi ≡ Err Cut
    unfolding probe_in
    probe_cut c = simp (lt-ltb lo hi h, lt-ltb (length set) (pair_value_record size (middle lo hi) + 2) c)

    module _ (w : pair_value_record size (middle lo hi) + 2 ≤ length set) where
      pub probe_down : g < second_glyph set size (middle lo hi) → probe_in (suc n) set size g lo hi ≡ probe_in n set size g lo (middle lo hi)
      unfolding probe_in
      probe_down b =
          simp (lt-ltb lo hi h, le-ltb (length set) (pair_value_record size (middle lo hi) + 2) w, lt-ltb g (second_glyph set size (middle lo hi)) b)

      pub probe_up : second_glyph set size (middle lo hi) < g → probe_in (suc n) set size g lo hi ≡ probe_in n set size g (middle lo hi + 1) hi
      unfolding probe_in
      probe_up b =
          let c : second_glyph set size (middle lo hi) ≤ g = omega arith in
          simp (
            lt-ltb lo hi h,
            le-ltb (length set) (pair_value_record size (middle lo hi) + 2) w,
            le-ltb g (second_glyph set size (middle lo hi)) c,
            lt-ltb (second_glyph set size (middle lo hi)) g b,
          )

      pub probe_hit : second_glyph set size (middle lo hi) ≤ g → g ≤ second_glyph set size (middle lo hi)
          → probe_in (suc n) set size g lo hi ≡ Ok (pair_value_record size (middle lo hi))
      unfolding probe_in
      probe_hit a b =
          simp (
            lt-ltb lo hi h,
            le-ltb (length set) (pair_value_record size (middle lo hi) + 2) w,
            le-ltb g (second_glyph set size (middle lo hi)) a,
            le-ltb (second_glyph set size (middle lo hi)) g b,
          )

-- the same of the whole answer, as the loop goes
module _ {set : List ℕ} {size g lo hi : ℕ} {all : Result ℕ Missed} (l : Left set size g all lo hi) where
  pub over : hi ≤ lo → all ≡ Err Nothing
  over h = l.same ∙ probe_over set size g l.steps lo hi h

  module _ (h : lo < hi) where
    -- while a record is left, so is a step
    step : {P : Type 0} → ((n : ℕ) → hi ≤ lo + suc n → all ≡ probe_in (suc n) set size g lo hi → P) → P
    step {P} f = go l.steps l.enough l.same
      where
        go : (n : ℕ) → hi ≤ lo + n → all ≡ probe_in n set size g lo hi → P
        go zero e q = absurd (omega arith)
        go (suc n) e q = f n e q

    pub cut : length set < pair_value_record size (middle lo hi) + 2 → all ≡ Err Cut
    cut c = step (λ n e q. q ∙ probe_cut set size g n lo hi h c)

    module _ (w : pair_value_record size (middle lo hi) + 2 ≤ length set) where
      pub down : g < second_glyph set size (middle lo hi) → Left set size g all lo (middle lo hi)
      down b = step (λ n e q. record { steps = n; enough = omega arith; same = q ∙ probe_down set size g n lo hi h w b })

      pub up : second_glyph set size (middle lo hi) < g → Left set size g all (middle lo hi + 1) hi
      up b = step (λ n e q. record { steps = n; enough = omega arith; same = q ∙ probe_up set size g n lo hi h w b })

      pub hit : second_glyph set size (middle lo hi) ≤ g → g ≤ second_glyph set size (middle lo hi) → all ≡ Ok (pair_value_record size (middle lo hi))
      hit a b = step (λ n e q. q ∙ probe_hit set size g n lo hi h w a b)
