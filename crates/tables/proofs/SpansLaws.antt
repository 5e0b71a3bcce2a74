-- Laws of lists of spans: what an ascending list says of its spans, where the first span that holds a glyph lies, and the law of the search:
-- by halves one finds what the plain reading finds. Assumes nothing.
use Rattle.std.specs.Prelude.{if◌then◌else◌}
use mathlib.Core.Path.{◌≡◌, refl, sym, ap, subst}
use mathlib.Core.Logic.{◌⊎◌, inl, inr, ⊎_elim}
use mathlib.Core.Bool.{Bool, true, false, ◌&&◌}
use mathlib.Core.List.{◌∷◌}
use Prim.Native.Nat.{ℕ, zero, suc, ◌+◌, ◌-◌, ◌*◌, ◌≤◌, ◌<◌}
use native.Mathlib.Decide.{dec_le}
use native.Mathlib.Nat.{add-zero, eq-or-lt_of_le, lt_of_not-le, mul-le-mul_left, mul-suc}
use native.Mathlib.Numerals.{add-one}
use native.Mathlib.Omega.{arith}
use lib.Dec.{leb}
use borrow.Author.Tests.{le-leb, leb-true, lt-leb}
use Rattle.ints.proofs.TestLaws.{and_left, and_right}
use Rattle.tables.specs.Spans.{Span, ascends, first_holding, holds, spans_from}

-- ---- rows of an array
-- a row before the last ends within the rows
pub row_in : (d k n : ℕ) → k < n → d * k + d ≤ d * n
row_in d k n h = subst (λ (m : ℕ). m ≤ d * n) (mul-suc d k) (mul-le-mul_left d h)

-- ---- one number is below another, or not
pub side : (i m : ℕ) → (i < m) ⊎ (m ≤ i)
side i m = go (dec_le m i)
  where
    go : Dec (m ≤ i) → (i < m) ⊎ (m ≤ i)
    go (yes h) = inr h
    go (no h) = inl (lt_of_not-le h)

-- ---- ascending lists
-- the spans from k on, of n in all, taken one off
pub spans_step : (f : ℕ → Span) (k n : ℕ) → k < n → spans_from f k (n - k) ≡ f k ∷ spans_from f (k + 1) (n - (k + 1))
unfolding spans_from
spans_step f k n h =
    let e : n - k ≡ suc (n - (k + 1)) = omega arith in
    rw (e, add-one k)

-- the test of the spans from k on, by the ends of span k: it goes on above the last glyph, or fails
module _ (f : ℕ → Span) (b k n : ℕ) (h : k < n) {first last : ℕ} (p : first ≡ (f k).first) (q : last ≡ (f k).last) where
  pub ascends_on : b ≤ first → first ≤ last → ascends b (spans_from f k (n - k)) ≡ ascends (last + 1) (spans_from f (k + 1) (n - (k + 1)))
  unfolding ascends
  ascends_on l m = simp (spans_step f k n h, ← p, ← q, le-leb b first l, le-leb first last m)

  pub ascends_off : (first < b) ⊎ (b ≤ first × last < first) → ascends b (spans_from f k (n - k)) ≡ false
  unfolding ascends
  ascends_off (inl l) = simp (spans_step f k n h, ← p, lt-leb b first l)
  ascends_off (inr (l, m)) = simp (spans_step f k n h, ← p, ← q, le-leb b first l, lt-leb first last m)

-- a list that ascends from b, by its members, which have the numbers from k to k + n
pub record Apart (f : ℕ → Span) (b k n : ℕ) : Type 0 where
  pub low : (j : ℕ) → k ≤ j → j < k + n → b ≤ (f j).first
  pub fair : (j : ℕ) → k ≤ j → j < k + n → (f j).first ≤ (f j).last
  pub apart : (i j : ℕ) → k ≤ i → i < j → j < k + n → (f i).last < (f j).first

pub ascends_apart : (f : ℕ → Span) (n b k : ℕ) → ascends b (spans_from f k n) ≡ true → Apart f b k n
unfolding ascends spans_from
ascends_apart f zero b k e = record {
  low = λ j h l. absurd (omega arith);
  fair = λ j h l. absurd (omega arith);
  apart = λ i j h m l. absurd (omega arith);
}
ascends_apart f (suc n) b k e =
    let e1 = leb-true b (f k).first (and_left _ _ e) in
    let e2 = and_right (leb b (f k).first) _ e in
    let e3 = leb-true (f k).first (f k).last (and_left _ _ e2) in
    let rest = ascends_apart f n ((f k).last + 1) (suc k) (and_right (leb (f k).first (f k).last) _ e2) in
    record {
      low = λ j h l. ⊎_elim (λ q. subst (λ (m : ℕ). b ≤ (f m).first) q e1) (λ q. omega (arith, rest.low j q (omega arith))) (eq-or-lt_of_le h);
      fair = λ j h l. ⊎_elim (λ q. subst (λ (m : ℕ). (f m).first ≤ (f m).last) q e3) (λ q. rest.fair j q (omega arith)) (eq-or-lt_of_le h);
      apart = λ i j h m l.
          ⊎_elim (λ q. subst (λ (x : ℕ). (f x).last < (f j).first) q (omega (arith, rest.low j (omega arith) (omega arith))))
          (λ q. rest.apart i j q m (omega arith)) (eq-or-lt_of_le h);
    }

-- ---- the plain reading: the first span that holds the glyph
holds_in : (p : Span) (g : ℕ) → p.first ≤ g → g ≤ p.last → holds p g ≡ true
holds_in p g h l = simp (le-leb p.first g h, le-leb g p.last l)

holds_past : (p : Span) (g : ℕ) → p.last < g → holds p g ≡ false
holds_past p g h = go (leb p.first g)
  where
    go : (a : Bool) → a && leb g p.last ≡ false
    go true = lt-leb g p.last h
    go false = refl

holds_under : (p : Span) (g : ℕ) → g < p.first → holds p g ≡ false
holds_under p g h = simp (lt-leb p.first g h)

-- span k + j is the first that holds the glyph
first_at : (f : ℕ → Span) (g n k j : ℕ) → j < n → ((i : ℕ) → k ≤ i → i < k + j → holds (f i) g ≡ false) → holds (f (k + j)) g ≡ true
    → first_holding (spans_from f k n) g ≡ j
unfolding first_holding spans_from
first_at f g zero k j h none here = absurd (omega arith)
first_at f g (suc n) k zero h none here =
    let e : holds (f k) g ≡ true = rw add-zero at here in
    rw e
first_at f g (suc n) k (suc j) h none here =
    let e : holds (f k) g ≡ false = none k (omega arith) (omega arith) in
    let q : k + suc j ≡ suc k + j = omega arith in
    rw e (ap suc (first_at f g n (suc k) j (omega arith) (λ i a b. none i (omega arith) (omega arith)) (rw q at here)))

first_none : (f : ℕ → Span) (g n k : ℕ) → ((i : ℕ) → k ≤ i → i < k + n → holds (f i) g ≡ false) → first_holding (spans_from f k n) g ≡ n
unfolding first_holding spans_from
first_none f g zero k none = refl
first_none f g (suc n) k none =
    let e : holds (f k) g ≡ false = none k (omega arith) (omega arith) in
    rw e (ap suc (first_none f g n (suc k) (λ i a b. none i (omega arith) (omega arith))))

-- the span that the plain reading finds holds the glyph, so it starts at the glyph or below
first_holds : (f : ℕ → Span) (g n k : ℕ) → first_holding (spans_from f k n) g < n → holds (f (k + first_holding (spans_from f k n) g)) g ≡ true
unfolding first_holding spans_from
first_holds f g zero k h = absurd (omega arith)
first_holds f g (suc n) k h = go (holds (f k) g) refl h (first_holds f g n (suc k))
  where
    go : (b : Bool) → holds (f k) g ≡ b → (if b then 0 else suc (first_holding (spans_from f (suc k) n) g)) < suc n
        → (first_holding (spans_from f (suc k) n) g < n → holds (f (suc k + first_holding (spans_from f (suc k) n) g)) g ≡ true)
        → holds (f (k + (if b then 0 else suc (first_holding (spans_from f (suc k) n) g)))) g ≡ true
    go true e l ih = rw add-zero e
    go false e l ih =
        let q : k + suc (first_holding (spans_from f (suc k) n) g) ≡ suc k + first_holding (spans_from f (suc k) n) g = omega arith in
        rw q (ih (omega arith))

pub found_starts : (f : ℕ → Span) (g n r : ℕ) → r ≡ first_holding (spans_from f 0 n) g → r < n → (f r).first ≤ g
found_starts f g n r e h =
    let z : 0 + first_holding (spans_from f 0 n) g ≡ r = omega arith in
    let w : holds (f r) g ≡ true = rw z at (first_holds f g n 0 (omega arith)) in
    leb-true (f r).first g (and_left _ _ w)

-- ---- the search by halves
-- the glyph lies between lo and hi: the spans before lo end below it, and those from hi on start above it
pub record Between (f : ℕ → Span) (n g lo hi : ℕ) : Type 0 where
  pub lo_le : lo ≤ hi
  pub hi_le : hi ≤ n
  pub below : (k : ℕ) → k < lo → (f k).last < g
  pub above : (k : ℕ) → hi ≤ k → k < n → g < (f k).first

-- at the start that is all the spans
pub at_start : (f : ℕ → Span) (n g : ℕ) → Between f n g 0 n
at_start f n g = record {
  lo_le = omega arith;
  hi_le = omega arith;
  below = λ k h. absurd (omega arith);
  above = λ k h l. absurd (omega arith);
}

-- a look at one span in between leaves those above it, or those below
module _ (f : ℕ → Span) (n g lo hi : ℕ) (a : Apart f 0 0 n) (b : Between f n g lo hi) (m : ℕ) where
  pub go_up : lo ≤ m → m < hi → (f m).last < g → Between f n g (m + 1) hi
  go_up h l e =
      let hn = b.hi_le in
      record {
        lo_le = omega arith;
        hi_le = hn;
        below = λ k q. ⊎_elim (λ w. subst (λ (x : ℕ). (f x).last < g) (sym w) e)
            (λ w. omega (arith, a.apart k m (omega arith) w (omega arith), a.fair m (omega arith) (omega arith)))
            (eq-or-lt_of_le (let z : k ≤ m = omega arith in z));
        above = b.above;
      }

  pub go_down : lo ≤ m → m < hi → g < (f m).first → Between f n g lo m
  go_down h l e =
      let hn = b.hi_le in
      record {
        lo_le = h;
        hi_le = omega arith;
        below = b.below;
        above = λ k q w. ⊎_elim (λ z. subst (λ (x : ℕ). g < (f x).first) z e)
            (λ z. omega (arith, a.apart m k (omega arith) z (omega arith), a.fair m (omega arith) (omega arith)))
            (eq-or-lt_of_le q);
      }

-- how the search ends: at a span that holds the glyph, or with nothing left in between, and then it answers the number of spans
pub data Ends (f : ℕ → Span) (n g : ℕ) : ℕ → Type 0 where
  here : {m : ℕ} → m < n → (f m).first ≤ g → g ≤ (f m).last → Ends f n g m
  nowhere : {lo hi : ℕ} → Between f n g lo hi → hi ≤ lo → Ends f n g n

-- The law of the search: in an ascending list the search by halves ends with what the plain reading finds.
pub halves_find : (f : ℕ → Span) (n g r : ℕ) → ascends 0 (spans_from f 0 n) ≡ true → Ends f n g r → r ≡ first_holding (spans_from f 0 n) g
halves_find f n g r up (here h l u) =
    let a = ascends_apart f n 0 0 up in
    sym (first_at f g n 0 r h
    (λ i p q. holds_past (f i) g (omega (arith, a.apart i r (omega arith) (omega arith) (omega arith))))
    (let e : 0 + r ≡ r = omega arith in rw e (holds_in (f r) g l u)))
halves_find f n g r up (nowhere {lo} {hi} b h) =
    sym (first_none f g n 0 (λ i p q.
    ⊎_elim (λ (w : i < hi). holds_past (f i) g (b.below i (omega arith))) (λ (w : hi ≤ i). holds_under (f i) g (b.above i w (omega arith)))
    (side i hi)))
