-- What the probe means: in a pair set that is whole and ascends, by halves one finds what the plain reading finds. Assumes nothing.
use Rattle.std.specs.Prelude.{None, Option, Some, Result, Ok, Err}
use Rattle.std.specs.Option.{ok_or}
use Rattle.std.specs.Result.{result_ok}
use mathlib.Core.Path.{◌≡◌, refl, sym, ap, ◌∙◌}
use mathlib.Core.Logic.{⊎_elim}
use mathlib.Core.Bool.{true}
use mathlib.Core.List.{List}
use Prim.Native.Nat.{ℕ, zero, suc, ◌+◌, ◌*◌, ◌≤◌, ◌<◌}
use native.Mathlib.Nat.{add-zero}
use native.Mathlib.Omega.{arith}
use lib.Dec.{leb}
use lib.ListN.{length}
use borrow.Author.Tests.{eq-eqb, leb-true, ne_eqb}
use Rattle.ints.specs.BigEndian.{nat_at}
use Rattle.ints.proofs.TestLaws.{and_right}
use Rattle.tables.specs.Spans.{Span}
use Rattle.tables.proofs.SpansLaws.{Apart, Between, at_start, go_down, go_up, row_in, side}
use Rattle.pair.specs.theorems.PlainReading.{Ascending, first_with, plain, whole}
use Rattle.pair.specs.PairSet.{middle, probe, probe_in, pair_value_record, second_glyph}
use Rattle.pair.specs.declared.pair_set.Missed.{Missed}
use Rattle.pair.specs.declared.pair_set.Missed.TheVariants.{Nothing}
use Rattle.pair.proofs.PairSetLaws.{probe_down, probe_hit, probe_over, probe_up}

-- a probe that nothing cuts says so where there is nothing
abbrev pub told : Option ℕ → Result ℕ Missed
told o = ok_or o Nothing

told_back : (o : Option ℕ) → result_ok (told o) ≡ o
told_back (Some at) = refl
told_back None = refl

module _ (set : List ℕ) (size g : ℕ) where
  -- ---- the plain reading of the n records from k on: record k + j is the first that has the glyph, or none has it
  first_at : (n k j : ℕ) → j < n → ((i : ℕ) → k ≤ i → i < k + j → second_glyph set size i ≡ g → ⊥) → second_glyph set size (k + j) ≡ g
      → first_with set size g k n ≡ Some (pair_value_record size (k + j))
  unfolding first_with
  first_at zero k j h before here = absurd (omega arith)
  first_at (suc n) k zero h before here =
      let e : second_glyph set size k ≡ g = rw add-zero at here in
      rw (add-zero, eq-eqb (second_glyph set size k) g e)
  first_at (suc n) k (suc j) h before here =
      let e = ne_eqb (second_glyph set size k) g (before k (omega arith) (omega arith)) in
      let q : k + suc j ≡ suc k + j = omega arith in
      rw (e, q) (first_at n (suc k) j (omega arith) (λ i a b. before i (omega arith) (omega arith)) (rw q at here))

  first_none : (n k : ℕ) → ((i : ℕ) → k ≤ i → i < k + n → second_glyph set size i ≡ g → ⊥) → first_with set size g k n ≡ None
  unfolding first_with
  first_none zero k before = refl
  first_none (suc n) k before =
      let e = ne_eqb (second_glyph set size k) g (before k (omega arith) (omega arith)) in
      rw e (first_none n (suc k) (λ i a b. before i (omega arith) (omega arith)))

  -- ---- the probe of n records, as a search by halves of spans of one glyph each
  abbrev span_of : ℕ → Span
  span_of k = record { first = second_glyph set size k; last = second_glyph set size k }

  module _ (n : ℕ) (up : (i j : ℕ) → i < j → j < n → second_glyph set size i < second_glyph set size j) where
    apart : Apart span_of 0 0 n
    apart = record { low = λ j h l. omega arith; fair = λ j h l. omega arith; apart = λ i j h l m. up i j l (omega arith) }

    -- nothing is left in between
    nowhere : (lo hi : ℕ) → Between span_of n g lo hi → hi ≤ lo → Err Nothing ≡ told (first_with set size g 0 n)
    nowhere lo hi b h =
        sym (ap told (first_none n 0 (λ i p q e.
        ⊎_elim (λ (w : i < hi). omega (arith, b.below i (omega arith))) (λ (w : hi ≤ i). omega (arith, b.above i w (omega arith)))
        (side i hi))))

    -- record m has the glyph
    here : (m : ℕ) → m < n → second_glyph set size m ≤ g → g ≤ second_glyph set size m → Ok (pair_value_record size m) ≡ told (first_with set size g 0 n)
    here m h a b =
        let z : 0 + m ≡ m = omega arith in
        let e : second_glyph set size (0 + m) ≡ g = rw z (omega arith) in
        sym (ap told (rw z at (first_at n 0 m h (λ i p q w. omega (arith, up i m (omega arith) h)) e)))

    means : 2 + size * n ≤ length set → 2 ≤ size → (steps lo hi : ℕ) → hi ≤ lo + steps → Between span_of n g lo hi
        → probe_in steps set size g lo hi ≡ told (first_with set size g 0 n)
    means fits wide zero lo hi h b = rw (probe_over set size g zero lo hi (omega arith)) (nowhere lo hi b (omega arith))
    means fits wide (suc k) lo hi h b = ⊎_elim
        (λ (l : lo < hi).
        let m = middle lo hi in
        let hn = b.hi_le in
        let mn : m < n = omega arith in
        let w : pair_value_record size m + 2 ≤ length set = omega (arith, row_in size m n mn) in
        ⊎_elim
        (λ (u : g < second_glyph set size m).
        rw (probe_down set size g k lo hi l w u) (means fits wide k lo m (omega arith) (go_down span_of n g lo hi apart b m (omega arith) (omega arith) u)))
        (λ (u : second_glyph set size m ≤ g).
        ⊎_elim
        (λ (v : second_glyph set size m < g).
        rw (probe_up set size g k lo hi l w v) (means fits wide k (m + 1) hi (omega arith) (go_up span_of n g lo hi apart b m (omega arith) (omega arith) v)))
        (λ (v : g ≤ second_glyph set size m). rw (probe_hit set size g k lo hi l w u v) (here m mn u v))
        (side (second_glyph set size m) g))
        (side g (second_glyph set size m)))
        (λ (l : hi ≤ lo). rw (probe_over set size g (suc k) lo hi l) (nowhere lo hi b l))
        (side lo hi)

  -- a record has its second glyph at the least, so its size is 2 or more; the probe isn't cut
  pub probe_told : 2 ≤ size → whole set size ≡ true → Ascending set size → probe set size g ≡ told (plain set size g)
  probe_told wide e up =
      let n = nat_at 2 set 0 in
      means n up (leb-true (2 + size * n) (length set) (and_right (leb 2 (length set)) _ e)) wide n 0 n (omega arith)
      (at_start span_of n g)

  -- it finds what the plain reading finds
  pub probe_means : 2 ≤ size → whole set size ≡ true → Ascending set size → result_ok (probe set size g) ≡ plain set size g
  probe_means wide e up = ap result_ok (probe_told wide e up) ∙ told_back (plain set size g)
