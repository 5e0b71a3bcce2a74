-- There and back, either way, changes no byte: the second move is done, and what it leaves is the line that the first one moved. Assumes nothing.
use Rattle.std.specs.Prelude.{Ok, Result}
use mathlib.Core.Path.{◌≡◌, refl, sym, ap, ◌∙◌, subst}
use mathlib.Core.Bool.{Bool, false, not, ◌||◌}
use mathlib.Core.List.{List, [], ◌∷◌, map}
use Prim.Native.Nat.{ℕ, suc, ◌+◌, ◌*◌, ◌%◌, ◌≤◌, ◌<◌}
use native.Mathlib.Omega.{arith}
use borrow.Author.Rules.{rules}
use borrow.Author.Tests.{eq-eqb, le-ltb, not-false}
use lib.Dec.{eqb}
use lib.ListN.{length, replicate}
use Rattle.ints.specs.BigEndian.{AllBytes}
use Rattle.ints.proofs.TestLaws.{or_false}
use Rattle.slots.specs.Checks.{bad_line, most_slots}
use Rattle.slots.specs.Numbered.{is_numbered_from, numbered_from}
use Rattle.slots.specs.theorems.Clusters.{plain_line, plain_n, with_clusters}
use Rattle.slots.specs.Fields.{with_cluster}
use Rattle.slots.specs.theorems.Storable.{AllStorable, Storable}
use Rattle.slots.specs.Line.{bytes, count, line_slots, shape_of}
use Rattle.slots.specs.Slot.{clustered_size, Slot, slot_size}
use Rattle.theorems.proofs.ClusterLaws.{numbered_with, range_blind, up_from}
use Rattle.slots.proofs.LineLaws.{bytes_slots, count_bytes, length_bytes, length_slots, line_short, shapely, slots_bytes, slots_storable}
use Rattle.moves.proofs.MoveLaws.{length_numbered, numbered_again, numbered_is}
use Rattle.theorems.proofs.PlainLaws.{bytes_without, plain_bytes_lem, plain_good, plain_slots}
use Rattle.answers.specs.Outcome.{Call, line_after, Made}
use Rattle.answers.specs.Said.{done, Said}
use Rattle.answers.specs.declared.WiderRefusal.{WiderRefusal}
use Rattle.answers.proofs.SaidLaws.{said_moved_same}
use Rattle.answers.proofs.TestLaws.{clear_first}
use Rattle.checks.specs.Ranges.{bad_slots}
use Rattle.theorems.specs.Clusters.{Apart, Same}
use Rattle.theorems.proofs.Clusters.{same_without}
use Rattle.gpos.specs.Moving.{ToClustersCall, move_said, FromClustersCall}

-- ---- what is known where a move of l, of slots of z bytes, is done
pub record Fine (z : ℕ) (lost : Bool) (l : List ℕ) : Type 0 where
  pub good : bad_line z l ≡ false
  pub ranges : bad_slots (line_slots z l) ≡ false
  pub kept : lost ≡ false

fine : (z y : ℕ) (lost : Bool) (l t : List ℕ) → done ≡ move_said z y lost l t → Fine z lost l
fine z y lost l t e =
    let last : List (Bool × ℕ) = (not (eqb (length t) (count z l * y)) || lost, 10) ∷ [] in
    let one = clear_first (bad_line z l) 1 ((bad_slots (line_slots z l), 4) ∷ last) (sym e) in
    let four = clear_first (bad_slots (line_slots z l)) 4 last one.1 in
    let ten = clear_first (not (eqb (length t) (count z l * y)) || lost) 10 [] four.1 in
    record { good = one.0; ranges = four.0; kept = (or_false (not (eqb (length t) (count z l * y))) lost ten.0).1 }

-- and where it is to be done
says_done : (z y : ℕ) (lost : Bool) (l t : List ℕ) → Fine z lost l → length t ≡ count z l * y → move_said z y lost l t ≡ done
says_done z y lost l t f e = rw (f.good, f.ranges, eq-eqb (length t) (count z l * y) e, f.kept)

-- ---- numbered slots can be held by 28 bytes
-- one slot, with its number for a cluster
clustered : {k : ℕ} {s : Slot} → k < 4294967296 → Storable slot_size s → Storable clustered_size (with_cluster k s)
clustered few h = search (rules, few, h)

numbered_storable : (k : ℕ) (ss : List Slot) → AllStorable slot_size ss → k + length ss ≤ 4294967296 → AllStorable clustered_size (numbered_from k ss)
unfolding AllStorable numbered_from
numbered_storable k [] h n = tt
numbered_storable k (s ∷ ss) h n = (clustered (omega arith) h.0, numbered_storable (suc k) ss h.1 (omega arith))

-- slots with cluster 0
zeros_with : (ss : List Slot) → with_clusters (replicate (length ss) 0) ss ≡ map (with_cluster 0) ss
unfolding with_clusters
zeros_with [] = refl
zeros_with (s ∷ ss) = ap (λ (r : List Slot). with_cluster 0 s ∷ r) (zeros_with ss)

-- ---- what the move to slots with a cluster leaves
module _ (l t t' : List ℕ) (b : AllBytes l) (there : ToClustersCall l t (Ok tt) t') where
  abbrev ss : List Slot
  ss = line_slots slot_size l

  abbrev n : ℕ
  n = count slot_size l

  there_fine : Fine slot_size false l
  there_fine = fine slot_size clustered_size false l t there.answer

  long : length l ≡ n * slot_size
  long = (shapely slot_size l there_fine.good).whole

  many : length ss ≡ n
  many = length_slots (shape_of slot_size l) l

  moved : t' ≡ bytes clustered_size (numbered_from 0 ss)
  moved = there.line ∙ ap (λ (s : Said). line_after clustered_size s t (numbered_from 0 ss)) (sym there.answer)

  length_moved : length t' ≡ n * clustered_size
  length_moved = ap length moved ∙ length_bytes clustered_size refl (numbered_from 0 ss) ∙ ap (λ (k : ℕ). k * clustered_size) (length_numbered 0 ss ∙ many)

  slots_are : line_slots clustered_size t' ≡ numbered_from 0 ss
  slots_are =
      ap (line_slots clustered_size) moved
      ∙ slots_bytes clustered_size refl (numbered_from 0 ss)
      (numbered_storable 0 ss (slots_storable slot_size refl l b) (omega (arith, many, long, line_short slot_size l there_fine.good)))

  -- its slots without their clusters are the line that was moved
  old_bytes : bytes slot_size (numbered_from 0 ss) ≡ l
  old_bytes =
      ap (bytes slot_size) (numbered_with 0 ss) ∙ bytes_without (up_from 0 (length ss)) ss
      ∙ bytes_slots slot_size refl l (shapely slot_size l there_fine.good) b

  -- it is a line of slots with a cluster, whose old bytes are the line that was moved
  pub moved_plain : (bad_line clustered_size t' ≡ false) × (plain_line t' ≡ l)
  moved_plain =
      let none : length t' % clustered_size ≡ 0 = omega (arith, length_moved) in (
        rw (
          eq-eqb (length t' % clustered_size) 0 none,
          le-ltb (most_slots * clustered_size) (length t') (omega (arith, length_moved, long, line_short slot_size l there_fine.good)),
        ),
        ap plain_line moved ∙ ap (λ (k : ℕ). plain_n k (bytes clustered_size (numbered_from 0 ss))) (count_bytes clustered_size refl (numbered_from 0 ss))
            ∙ plain_bytes_lem (numbered_from 0 ss) ∙ old_bytes,
      )

  -- so a call on the moved line does what it does on the old one, and keeps every cluster
  pub same_moved : (c : Call) → Apart c → (r : Said) (k : List ℕ) (q : Said) (m : List ℕ) → AllBytes t' → Made c clustered_size t' r k → Made c slot_size l q m → Same t' r k q m
  same_moved c apart r k q m b' o p =
      same_without c apart t' r k q m b' moved_plain.0 o (subst (λ (x : List ℕ). Made c slot_size x q m) (sym moved_plain.1) p)

  -- and moving it back is done, and gives the same bytes
  pub there_and_back : (u u' : List ℕ) (r : Result (Unit {0}) WiderRefusal) → length u ≡ length l → FromClustersCall t' u r u' → (r ≡ Ok tt) × (u' ≡ l)
  there_and_back u u' r same back = (
    said_moved_same r (Ok tt) (back.answer ∙ says),
    back.line ∙ ap (λ (s : Said). line_after slot_size s u (line_slots clustered_size t')) says ∙ ap (bytes slot_size) slots_are ∙ old_bytes,
  )
    where
      lost : Bool
      lost = not (is_numbered_from 0 (line_slots clustered_size t'))

      back_fine : Fine clustered_size lost t'
      back_fine = record {
        good = moved_plain.0;
        ranges = ap bad_slots (slots_are ∙ numbered_with 0 ss) ∙ range_blind (up_from 0 (length ss)) ss ∙ there_fine.ranges;
        kept = ap (λ (x : List Slot). not (is_numbered_from 0 x)) slots_are ∙ ap not (numbered_is 0 ss);
      }

      says : move_said clustered_size slot_size lost t' u ≡ done
      says = says_done clustered_size slot_size lost t' u back_fine (omega (arith, same, long, length_moved))

-- ---- and the other way: to slots without one, and back
module _ (l t t' u u' : List ℕ) (r : Result (Unit {0}) WiderRefusal) (b : AllBytes l) (same : length u ≡ length l) where
  pub back_and_there : FromClustersCall l t (Ok tt) t' → ToClustersCall t' u r u' → (r ≡ Ok tt) × (u' ≡ l)
  back_and_there back there = (said_moved_same r (Ok tt) (there.answer ∙ says), there.line ∙ ap (λ (s : Said). line_after clustered_size s u (numbered_from 0 (line_slots slot_size t'))) says ∙ bytes_are)
    where
      ss : List Slot
      ss = line_slots clustered_size l

      back_fine : Fine clustered_size (not (is_numbered_from 0 ss)) l
      back_fine = fine clustered_size slot_size (not (is_numbered_from 0 ss)) l t back.answer

      n : ℕ
      n = count clustered_size l

      long : length l ≡ n * clustered_size
      long = (shapely clustered_size l back_fine.good).whole

      many : length ss ≡ n
      many = length_slots (shape_of clustered_size l) l

      own : bytes clustered_size ss ≡ l
      own = bytes_slots clustered_size refl l (shapely clustered_size l back_fine.good) b

      -- what was left is the old bytes of the line
      moved : t' ≡ plain_line l
      moved =
          back.line ∙ ap (λ (s : Said). line_after slot_size s t ss) (sym back.answer) ∙ sym (plain_bytes_lem ss)
          ∙ ap (plain_n (length ss)) own ∙ ap (λ (k : ℕ). plain_n k l) many

      slots_are : line_slots slot_size t' ≡ map (with_cluster 0) ss
      slots_are = ap (line_slots slot_size) moved ∙ plain_slots l back_fine.good ∙ ap (λ (k : ℕ). with_clusters (replicate k 0) ss) (sym many) ∙ zeros_with ss

      good : bad_line slot_size t' ≡ false
      good = ap (bad_line slot_size) moved ∙ plain_good l back_fine.good

      length_moved : length t' ≡ n * slot_size
      length_moved =
          ap length (back.line ∙ ap (λ (s : Said). line_after slot_size s t ss) (sym back.answer))
          ∙ length_bytes slot_size refl ss ∙ ap (λ (k : ℕ). k * slot_size) many

      ranges : bad_slots (line_slots slot_size t') ≡ false
      ranges = ap bad_slots (slots_are ∙ sym (zeros_with ss)) ∙ range_blind (replicate (length ss) 0) ss ∙ back_fine.ranges

      says : move_said slot_size clustered_size false t' u ≡ done
      says = says_done slot_size clustered_size false t' u (record { good = good; ranges = ranges; kept = refl }) (omega (arith, same, long, length_moved))

      bytes_are : bytes clustered_size (numbered_from 0 (line_slots slot_size t')) ≡ l
      bytes_are = ap (λ (x : List Slot). bytes clustered_size (numbered_from 0 x)) slots_are ∙ ap (bytes clustered_size) (numbered_again 0 ss (not-false _ back_fine.kept)) ∙ own
