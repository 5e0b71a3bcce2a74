-- No call but a move looks at a cluster or writes one: of every call, and what follows for lines with clusters and without. Assumes nothing.
use mathlib.Core.Path.{◌≡◌, refl, sym, ap, ◌∙◌}
use mathlib.Core.Bool.{Bool, true, false, not}
use mathlib.Core.List.{List, [], ◌∷◌}
use Prim.Native.Nat.{ℕ}
use lib.Dec.{leb, ltb}
use lib.ListN.{length, length-map, replicate}
use Rattle.ints.specs.BigEndian.{AllBytes}
use Rattle.slots.specs.Axis.{cross, direction_of}
use Rattle.slots.specs.Checks.{bad_line}
use Rattle.slots.specs.theorems.Clusters.{Blind, clusters, KeepsClusters, plain_line, plain_n}
use Rattle.slots.specs.theorems.Identity.{identities}
use Rattle.slots.specs.Line.{bytes, count, line_slots, slot, slots, slots_n}
use Rattle.slots.specs.Slot.{clustered_size, known, Slot, slot_size}
use Rattle.slots.specs.declared.axis.Direction.{Direction}
use Rattle.theorems.proofs.ClusterLaws.{blind_as, clusters_kept, glyph_blind, keeps_by, length_blind, range_blind, started_keeps}
use Rattle.slots.proofs.LineLaws.{count_bytes, known_size, slots_storable}
use Rattle.start.specs.Start.{unattached}
use Rattle.theorems.proofs.PlainLaws.{bytes_without, clusters_read, plain_bytes_lem, plain_good, plain_slots}
use Rattle.single.specs.SinglePos.{adjusted, adjust_said, place_for, single_good}
use Rattle.theorems.proofs.SingleClusters as single
use Rattle.pair.specs.Adjustment.{plan_said as pair_said, planned as pair_planned}
use Rattle.pair.specs.PairPos.{pair_good}
use Rattle.pair.specs.Plan.{plan_of as pair_plan}
use Rattle.theorems.proofs.PairClusters as pair
use Rattle.cursive.specs.CursivePos.{cursive_good, plan_of as cursive_plan, plan_said as cursive_said}
use Rattle.cursive.specs.Attachment.{planned as cursive_planned}
use Rattle.theorems.proofs.CursiveClusters as cursive
use Rattle.targets.specs.MarkPos.{marks_good}
use Rattle.targets.specs.declared.place.Way.{Way}
use Rattle.marks.specs.Plan.{plan_of as mark_plan, plan_said as mark_said}
use Rattle.marks.specs.Attachment.{planned as mark_planned}
use Rattle.theorems.proofs.MarkClusters as marks
use Rattle.theorems.proofs.FinishClusters as finish
use Rattle.finish_rules.proofs.SettledLaws.{finished_count}
use Rattle.answers.specs.Outcome.{answer_to, Call, line_after, Made}
use Rattle.answers.specs.Said.{Said, applied, declined, done, refused, unless}
use Rattle.answers.specs.declared.Neighbour.{Neighbour}
use Rattle.checks.specs.Neighbours.{bad_place, bad_previous, bad_second}
use Rattle.checks.specs.Arguments.{applying_tests}
use Rattle.lookup.proofs.IdentityLaws.{same_length}
use Rattle.lookup.proofs.KeptCursive.{cursive_kept}
use Rattle.lookup.proofs.KeptMarks.{mark_kept}
use Rattle.lookup.proofs.KeptValues.{pair_kept, single_kept}
use Rattle.theorems.specs.Clusters.{Apart, Same}
use Rattle.gpos.specs.Starting.{start}
use Rattle.gpos.specs.Finishing.{finish as finish_call}
use Rattle.gpos.specs.SinglePos.{single as single_call}
use Rattle.gpos.specs.PairPos.{pair as pair_call}
use Rattle.gpos.specs.CursivePos.{cursive as cursive_call}
use Rattle.gpos.specs.MarkPos.{beside_of, mark as mark_call}

-- ---- each call
pub start_apart : Apart start
start_apart = record { blind = λ cs ss. ap (λ (b : Bool). unless ((b, 4) ∷ []) done) (range_blind cs ss); keeps = started_keeps; as_many = λ ss. length-map ss unattached }

pub finish_apart : (direction limit : ℕ) (flag : Bool) → Apart (finish_call direction limit flag)
finish_apart direction limit flag =
    record {
      blind = λ cs ss. ap (λ (b : Bool). unless ((ltb 3 direction, 2) ∷ (ltb 64 limit, 3) ∷ (b, 4) ∷ []) done) (range_blind cs ss);
      keeps = finish.finished_keeps (direction_of direction) limit flag;
      as_many = λ ss. finished_count (direction_of direction) ss limit flag;
    }

module _ (t : List ℕ) (direction s u i : ℕ) where
  abbrev d : Direction
  d = direction_of direction

  -- An applying call, whose index is judged by the number of slots alone: what it says and leaves goes by what it reads
  -- of the slots, and changes nothing of what they are.
  applying_apart : {A : Type 0} (bad : ℕ → Bool) (bad_subtable : Bool) (read : List Slot → A) → Blind read → (says : A → Said)
      (leaves : A → List Slot → List Slot) → ((a : A) → KeepsClusters (leaves a)) → ((ss : List Slot) → identities (leaves (read ss) ss) ≡ identities ss)
      → Apart (record { says = λ ss. unless (applying_tests ss direction s u (bad (length ss)) bad_subtable) (says (read ss)); leaves = λ ss. leaves (read ss) ss })
  applying_apart bad bad_subtable read b says leaves k same =
      record {
        blind = λ cs ss. rw (range_blind cs ss, length_blind cs ss, b cs ss);
        keeps = keeps_by b leaves k;
        as_many = λ ss. same_length (leaves (read ss) ss) ss (same ss);
      }

  pub single_apart : Apart (single_call t direction s u i)
  single_apart =
      applying_apart (λ n. leb n i) (not (single_good t)) (λ ss. place_for t (slot ss i).glyph) (blind_as (glyph_blind i) (place_for t))
      (adjust_said i) (adjusted s u d t i) (single.adjusted_keeps s u d t i) (single_kept t d s u i)

  pub pair_apart : (second : Neighbour) → Apart (pair_call t direction s u i second)
  pair_apart second =
      applying_apart (λ n. bad_second n i second) (not (pair_good t)) (λ ss. pair_plan t ss i second) (pair.plan_blind t i second)
      (pair_said d t i) (pair_planned s u d t i) (pair.planned_keeps s u d t i) (pair_kept t d s u i second)

  pub cursive_apart : (previous : Neighbour) (flag : ℕ) → Apart (cursive_call t direction s u i previous flag)
  cursive_apart previous flag =
      applying_apart (λ n. bad_previous n i previous) (not (cursive_good t)) (λ ss. cursive_plan t ss i previous) (cursive.plan_blind t i previous)
      (cursive_said i) (cursive_planned s u d flag i) (cursive.planned_keeps s u d flag i) (cursive_kept t d s u i previous flag)

  pub mark_apart : (way : Way) → Apart (mark_call way t direction s u i)
  mark_apart way =
      applying_apart (λ n. bad_place n i (beside_of way)) (not (marks_good t)) (λ ss. mark_plan way (cross d) t ss i) (marks.plan_blind way (cross d) t i)
      (mark_said i) (mark_planned s u d i) (marks.planned_keeps s u d i) (mark_kept way t d s u i)

-- ---- what follows, for any of them
-- what holds of the line, and of the bytes of the slots that a call leaves, holds of the line afterwards
pub of_line : (P : List ℕ → Type 0) (c : Call) (z : ℕ) (l : List ℕ) → P l → (known z ≡ true → P (bytes z (c.leaves (line_slots z l))))
    → P (line_after z (answer_to c z l) l (c.leaves (line_slots z l)))
of_line P c z l same left = go (bad_line z l) refl
  where
    by_said : P (bytes z (c.leaves (line_slots z l))) → (s : Said) → P (line_after z s l (c.leaves (line_slots z l)))
    by_said p (applied n hs a) = p
    by_said p done = p
    by_said p (declined hs) = same
    by_said p (refused n) = same

    go : (bad : Bool) → bad_line z l ≡ bad → P (line_after z (unless ((bad, 1) ∷ []) (c.says (line_slots z l))) l (c.leaves (line_slots z l)))
    go true e = same
    go false e = by_said (left (known_size z l e)) (c.says (line_slots z l))

module _ (c : Call) (apart : Apart c) where
  -- no call writes a cluster, in lines of slots of either size, whatever it says
  pub clusters_stay : (z : ℕ) (l : List ℕ) (r : Said) (l' : List ℕ) → AllBytes l → Made c z l r l' → clusters (line_slots z l') ≡ clusters (line_slots z l)
  unfolding slots
  clusters_stay z l r l' b o =
      let ss = line_slots z l in
      let new = c.leaves ss in
      let same : clusters new ≡ clusters ss = clusters_kept c.leaves apart.keeps ss (apart.as_many ss) in
      rw o.line
      (of_line (λ (m : List ℕ). clusters (line_slots z m) ≡ clusters ss) c z l refl
      (λ k. ap (λ (n : ℕ). clusters (slots_n z n (bytes z new))) (count_bytes z k new) ∙ clusters_read z k new ss (slots_storable z k l b) same ∙ same))

  -- on a line that isn't refused with 1, whatever its clusters, it does what it does on the line of the old 24 bytes, and keeps every cluster
  pub same_without : (l : List ℕ) (r : Said) (l' : List ℕ) (q : Said) (m' : List ℕ) → AllBytes l → bad_line clustered_size l ≡ false
      → Made c clustered_size l r l' → Made c slot_size (plain_line l) q m' → Same l r l' q m'
  same_without l r l' q m' b good o p =
      record {
        says_same = o.answer ∙ says ∙ sym p.answer;
        line_same = p.line ∙ line ∙ ap plain_line (sym o.line);
        clusters_same = clusters_stay clustered_size l r l' b o;
      }
    where
      ss : List Slot
      ss = line_slots clustered_size l

      new : List Slot
      new = c.leaves ss

      cs : List ℕ
      cs = replicate (count clustered_size l) 0

      with : answer_to c clustered_size l ≡ c.says ss
      with = rw good

      without : answer_to c slot_size (plain_line l) ≡ c.says ss
      without = rw (plain_good l good, plain_slots l good) (apart.blind cs ss)

      says : answer_to c clustered_size l ≡ answer_to c slot_size (plain_line l)
      says = with ∙ sym without

      changed : bytes slot_size (c.leaves (line_slots slot_size (plain_line l))) ≡ plain_line (bytes clustered_size new)
      changed =
          ap (λ (x : List Slot). bytes slot_size (c.leaves x)) (plain_slots l good) ∙ ap (bytes slot_size) (apart.keeps cs ss) ∙ bytes_without cs new
          ∙ sym (plain_bytes_lem new) ∙ ap (λ (n : ℕ). plain_n n (bytes clustered_size new)) (sym (count_bytes clustered_size refl new))

      by_said : (s : Said) → line_after slot_size s (plain_line l) (c.leaves (line_slots slot_size (plain_line l))) ≡ plain_line (line_after clustered_size s l new)
      by_said (applied n hs a) = changed
      by_said done = changed
      by_said (declined hs) = refl
      by_said (refused n) = refl

      line : line_after slot_size (answer_to c slot_size (plain_line l)) (plain_line l) (c.leaves (line_slots slot_size (plain_line l)))
          ≡ plain_line (line_after clustered_size (answer_to c clustered_size l) l new)
      line = rw (with, without) (by_said (c.says ss))
