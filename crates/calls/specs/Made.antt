-- What a call that is made by its numbers may answer, and when a recorded one answered the same. Assumes nothing.
use Rattle.std.specs.Prelude.{List, ◌≡◌, ℕ, ◌≤◌, eqb, length, take, if◌then◌else◌}
use Rattle.answers.specs.declared.UpToTwo.TheVariants.{None}
use Rattle.answers.specs.declared.Neighbour.{Neighbour}
use Rattle.gpos.specs.CursivePos.{CursiveCall}
use Rattle.gpos.specs.Finishing.{FinishCall}
use Rattle.gpos.specs.MarkPos.{MarkCall}
use Rattle.gpos.specs.Moving.{ToClustersCall, FromClustersCall}
use Rattle.gpos.specs.PairPos.{PairCall}
use Rattle.gpos.specs.SinglePos.{SingleCall}
use Rattle.gpos.specs.Starting.{StartCall}
use Rattle.targets.specs.declared.mark_pos.Target.TheVariants.{Base, Ligature}
use Rattle.targets.specs.declared.place.Way.TheVariants.{Search, Earlier}
use Rattle.gpos_c.specs.Layout.{done_number, to_c, laid, IsLayoutOf, moved_number, neighbour, set}
use Rattle.gpos_c.specs.declared.layout.CAnswer.{CAnswer}
use Rattle.recorded.specs.Recorded.{afterwards}
use Rattle.recorded.specs.declared.kind.Kind.TheVariants.{Start, Finish, Single, Pair, Cursive, MarkBase, MarkLigature, MarkMark, ToClusters, FromClusters}
use Rattle.recorded.specs.declared.numbers.Call.{Call}
use Rattle.recorded.specs.declared.numbers.Numbers.{Numbers}

-- the neighbour that the numbers name
abbrev pub neighbour_of : Numbers → Neighbour
neighbour_of n = neighbour n.missing n.neighbour

-- the answer of starting, finishing or a move, which is a number, laid out: status 0 where done, else 3, and the number
-- of the refusal
abbrev pub numbered : ℕ → CAnswer
numbered n = laid (if eqb n 0 then 0 else 3) n 0 0 None

-- the call of these numbers may answer a on the line l and the subtable t, with the line l' afterwards. A move has the
-- target as lent in place of the subtable, and the target afterwards in place of the line
pub data Made (n : Numbers) (l t : List ℕ) (a : CAnswer) (l' : List ℕ) : Type 0 where
  start : n.kind ≡ Start → {r : ℕ} → a ≡ numbered r
      → IsLayoutOf done_number (λ d. StartCall n.size l d l') r → Made n l t a l'
  finish : n.kind ≡ Finish → {r : ℕ} → a ≡ numbered r
      → IsLayoutOf done_number (λ d. FinishCall n.size l n.direction n.limit (set n.attachments) d l') r
      → Made n l t a l'
  single : n.kind ≡ Single
      → IsLayoutOf to_c (λ x. SingleCall n.size l t n.direction n.s n.u n.index x l') a → Made n l t a l'
  pair : n.kind ≡ Pair
      → IsLayoutOf to_c (λ x. PairCall n.size l t n.direction n.s n.u n.index (neighbour_of n) x l') a
      → Made n l t a l'
  cursive : n.kind ≡ Cursive
      → IsLayoutOf to_c (λ x. CursiveCall n.size l t n.direction n.s n.u n.index (neighbour_of n)
      n.flag x l') a
      → Made n l t a l'
  mark_base : n.kind ≡ MarkBase
      → IsLayoutOf to_c (λ x. MarkCall (Search Base) n.size l t n.direction n.s n.u n.index x l') a
      → Made n l t a l'
  mark_ligature : n.kind ≡ MarkLigature
      → IsLayoutOf to_c (λ x. MarkCall (Search Ligature) n.size l t n.direction n.s n.u n.index x l') a
      → Made n l t a l'
  mark_mark : n.kind ≡ MarkMark
      → IsLayoutOf to_c (λ x. MarkCall (Earlier (neighbour_of n)) n.size l t n.direction n.s n.u n.index x
      l') a
      → Made n l t a l'
  to_clusters : n.kind ≡ ToClusters → {r : ℕ} → a ≡ numbered r
      → IsLayoutOf moved_number (λ m. ToClustersCall l t m l') r → Made n l t a l'
  from_clusters : n.kind ≡ FromClusters → {r : ℕ} → a ≡ numbered r
      → IsLayoutOf moved_number (λ m. FromClustersCall l t m l') r → Made n l t a l'

-- the call is recorded with an answer that it may give on the line l and the subtable t, with l' afterwards
abbrev pub Replayed : Call → List ℕ → List ℕ → List ℕ → Type 0
Replayed c l t l' = Made c.numbers l t c.answer l'

-- the same in buffers, of which the call has as many bytes as its numbers say
abbrev pub ReplayedIn : Call → List ℕ → List ℕ → List ℕ → Type 0
ReplayedIn c line subtable after =
    let n = c.numbers in
    Replayed c (take n.line line) (take n.subtable subtable) (take (afterwards n n.line n.subtable) after)

-- each buffer has room for its part
pub record Room (n : Numbers) (line subtable after : List ℕ) : Type 0 where
  pub line_fits : n.line ≤ length line
  pub subtable_fits : n.subtable ≤ length subtable
  pub after_fits : afterwards n n.line n.subtable ≤ length after
