-- The kinds of a recorded call and their numbers. Assumes nothing.
use Rattle.std.specs.Prelude.{◌≡◌, ℕ, ◌<◌, Bool, true, false, Result, MatchResult}
use Rattle.recorded.specs.declared.kind.Kind.{Kind}
use Rattle.recorded.specs.declared.kind.Kind.TheVariants.{Start, Finish, Single, Pair, Cursive, MarkBase, MarkLigature, MarkMark, ToClusters, FromClusters}
use Rattle.recorded.specs.declared.kind.UnknownKind.{UnknownKind}

-- the number of each kind
abbrev pub kind_number : Kind → ℕ
kind_number Start = 0
kind_number Finish = 1
kind_number Single = 2
kind_number Pair = 3
kind_number Cursive = 4
kind_number MarkBase = 5
kind_number MarkLigature = 6
kind_number MarkMark = 7
kind_number ToClusters = 8
kind_number FromClusters = 9

-- is it a move? The others are calls on one line
abbrev pub is_move : Kind → Bool
is_move ToClusters = true
is_move FromClusters = true
is_move Start = false
is_move Finish = false
is_move Single = false
is_move Pair = false
is_move Cursive = false
is_move MarkBase = false
is_move MarkLigature = false
is_move MarkMark = false

-- the kind that has this number; from 10 up there is none
abbrev pub IsNamedBy : ℕ → Result Kind UnknownKind → Type 0
IsNamedBy n r = MatchResult r (λ k. kind_number k ≡ n) (λ e. (e.0 ≡ n) × (9 < n))
