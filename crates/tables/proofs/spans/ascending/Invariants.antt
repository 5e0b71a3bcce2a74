-- `tables::spans::ascending` meets its contract. The loop's invariant: what is asked of all spans is what is asked of those that are left, from
-- the bound on. Assumes nothing.
use mathlib.Core.Path.{◌≡◌}
use Prim.Native.Nat.{◌-◌, ◌≤◌}
use Rattle.tables.specs.Spans.{ascends, spans_from, span_at}
use Rattle.tables.proofs.spans.ascending.Given as goal

abbrev pub invariant-loop-k : goal.invariant-loop-k
invariant-loop-k l =
    (l.bound ≤ 65536)
    × (ascends 0 (spans_from (span_at l.t l.stride l.over) 0 l.count) ≡ ascends l.bound (spans_from (span_at l.t l.stride l.over) l.k (l.count - l.k)))
