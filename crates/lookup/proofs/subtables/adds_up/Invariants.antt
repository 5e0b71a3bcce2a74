-- `lookup::subtables::adds_up` meets its contract: the lengths that are left lack as much to `left` as all do to n. Assumes nothing.
use mathlib.Core.Path.{◌≡◌}
use Prim.Native.Nat.{◌+◌}
use lib.ListN.{drop}
use Rattle.lookup.specs.Subtables.{total}
use Rattle.lookup.proofs.subtables.adds_up.Given as goal

abbrev pub invariant-loop-len : goal.invariant-loop-len
invariant-loop-len l = total (drop l.len-index l.lengths) + l.n ≡ total l.lengths + l.left
