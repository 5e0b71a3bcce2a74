-- The clusters are looked at one by one. Assumes nothing.
use mathlib.Core.List.{[]}
use mathlib.Core.Path.{◌≡◌, ap, ◌∙◌}
use native.Mathlib.Nat.{mul-div_cancel}
use native.Mathlib.Omega.{arith}
use Prim.Native.Nat.{ℕ, ◌<◌, ◌/◌}
use borrow.Author.Rules.{rules}
use lib.ListN.{length, get_or}
use Rattle.std.specs.Bool.{Decides}
use Rattle.std.specs.Simd.{first_chunks}
use Rattle.slots.specs.Slot.{clustered_size, slot_of}
use Rattle.moves.proofs.MoveLaws.{numbered_chunks}
use Rattle.moves.proofs.is_numbered.Goals as goal

pub returns : goal.returns
returns c =
    let line = c.args.line.now in
    let qs = c.as_chunks.result.0.now in
    let many : length line / clustered_size ≡ c.args.n = rw c.requires.whole (mul-div_cancel c.args.n (omega arith)) in
    let each : Decides c.all.result ((i : ℕ) → i < length qs → (slot_of (get_or qs i [])).cluster ≡ i) = search rules in
    numbered_chunks clustered_size c.args.n line qs c.all.result
    (c.as_chunks.ensures.front ∙ ap (λ (n : ℕ). first_chunks clustered_size n line) many)
    (c.as_chunks.ensures.front_len ∙ many) each
