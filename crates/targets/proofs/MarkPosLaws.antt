-- What the check of a mark subtable says of its bytes. Assumes nothing.
use mathlib.Core.Path.{◌≡◌}
use mathlib.Core.Bool.{true}
use mathlib.Core.List.{List}
use Prim.Native.Nat.{ℕ, ◌≤◌}
use lib.ListN.{length}
use Rattle.ints.proofs.TestLaws.{and_left, and_right}
use Rattle.tables.specs.Coverage.{coverage_good_at}
use Rattle.tables.proofs.HeaderLaws.{one_format}
use Rattle.targets.specs.MarkPos.{base_coverage_offset, header_bytes, mark_coverage_offset, marks_good}

-- what the check of a subtable says: its header is there, and both coverages are good
pub record Good (t : List ℕ) : Type 0 where
  pub header : header_bytes ≤ length t
  pub marks_good_lem : coverage_good_at t (mark_coverage_offset t) ≡ true
  pub bases_good : coverage_good_at t (base_coverage_offset t) ≡ true

pub good : (t : List ℕ) → marks_good t ≡ true → Good t
unfolding marks_good
good t e =
    let f = one_format header_bytes t _ e in
    record { header = f.header; marks_good_lem = and_left _ _ f.others; bases_good = and_right (coverage_good_at t (mark_coverage_offset t)) _ f.others }
