-- The hazards are compared one by one, and a hazard number by number. Assumes nothing.
use mathlib.Core.Path.{◌≡◌}
use mathlib.Core.Bool.{Bool, ◌&&◌}
use lib.Dec.{eqb}
use Rattle.std.proofs.Common.{Decides, rules}
use Rattle.std.specs.Cmp.Lexicographic.{pointwise_decides}
use Rattle.gpos_c.specs.declared.layout.CAnswer.{CAnswer}
use Rattle.records.specs.declared.HazardRecord.{HazardRecord}
use Rattle.recorded.proofs.comparing.is_answer.Goals as goal

one_hazard : (a b : HazardRecord) → Decides (eqb a.kind b.kind && (eqb a.start b.start && eqb a.end b.end)) (a ≡ b)
one_hazard a b = search rules

by_hazards : (a b : CAnswer) (hazards r : Bool) → Decides hazards (a.hazard ≡ b.hazard)
    → r ≡ (eqb a.status b.status && (eqb a.refusal b.refusal && (eqb a.attached b.attached && (eqb a.count b.count && (eqb a.next b.next && hazards)))))
    → Decides r (a ≡ b)
by_hazards a b hazards r h e = search (rules, h.0, h.1)

pub returns : goal.returns
returns c = by_hazards _ _ _ _ (pointwise_decides one_hazard c.args.a.hazard c.args.b.hazard) c.eq.ensures
