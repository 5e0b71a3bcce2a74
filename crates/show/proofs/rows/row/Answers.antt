-- Five numbers one after the other, each where the one before it ended. Assumes nothing.
use native.Mathlib.Omega.{arith}
use Rattle.show.specs.Text.{end, then}
use Rattle.show.proofs.TextLaws.{low, grown_by}
use Rattle.show.proofs.rows.row.Goals as goal

pub returns : goal.returns
returns c =
    let p1 = c.put-a in
    let p2 = c.put-b in
    let p3 = c.put-c in
    let p4 = c.put-d in
    let p5 = c.put in
    let g1 = c.get-x in
    let g2 = c.get-y in
    let g3 = c.get-to_x in
    let g4 = c.get-to_y in (
      omega (arith, p1.ensures.0, p2.ensures.0, p3.ensures.0, p4.ensures.0, p5.ensures.0),
      then (grown_by (low c.args.i c.requires.1) p1.ensures.1)
          (then (grown_by g1.ensures p2.ensures.1)
          (then (grown_by g2.ensures p3.ensures.1)
          (then (grown_by g3.ensures p4.ensures.1)
          (then (grown_by g4.ensures p5.ensures.1) end)))),
    )
