-- From 0 up the digits are the text; below 0 they stand after the sign. Assumes nothing.
use Prim.Native.Nat.{◌≤◌}
use native.Mathlib.Omega.{arith}
use lib.ListN.{length, length-drop, length-set, length-take}
use Rattle.show.proofs.TextLaws.{after_sign, spelled_high, spelled_low}
use Rattle.show.proofs.numbers.spell.Goals as goal

pub returns-then-v-lt2147483648 : goal.returns-then-v-lt2147483648
returns-then-v-lt2147483648 c =
    let call = c.spell_natural in
    let v = c.args.v in
    (omega arith, spelled_low v call.result _ c.if-v-lt2147483648.true call.ensures.1 call.ensures.2)

pub returns : goal.returns
returns c =
    let a = c.args in
    let l = a.out.now in
    let call = c.spell_natural-2 in
    let k = call.result in
    let ys = call.new.out in
    let room : 10 ≤ length ys = rw call.auto.out (simp (length-take, length-drop, length-set) (omega arith)) in
    (omega arith, spelled_high a.v k _ (omega arith) (omega arith) call.ensures.1 (after_sign l ys _ _ k (omega arith) (omega arith) call.ensures.2))
