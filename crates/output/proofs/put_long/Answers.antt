-- `put_long`: the digits passed are put (Decimals). Assumes nothing.
use Rattle.output.proofs.Decimals.{none_put, digits_room, digit_put, digits_put}
use native.Mathlib.Omega.{arith}
use Rattle.output.proofs.put_long.Goals as goal

pub loop-rest-init : goal.loop-rest-init
loop-rest-init c = let a = c.args in let e = c.digits.ensures in none_put a.n a.at a.out.now _ (omega arith) (omega arith)

pub overflow_sub-i : goal.overflow_sub-i
overflow_sub-i c = let a = c.args in let l = c.loop-rest in let d = digits_room a.n a.at a.out.now l.rest l.i l.out l.invariant in omega arith

pub bounds-out-i : goal.bounds-out-i
bounds-out-i c = let a = c.args in let l = c.loop-rest in let d = digits_room a.n a.at a.out.now l.rest l.i l.out l.invariant in omega arith

pub loop-rest-preserved : goal.loop-rest-preserved
loop-rest-preserved c = let a = c.args in let l = c.loop-rest in digit_put a.n a.at a.out.now l.rest l.i l.out l.invariant c.loop-rest-test.true

pub returns : goal.returns
returns c =
    let a = c.args in
    let l = c.loop-rest in
    let e = c.digits.ensures in
    (digits_put a.n a.at a.out.now l.rest l.i l.out l.invariant c.loop-rest-test.false, omega arith)
