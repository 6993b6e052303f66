-- `methods_in_order`: all are in order exactly where those left are (Passing). Assumes nothing.
use mathlib.Core.Path.{refl}
use native.Mathlib.Omega.{arith}
use Rattle.tidying.proofs.Passing.{due, trying_on, trying_stops}
use Rattle.tidying.proofs.order.methods_in_order.Goals as goal

pub method_in_order-requires : goal.method_in_order-requires
method_in_order-requires c =
    let l = c.loop-i in
    let more = c.loop-i-test.true in
    let n = c.requires.1.counted in
    let d = due c.args.fields.now c.requires.0 l.at l._i (l.invariant c.requires.0 c.requires.1) (omega arith) in
    (d.m, d.line)

pub loop-i-preserved : goal.loop-i-preserved
loop-i-preserved c =
    let l = c.loop-i in
    let a = c.args in
    let more = c.loop-i-test.true in
    λ ms h.
    let n = h.counted in
    let t = l.invariant ms h in
    let d = due a.fields.now ms l.at l._i t (omega arith) in
    trying_on a.fields.now ms l.at l._i t d c.in-Some.next (c.in-Some.ensures d.m d.line)

pub returns-in_default : goal.returns-in_default
returns-in_default c = λ ms h.
    let l = c.loop-i in
    let a = c.args in
    let more = c.loop-i-test.true in
    let n = h.counted in
    let t = l.invariant ms h in
    let d = due a.fields.now ms l.at l._i t (omega arith) in
    trying_stops a.fields.now ms l.at l._i t d (c.in_default.ensures d.m d.line) _ refl
