-- `measure_line`: the numbers before i are measured (Texts). Assumes nothing.
use Rattle.output.proofs.Texts.{line_size_lem, number_size, line_within}
use native.Mathlib.Omega.{arith}
use Rattle.output.proofs.measure_line.Goals as goal

pub loop-i-init : goal.loop-i-init
loop-i-init c = let a = c.args in line_size_lem a.fields.now a.end c.requires.1 a.at c.requires.0

pub overflow_add-size : goal.overflow_add-size
overflow_add-size c =
    let a = c.args in
    let l = c.loop-i in
    let w = line_within a.fields.now a.end c.requires.1 a.at c.requires.0 in
    let m = number_size a.fields.now a.end c.requires.1 l.i c.loop-i-test.true in
    let e = c.digits.ensures in
    let z = l.invariant in
    omega arith

pub overflow_add-size-in-loop-i : goal.overflow_add-size-in-loop-i
overflow_add-size-in-loop-i c =
    let a = c.args in
    let l = c.loop-i in
    let w = line_within a.fields.now a.end c.requires.1 a.at c.requires.0 in
    let m = number_size a.fields.now a.end c.requires.1 l.i c.loop-i-test.true in
    let e = c.digits.ensures in
    let z = l.invariant in
    omega arith

pub loop-i-preserved : goal.loop-i-preserved
loop-i-preserved c =
    let a = c.args in
    let l = c.loop-i in
    let m = number_size a.fields.now a.end c.requires.1 l.i c.loop-i-test.true in
    let e = c.digits.ensures in
    let z = l.invariant in
    omega arith
