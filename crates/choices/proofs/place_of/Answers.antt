-- `place_of`: n is the place of the gaps passed. Assumes nothing.
use native.Mathlib.Omega.{arith}
use Rattle.choices.proofs.Turns.{place_fits}
use Rattle.choices.proofs.place_of.Goals as goal

pub overflow_mul-n : goal.overflow_mul-n
overflow_mul-n c =
    let a = c.args in
    let l = c.loop-gap in
    omega (arith, place_fits a.k l.gap-index l.n a.choice.now c.requires.0 c.requires.1 c.loop-gap-test.true l.invariant)

pub overflow_add-n : goal.overflow_add-n
overflow_add-n c =
    let a = c.args in
    let l = c.loop-gap in
    omega (arith, place_fits a.k l.gap-index l.n a.choice.now c.requires.0 c.requires.1 c.loop-gap-test.true l.invariant)

pub overflow_add-n-in-loop-gap : goal.overflow_add-n-in-loop-gap
overflow_add-n-in-loop-gap c =
    let a = c.args in
    let l = c.loop-gap in
    omega (arith, place_fits a.k l.gap-index l.n a.choice.now c.requires.0 c.requires.1 c.loop-gap-test.true l.invariant)
