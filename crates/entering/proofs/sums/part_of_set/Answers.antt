-- `part_of_set`: the part of all members is that of what is joined so far and of the members that remain (Joining). Assumes nothing.
use Rattle.entering.proofs.Joining.{whole_part, some_members, lowest_few, joining_on, joining_ends}
use mathlib.Core.Path.{refl}
use native.Mathlib.Omega.{arith}
use Rattle.std.proofs.Common.{rules}
use Rattle.entering.proofs.sums.part_of_set.Goals as goal

pub returns-then-u-eq0 : goal.returns-then-u-eq0
returns-then-u-eq0 c = let a = c.args in whole_part a.sums.now a.own a.u c.if-u-eq0.true

pub bounds-sums-lowest : goal.bounds-sums-lowest
bounds-sums-lowest c =
    let a = c.args in
    let few = lowest_few a.u (some_members a.u (search rules) c.if-u-eq0.false) in
    omega (arith, c.lowest.ensures)

pub bounds-sums-lowest-in-loop-part : goal.bounds-sums-lowest-in-loop-part
bounds-sums-lowest-in-loop-part c =
    let few = lowest_few c.loop-part.rest (omega (arith, c.loop-part-test.true, c.size.ensures)) in
    omega (arith, c.lowest-in-loop-part.ensures)

pub loop-part-preserved : goal.loop-part-preserved
loop-part-preserved c =
    let a = c.args in
    let l = c.loop-part in
    joining_on l.rest (omega (arith, c.loop-part-test.true, c.size.ensures)) a.sums.now a.u l.invariant c.lowest-in-loop-part.ensures refl
    c.join-part.ensures c.others-rest-in-loop-part.ensures

pub returns : goal.returns
returns c =
    let a = c.args in
    joining_ends a.sums.now a.own a.u c.if-u-eq0.false c.loop-part.invariant (omega (arith, c.loop-part-test.false, c.size.ensures))
