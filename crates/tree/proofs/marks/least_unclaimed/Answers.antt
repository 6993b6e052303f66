-- The invariant: the least unmarked position from the start is that from here. Assumes nothing.
use Rattle.tree.proofs.Claimed.{unmarked_here, unmarked_on}
use Rattle.tree.specs.Layout.{marks_from}
use Rattle.tree.specs.Marks.{as_unclaimed}
use mathlib.Core.Path.{sym, ap, ◌∙◌}
use native.Mathlib.Omega.{arith}
use Rattle.tree.proofs.marks.least_unclaimed.Goals as goal

pub returns-then-work-mark-eq0 : goal.returns-then-work-mark-eq0
unfolding marks_from
returns-then-work-mark-eq0 c = let l = c.loop-i in
    sym (ap as_unclaimed (l.invariant.1 ∙ unmarked_here c.args.cues l.i c.args.work.now c.loop-i-test.true (omega (arith, c.requires.0, c.requires.1)) c.if-work-mark-eq0.true))

pub loop-i-preserved : goal.loop-i-preserved
unfolding marks_from
loop-i-preserved c = let l = c.loop-i in
    (omega (arith, c.loop-i-test.true), l.invariant.1 ∙ unmarked_on c.args.cues l.i c.args.work.now c.loop-i-test.true (omega (arith, c.requires.0, c.requires.1)) c.if-work-mark-eq0.false)
