-- `span_of_set`: the hull of all members is that of what is joined so far and of the members that remain (Joining). Assumes nothing.
use Prim.Native.Nat.{ℕ}
use Rattle.index.specs.Spans.{span_of}
use Rattle.parts.proofs.Parts.{whole_task, lowest_inside, joining_starts, next_inside, joining_goes_on, joining_ends}
use Rattle.parts.specs.Spans.{subtask_span, SubtaskInside}
use mathlib.Core.Path.{sym, ap, subst, ◌∙◌}
use native.Mathlib.Omega.{arith}
use Rattle.std.proofs.Common.{rules}
use Rattle.parts.proofs.spans.span_of_set.Goals as goal

pub returns-then-u-eq0 : goal.returns-then-u-eq0
returns-then-u-eq0 c = search (whole_task, rules)

pub subtask_span-span-requires-clause-subtask_inside :
    goal.subtask_span-span-requires-clause-subtask_inside
subtask_span-span-requires-clause-subtask_inside c =
    let a = c.args in
    subst (λ (j : ℕ). SubtaskInside a.work.now j) (sym c.lowest.ensures)
    (lowest_inside a.work.now a.u c.ranges.u.fits c.if-u-eq0.false c.requires.each)

pub loop-span-init : goal.loop-span-init
loop-span-init c =
    let a = c.args in
    joining_starts a.work.now a.u (search rules) c.if-u-eq0.false c.requires.each (span_of c.subtask_span-span.result) c.others-rest.result
    (c.subtask_span-span.ensures ∙ ap (subtask_span a.work.now) c.lowest.ensures) c.others-rest.ensures

pub subtask_span-requires-clause-subtask_inside : goal.subtask_span-requires-clause-subtask_inside
subtask_span-requires-clause-subtask_inside c =
    subst (λ (j : ℕ). SubtaskInside c.args.work.now j) (sym c.lowest-in-loop-span.ensures)
    (next_inside c.loop-span.invariant (omega (arith, c.loop-span-test.true, c.size.ensures)))

pub loop-span-preserved : goal.loop-span-preserved
loop-span-preserved c =
    let a = c.args in
    let l = c.loop-span in
    joining_goes_on l.invariant (omega (arith, c.loop-span-test.true, c.size.ensures)) c.others-rest-in-loop-span.result
    (c.subtask_span.ensures ∙ ap (subtask_span a.work.now) c.lowest-in-loop-span.ensures) c.join-span.ensures c.others-rest-in-loop-span.ensures

pub returns : goal.returns
returns c =
    joining_ends (span_of c.args.own) c.loop-span.invariant (omega (arith, c.loop-span-test.false, c.size.ensures)) c.requires.subtasks_past_in_bounds (search rules) c.if-u-eq0.false
