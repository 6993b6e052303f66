-- The root's walk, and no node over. Assumes nothing.
use Rattle.std.proofs.lemmas.Result.{err_from_is_err_and}
use Rattle.tree.proofs.Whole.{root_steady, root_follows, root_line_lem, right, over, refuses}
use Rattle.tree.proofs.walk.walk_tree.Goals as goal

pub walk_subtasks-requires-clause-steady : goal.walk_subtasks-requires-clause-steady
walk_subtasks-requires-clause-steady c =
    let a = c.args in
    let (k, rd) = c.requires in (
      k,
      root_steady k a.fields.now a.header a.plan_line a.plan a.nodes a.work.now rd,
      root_follows k a.fields.now a.header a.plan_line a.plan a.nodes a.work.now rd,
    )

pub line_at-requires : goal.line_at-requires
line_at-requires c =
    let a = c.args in
    let (k, rd) = c.requires in
    root_line_lem k a.fields.now a.header a.plan_line a.plan a.nodes a.work.now rd c.in_ok-walked.walked.next.node c.if-next-header.true

pub returns-then-next-header : goal.returns-then-next-header
returns-then-next-header c = λ k rd.
    let a = c.args in
    over k a.fields.now a.header a.plan_line a.plan a.nodes a.work.now rd c.in_ok-walked.walked c.walk_subtasks.new.work
    (c.in_ok-walked.ensures k) c.line_at.result c.if-next-header.true c.line_at.ensures

pub returns : goal.returns
returns c = λ k rd.
    let a = c.args in
    right k a.fields.now a.header a.plan_line a.plan a.nodes a.work.now rd c.in_ok-walked.walked c.walk_subtasks.new.work
    (c.in_ok-walked.ensures k) c.if-next-header.false

pub returns-in_err-walked : goal.returns-in_err-walked
returns-in_err-walked c = λ k rd.
    let a = c.args in
    let p = err_from_is_err_and c.from_residual.result c.from_residual.ensures.1 in
    rw (p.1, p.2) (refuses k a.fields.now a.header a.plan_line a.plan a.nodes a.work.now rd c.in_err-walked.field-0.0 c.walk_subtasks.new.work
    (c.in_err-walked.ensures k))
