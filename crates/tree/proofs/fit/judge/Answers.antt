-- The node's fit, from what is taken of it. Assumes nothing.
use Rattle.tree.proofs.Steps.{line_small, judge_lacking, stands_here, entry_within, judge_fit}
use Rattle.tree.proofs.Entries.{two_fields}
use Rattle.std.proofs.lemmas.Result.{err_from_is_err_and}
use Rattle.std.specs.Prelude.{Ok, Err}
use lib.ListN.{get_or}
use native.Mathlib.Omega.{arith}
use Rattle.tree.proofs.fit.judge.Goals as goal

pub line_at-line-requires : goal.line_at-line-requires
line_at-line-requires c =
    let a = c.args in
    let (k, st, f) = c.requires in
    line_small k a.fields.now a.g a.work.now st a.p.node f.within

pub returns-then-g-p : goal.returns-then-g-p
returns-then-g-p c = λ k st f.
    let a = c.args in
    let l = c.line_at-line in
    judge_lacking k a.fields.now a.g a.work.now st a.p f a.task a.level l.result l.ensures c.if-g-p.true

pub entry_at-entry-requires : goal.entry_at-entry-requires
entry_at-entry-requires c =
    let a = c.args in
    let (k, st, f) = c.requires in
    (stands_here k a.fields.now a.g a.work.now st a.p f c.if-g-p.false).inside

pub offset_bounds-fields-at : goal.offset_bounds-fields-at
offset_bounds-fields-at c =
    let a = c.args in
    let (k, st, f) = c.requires in
    let i = (stands_here k a.fields.now a.g a.work.now st a.p f c.if-g-p.false).inside in
    omega arith

pub bounds-fields-at : goal.bounds-fields-at
bounds-fields-at c =
    let a = c.args in
    let (k, st, f) = c.requires in
    let i = (stands_here k a.fields.now a.g a.work.now st a.p f c.if-g-p.false).inside in
    omega (arith, i, two_fields (get_or a.fields.now a.p.at 0))

pub overflow_add-next-2 : goal.overflow_add-next-2
overflow_add-next-2 c =
    let a = c.args in
    let (k, st, f) = c.requires in
    let i = (stands_here k a.fields.now a.g a.work.now st a.p f c.if-g-p.false).inside in
    omega (arith, i, c.node_size.ensures)

pub fit_of-requires : goal.fit_of-requires
fit_of-requires c =
    let a = c.args in
    let (k, st, f) = c.requires in
    let e = c.entry_at-entry in
    entry_within k a.fields.now a.g a.work.now st a.p f c.if-g-p.false e.result e.ensures

pub returns-in_err-fit : goal.returns-in_err-fit
returns-in_err-fit c = λ k st f.
    let a = c.args in
    let p = err_from_is_err_and c.from_residual.result c.from_residual.ensures.1 in
    rw (p.1, p.2) (judge_fit k a.fields.now a.g a.work.now st a.p f c.if-g-p.false a.task a.level c.line_at-line.result c.node_size.result
    c.entry_at-entry.result (Err c.in_err-fit.field-0.0) c.line_at-line.ensures c.entry_at-entry.ensures c.node_size.ensures c.in_err-fit.ensures)

pub returns : goal.returns
returns c = λ k st f.
    let a = c.args in
    rw c.at_level.ensures (judge_fit k a.fields.now a.g a.work.now st a.p f c.if-g-p.false a.task a.level c.line_at-line.result c.node_size.result
    c.entry_at-entry.result (Ok c.in_ok-fit.fit) c.line_at-line.ensures c.entry_at-entry.ensures c.node_size.ensures c.in_ok-fit.ensures)
