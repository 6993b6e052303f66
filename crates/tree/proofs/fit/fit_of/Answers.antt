-- How the line fits, by what is taken of its method. Assumes nothing.
use Rattle.tree.proofs.Steps.{fit_task, fit_empty, fit_leaf}
use mathlib.Core.Path.{◌∙◌}
use Rattle.tree.proofs.fit.fit_of.Goals as goal

pub returns-in-Task : goal.returns-in-Task
returns-in-Task c =
    let a = c.args in
    let e = c.in-Task in
    let m = c.method_head-head in
    c.fit_if.ensures ∙ fit_task a.fields.now a.work.now a.entry a.next a.task a.line e.method m.result e.is m.ensures

pub returns-in-Empty : goal.returns-in-Empty
returns-in-Empty c =
    let a = c.args in
    let e = c.in-Empty in
    let m = c.method_head-head-in-Empty in
    c.fit_if-in-Empty.ensures ∙ fit_empty a.fields.now a.work.now a.entry a.next a.task a.line e.method e.gap m.result e.is m.ensures

pub returns-in-Leaf : goal.returns-in-Leaf
returns-in-Leaf c =
    let a = c.args in
    let e = c.in-Leaf in
    c.fit_if-in-Leaf.ensures ∙ fit_leaf a.fields.now a.work.now a.entry a.next a.task a.line e.action e.position e.is
