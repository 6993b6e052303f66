-- The cycle of calls {walk_node, walk_subtasks}: a node by how it fits (Passing), and the siblings one after the other (Siblings).
-- Assumes nothing.
use Rattle.std.proofs.Common.{List, ℕ, ◌-◌, arith}
use Rattle.std.proofs.lemmas.Result.{err_from_is_err_and}
use Rattle.std.specs.Prelude.{Ok}
use Rattle.tree.proofs.Passing.{lent_subtasks, rests, claims, opens}
use Rattle.tree.proofs.Siblings.{goes_on_lem, moves, stops}
use Rattle.tree.proofs.Steps.{nodes_few, cues_few}
use Rattle.tree.specs.Standing.{Judged, WalksList}
use mathlib.Core.Path.{subst, ap, ◌∙◌}
use Rattle.tree.proofs.walk.+walk_node_walk_subtasks.Goals as goal

pub walk_node-put_row-requires : goal.walk_node-put_row-requires
walk_node-put_row-requires t c =
    let a = c.args in
    let (k, st, f) = c.requires.steady in
    let j = subst (Judged k a.fields.now a.p a.task a.level) (ap Ok c.in-Open.is) (c.in_ok-fit.ensures k st f) in
    (omega (arith, j.4.there, nodes_few k a.fields.now a.g.now a.work.now st), omega (arith, st.room, c.walk_subtasks.auto.work))

pub walk_node-rest-requires : goal.walk_node-rest-requires
walk_node-rest-requires t c =
    let a = c.args in
    let (k, st, f) = c.requires.steady in
    let j = subst (Judged k a.fields.now a.p a.task a.level) (ap Ok c.in-Empty.is) (c.in_ok-fit.ensures k st f) in
    (omega (arith, j.3.there, nodes_few k a.fields.now a.g.now a.work.now st), st.room, omega (arith, j.2))

pub walk_node-returns-in_ok-walked-in-Open : goal.walk_node-returns-in_ok-walked-in-Open
walk_node-returns-in_ok-walked-in-Open t c = λ k st f.
    let a = c.args in
    let j = subst (Judged k a.fields.now a.p a.task a.level) (ap Ok c.in-Open.is) (c.in_ok-fit.ensures k st f) in
    let w = c.in_ok-walked-in-Open.walked in
    let u = c.walk_subtasks.new.work in
    let s = c.in-Open.subtasks in
    let next = c.in-Open.next in
    opens k a.fields.now a.task a.level a.p a.work.now next j.4 s w u c.put_row.new.work j (cues_few k a.fields.now a.g.now a.work.now st)
    (subst (λ (l : List ℕ). WalksList k a.fields.now (64 - a.level) l next.node a.work.now (Ok w) u)
    (lent_subtasks a.fields.now s) (c.in_ok-walked-in-Open.ensures k st j.4.follows)) c.put_row.ensures

pub walk_node-returns-in-Empty : goal.walk_node-returns-in-Empty
walk_node-returns-in-Empty t c = λ k st f.
    let a = c.args in
    let j = subst (Judged k a.fields.now a.p a.task a.level) (ap Ok c.in-Empty.is) (c.in_ok-fit.ensures k st f) in
    let r = c.rest in
    rests k a.fields.now a.task a.level a.p a.work.now c.in-Empty.next j.3 c.in-Empty.gap r.result r.new.work j
    (cues_few k a.fields.now a.g.now a.work.now st) r.ensures.answer r.ensures.row

pub walk_node-returns-in-Leaf : goal.walk_node-returns-in-Leaf
walk_node-returns-in-Leaf t c = λ k st f.
    let a = c.args in
    let j = subst (Judged k a.fields.now a.p a.task a.level) (ap Ok c.in-Leaf.is) (c.in_ok-fit.ensures k st f) in
    let r = c.claim in
    claims k a.fields.now a.task a.level a.p a.work.now c.in-Leaf.next j.2 c.in-Leaf.action c.in-Leaf.position r.result r.new.work j
    (r.ensures k st j.1)

pub walk_subtasks-loop-i-preserved : goal.walk_subtasks-loop-i-preserved
walk_subtasks-loop-i-preserved t c =
    let a = c.args in
    let i = c.loop-i.invariant in (
      c.walk_node.auto.work ∙ i.0,
      λ k st f.
          let m = moves k a.fields.now a.level (i.1 k st f) a.g.now st f i.0 in
          goes_on_lem k a.fields.now a.level (i.1 k st f) c.in_ok-walked.walked c.walk_node.new.work c.join-span.result c.loop-i-test.true
          c.join-span.ensures (c.in_ok-walked.ensures k m.0 m.1),
    )

pub walk_subtasks-returns-in_err-walked : goal.walk_subtasks-returns-in_err-walked
walk_subtasks-returns-in_err-walked t c = λ k st f.
    let a = c.args in
    let i = c.loop-i.invariant in
    let m = moves k a.fields.now a.level (i.1 k st f) a.g.now st f i.0 in
    let p = err_from_is_err_and c.from_residual.result c.from_residual.ensures.1 in
    rw (p.1, p.2) (stops k a.fields.now a.level (i.1 k st f) c.walk_node.new.work c.in_err-walked.field-0.0 c.loop-i-test.true
    (c.in_err-walked.ensures k m.0 m.1))
