-- `first_broken`: the first broken constraint of the whole tree is that from here on (Going). Assumes nothing.
use Rattle.constraints.proofs.Nodes.{columns_start}
use Rattle.constraints.proofs.Numbers.{line_fits}
use Rattle.constraints.proofs.Steps.{going_starts, going_line, node_ready, going_breaks, going_on, going_ends}
use Rattle.constraints.proofs.Stores.{leaves_then}
use Rattle.std.proofs.Common.{◌+◌, rules, arith}
use Rattle.std.proofs.lemmas.Result.{err_from_is_err_and}
use mathlib.Core.Path.{refl, ◌∙◌}
use Rattle.constraints.proofs.node.first_broken.Goals as goal

-- No column is built yet.
pub loop-n-init : goal.loop-n-init
loop-n-init c =
    let a = c.args in (columns_start c.requires.ready.2 a.columns.now a.built.now c.requires.blank, λ k t r. going_starts r, refl, refl)

-- What holds of any tree that the arguments stand for; the caller names one.
pub offset_bounds-fields-at : goal.offset_bounds-fields-at
offset_bounds-fields-at c =
    let r = c.requires.ready in
    let i = (going_line (c.loop-n.invariant.1 r.0 r.1 r.2) c.loop-n-test.true).room in
    search rules

pub bounds-fields-at : goal.bounds-fields-at
bounds-fields-at c =
    let r = c.requires.ready in
    let i = (going_line (c.loop-n.invariant.1 r.0 r.1 r.2) c.loop-n-test.true).room in
    search rules

pub overflow_add-x : goal.overflow_add-x
overflow_add-x c =
    let r = c.requires.ready in
    let f = line_fits (c.loop-n.invariant.1 r.0 r.1 r.2) c.loop-n-test.true in
    omega arith

pub overflow_add-x-in-loop-n : goal.overflow_add-x-in-loop-n
overflow_add-x-in-loop-n c =
    let r = c.requires.ready in
    let f = line_fits (c.loop-n.invariant.1 r.0 r.1 r.2) c.loop-n-test.true in
    omega arith

pub overflow_add-x-in-loop-n-2 : goal.overflow_add-x-in-loop-n-2
overflow_add-x-in-loop-n-2 c =
    let r = c.requires.ready in
    let i = (going_line (c.loop-n.invariant.1 r.0 r.1 r.2) c.loop-n-test.true).room in
    search rules

pub offset_bounds-fields-at-in-loop-n : goal.offset_bounds-fields-at-in-loop-n
offset_bounds-fields-at-in-loop-n c =
    let r = c.requires.ready in
    let i = (going_line (c.loop-n.invariant.1 r.0 r.1 r.2) c.loop-n-test.true).room in
    search rules

pub bounds-fields-at-in-loop-n : goal.bounds-fields-at-in-loop-n
bounds-fields-at-in-loop-n c =
    let r = c.requires.ready in
    let i = (going_line (c.loop-n.invariant.1 r.0 r.1 r.2) c.loop-n-test.true).room in
    search rules

pub node_kept-requires-clause-node_ready : goal.node_kept-requires-clause-node_ready
node_kept-requires-clause-node_ready c =
    let r = c.requires.ready in (r.0, r.1, node_ready (c.loop-n.invariant.1 r.0 r.1 r.2) c.loop-n-test.true)

pub returns-in_err-node_kept-clause-value : goal.returns-in_err-node_kept-clause-value
returns-in_err-node_kept-clause-value c = λ k t r.
    let g = c.loop-n.invariant.1 k t r in
    let more = c.loop-n-test.true in
    let p = err_from_is_err_and c.from_residual.result c.from_residual.ensures.1 in
    rw (p.1, p.2) (going_breaks g more (c.args.plan_line + 1 + c.loop-n.n) c.in_err-node_kept.field-0.0 refl
    (c.in_err-node_kept.ensures.value k t (node_ready g more)))

pub returns-in_err-node_kept-clause-leaves : goal.returns-in_err-node_kept-clause-leaves
returns-in_err-node_kept-clause-leaves c =
    let r = c.requires.ready in leaves_then (c.loop-n.invariant.1 r.0 r.1 r.2).leaves c.in_err-node_kept.ensures.leaves

pub overflow_add-at : goal.overflow_add-at
overflow_add-at c =
    let r = c.requires.ready in
    let i = (going_line (c.loop-n.invariant.1 r.0 r.1 r.2) c.loop-n-test.true).past in
    let e = c.node_size-at.ensures in
    omega arith

pub loop-n-preserved : goal.loop-n-preserved
loop-n-preserved c =
    let more = c.loop-n-test.true in
    let n = c.in_ok-node_kept.ensures in (
      n.columns_2,
      λ k t r.
          let g = c.loop-n.invariant.1 k t r in
          going_on g more (c.args.plan_line + 1 + c.loop-n.n) c.node_kept.new.work c.node_size-at.result refl
          (n.value k t (node_ready g more)) n.leaves c.node_size-at.ensures,
      c.node_kept.auto.columns ∙ c.loop-n.invariant.2,
      c.node_kept.auto.built ∙ c.loop-n.invariant.3,
    )

pub returns-clause-value : goal.returns-clause-value
returns-clause-value c = λ k t r. going_ends (c.loop-n.invariant.1 k t r) c.loop-n-test.false

pub returns-clause-leaves : goal.returns-clause-leaves
returns-clause-leaves c = let r = c.requires.ready in (c.loop-n.invariant.1 r.0 r.1 r.2).leaves
