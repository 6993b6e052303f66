-- `node_kept`: the method's line stands where the directory says, and the lists then hold what its tests read (Steps). Assumes nothing.
use Rattle.constraints.proofs.Steps.{leaf_kept, standing, few_enough, room_before, listed_inside, method_found, none_follow, few_second, nodes_inside, new_leaves, new_inside, new_room, new_tested, new_kept, none_noted}
use Rattle.index.specs.Spans.{span_of}
use Rattle.rules.specs.Case.{method_at}
use mathlib.Core.Path.{sym, ◌∙◌}
use Rattle.constraints.proofs.node.node_kept.Goals as goal

pub returns-then-not-names_method-clause-value : goal.returns-then-not-names_method-clause-value
returns-then-not-names_method-clause-value c = λ k t v.
    let x = c.args.x in leaf_kept k t x.line x.n x.letter x.label v.labels (sym c.names_method.ensures ∙ c.if-not-names_method.true)

-- Any node that the arguments stand for has a method; the caller names one.
pub method_place-place-requires : goal.method_place-place-requires
method_place-place-requires c =
    let w = standing c.requires.node_ready.2 (sym c.names_method.ensures ∙ c.if-not-names_method.false) in
    listed_inside w

-- The directory has its method's place.
pub bounds-fields-place : goal.bounds-fields-place
bounds-fields-place c =
    let w = standing c.requires.node_ready.2 (sym c.names_method.ensures ∙ c.if-not-names_method.false) in
    let p = c.method_place-place in
    (method_found w p.result p.ensures).room

pub bounds-fields-counted : goal.bounds-fields-counted
bounds-fields-counted c =
    let w = standing c.requires.node_ready.2 (sym c.names_method.ensures ∙ c.if-not-names_method.false) in
    let p = c.method_place-place in
    (method_found w p.result p.ensures).inside

pub returns-then-count-eq0-clause-value : goal.returns-then-count-eq0-clause-value
returns-then-count-eq0-clause-value c = λ k t v.
    let w = standing v (sym c.names_method.ensures ∙ c.if-not-names_method.false) in
    let p = c.method_place-place in
    none_follow w p.result p.ensures c.args.x.line c.if-count-eq0.true

-- The method has no subtasks.
pub span_at-requires : goal.span_at-requires
span_at-requires c =
    let w = standing c.requires.node_ready.2 (sym c.names_method.ensures ∙ c.if-not-names_method.false) in
    let p = c.method_place-place in
    new_inside w p.result p.ensures c.args.work.now (none_noted w p.result p.ensures c.if-subtasks-eq0.true)

pub first_broken_of-requires-clause-subtasks_past_in_bounds : goal.first_broken_of-requires-clause-subtasks_past_in_bounds
first_broken_of-requires-clause-subtasks_past_in_bounds c =
    let w = standing c.requires.node_ready.2 (sym c.names_method.ensures ∙ c.if-not-names_method.false) in
    room_before w

pub first_broken_of-requires-clause-constraints_here : goal.first_broken_of-requires-clause-constraints_here
first_broken_of-requires-clause-constraints_here c =
    let v = c.requires.node_ready in
    let w = standing c.requires.node_ready.2 (sym c.names_method.ensures ∙ c.if-not-names_method.false) in
    let p = c.method_place-place in
    let n = none_noted w p.result p.ensures c.if-subtasks-eq0.true in (
      (method_at v.0.methods c.args.x.label).constraints,
      (method_found w p.result p.ensures).constraints,
      new_tested w p.result p.ensures c.args.work.now n (span_of c.span_at.result) c.span_at.ensures c.args.held v.2.counted,
    )

pub returns-then-subtasks-eq0-clause-value : goal.returns-then-subtasks-eq0-clause-value
returns-then-subtasks-eq0-clause-value c = λ k t v.
    let w = standing v (sym c.names_method.ensures ∙ c.if-not-names_method.false) in
    let p = c.method_place-place in
    let n = none_noted w p.result p.ensures c.if-subtasks-eq0.true in
    let r = c.first_broken_of in
    new_kept w p.result p.ensures c.args.work.now n (span_of c.span_at.result) c.span_at.ensures c.args.x.line r.result
    (r.ensures.value (method_at k.methods c.args.x.label).constraints (method_found w p.result p.ensures).constraints)

-- It has some, and their nodes are noted.
pub subtask_nodes-requires-clause-n_bound : goal.subtask_nodes-requires-clause-n_bound
subtask_nodes-requires-clause-n_bound c =
    let w = standing c.requires.node_ready.2 (sym c.names_method.ensures ∙ c.if-not-names_method.false) in
    few_enough w

pub subtask_nodes-requires-clause-count_bound : goal.subtask_nodes-requires-clause-count_bound
subtask_nodes-requires-clause-count_bound c =
    let w = standing c.requires.node_ready.2 (sym c.names_method.ensures ∙ c.if-not-names_method.false) in
    let p = c.method_place-place in
    few_second w p.result p.ensures

pub subtask_nodes-requires-clause-subtasks_past_in_bounds : goal.subtask_nodes-requires-clause-subtasks_past_in_bounds
subtask_nodes-requires-clause-subtasks_past_in_bounds c =
    let w = standing c.requires.node_ready.2 (sym c.names_method.ensures ∙ c.if-not-names_method.false) in
    room_before w

pub subtask_nodes-requires-clause-each : goal.subtask_nodes-requires-clause-each
subtask_nodes-requires-clause-each c =
    let w = standing c.requires.node_ready.2 (sym c.names_method.ensures ∙ c.if-not-names_method.false) in
    let p = c.method_place-place in
    nodes_inside w p.result p.ensures

pub span_at-requires-2 : goal.span_at-requires-2
span_at-requires-2 c =
    let w = standing c.requires.node_ready.2 (sym c.names_method.ensures ∙ c.if-not-names_method.false) in
    let p = c.method_place-place in
    let n = c.subtask_nodes in
    new_inside w p.result p.ensures n.new.work n.ensures

pub first_broken_of-requires-2-clause-subtasks_past_in_bounds : goal.first_broken_of-requires-2-clause-subtasks_past_in_bounds
first_broken_of-requires-2-clause-subtasks_past_in_bounds c =
    let w = standing c.requires.node_ready.2 (sym c.names_method.ensures ∙ c.if-not-names_method.false) in
    let p = c.method_place-place in
    let n = c.subtask_nodes in
    new_room w p.result p.ensures n.new.work n.ensures

pub first_broken_of-requires-2-clause-constraints_here : goal.first_broken_of-requires-2-clause-constraints_here
first_broken_of-requires-2-clause-constraints_here c =
    let v = c.requires.node_ready in
    let w = standing c.requires.node_ready.2 (sym c.names_method.ensures ∙ c.if-not-names_method.false) in
    let p = c.method_place-place in
    let n = c.subtask_nodes in (
      (method_at v.0.methods c.args.x.label).constraints,
      (method_found w p.result p.ensures).constraints,
      new_tested w p.result p.ensures n.new.work n.ensures (span_of c.span_at-2.result) c.span_at-2.ensures c.args.held v.2.counted,
    )

pub returns-clause-value : goal.returns-clause-value
returns-clause-value c = λ k t v.
    let w = standing v (sym c.names_method.ensures ∙ c.if-not-names_method.false) in
    let p = c.method_place-place in
    let n = c.subtask_nodes in
    let r = c.first_broken_of-2 in
    new_kept w p.result p.ensures n.new.work n.ensures (span_of c.span_at-2.result) c.span_at-2.ensures c.args.x.line r.result
    (r.ensures.value (method_at k.methods c.args.x.label).constraints (method_found w p.result p.ensures).constraints)

pub returns-clause-leaves : goal.returns-clause-leaves
returns-clause-leaves c =
    let w = standing c.requires.node_ready.2 (sym c.names_method.ensures ∙ c.if-not-names_method.false) in
    let p = c.method_place-place in
    let n = c.subtask_nodes in
    new_leaves w p.result p.ensures n.new.work n.ensures
