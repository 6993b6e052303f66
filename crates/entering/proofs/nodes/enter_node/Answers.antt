-- `enter_node`: the method's line stands where the directory says, and the node's own lines and its subtasks' stand after its line (Visits).
-- Assumes nothing.
use Prim.Native.Nat.{◌≤◌}
use Rattle.constraints.proofs.Held.{subtrees_of}
use Rattle.constraints.proofs.Steps.{standing, few_enough, listed_inside, method_found, few_second}
use Rattle.constraints.specs.Ready.{node_of_tree}
use Rattle.entering.proofs.Visits.{few_cues, line_inside, whole_stands, parts_stand, in_sums, entries_sound}
use Rattle.rows.specs.Rows.{in_row}
use Rattle.rules.specs.Case.{method_at}
use Rattle.rules.specs.Tree.{no_tree, more}
use lib.ListN.{length}
use mathlib.Core.Path.{sym, ◌∙◌}
use native.Mathlib.Omega.{arith}
use Rattle.entering.proofs.nodes.enter_node.Goals as goal

-- Any node that the arguments stand for has a method; the caller names one.
pub method_place-place-requires : goal.method_place-place-requires
method_place-place-requires c =
    let v = c.requires.visiting.2 in
    listed_inside (standing v.node (sym c.names_method.ensures ∙ c.if-not-names_method.false))

pub bounds-fields-place : goal.bounds-fields-place
bounds-fields-place c =
    let v = c.requires.visiting.2 in
    let n = standing v.node (sym c.names_method.ensures ∙ c.if-not-names_method.false) in
    (method_found n c.method_place-place.result c.method_place-place.ensures).room

pub bounds-fields-counted : goal.bounds-fields-counted
bounds-fields-counted c =
    let v = c.requires.visiting.2 in
    let n = standing v.node (sym c.names_method.ensures ∙ c.if-not-names_method.false) in
    (method_found n c.method_place-place.result c.method_place-place.ensures).inside

pub sum_trees-requires-clause-cues_bound : goal.sum_trees-requires-clause-cues_bound
sum_trees-requires-clause-cues_bound c = (few_cues c.requires.visiting.2, omega arith)

pub sum_trees-requires-clause-trees_stand : goal.sum_trees-requires-clause-trees_stand
sum_trees-requires-clause-trees_stand c =
    let p = c.requires.visiting in
    (more (node_of_tree p.1 c.args.x.n) no_tree, whole_stands p.2 (omega (arith, c.requires.within.1)))

pub overflow_add-x : goal.overflow_add-x
overflow_add-x c =
    let v = c.requires.visiting.2 in
    let few = few_enough (standing v.node (sym c.names_method.ensures ∙ c.if-not-names_method.false)) in
    omega arith

pub overflow_add-x-2 : goal.overflow_add-x-2
overflow_add-x-2 c =
    let i = line_inside c.requires.visiting.2 in
    omega (arith, c.node_size.ensures)

pub sum_trees-requires-2-clause-cues_bound : goal.sum_trees-requires-2-clause-cues_bound
sum_trees-requires-2-clause-cues_bound c =
    let v = c.requires.visiting.2 in
    let n = standing v.node (sym c.names_method.ensures ∙ c.if-not-names_method.false) in
    let s = few_second n c.method_place-place.result c.method_place-place.ensures in
    (few_cues v, omega arith)

pub sum_trees-requires-2-clause-trees_stand : goal.sum_trees-requires-2-clause-trees_stand
sum_trees-requires-2-clause-trees_stand c =
    let p = c.requires.visiting in
    let v = p.2 in
    let n = standing v.node (sym c.names_method.ensures ∙ c.if-not-names_method.false) in
    let h = method_found n c.method_place-place.result c.method_place-place.ensures in (
      subtrees_of (node_of_tree p.1 c.args.x.n),
      parts_stand v (omega (arith, c.requires.within.1)) c.node_size.result _ c.node_size.ensures (h.subtasks ∙ sym n.node.count),
    )

pub enter_lines-requires-clause-k_bound : goal.enter_lines-requires-clause-k_bound
enter_lines-requires-clause-k_bound c = (few_cues c.requires.visiting.2, c.requires.within.0, c.requires.within.1)

pub enter_lines-requires-clause-constraints_here : goal.enter_lines-requires-clause-constraints_here
enter_lines-requires-clause-constraints_here c =
    let p = c.requires.visiting in
    let v = p.2 in
    let n = standing v.node (sym c.names_method.ensures ∙ c.if-not-names_method.false) in
    ((method_at p.0.methods c.args.x.label).constraints, (method_found n c.method_place-place.result c.method_place-place.ensures).constraints, in_sums v n.node)

pub returns-clause-sound : goal.returns-clause-sound
returns-clause-sound c = λ k t v passing breaks all.
    let x = c.args.x in
    let y = node_of_tree t x.n in
    let few : length c.args.choice.now ≤ 32 = omega (arith, c.requires.within.1) in
    let n = standing v.node (sym c.names_method.ensures ∙ c.if-not-names_method.false) in
    let h = method_found n c.method_place-place.result c.method_place-place.ensures in
    let own = (c.sum_trees.ensures (more y no_tree) (whole_stands v few)).0 in
    let parts =
    c.sum_trees-2.ensures (subtrees_of y)
    (parts_stand v few c.node_size.result _ c.node_size.ensures (h.subtasks ∙ sym n.node.count)) in
    c.enter_lines.ensures.sound (in_row c.args.states.now) passing (method_at k.methods x.label).constraints h.constraints
    (entries_sound v n.node few _ _ own parts passing breaks) all
