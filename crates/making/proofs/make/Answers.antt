-- `make`: the P line and the node lines stored, and the two numbers of the header. Assumes nothing.
use native.Mathlib.Omega.{arith}
use lib.ListN.{length-set}
use Rattle.making.proofs.Cases.{makes_long, makes_lines, makes_most}
use Rattle.making.proofs.make.Goals as goal

pub bounds-fields-6 : goal.bounds-fields-6
bounds-fields-6 c =
    omega (arith, makes_long c.requires.by_index.4, c.requires.room.fields_long, c.put_nodes-put.auto.fields, c.put_plan-from.auto.fields)

pub bounds-fields-7 : goal.bounds-fields-7
bounds-fields-7 c =
    simp length-set
    (omega (arith, makes_long c.requires.by_index.4, c.requires.room.fields_long, c.put_nodes-put.auto.fields, c.put_plan-from.auto.fields))

pub returns-clause-has_lines : goal.returns-clause-has_lines
returns-clause-has_lines c =
    let plan = c.put_plan-from in
    let put = c.put_nodes-put in
    λ k f es ids n. makes_lines n c.requires.room _ plan.result _ put.result plan.ensures.0 plan.ensures.1 (put.ensures es ids f.root n.holds)

pub returns-clause-upper_bound : goal.returns-clause-upper_bound
returns-clause-upper_bound c =
    let plan = c.put_plan-from in
    let put = c.put_nodes-put in
    let m = c.requires.by_index.4 in
    makes_most m c.requires.room _ plan.result _ put.result plan.ensures.0 plan.ensures.1 (put.ensures _ _ _ m.holds)
