-- `enter_all`: the lines from this node's on stand at a place, so many empty tasks come before it, and the entries of the nodes before it are
-- sound (Visits). Assumes nothing.
use Prim.Native.Nat.{ℕ, ◌<◌}
use Rattle.constraints.specs.Ready.{Ready}
use Rattle.entering.proofs.Visits.{nodes_stand, visited}
use Rattle.gaps.proofs.Lines.{Counted, Inside, due_inside, due_of, over_empties, due_those, due_others, counting_on}
use Rattle.rules.specs.declared.Header.{Header}
use Rattle.rules.specs.Case.{Case}
use Rattle.rules.specs.Gaps.{empty_count}
use Rattle.rules.specs.Tree.{Tree}
use mathlib.Core.List.{List}
use mathlib.Core.Path.{◌∙◌}
use native.Mathlib.Omega.{arith}
use Rattle.entering.proofs.nodes.enter_all.Goals as goal
use Rattle.entering.proofs.nodes.enter_all.Goals.{then-letter-eq-EMPTY, else-letter-eq-EMPTY}

-- Of any case that the arguments stand for; the caller names one. The line that is due lies inside the fields.
room : (fields : List ℕ) {k : Case} {t : Tree} {header : Header} {plan_line nodes : ℕ} {states work : List ℕ} (at n first : ℕ)
    → Ready k t fields header plan_line nodes states work → Counted empty_count fields nodes header.nodes at n first → n < header.nodes → Inside fields at
room fields {k = k} {header = header} {nodes = nodes} at n first r counted more =
    due_inside fields at k.nodes n (due_of empty_count fields nodes header.nodes at n first counted k.nodes (nodes_stand r) more)

pub offset_bounds-fields-at : goal.offset_bounds-fields-at
offset_bounds-fields-at c =
    let l = c.loop-n in
    let r = room c.args.fields.now l.at l.n l.first c.requires.ready.2 l.invariant.2 c.loop-n-test.true in
    omega arith

pub bounds-fields-at : goal.bounds-fields-at
bounds-fields-at c =
    let l = c.loop-n in
    let r = room c.args.fields.now l.at l.n l.first c.requires.ready.2 l.invariant.2 c.loop-n-test.true in
    omega arith

pub overflow_add-x : goal.overflow_add-x
overflow_add-x c =
    let l = c.loop-n in
    let r = room c.args.fields.now l.at l.n l.first c.requires.ready.2 l.invariant.2 c.loop-n-test.true in
    omega arith

pub offset_bounds-fields-at-in-loop-n : goal.offset_bounds-fields-at-in-loop-n
offset_bounds-fields-at-in-loop-n c =
    let l = c.loop-n in
    let r = room c.args.fields.now l.at l.n l.first c.requires.ready.2 l.invariant.2 c.loop-n-test.true in
    omega arith

pub bounds-fields-at-in-loop-n : goal.bounds-fields-at-in-loop-n
bounds-fields-at-in-loop-n c =
    let l = c.loop-n in
    let r = room c.args.fields.now l.at l.n l.first c.requires.ready.2 l.invariant.2 c.loop-n-test.true in
    omega arith

pub overflow_add-at : goal.overflow_add-at
overflow_add-at c =
    let l = c.loop-n in
    let r = room c.args.fields.now l.at l.n l.first c.requires.ready.2 l.invariant.2 c.loop-n-test.true in
    omega (arith, c.node_size-at.ensures)

pub enter_node-requires-clause-visiting : goal.enter_node-requires-clause-visiting
enter_node-requires-clause-visiting c =
    let p = c.requires.ready in
    let l = c.loop-n in
    (p.0, p.1, visited p.2 l.n l.at l.first _ c.loop-n-test.true (l.invariant.2 p.0.nodes (nodes_stand p.2)) p.3)

pub overflow_add-first : goal.overflow_add-first
overflow_add-first c =
    let p = c.requires.ready in
    let s = (c.loop-n.invariant.2 p.0.nodes (nodes_stand p.2)).same in
    omega (arith, p.3, c.requires.within.1)

pub loop-n-preserved : goal.loop-n-preserved
loop-n-preserved c =
    let a = c.args in
    let f = a.fields.now in
    let l = c.loop-n in
    let e = c.enter_node in
    let more = c.loop-n-test.true in (
      e.ensures.columns,
      e.ensures.fits,
      counting_on empty_count f a.nodes a.header.nodes l.at l.n l.first l.invariant.2 more c.if-letter-eq-EMPTY.first c.node_size-at.result
          c.node_size-at.ensures
          (λ ns d. elim c.if-letter-eq-EMPTY.branch [
            | then-letter-eq-EMPTY w ↦ let own = due_those over_empties f l.at ns l.n d w.if-letter-eq-EMPTY.true (λ q. omega arith) in omega (arith, w.first-is)
            | else-letter-eq-EMPTY w ↦ let own = due_others over_empties f l.at ns l.n d w.if-letter-eq-EMPTY.false in omega (arith, w.first-is)
          ]),
      λ k u r z passing breaks all.
          e.ensures.sound k u (visited r l.n l.at l.first _ more (l.invariant.2 k.nodes (nodes_stand r)) z) passing breaks
          (l.invariant.3 k u r z passing breaks all),
      e.auto.counts ∙ l.invariant.4,
      e.auto.columns ∙ l.invariant.5,
      e.auto.built ∙ l.invariant.6,
    )
