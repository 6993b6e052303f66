-- `count_empties`: the E lines so far, and those of the lines left, are all of them. Assumes nothing.
use mathlib.Core.List.{List}
use Prim.Native.Nat.{ℕ, ◌<◌}
use native.Mathlib.Omega.{arith}
use Rattle.rules.specs.Case.{NodeLine}
use Rattle.rules.specs.Gaps.{empty_count}
use Rattle.records.specs.Records.{NodesStand}
use Rattle.gaps.proofs.Lines.{Counted, Inside, due_inside, over_empties, due_those, due_others, due_of, counting_on}
use Rattle.gaps.proofs.count_empties.Goals as goal
use Rattle.gaps.proofs.count_empties.Goals.{then-letter-eq-EMPTY, else-letter-eq-EMPTY}

inside : (fields : List ℕ) (nodes count p i n : ℕ) → Counted empty_count fields nodes count p i n
    → ((ns : List NodeLine) × NodesStand fields nodes count ns) → i < count → Inside fields p
inside fields nodes count p i n t (ns, w) more = due_inside fields p ns i (due_of empty_count fields nodes count p i n t ns w more)

pub offset_bounds-fields-at : goal.offset_bounds-fields-at
offset_bounds-fields-at c =
    let l = c.loop in
    let d = inside c.args.fields.now c.args.nodes c.args.count l.at l.counter l.empties l.invariant.1 c.requires.nodes_stand c.loop-test.true in
    omega arith

pub bounds-fields-at : goal.bounds-fields-at
bounds-fields-at c =
    let l = c.loop in
    let d = inside c.args.fields.now c.args.nodes c.args.count l.at l.counter l.empties l.invariant.1 c.requires.nodes_stand c.loop-test.true in
    omega arith

pub overflow_add-at : goal.overflow_add-at
overflow_add-at c =
    let l = c.loop in
    let more = c.loop-test.true in
    let d = inside c.args.fields.now c.args.nodes c.args.count l.at l.counter l.empties l.invariant.1 c.requires.nodes_stand more in
    let size = c.node_size-at.ensures in
    omega arith

pub loop-preserved : goal.loop-preserved
loop-preserved c =
    let fields = c.args.fields.now in
    let l = c.loop in
    let more = c.loop-test.true in (
      elim c.if-letter-eq-EMPTY.branch [ then-letter-eq-EMPTY w ↦ omega arith | else-letter-eq-EMPTY w ↦ omega arith ],
      counting_on empty_count fields c.args.nodes c.args.count l.at l.counter l.empties l.invariant.1 more c.if-letter-eq-EMPTY.empties c.node_size-at.result
          c.node_size-at.ensures
          (λ ns d. elim c.if-letter-eq-EMPTY.branch [
            | then-letter-eq-EMPTY w ↦ let own = due_those over_empties fields l.at ns l.counter d w.if-letter-eq-EMPTY.true (λ q. omega arith) in omega (arith, w.empties-is)
            | else-letter-eq-EMPTY w ↦ let own = due_others over_empties fields l.at ns l.counter d w.if-letter-eq-EMPTY.false in omega (arith, w.empties-is)
          ]),
    )
