-- `sum_trees`: the trees that are left stand at a node and a place, and the parts of the others are stored (Summing). Assumes nothing.
use Prim.Native.Nat.{ℕ, ◌-◌, ◌<◌}
use Rattle.entering.proofs.Summing.{Summing, this_inside, this_after, this_lines, this_good, this_few, this_empties, Due, tree_due, summing_on, summing_ends}
use Rattle.entering.specs.declared.sums.Part.{Part}
use Rattle.entering.specs.Trees.{PartSays}
use Rattle.gaps.specs.Sums.{in_run}
use Rattle.records.specs.Records.{NodesStand}
use Rattle.rules.proofs.Judgement.Preorder.{lines_of}
use Rattle.rules.specs.Tree.{Trees}
use Rattle.tree.specs.Layout.{size}
use Rattle.parts.specs.Spans.{node_after}
use lib.ListN.{length}
use mathlib.Core.List.{List}
use mathlib.Core.Path.{◌≡◌, ap, subst, ◌∙◌}
use native.Mathlib.Omega.{arith}
use Rattle.entering.proofs.sums.sum_trees.Goals as goal

-- The code has the node after the tree that is due.
module _ {fields work : List ℕ} {cues first count : ℕ} {ts : Trees} {sums : List Part} {n place before j : ℕ}
    {p : Summing fields work cues first count ts sums n place before j} (x : Due p) {after : ℕ} (follows : after ≡ node_after work n) where
  sized : size x.this ≡ after - n
  sized = let a = this_after x.stand in omega arith

  its_lines : NodesStand fields place (after - n) (lines_of x.this)
  its_lines = subst (λ (m : ℕ). NodesStand fields place m (lines_of x.this)) sized (this_lines x.stand)

-- Of any trees that stand where the arguments say; the caller names some.
pub after_at-after-requires : goal.after_at-after-requires
after_at-after-requires c =
    let w = c.requires.trees_stand in
    this_inside (tree_due (c.loop-j.invariant w.0 w.1) c.loop-j-test.true).stand

pub overflow_sub-after : goal.overflow_sub-after
overflow_sub-after c =
    let w = c.requires.trees_stand in
    let a = this_after (tree_due (c.loop-j.invariant w.0 w.1) c.loop-j-test.true).stand in
    omega (arith, c.after_at-after.ensures)

pub sum_lines-sum-requires-clause-count_bound : goal.sum_lines-sum-requires-clause-count_bound
sum_lines-sum-requires-clause-count_bound c =
    let w = c.requires.trees_stand in
    let x = tree_due (c.loop-j.invariant w.0 w.1) c.loop-j-test.true in
    let few = this_few x.stand in
    let same = sized x c.after_at-after.ensures in
    (omega arith, c.requires.cues_bound.0)

pub sum_lines-sum-requires-clause-nodes_stand : goal.sum_lines-sum-requires-clause-nodes_stand
sum_lines-sum-requires-clause-nodes_stand c =
    let w = c.requires.trees_stand in
    let x = tree_due (c.loop-j.invariant w.0 w.1) c.loop-j-test.true in
    (lines_of x.this, x.stand.header, its_lines x c.after_at-after.ensures, this_good x.stand, x.stand.few_cues)

pub part_of-requires : goal.part_of-requires
part_of-requires c =
    let w = c.requires.trees_stand in
    let x = tree_due (c.loop-j.invariant w.0 w.1) c.loop-j-test.true in
    let few = this_empties x.stand in
    omega (arith, (c.sum_lines-sum.ensures (lines_of x.this) (its_lines x c.after_at-after.ensures)).2)

pub overflow_add-before : goal.overflow_add-before
overflow_add-before c =
    let w = c.requires.trees_stand in
    let x = tree_due (c.loop-j.invariant w.0 w.1) c.loop-j-test.true in
    let few = this_empties x.stand in
    omega (arith, (c.sum_lines-sum.ensures (lines_of x.this) (its_lines x c.after_at-after.ensures)).2)

pub loop-j-preserved : goal.loop-j-preserved
loop-j-preserved c = λ ts w.
    let l = c.loop-j in
    let p = c.part_of.ensures in
    let room : l.j < length l.sums = omega (arith, c.requires.cues_bound.1) in
    let x = tree_due (l.invariant ts w) c.loop-j-test.true in
    let s = c.sum_lines-sum.ensures (lines_of x.this) (its_lines x c.after_at-after.ensures) in
    let says : PartSays c.args.cues l.before (lines_of x.this) c.part_of.result = record {
      low = p.0 ∙ s.0;
      high = p.1 ∙ s.1;
      set = λ i. p.2 i ∙ ap (λ (m : ℕ). in_run l.before m i) s.2;
    } in
    summing_on (l.invariant ts w) x room c.part_of.result says c.after_at-after.result c.sum_lines-sum.result.next
    c.sum_lines-sum.result.empties c.after_at-after.ensures s.3 s.2

pub returns : goal.returns
returns c = λ ts w. summing_ends (c.loop-j.invariant ts w) c.loop-j-test.false
