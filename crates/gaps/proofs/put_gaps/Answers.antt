-- `put_gaps`: the lines passed hold the gaps of the choice, the lines left are as they came. Assumes nothing.
use mathlib.Core.Path.{◌≡◌, sym, subst}
use mathlib.Core.List.{List}
use Prim.Native.Nat.{ℕ, ◌+◌, ◌≤◌, ◌<◌}
use native.Mathlib.Omega.{arith}
use lib.ListN.{length, get_or, set}
use Rattle.rules.specs.Case.{NodeLine}
use Rattle.rules.specs.Gaps.{empty_count}
use Rattle.fields.specs.Directory.{node_size}
use Rattle.records.specs.Records.{NodesStand}
use Rattle.records.proofs.Turns.{size_placed}
use Rattle.gaps.proofs.Lines.{Inside, due_inside, over_empties, due_those}
use Rattle.gaps.proofs.Putting.{Putting, Puts, due_now, put_past, put_here}
use Rattle.gaps.proofs.put_gaps.Goals as goal
use Rattle.gaps.proofs.put_gaps.Goals.{then-letter-eq-EMPTY, else-letter-eq-EMPTY}

module _ (start choice : List ℕ) (nodes count : ℕ) (fields : List ℕ) (p i a : ℕ) (t : Puts start choice nodes count fields p i a) (more : i < count) where
  inside : ((ns : List NodeLine) × NodesStand start nodes count ns × (empty_count ns ≤ length choice)) → Inside fields p
  inside (ns, s, e) = due_inside fields p ns i (due_now start choice nodes ns s.here.rest fields p i a (t ns s e) (omega (arith, s.counted)))

  -- At an E line a gap is left.
  gap_left : get_or fields p 0 ≡ 69 → ((ns : List NodeLine) × NodesStand start nodes count ns × (empty_count ns ≤ length choice)) → a < length choice
  gap_left is (ns, s, e) =
      let g = t ns s e in
      let d = due_now start choice nodes ns s.here.rest fields p i a g (omega (arith, s.counted)) in
      omega (arith, due_those over_empties fields p ns i d is (λ q. omega arith), g.counted)

  puts_here : (now : List ℕ) (b size : ℕ) → size ≡ node_size (get_or fields p 0) → get_or fields p 0 ≡ 69 → now ≡ set fields (p + 2) (get_or choice a 0)
      → b ≡ a + 1 → Puts start choice nodes count now (p + size) (i + 1) b
  puts_here now b size e is u v ns s few =
      let d = due_now start choice nodes ns s.here.rest fields p i a (t ns s few) (omega (arith, s.counted)) in
      let put = put_here start choice nodes ns s.here.rest fields p i a (t ns s few) d is size e in
      subst (λ (l : List ℕ). Putting start choice nodes ns s.here.rest l (p + size) (i + 1) b) (sym u)
      (subst (λ (m : ℕ). Putting start choice nodes ns s.here.rest (set fields (p + 2) (get_or choice a 0)) (p + size) (i + 1) m) (sym v) put)

  puts_past : (now : List ℕ) (b size : ℕ) → size ≡ node_size (get_or fields p 0) → (get_or fields p 0 ≡ 69 → ⊥) → now ≡ fields → b ≡ a
      → Puts start choice nodes count now (p + size) (i + 1) b
  puts_past now b size e other u v ns s few =
      let d = due_now start choice nodes ns s.here.rest fields p i a (t ns s few) (omega (arith, s.counted)) in
      let put = put_past start choice nodes ns s.here.rest fields p i a (t ns s few) d other size e in
      subst (λ (l : List ℕ). Putting start choice nodes ns s.here.rest l (p + size) (i + 1) b) (sym u)
      (subst (λ (m : ℕ). Putting start choice nodes ns s.here.rest fields (p + size) (i + 1) m) (sym v) put)

pub offset_bounds-fields-at : goal.offset_bounds-fields-at
offset_bounds-fields-at c =
    let a = c.args in
    let l = c.loop in
    let d = inside a.fields.now a.choice.now a.nodes a.count l.fields l.at l.counter l.a l.invariant c.loop-test.true c.requires in
    omega arith

pub bounds-fields-at : goal.bounds-fields-at
bounds-fields-at c =
    let a = c.args in
    let l = c.loop in
    let d = inside a.fields.now a.choice.now a.nodes a.count l.fields l.at l.counter l.a l.invariant c.loop-test.true c.requires in
    omega arith

pub offset_bounds-choice-a : goal.offset_bounds-choice-a
offset_bounds-choice-a c =
    let a = c.args in
    let l = c.loop in
    let more = c.loop-test.true in
    let left = gap_left a.fields.now a.choice.now a.nodes a.count l.fields l.at l.counter l.a l.invariant more c.if-letter-eq-EMPTY.true c.requires in
    omega arith

pub bounds-choice-a : goal.bounds-choice-a
bounds-choice-a c =
    let a = c.args in
    let l = c.loop in
    let more = c.loop-test.true in
    gap_left a.fields.now a.choice.now a.nodes a.count l.fields l.at l.counter l.a l.invariant more c.if-letter-eq-EMPTY.true c.requires

pub bounds-fields-at-then-letter-eq-EMPTY : goal.bounds-fields-at-then-letter-eq-EMPTY
bounds-fields-at-then-letter-eq-EMPTY c =
    let a = c.args in
    let l = c.loop in
    let more = c.loop-test.true in
    let d = inside a.fields.now a.choice.now a.nodes a.count l.fields l.at l.counter l.a l.invariant more c.requires in
    let three = size_placed (get_or l.fields l.at 0) (λ e. omega (arith, c.if-letter-eq-EMPTY.true)) in
    omega arith

pub overflow_add-a : goal.overflow_add-a
overflow_add-a c =
    let a = c.args in
    let l = c.loop in
    let more = c.loop-test.true in
    let left = gap_left a.fields.now a.choice.now a.nodes a.count l.fields l.at l.counter l.a l.invariant more c.if-letter-eq-EMPTY.true c.requires in
    omega arith

pub overflow_add-at : goal.overflow_add-at
overflow_add-at c =
    let a = c.args in
    let l = c.loop in
    let more = c.loop-test.true in
    let d = inside a.fields.now a.choice.now a.nodes a.count l.fields l.at l.counter l.a l.invariant more c.requires in
    let size = c.node_size-at.ensures in
    omega arith

pub loop-preserved : goal.loop-preserved
loop-preserved c =
    let a = c.args in
    let l = c.loop in
    let more = c.loop-test.true in
    let n = c.if-letter-eq-EMPTY.fields in
    let b = c.if-letter-eq-EMPTY.a in
    let size = c.node_size-at.ensures in
    elim c.if-letter-eq-EMPTY.branch [
      | then-letter-eq-EMPTY w ↦
          puts_here a.fields.now a.choice.now a.nodes a.count l.fields l.at l.counter l.a l.invariant more n b c.node_size-at.result size
          w.if-letter-eq-EMPTY.true w.fields-is w.a-is
      | else-letter-eq-EMPTY w ↦
          puts_past a.fields.now a.choice.now a.nodes a.count l.fields l.at l.counter l.a l.invariant more n b c.node_size-at.result size
          w.if-letter-eq-EMPTY.false w.fields-is w.a-is
    ]
