-- `claimed_surplus`: the digits past the first ones so far, and those of the lines left, are all of them. Assumes nothing.
use mathlib.Core.Path.{◌≡◌}
use mathlib.Core.List.{List}
use Prim.Native.Nat.{ℕ, ◌+◌, ◌≤◌, ◌<◌}
use native.Mathlib.Omega.{arith}
use lib.ListN.{get_or}
use Rattle.rules.specs.declared.Header.{Header}
use Rattle.rules.specs.Case.{NodeLine}
use Rattle.rules.specs.Refusals.{Each}
use Rattle.rules.specs.Ranges.{GoodNode}
use Rattle.records.specs.Records.{NodesStand}
use Rattle.records.proofs.Turns.{size_placed}
use Rattle.gaps.proofs.Digits.{digits_few}
use Rattle.gaps.proofs.Lines.{surplus_of, Counted, Inside, due_inside, over_surplus, due_those, due_others, due_of, place_few, counting_on}
use Rattle.gaps.proofs.claimed_surplus.Goals as goal
use Rattle.gaps.proofs.claimed_surplus.Goals.{then-letter-eq-EMPTY, else-letter-eq-EMPTY}

-- Node lines stand there whose gaps and positions are at most 1000.
abbrev Good : List ℕ → ℕ → ℕ → Type 0
Good fields nodes count = (ns : List NodeLine) × (h : Header) × NodesStand fields nodes count ns × Each (GoodNode h) ns × (h.cues ≤ 1000)

module _ (fields : List ℕ) (nodes count p i n : ℕ) (t : Counted surplus_of fields nodes count p i n) where
  inside : Good fields nodes count → i < count → Inside fields p
  inside (ns, h, w, good, few) more = due_inside fields p ns i (due_of surplus_of fields nodes count p i n t ns w more)

  gap_few : Good fields nodes count → i < count → (get_or fields p 0 ≡ 68 → ⊥) → get_or fields (p + 2) 0 ≤ 1000
  gap_few (ns, h, w, good, few) more other =
      omega (arith, place_few fields p ns i h (due_of surplus_of fields nodes count p i n t ns w more) (omega (arith, w.counted)) good other)

pub offset_bounds-fields-at : goal.offset_bounds-fields-at
offset_bounds-fields-at c =
    let l = c.loop in
    let d = inside c.args.fields.now c.args.nodes c.args.count l.at l.counter l.digits l.invariant.1 c.requires.nodes_stand c.loop-test.true in
    omega arith

pub bounds-fields-at : goal.bounds-fields-at
bounds-fields-at c =
    let l = c.loop in
    let d = inside c.args.fields.now c.args.nodes c.args.count l.at l.counter l.digits l.invariant.1 c.requires.nodes_stand c.loop-test.true in
    omega arith

pub bounds-fields-at-then-letter-eq-EMPTY : goal.bounds-fields-at-then-letter-eq-EMPTY
bounds-fields-at-then-letter-eq-EMPTY c =
    let l = c.loop in
    let more = c.loop-test.true in
    let d = inside c.args.fields.now c.args.nodes c.args.count l.at l.counter l.digits l.invariant.1 c.requires.nodes_stand more in
    let three = size_placed (get_or c.args.fields.now l.at 0) (λ e. omega (arith, c.if-letter-eq-EMPTY.true)) in
    omega arith

pub more_digits-digits-requires : goal.more_digits-digits-requires
more_digits-digits-requires c =
    let l = c.loop in
    let more = c.loop-test.true in
    gap_few c.args.fields.now c.args.nodes c.args.count l.at l.counter l.digits l.invariant.1 c.requires.nodes_stand more (λ e. omega (arith, c.if-letter-eq-EMPTY.true))

pub overflow_add-digits : goal.overflow_add-digits
overflow_add-digits c =
    let l = c.loop in
    let more = c.loop-test.true in
    let few = gap_few c.args.fields.now c.args.nodes c.args.count l.at l.counter l.digits l.invariant.1 c.requires.nodes_stand more (λ e. omega (arith, c.if-letter-eq-EMPTY.true)) in
    let own = digits_few (get_or c.args.fields.now (l.at + 2) 0) few in
    let is = c.more_digits-digits.ensures in
    omega arith

pub overflow_add-at-in-loop : goal.overflow_add-at-in-loop
overflow_add-at-in-loop c =
    let l = c.loop in
    let more = c.loop-test.true in
    let d = inside c.args.fields.now c.args.nodes c.args.count l.at l.counter l.digits l.invariant.1 c.requires.nodes_stand more in
    let size = c.node_size-at.ensures in
    omega arith

pub loop-preserved : goal.loop-preserved
loop-preserved c =
    let fields = c.args.fields.now in
    let l = c.loop in
    let more = c.loop-test.true in
    let few = gap_few fields c.args.nodes c.args.count l.at l.counter l.digits l.invariant.1 c.requires.nodes_stand more in (
      elim c.if-letter-eq-EMPTY.branch [
        | then-letter-eq-EMPTY w ↦
            omega (arith, digits_few (get_or fields (l.at + 2) 0) (few (λ e. omega (arith, w.if-letter-eq-EMPTY.true))), w.more_digits-digits.ensures, w.digits-is)
        | else-letter-eq-EMPTY w ↦ omega (arith, w.digits-is)
      ],
      counting_on surplus_of fields c.args.nodes c.args.count l.at l.counter l.digits l.invariant.1 more c.if-letter-eq-EMPTY.digits c.node_size-at.result
          c.node_size-at.ensures
          (λ ns d. elim c.if-letter-eq-EMPTY.branch [
            | then-letter-eq-EMPTY w ↦
                let own = due_those over_surplus fields l.at ns l.counter d w.if-letter-eq-EMPTY.true (λ q. omega arith) in omega (arith, w.more_digits-digits.ensures, w.digits-is)
            | else-letter-eq-EMPTY w ↦ let own = due_others over_surplus fields l.at ns l.counter d w.if-letter-eq-EMPTY.false in omega (arith, w.digits-is)
          ]),
    )
