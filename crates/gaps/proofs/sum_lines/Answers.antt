-- `sum_lines`: the sums so far, joined to those of the lines left, are those of all. Assumes nothing.
use mathlib.Core.Path.{◌≡◌}
use mathlib.Core.List.{List}
use Prim.Native.Nat.{ℕ, ◌+◌, ◌*◌, ◌≤◌, ◌<◌, min, max}
use native.Mathlib.Omega.{arith}
use lib.ListN.{get_or, drop}
use Rattle.rules.specs.declared.Header.{Header}
use Rattle.rules.specs.Index.{of_cue}
use Rattle.rules.specs.Case.{NodeLine}
use Rattle.rules.specs.Refusals.{Each}
use Rattle.rules.specs.Ranges.{GoodNode}
use Rattle.rules.specs.Gaps.{empty_count}
use Rattle.records.specs.Records.{NodesStand}
use Rattle.records.proofs.Turns.{size_placed}
use Rattle.gaps.specs.Sums.{low_of, high_of}
use Rattle.gaps.proofs.Lines.{Due, Inside, due_inside, place_few, over_empties, over_low, over_high, due_those, due_others}
use Rattle.gaps.proofs.Summing.{Sums, due_in, sums_start, sums_on, sums_end}
use Rattle.gaps.proofs.sum_lines.Goals as goal
use Rattle.gaps.proofs.sum_lines.Goals.{then-letter-eq-EMPTY, else-letter-eq-EMPTY, then-letter-eq-LEAF, else-letter-eq-LEAF}

-- Node lines stand there whose gaps and positions are at most 1000.
abbrev Good : List ℕ → ℕ → ℕ → Type 0
Good fields from count = (ns : List NodeLine) × (h : Header) × NodesStand fields from count ns × Each (GoodNode h) ns × (h.cues ≤ 1000)

module _ (k : ℕ) (fields : List ℕ) (from count p i low high empties : ℕ) (t : Sums k fields from count p i low high empties) where
  inside : Good fields from count → i < count → Inside fields p
  inside (ns, h, w, good, few) more = due_inside fields p ns i (due_in k fields from count p i low high empties t ns w more)

  cue_few : Good fields from count → i < count → (get_or fields p 0 ≡ 68 → ⊥) → get_or fields (p + 2) 0 ≤ 1000
  cue_few (ns, h, w, good, few) more other =
      omega (arith, place_few fields p ns i h (due_in k fields from count p i low high empties t ns w more) (omega (arith, w.counted)) good other)

-- What a line adds to the least and the greatest cue.
module _ (k : ℕ) (fields : List ℕ) (p : ℕ) (ns : List NodeLine) (i : ℕ) (d : Due fields p ns i) (low high low' high' : ℕ) where
  abbrev Joined : Type 0
  Joined = (min low' (low_of k (drop (i + 1) ns)) ≡ min low (low_of k (drop i ns))) × (max high' (high_of (drop (i + 1) ns)) ≡ max high (high_of (drop i ns)))

  cue_joined : get_or fields p 0 ≡ 76 → low' ≡ min low (2 * get_or fields (p + 2) 0) → high' ≡ max high (2 * get_or fields (p + 2) 0) → Joined
  unfolding of_cue
  cue_joined is l h =
      let a = due_those (over_low k) fields p ns i d is (λ q. omega arith) in
      let b = due_those over_high fields p ns i d is (λ q. omega arith) in
      (omega arith, omega arith)

  none_joined : (get_or fields p 0 ≡ 76 → ⊥) → low' ≡ low → high' ≡ high → Joined
  none_joined other l h =
      let a = due_others (over_low k) fields p ns i d other in
      let b = due_others over_high fields p ns i d other in
      (omega arith, omega arith)

pub loop-init : goal.loop-init
loop-init c = let a = c.args in (omega arith, omega arith, sums_start a.cues a.fields.now a.from a.count)

pub offset_bounds-fields-at : goal.offset_bounds-fields-at
offset_bounds-fields-at c =
    let a = c.args in
    let l = c.loop in
    let d = inside a.cues a.fields.now a.from a.count l.at l.counter l.low l.high l.empties l.invariant.2 c.requires.nodes_stand c.loop-test.true in
    omega arith

pub bounds-fields-at : goal.bounds-fields-at
bounds-fields-at c =
    let a = c.args in
    let l = c.loop in
    let d = inside a.cues a.fields.now a.from a.count l.at l.counter l.low l.high l.empties l.invariant.2 c.requires.nodes_stand c.loop-test.true in
    omega arith

pub bounds-fields-at-then-letter-eq-LEAF : goal.bounds-fields-at-then-letter-eq-LEAF
bounds-fields-at-then-letter-eq-LEAF c =
    let a = c.args in
    let l = c.loop in
    let more = c.loop-test.true in
    let d = inside a.cues a.fields.now a.from a.count l.at l.counter l.low l.high l.empties l.invariant.2 c.requires.nodes_stand more in
    let three = size_placed (get_or a.fields.now l.at 0) (λ e. omega (arith, c.if-letter-eq-LEAF.true)) in
    omega arith

pub overflow_mul-index : goal.overflow_mul-index
overflow_mul-index c =
    let a = c.args in
    let l = c.loop in
    let more = c.loop-test.true in
    let few = cue_few a.cues a.fields.now a.from a.count l.at l.counter l.low l.high l.empties l.invariant.2 c.requires.nodes_stand more
    (λ e. omega (arith, c.if-letter-eq-LEAF.true)) in
    omega arith

pub overflow_add-at : goal.overflow_add-at
overflow_add-at c =
    let a = c.args in
    let l = c.loop in
    let more = c.loop-test.true in
    let d = inside a.cues a.fields.now a.from a.count l.at l.counter l.low l.high l.empties l.invariant.2 c.requires.nodes_stand more in
    let size = c.node_size-at.ensures in
    omega arith

pub loop-preserved : goal.loop-preserved
loop-preserved c =
    let a = c.args in
    let f = a.fields.now in
    let l = c.loop in
    let more = c.loop-test.true in
    let few = l.invariant.1 in
    let low = c.if-letter-eq-LEAF.low in
    let high = c.if-letter-eq-LEAF.high in
    let empties = c.if-letter-eq-EMPTY.empties in
    let joined : (ns : List NodeLine) (d : Due f l.at ns l.counter) → Joined a.cues f l.at ns l.counter d l.low l.high low high =
    λ ns d. elim c.if-letter-eq-LEAF.branch [
      | then-letter-eq-LEAF w ↦
          cue_joined a.cues f l.at ns l.counter d l.low l.high low high w.if-letter-eq-LEAF.true (omega (arith, w.min-low.ensures, w.low-is))
          (omega (arith, w.max-high.ensures, w.high-is))
      | else-letter-eq-LEAF w ↦ none_joined a.cues f l.at ns l.counter d l.low l.high low high w.if-letter-eq-LEAF.false w.low-is w.high-is
    ] in
    let counted : (ns : List NodeLine) → Due f l.at ns l.counter → empties + empty_count (drop (l.counter + 1) ns) ≡ l.empties + empty_count (drop l.counter ns) =
    λ ns d. elim c.if-letter-eq-EMPTY.branch [
      | then-letter-eq-EMPTY w ↦ let own = due_those over_empties f l.at ns l.counter d w.if-letter-eq-EMPTY.true (λ q. omega arith) in omega (arith, w.empties-is)
      | else-letter-eq-EMPTY w ↦ let own = due_others over_empties f l.at ns l.counter d w.if-letter-eq-EMPTY.false in omega (arith, w.empties-is)
    ] in (
      elim c.if-letter-eq-EMPTY.branch [ then-letter-eq-EMPTY w ↦ omega (arith, w.empties-is) | else-letter-eq-EMPTY w ↦ omega (arith, w.empties-is) ],
      elim c.if-letter-eq-LEAF.branch [ then-letter-eq-LEAF w ↦ omega (arith, w.min-low.ensures, w.low-is) | else-letter-eq-LEAF w ↦ omega (arith, w.low-is) ],
      sums_on a.cues f a.from a.count l.at l.counter l.low l.high l.empties l.invariant.2 more low high empties c.node_size-at.result c.node_size-at.ensures
          (λ ns d. record { least = (joined ns d).0; greatest = (joined ns d).1; number = counted ns d }),
    )

pub returns : goal.returns
returns c =
    let a = c.args in
    let l = c.loop in
    sums_end a.cues a.fields.now a.from a.count l.at l.counter l.low l.high l.empties l.invariant.2 l.invariant.1 c.loop-test.false
