-- `in_order`: all are in order exactly where the last one passed and those left are (Passing). Assumes nothing.
use mathlib.Core.Path.{sym, ◌∙◌}
use mathlib.Core.List.{List}
use Prim.Native.Nat.{ℕ, ◌<◌}
use Rattle.sorting.specs.declared.Key.{Key}
use native.Mathlib.Omega.{arith}
use Rattle.rules.specs.Case.{Constraint}
use Rattle.tidying.specs.Tidy.{ConstraintsHere}
use Rattle.tidying.proofs.First.{First, first, line_inside}
use Rattle.tidying.proofs.Passing.{Passing, passing_starts, due_next, passing_on, passing_stops}
use Rattle.tidying.proofs.order.in_order.Goals as goal

-- The first constraint.
begin : (fields : List ℕ) (from count : ℕ) (cs : List Constraint) → 0 < count → ConstraintsHere fields from count cs → First fields from cs
begin fields from count cs some h =
    let n = h.counted in
    first fields from cs (omega arith) h.here

-- The constraint whose line is next.
next : (fields : List ℕ) (from count : ℕ) (cs : List Constraint) (last : Key) (at i : ℕ) → i < count → ConstraintsHere fields from count cs
    → (p : Passing fields from cs last at i) → First fields at p.rest
next fields from count cs last at i more h p =
    let n = h.counted in
    due_next fields from cs last at i p (omega arith)

pub key_at-last-requires : goal.key_at-last-requires
key_at-last-requires c =
    let d = begin c.args.fields.now c.args.from c.args.count c.requires.0 (omega (arith, c.if-count-eq0.false)) c.requires.1 in
    (d.c, d.line)

pub overflow_add-at : goal.overflow_add-at
overflow_add-at c =
    let a = c.args in
    let k = c.key_at-last in
    let d = begin c.args.fields.now c.args.from c.args.count c.requires.0 (omega (arith, c.if-count-eq0.false)) c.requires.1 in
    let w = line_inside a.fields.now a.from c.requires.0 d k.result (k.ensures d.c d.line) (λ j. let w = c.type_inv.fields j in omega arith) in
    let z = c.key_size.ensures in
    omega arith

pub loop-i-init : goal.loop-i-init
loop-i-init c =
    let a = c.args in
    let k = c.key_at-last in
    let some = c.if-count-eq0.false in
    λ cs h.
    let d = begin a.fields.now a.from a.count cs (omega arith) h in
    passing_starts a.fields.now a.from cs d k.result (k.ensures d.c d.line) (λ j. let w = c.type_inv.fields j in omega arith)
    c.key_size.result c.key_size.ensures

pub key_at-key-requires : goal.key_at-key-requires
key_at-key-requires c =
    let d = next c.args.fields.now c.args.from c.args.count c.requires.0 c.loop-i.last c.loop-i.at c.loop-i._i c.loop-i-test.true c.requires.1 (c.loop-i.invariant c.requires.0 c.requires.1) in
    (d.c, d.line)

pub overflow_add-at-in-loop-i : goal.overflow_add-at-in-loop-i
overflow_add-at-in-loop-i c =
    let l = c.loop-i in
    let a = c.args in
    let k = c.key_at-key in
    let d = next c.args.fields.now c.args.from c.args.count c.requires.0 c.loop-i.last c.loop-i.at c.loop-i._i c.loop-i-test.true c.requires.1 (c.loop-i.invariant c.requires.0 c.requires.1) in
    let w = line_inside a.fields.now l.at (l.invariant c.requires.0 c.requires.1).rest d k.result (k.ensures d.c d.line)
    (λ j. let w = c.type_inv.fields j in omega arith) in
    let z = c.key_size-at.ensures in
    omega arith

pub loop-i-preserved : goal.loop-i-preserved
loop-i-preserved c =
    let l = c.loop-i in
    let a = c.args in
    let k = c.key_at-key in
    λ cs h.
    let d = next a.fields.now a.from a.count cs l.last l.at l._i c.loop-i-test.true h (l.invariant cs h) in
    passing_on a.fields.now a.from cs l.last l.at l._i (l.invariant cs h) d k.result (k.ensures d.c d.line)
    (λ j. let w = c.type_inv.fields j in omega arith)
    (sym c.less.ensures ∙ c.if-not-less.false) c.key_size-at.result c.key_size-at.ensures

pub returns-then-not-less : goal.returns-then-not-less
returns-then-not-less c = λ cs h.
    let l = c.loop-i in
    let a = c.args in
    let k = c.key_at-key in
    let d = next a.fields.now a.from a.count cs l.last l.at l._i c.loop-i-test.true h (l.invariant cs h) in
    passing_stops a.fields.now a.from cs l.last l.at l._i (l.invariant cs h) d k.result (k.ensures d.c d.line)
    (λ j. let w = c.type_inv.fields j in omega arith)
    (sym c.less.ensures ∙ c.if-not-less.true)
