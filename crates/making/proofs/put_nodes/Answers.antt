-- `put_nodes`: what is stored, with the nodes of the links of the frames, is the whole tree. Assumes nothing.
use mathlib.Core.Path.{◌≡◌, refl, ap, ◌∙◌}
use mathlib.Core.List.{List}
use mathlib.Core.Logic.{◌⊎◌, inl, inr, ⊎_elim}
use Prim.Native.Nat.{ℕ, ◌+◌, ◌-◌, ◌≤◌, ◌<◌}
use native.Mathlib.Omega.{arith}
use lib.ListN.{length, get_or, set, length-set}
use Rattle.rules.specs.Case.{NodeLine}
use Rattle.making.specs.declared.Walk.{Walk}
use Rattle.making.proofs.Walks.{Turning, Due, due_visitable, due_on, turning_ends, turning_anew, turning_joins, turning_top, turning_more, turning_last, root_due, ends_stored}
use Rattle.making.proofs.put_nodes.Goals.{then-at-end, else-at-end}
use Rattle.making.proofs.put_nodes.Goals as goal

-- The next link of the frame on top is taken: either the frame has more, or this was its last one.
taken : {starts links labels : List ℕ} {cues count : ℕ} {before : List ℕ} {b : Walk} {whole : List NodeLine} {left : ℕ} {fields next last : List ℕ} {w : Walk}
    → Turning starts links labels cues count before b whole left fields next last w
    → (w.depth ≡ 0 → ⊥) → (l : ℕ) → l ≡ get_or links (get_or next (w.depth - 1) 0) 0 → (after : List ℕ) (r : Walk)
    → ((get_or next (w.depth - 1) 0 < get_or last (w.depth - 1) 0) × (after ≡ set next (w.depth - 1) (get_or next (w.depth - 1) 0 + 1)) × (r ≡ w))
    ⊎ ((get_or last (w.depth - 1) 0 ≤ get_or next (w.depth - 1) 0) × (after ≡ next) × (r ≡ record { end = w.end; nodes = w.nodes; depth = w.depth - 1 }))
    → Due starts links labels cues count before b whole left l fields after last r
taken g some l e after r = ⊎_elim (λ x. turning_more g some l e after r x.0 x.1 x.2) (λ x. turning_last g some l e after r x.0 x.1 x.2)

pub visit-w-requires-clause-link_bound : goal.visit-w-requires-clause-link_bound
visit-w-requires-clause-link_bound c =
    (due_visitable (root_due c.requires.by_index.3 c.requires.room) (omega (arith, c.if-count-eq0.false))).0

pub loop-init : goal.loop-init
loop-init c =
    let v = c.visit-w in
    let some : 0 < c.args.count = omega (arith, c.if-count-eq0.false) in
    let first = due_on (root_due c.requires.by_index.3 c.requires.room) some v.result _ _ _ v.ensures v.auto.next v.auto.last _ refl in
    (refl, refl, refl, turning_anew first)

pub bounds-links-at : goal.bounds-links-at
bounds-links-at c =
    let t = turning_top c.loop.invariant.3 c.if-depth-eq0.false in
    omega arith

pub visit-w-requires-in-loop-clause-link_bound : goal.visit-w-requires-in-loop-clause-link_bound
visit-w-requires-in-loop-clause-link_bound c =
    let j = c.if-at-end in
    let due =
    taken c.loop.invariant.3 c.if-depth-eq0.false c.from-link.result c.from-link.ensures j.next j.w
    (elim j.branch [ then-at-end x ↦ inl (x.if-at-end.true, x.next-is, x.w-is) | else-at-end x ↦ inr (x.if-at-end.false, x.next-is, x.w-is) ]) in
    (due_visitable due (omega (arith, c.loop-test.true))).0

pub visit-w-requires-in-loop-clause-end_in_bounds : goal.visit-w-requires-in-loop-clause-end_in_bounds
visit-w-requires-in-loop-clause-end_in_bounds c =
    let j = c.if-at-end in
    let due =
    taken c.loop.invariant.3 c.if-depth-eq0.false c.from-link.result c.from-link.ensures j.next j.w
    (elim j.branch [ then-at-end x ↦ inl (x.if-at-end.true, x.next-is, x.w-is) | else-at-end x ↦ inr (x.if-at-end.false, x.next-is, x.w-is) ]) in
    (due_visitable due (omega (arith, c.loop-test.true))).1

pub loop-preserved : goal.loop-preserved
loop-preserved c =
    let l = c.loop in
    let j = c.if-at-end in
    let due =
    taken l.invariant.3 c.if-depth-eq0.false c.from-link.result c.from-link.ensures j.next j.w
    (elim j.branch [ then-at-end x ↦ inl (x.if-at-end.true, x.next-is, x.w-is) | else-at-end x ↦ inr (x.if-at-end.false, x.next-is, x.w-is) ]) in
    let v = c.visit-w-in-loop in
    let long : length j.next ≡ length l.next =
    elim j.branch [ then-at-end x ↦ ap length x.next-is ∙ length-set l.next (l.w.depth - 1) _ | else-at-end x ↦ ap length x.next-is ] in (
      v.auto.fields ∙ l.invariant.0,
      v.auto.next ∙ long ∙ l.invariant.1,
      v.auto.last ∙ l.invariant.2,
      due_on due (omega (arith, c.loop-test.true)) v.result _ _ _ v.ensures v.auto.next v.auto.last _ (omega arith),
    )

pub returns-after-loop : goal.returns-after-loop
returns-after-loop c =
    let v = c.visit-w in
    let l = c.loop in
    let some : 0 < c.args.count = omega (arith, c.if-count-eq0.false) in
    let first = due_on (root_due c.requires.by_index.3 c.requires.room) some v.result _ _ _ v.ensures v.auto.next v.auto.last _ refl in
    let e = turning_joins first l.fields l.w (turning_ends l.invariant.3 (inl (omega (arith, c.loop-test.false)))) in
    λ es ids id h. ends_stored h c.args.fields.now c.args.from l.fields l.w e _ refl refl

pub returns-then-depth-eq0 : goal.returns-then-depth-eq0
returns-then-depth-eq0 c =
    let v = c.visit-w in
    let l = c.loop in
    let some : 0 < c.args.count = omega (arith, c.if-count-eq0.false) in
    let first = due_on (root_due c.requires.by_index.3 c.requires.room) some v.result _ _ _ v.ensures v.auto.next v.auto.last _ refl in
    let e = turning_joins first l.fields l.w (turning_ends l.invariant.3 (inr c.if-depth-eq0.true)) in
    λ es ids id h. ends_stored h c.args.fields.now c.args.from l.fields l.w e _ refl refl
