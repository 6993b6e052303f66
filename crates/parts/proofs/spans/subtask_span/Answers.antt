-- The row of the node that the subtask's place names. Assumes nothing.
use Prim.Native.Nat.{ℕ}
use Rattle.parts.proofs.Parts.{node_at}
use Rattle.parts.specs.Spans.{row_span, RowInside, subtask_span}
use Rattle.tree.specs.Layout.{subtasks_from, subtasks_past}
use mathlib.Core.Path.{sym, ap, subst, ◌∙◌}
use native.Mathlib.Omega.{arith}
use Rattle.parts.proofs.spans.subtask_span.Goals as goal

pub bounds-work-at : goal.bounds-work-at
unfolding subtasks_past
bounds-work-at c = omega (arith, c.requires.subtasks_past_in_bounds, c.requires.subtask_inside.few)

pub span_at-requires : goal.span_at-requires
unfolding subtasks_from
span_at-requires c =
    let a = c.args in let p = c.requires.subtask_inside in
    subst (λ (n : ℕ). RowInside a.work.now n) (node_at a.work.now a.j p.few) p.row

pub returns : goal.returns
unfolding subtask_span subtasks_from
returns c =
    let a = c.args in
    c.span_at.ensures ∙ ap (row_span a.work.now) (sym (node_at a.work.now a.j c.requires.subtask_inside.few))
