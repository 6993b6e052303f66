-- `by_column`: the part that was lent is the column of p. Assumes nothing.
use Rattle.columns.proofs.Kept.{long}
use Rattle.columns.specs.Columns.{column_words, column_at, asked, Summed}
use Rattle.rows.proofs.Written.{part_at}
use Rattle.rules.specs.State.{every}
use Prim.Native.Nat.{ℕ, ◌-◌}
use lib.ListN.{length}
use mathlib.Core.List.{List}
use mathlib.Core.Path.{sym, ap, ap₂, subst, ◌∙◌}
use native.Mathlib.Omega.{arith}
use Rattle.columns.proofs.by_column.Goals as goal

pub slice_bounds-all_asked-end : goal.slice_bounds-all_asked-end
unfolding column_words
slice_bounds-all_asked-end c =
    omega (arith, c.requires.column_words_in_bounds, c.column_start-from.ensures)

pub all_asked-requires-clause-column_len : goal.all_asked-requires-clause-column_len
unfolding column_words column_at
all_asked-requires-clause-column_len c =
    let a = c.args in
    let from = c.column_start-from in
    ap length (part_at column_words a.columns.now a.p from.result from.ensures) ∙ long a.columns.now a.p c.requires.column_words_in_bounds

pub all_asked-requires-clause-summed : goal.all_asked-requires-clause-summed
unfolding column_words column_at
all_asked-requires-clause-summed c =
    let a = c.args in
    let from = c.column_start-from in
    let part = part_at column_words a.columns.now a.p from.result from.ensures in
    subst (λ (x : List ℕ). Summed x c.number-2.result) (sym part) (subst (Summed (column_at a.columns.now a.p)) (sym c.number-2.ensures) c.requires.summed)

pub returns : goal.returns
unfolding column_words column_at
returns c =
    let a = c.args in
    let from = c.column_start-from in
    let first = c.number in
    let past = c.number-2 in
    c.all_asked.ensures
    ∙ ap (λ (x : List ℕ). every (past.result - first.result) first.result (asked a.sign x)) (part_at column_words a.columns.now a.p from.result from.ensures)
    ∙ ap₂ (λ (m n : ℕ). every (n - m) m (asked a.sign (column_at a.columns.now a.p))) first.ensures past.ensures
