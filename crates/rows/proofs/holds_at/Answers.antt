-- `holds_at`: the middle part that was lent is the row of state l. Assumes nothing.
use Prim.Native.Nat.{ℕ}
use Rattle.index.specs.Spans.{state_of}
use Rattle.rows.proofs.Written.{part_at}
use Rattle.rows.specs.Rows.{row_at, in_row}
use Rattle.rules.specs.State.{word_count, member}
use Rattle.rules.specs.Constraint.{signed}
use mathlib.Core.List.{List}
use mathlib.Core.Path.{ap, ◌∙◌}
use Rattle.std.proofs.Common.{rules}
use Rattle.rows.proofs.holds_at.Goals as goal

pub slice_bounds-holds-end : goal.slice_bounds-holds-end
unfolding word_count
slice_bounds-holds-end c = search rules

pub returns : goal.returns
unfolding word_count in_row row_at
returns c =
    let a = c.args in
    let from = c.row_start-from in
    c.with_sign.ensures
    ∙ ap (signed a.sign)
    (c.holds.ensures ∙ ap (λ (s : List ℕ). member s a.p) (part_at word_count a.states.now (state_of a.l) from.result from.ensures))
