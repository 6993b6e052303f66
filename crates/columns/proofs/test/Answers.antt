-- `test`: each of the ways answers as the states do. Assumes nothing.
use Rattle.columns.proofs.Kept.{built_place, answer, no_state, one_state}
use Rattle.index.specs.Spans.{state_of}
use Rattle.rows.specs.Rows.{in_row}
use Rattle.std.proofs.lemmas.Bool.Decides.{nat_tests}
use Prim.Native.Nat.{◌+◌, ◌<◌, ◌≤◌}
use mathlib.Core.Path.{sym, ◌∙◌}
use native.Mathlib.Omega.{arith}
use Rattle.columns.proofs.test.Goals as goal

pub returns-then-ge-clause-value : goal.returns-then-ge-clause-value
returns-then-ge-clause-value c =
    let a = c.args in
    let none : state_of a.past ≤ state_of a.first = grind (arith, nat_tests) in
    no_state (in_row a.states.now) a.sign a.p (state_of a.first) (state_of a.past) none

pub returns-then-ge-2-clause-value : goal.returns-then-ge-2-clause-value
returns-then-ge-2-clause-value c =
    let a = c.args in
    let less : state_of a.first < state_of a.past = grind (arith, nat_tests) in
    let over : state_of a.past ≤ state_of a.first + 1 = grind (arith, nat_tests) in
    c.holds_at.ensures ∙ one_state (in_row a.states.now) a.sign a.p (state_of a.first) (state_of a.past) (omega arith)

pub by_column-requires-clause-column_words_in_bounds :
    goal.by_column-requires-clause-column_words_in_bounds
by_column-requires-clause-column_words_in_bounds c =
    built_place c.requires.columns c.args.p (sym c.holds.ensures ∙ c.if-holds.true)

pub by_column-requires-2-clause-column_words_in_bounds :
    goal.by_column-requires-2-clause-column_words_in_bounds
by_column-requires-2-clause-column_words_in_bounds c = built_place c.fill.ensures.columns_2 c.args.p c.fill.ensures.p_after

pub returns-then-holds-clause-value : goal.returns-then-holds-clause-value
returns-then-holds-clause-value c =
    let a = c.args in
    let made = sym c.holds.ensures ∙ c.if-holds.true in
    answer c.requires.columns a.sign a.p (state_of a.first) (state_of a.past) made c.requires.past_bound c.by_column.ensures

pub returns-clause-value : goal.returns-clause-value
returns-clause-value c =
    let a = c.args in
    let f = c.fill.ensures in
    answer f.columns_2 a.sign a.p (state_of a.first) (state_of a.past) f.p_after c.requires.past_bound c.by_column-2.ensures
