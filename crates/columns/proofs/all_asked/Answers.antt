-- `all_asked`: the first word, the words between by the sign's sum, the last; a word's bits are as the sign asks where those of the word turned
-- are clear. Assumes nothing.
use mathlib.Core.Logic.{◌≢◌}
use mathlib.Core.Path.{◌∙◌}
use Prim.Native.Nat.{ℕ, ◌-◌, ◌/◌, ◌<◌}
use native.Mathlib.Omega.{arith}
use Rattle.columns.proofs.Walking.{sum_in_column, one_word, first_word, words_between, last_word, first_fails, middle_fails, last_decides}
use Rattle.columns.specs.Columns.{state_words, column_words}
use Rattle.std.proofs.Common.{rules}
use Rattle.columns.proofs.all_asked.Goals as goal

-- More than one word.
more : (a b : ℕ) → a < b → a / 64 ≢ (b - 1) / 64 → a / 64 < (b - 1) / 64
more a b some e = omega arith

pub bounds-column-i : goal.bounds-column-i
unfolding state_words column_words
bounds-column-i c = search rules

pub returns-then-i-j : goal.returns-then-i-j
returns-then-i-j c =
    let a = c.args in
    let w = c.turned in
    c.clear_within.ensures
    ∙ one_word a.sign a.column.now a.a a.b c.requires.a_lt_b c.if-i-j.true w.result w.ensures

pub bounds-column-i-2 : goal.bounds-column-i-2
unfolding state_words column_words
bounds-column-i-2 c = search rules

pub returns-then-not-clear_within : goal.returns-then-not-clear_within
returns-then-not-clear_within c =
    let a = c.args in
    let two = more a.a a.b c.requires.a_lt_b c.if-i-j.false in
    let first = c.clear_within-2.ensures ∙ first_word a.sign a.column.now a.a a.b two c.turned-2.result c.turned-2.ensures in
    first_fails a.sign a.column.now a.a a.b two first c.if-not-clear_within.true

pub offset_bounds-column-sum_at : goal.offset_bounds-column-sum_at
unfolding column_words
offset_bounds-column-sum_at c = search (rules, sum_in_column _ c.sum_at.ensures)

pub bounds-column-sum_at : goal.bounds-column-sum_at
bounds-column-sum_at c = search (rules, sum_in_column _ c.sum_at.ensures)

pub clear_within-requires-3-clause-a_bound : goal.clear_within-requires-3-clause-a_bound
unfolding state_words
clear_within-requires-3-clause-a_bound c = omega (arith, c.requires.b_bound)

pub clear_within-requires-3-clause-le_b : goal.clear_within-requires-3-clause-le_b
unfolding state_words
clear_within-requires-3-clause-le_b c =
    let two = more c.args.a c.args.b c.requires.a_lt_b c.if-i-j.false in
    (omega arith, omega (arith, c.requires.b_bound))

pub returns-then-not-clear_within-2 : goal.returns-then-not-clear_within-2
returns-then-not-clear_within-2 c =
    let a = c.args in
    let two = more a.a a.b c.requires.a_lt_b c.if-i-j.false in
    let first = c.clear_within-2.ensures ∙ first_word a.sign a.column.now a.a a.b two c.turned-2.result c.turned-2.ensures in
    let middle = c.clear_within-3.ensures
    ∙ words_between a.sign a.column.now a.a a.b two c.requires.b_bound c.requires.summed c.sum_at.result c.sum_at.ensures in
    middle_fails a.sign a.column.now a.a a.b two first c.if-not-clear_within.false middle c.if-not-clear_within-2.true

pub bounds-column-j : goal.bounds-column-j
unfolding state_words column_words
bounds-column-j c = search rules

pub returns : goal.returns
returns c =
    let a = c.args in
    let two = more a.a a.b c.requires.a_lt_b c.if-i-j.false in
    let first = c.clear_within-2.ensures ∙ first_word a.sign a.column.now a.a a.b two c.turned-2.result c.turned-2.ensures in
    let middle = c.clear_within-3.ensures
    ∙ words_between a.sign a.column.now a.a a.b two c.requires.b_bound c.requires.summed c.sum_at.result c.sum_at.ensures in
    let last = c.clear_within-4.ensures ∙ last_word a.sign a.column.now a.a a.b two c.turned-3.result c.turned-3.ensures in
    last_decides a.sign a.column.now a.a a.b two first c.if-not-clear_within.false middle c.if-not-clear_within-2.false last
