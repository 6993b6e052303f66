-- `build`: the words before w are right (Right); then the two last words sum them up, and leave them as they are. Assumes nothing.
use Rattle.columns.proofs.Filling.{Right, right_more, column_done}
use Rattle.columns.specs.Columns.{state_words, column_words}
use Rattle.rows.specs.Rows.{in_row}
use Rattle.rules.specs.declared.Sign.TheVariants.{Positive}
use lib.ListN.{length-set}
use Prim.Native.Nat.{ℕ}
use mathlib.Core.Path.{◌≡◌, subst, ◌∙◌}
use native.Mathlib.Omega.{arith}
use Rattle.std.proofs.Common.{rules}
use Rattle.columns.proofs.build.Goals as goal

pub bounds-column-w : goal.bounds-column-w
unfolding state_words column_words
bounds-column-w c = search rules

pub loop-w-preserved : goal.loop-w-preserved
unfolding state_words column_words
loop-w-preserved c =
    let l = c.loop-w in
    let a = c.args in (
      length-set l.column l.w _ ∙ l.invariant.0,
      right_more (in_row a.states.now Positive a.p) a.n l.column l.w c.word_end.result c.word_of.result (omega arith) c.word_of.ensures c.word_end.ensures.3 l.invariant.1,
    )

pub summary-requires : goal.summary-requires
unfolding state_words column_words
summary-requires c = search rules

pub bounds-column-16 : goal.bounds-column-16
unfolding state_words column_words
bounds-column-16 c = search rules

pub summary-requires-2 : goal.summary-requires-2
unfolding state_words column_words
summary-requires-2 c = omega (arith, length-set c.loop-w.column state_words c.summary.result)

pub bounds-column : goal.bounds-column
unfolding state_words column_words
bounds-column c = search rules

pub returns : goal.returns
unfolding state_words
returns c =
    let l = c.loop-w in
    let a = c.args in
    let words = c.div_ceil-words in
    let all : l.w ≡ words.result = omega arith in
    column_done l.column c.summary.result c.summary-2.result (l.invariant.0 ∙ c.requires.column_len) a.states.now a.p a.n words.result c.requires.n_bound (omega arith)
    (subst (λ (w : ℕ). Right (in_row a.states.now Positive a.p) a.n l.column w) all l.invariant.1) c.summary.ensures c.summary-2.ensures
