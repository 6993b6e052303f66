-- `judge_with_columns`: zeros for the columns of so many words of propositions. Assumes nothing.
use Rattle.std.proofs.Common.{◌≡◌, ℕ, ◌*◌, replicate, subst, arith}
use Rattle.columns.proofs.Kept.{blank_zeros}
use Rattle.columns.specs.Columns.{column_words, Blank}
use Rattle.rules.specs.State.{word_count}
use Rattle.judge.proofs.judge_with_columns.Goals as goal

pub judge_with-requires-clause-blank : goal.judge_with-requires-clause-blank
unfolding column_words word_count
judge_with-requires-clause-blank g c =
    let same : 64 * g.row.N * 18 ≡ g.row.M = omega (arith, c.requires.sized) in
    subst (λ (m : ℕ). Blank (replicate m 0) (replicate g.row.N 0)) same (blank_zeros g.row.N c.requires.few)
