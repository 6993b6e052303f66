-- `seek_within`: zeros for the columns of so many words of propositions. Assumes nothing.
use mathlib.Core.Path.{sym, subst}
use Prim.Native.Nat.{ℕ}
use lib.ListN.{replicate}
use native.Mathlib.Omega.{arith}
use Rattle.rules.specs.State.{word_count}
use Rattle.columns.proofs.Kept.{blank_zeros}
use Rattle.columns.specs.Columns.{column_words, Blank}
use Rattle.finder.proofs.seek_within.Goals as goal

pub seek_with-requires-clause-choice_len_bound : goal.seek_with-requires-clause-choice_len_bound
seek_with-requires-clause-choice_len_bound g c =
    let p = c.requires.choice_len_bound in
    let q = c.requires.columns in
    (p.0, p.1, subst (λ (n : ℕ). Blank (replicate n 0) (replicate g.row.WORDS 0)) (sym q.1) (blank_zeros g.row.WORDS q.0))

pub whole_as_slice-seek_with : goal.whole_as_slice-seek_with
unfolding column_words word_count
whole_as_slice-seek_with g c = let q = c.requires.columns in omega arith

pub whole_as_slice-seek_with-2 : goal.whole_as_slice-seek_with-2
unfolding word_count
whole_as_slice-seek_with-2 g c = let q = c.requires.columns in omega arith
