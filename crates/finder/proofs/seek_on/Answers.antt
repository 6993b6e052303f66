-- `seek_on`: the columns of one word of propositions, and of four. Assumes nothing.
use mathlib.Core.Path.{refl}
use Prim.Native.Nat.{◌≤◌}
use native.Mathlib.Omega.{arith}
use Rattle.rules.specs.State.{word_count}
use Rattle.columns.specs.Columns.{column_words}
use Rattle.finder.proofs.seek_on.Goals as goal

pub seek_within-requires-clause-columns : goal.seek_within-requires-clause-columns
unfolding column_words word_count
seek_within-requires-clause-columns c = let few : 1 ≤ 8 = omega arith in (few, refl)

pub seek_within-requires-else-propositions-clause-columns : goal.seek_within-requires-else-propositions-clause-columns
unfolding column_words word_count
seek_within-requires-else-propositions-clause-columns c = let few : 4 ≤ 8 = omega arith in (few, refl)
