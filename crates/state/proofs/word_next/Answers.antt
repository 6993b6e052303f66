-- A quiet word comes out as it was; of any other the word without the deleted bits, and then with the added ones. Assumes nothing.
use mathlib.Core.Path.{sym, ap, ◌∙◌}
use Prim.Native.Nat.{ℕ}
use lib.Bits.{bit_or}
use Rattle.rules.specs.State.{next_word}
use Rattle.rules.proofs.Quiet.{quiet_next}
use Rattle.state.proofs.word_next.Goals as goal

pub returns-then-is_quiet : goal.returns-then-is_quiet
returns-then-is_quiet c = sym (quiet_next c.args.old c.args.added c.args.deleted (sym c.is_quiet.ensures ∙ c.if-is_quiet.true))

pub returns : goal.returns
unfolding next_word
returns c = ap (λ (w : ℕ). bit_or w c.args.added) c.word_without.ensures
