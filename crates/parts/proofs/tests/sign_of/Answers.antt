-- Below a, and from a on. Assumes nothing.
use Rattle.rules.specs.declared.Sign.{Sign}
use Rattle.rules.specs.declared.Sign.TheVariants.{Positive, Negative}
use Rattle.rules.specs.Case.{sign_of}
use borrow.Author.Tests.{lt-ltb, le-ltb}
use mathlib.Core.Bool.{Bool, true, false}
use mathlib.Core.Path.{sym, ap}
use native.Mathlib.Omega.{arith}
use Rattle.parts.proofs.tests.sign_of.Goals as goal

abbrev by_small : Bool → Sign
by_small b = elim b [ true ↦ Positive | false ↦ Negative ]

pub returns-then-letter-lt97 : goal.returns-then-letter-lt97
unfolding sign_of
returns-then-letter-lt97 c = sym (ap by_small (lt-ltb c.args.letter 97 c.if-letter-lt97.true))

pub returns-else-letter-lt97 : goal.returns-else-letter-lt97
unfolding sign_of
returns-else-letter-lt97 c = sym (ap by_small (le-ltb c.args.letter 97 (omega (arith, c.if-letter-lt97.false))))
