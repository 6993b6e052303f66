-- Two fields for D, three for E and L. Assumes nothing.
use Rattle.fields.specs.Directory.{node_size}
use Prim.Native.Nat.{ℕ}
use borrow.Author.Tests.{eq-eqb, ne_eqb}
use mathlib.Core.Bool.{Bool, true, false}
use mathlib.Core.Path.{sym, ap, ◌∙◌}
use Rattle.fields.proofs.node_size.Goals as goal

abbrev size_if : Bool → ℕ
size_if b = elim b [ true ↦ 2 | false ↦ 3 ]

pub returns-then-letter-from : goal.returns-then-letter-from
unfolding node_size
returns-then-letter-from c = sym (ap size_if (eq-eqb c.args.letter 68 (c.if-letter-from.true ∙ c.from.ensures)))

pub returns-else-letter-from : goal.returns-else-letter-from
unfolding node_size
returns-else-letter-from c = sym (ap size_if (ne_eqb c.args.letter 68 (λ e. c.if-letter-from.false (e ∙ sym c.from.ensures))))
