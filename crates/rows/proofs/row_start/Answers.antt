-- The product of the definition. Assumes nothing.
use Prim.Native.Nat.{ℕ, ◌*◌}
use Rattle.rules.specs.State.{word_count}
use mathlib.Core.Path.{ap}
use Rattle.rows.proofs.row_start.Goals as goal

pub returns : goal.returns
unfolding word_count
returns c = ap (λ (n : ℕ). word_count * n) c.number.ensures
