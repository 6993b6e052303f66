-- `count_of`: n is the power of the gaps passed, at most 1,000,000. Assumes nothing.
use mathlib.Core.Path.{ap, ◌∙◌}
use Prim.Native.Nat.{ℕ, ◌+◌, ◌*◌}
use Rattle.choices.proofs.Turns.{power_next, counted_over}
use Rattle.choices.proofs.count_of.Goals as goal

pub returns-then-n-gt1000000 : goal.returns-then-n-gt1000000
returns-then-n-gt1000000 c =
    let l = c.loop in
    let a = c.args in
    counted_over a.k l.counter a.e (l.n * (a.k + 1)) (ap (λ (m : ℕ). m * (a.k + 1)) l.invariant.0 ∙ power_next a.k l.counter) c.loop-test.true
    c.if-n-gt1000000.true
