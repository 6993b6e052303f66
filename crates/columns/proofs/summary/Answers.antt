-- `summary`: the digits of the words from w on, turned, are in the sum (Tests): which of them are not as the sign asks. Assumes nothing.
use Prim.Native.Nat.{ℕ, ◌+◌, ◌-◌}
use Rattle.columns.proofs.Filling.{Tests, tests_more, amiss, turned_amiss, tests_sum}
use Rattle.columns.specs.Columns.{state_words}
use mathlib.Core.Path.{◌≡◌, subst, ◌∙◌}
use native.Mathlib.Omega.{arith}
use Rattle.columns.proofs.summary.Goals as goal

pub loop-w-preserved : goal.loop-w-preserved
unfolding state_words
loop-w-preserved c =
    let l = c.loop-w in
    let a = c.args in
    let f = amiss a.sign a.column.now in
    let t = c.turned in
    let back : l.w ≡ l.w - 1 + 1 = omega arith in
    tests_more f (l.w - 1) a.words l.sum c.digit.result (omega arith) c.digit.ensures.0
    (c.digit.ensures.1 ∙ turned_amiss a.sign a.column.now (l.w - 1) t.result t.type_inv t.ensures)
    (subst (λ (m : ℕ). Tests f m a.words l.sum) back l.invariant)

pub returns : goal.returns
returns c =
    let l = c.loop-w in
    let a = c.args in
    let end : l.w ≡ 0 = omega arith in
    tests_sum a.sign a.column.now a.words l.sum (subst (λ (m : ℕ). Tests (amiss a.sign a.column.now) m a.words l.sum) end l.invariant)
