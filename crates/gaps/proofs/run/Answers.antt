-- `run`: all the positions up to the last, without those ahead of the first. Assumes nothing.
use mathlib.Core.Path.{◌≡◌, ap, ◌∙◌}
use Prim.Native.Nat.{ℕ, ◌+◌, ◌-◌, ◌^◌, ◌≤◌}
use native.Mathlib.Omega.{arith}
use lib.Pow.{pow_pos, pow_mono}
use Rattle.rules.specs.State.{bit}
use Rattle.gaps.proofs.Runs.{run_bits}
use Rattle.gaps.proofs.run.Goals as goal

pub overflow_sub-result : goal.overflow_sub-result
overflow_sub-result c =
    let a = c.args in
    let least : 2 ^ a.first ≤ 2 ^ (a.first + a.count) = pow_mono (omega arith) in
    let all = c.all.ensures in
    let ahead = c.all-2.ensures in
    omega arith

pub returns : goal.returns
returns c = λ s.
    let a = c.args in
    let least : 2 ^ a.first ≤ 2 ^ (a.first + a.count) = pow_mono (omega arith) in
    let some = pow_pos a.first in
    let all = c.all.ensures in
    let ahead = c.all-2.ensures in
    let is : c.all.result - c.all-2.result ≡ 2 ^ (a.first + a.count) - 2 ^ a.first = omega arith in
    ap (λ (w : ℕ). bit w s) is ∙ run_bits a.first a.count s
