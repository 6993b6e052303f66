-- `step_with`: the four stretches of the words are the action's sets. Assumes nothing.
use Rattle.rows.proofs.Written.{part_at}
use Rattle.rows.specs.Rows.{stretch_at}
use Rattle.rules.specs.State.{step}
use Rattle.running.specs.Sets.{action_in}
use Rattle.state.specs.Words.{widened_action}
use Prim.Native.Nat.{ℕ, ◌+◌, ◌-◌}
use lib.ListN.{length, take, drop}
use mathlib.Core.List.{List, ◌++◌}
use mathlib.Core.Path.{◌≡◌, ap, ◌∙◌}
use native.Mathlib.Omega.{arith}
use Rattle.running.proofs.sets.step_with.Goals as goal

-- The first stretch, which starts at 0.
first_part : (n : ℕ) (l : List ℕ) → take (n - 0) (drop 0 l) ≡ stretch_at n l 0
first_part n l =
    let same : n - 0 ≡ 0 + n - 0 = omega arith in
    ap (λ (m : ℕ). take m (drop 0 l)) same ∙ part_at n l 0 0 (omega arith)

pub returns : goal.returns
unfolding action_in
returns c =
    let a = c.args in
    let n = length a.s.now in
    let sets = a.sets.now in
    let needed = first_part n sets in
    let forbidden = part_at n sets 1 n (omega arith) in
    let added = part_at n sets 2 (n + n) (omega arith) in
    let deleted = part_at n sets 3 (n + n + n) (omega arith) in
    λ rest whole.
    c.step_words.ensures rest whole
    ∙ λ j. step (a.s.now ++ rest) (widened_action (needed j) (forbidden j) (added j) (deleted j))
