-- `replay`: the state list is cleared, then all rows, then the work space is zero. Assumes nothing.
use Prim.Native.Nat.{ℕ}
use Rattle.rules.specs.Verdict.{replay_lists, replay, answer_of, states_after, work_after, reported}
use lib.ListN.{length, replicate}
use mathlib.Core.Path.{ap, ◌∙◌}
use Rattle.replay.proofs.call.replay.Goals as goal

pub returns : goal.returns
unfolding work_after
returns c =
    let a = c.args in
    let k = c.clear in
    let r = c.replay_lent-r in
    let z = c.clear_work in
    let size = k.auto.list in
    record {
      answer = ap reported (r.ensures.answer ∙ ap (λ (n : ℕ). answer_of (replay (replay_lists n (length a.work.now)) a.text.now)) size);
      filled = r.ensures.filled ∙ (λ j. states_after (size j) (replay (replay_lists (size j) (length a.work.now)) a.text.now));
      zero = z.ensures ∙ ap (λ (n : ℕ). replicate n 0) r.auto.work;
    }
