-- `replay_text`: the lists are as long as asked. Assumes nothing.
use mathlib.Core.List.{List}
use mathlib.Core.Path.{◌≡◌, ap₂, ◌∙◌}
use Prim.Native.Nat.{ℕ}
use lib.ListN.{length, replicate, length-replicate}
use Rattle.rules.specs.State.{word_count}
use Rattle.rules.specs.Verdict.{state_need, work_need, replay_lists, replay, answer_of, reported}
use Rattle.replay.proofs.call.replay_text.Goals as goal

-- Over any lengths, so that nothing computes with a long list.
as_long : (s w : ℕ) (text : List ℕ)
    → reported (answer_of (replay (replay_lists (length (replicate {A = ℕ} s 0)) (length (replicate {A = ℕ} w 0))) text)) ≡ reported (answer_of (replay (replay_lists s w) text))
as_long s w text = ap₂ (λ (x y : ℕ). reported (answer_of (replay (replay_lists x y) text))) (length-replicate s 0) (length-replicate w 0)

pub returns : goal.returns
unfolding state_need word_count work_need
returns c = c.replay.ensures.answer ∙ as_long state_need work_need c.args.text.now
