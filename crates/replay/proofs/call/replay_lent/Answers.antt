-- `replay_lent`: each row's test settles the answer, or leaves the rest of the rows. Assumes nothing.
use Prim.Native.Nat.{◌≤◌, ◌<◌}
use Rattle.replay.proofs.Calls.{refuses, as_replayed, text_long, short_states, short_work, long_lists}
use Rattle.replay.specs.Running.{replay_text}
use Rattle.rules.specs.State.{word_count}
use Rattle.rules.specs.Verdict.{state_need, work_need, text_most, replay_lists, replay}
use Rattle.rules.specs.declared.Answer.TheVariants.{ShortList, LongText}
use lib.ListN.{length}
use mathlib.Core.Path.{◌∙◌}
use native.Mathlib.Omega.{arith}
use Rattle.replay.proofs.call.replay_lent.Goals as goal

pub returns-then-states : goal.returns-then-states
unfolding state_need word_count
returns-then-states c =
    let a = c.args in
    let s = length a.states.now in
    let w = length a.work.now in
    let short : s < state_need = omega (arith, c.if-states.true) in
    refuses s (replay (replay_lists s w) a.text.now) (ShortList 1) _ (short_states a.text.now s w short) c.requires.zero

pub returns-then-work-lt-WORK : goal.returns-then-work-lt-WORK
unfolding state_need word_count work_need
returns-then-work-lt-WORK c =
    let a = c.args in
    let s = length a.states.now in
    let w = length a.work.now in
    let long : state_need ≤ s = omega (arith, c.if-states.false) in
    let short : w < work_need = omega (arith, c.if-work-lt-WORK.true) in
    refuses s (replay (replay_lists s w) a.text.now) (ShortList 3) _ (short_work a.text.now s w long short) c.requires.zero

pub returns-then-text-gt-TEXT : goal.returns-then-text-gt-TEXT
unfolding state_need word_count work_need text_most
returns-then-text-gt-TEXT c =
    let a = c.args in
    let s = length a.states.now in
    let w = length a.work.now in
    let long : state_need ≤ s = omega (arith, c.if-states.false) in
    let long_too : work_need ≤ w = omega (arith, c.if-work-lt-WORK.false) in
    let over : text_most < length a.text.now = omega (arith, c.if-text-gt-TEXT.true) in
    refuses s (replay (replay_lists s w) a.text.now) LongText _ (long_lists a.text.now s w long long_too ∙ text_long a.text.now over) c.requires.zero

pub returns-then-text : goal.returns-then-text
unfolding state_need word_count work_need
returns-then-text c =
    let a = c.args in
    let s = length a.states.now in
    let w = length a.work.now in
    let long : state_need ≤ s = omega (arith, c.if-states.false) in
    let long_too : work_need ≤ w = omega (arith, c.if-work-lt-WORK.false) in
    as_replayed (replay (replay_lists s w) a.text.now) (replay_text a.text.now) s _ _ (long_lists a.text.now s w long long_too) c.replay_with_room.ensures

pub returns-else-text : goal.returns-else-text
unfolding state_need word_count work_need
returns-else-text c =
    let a = c.args in
    let s = length a.states.now in
    let w = length a.work.now in
    let long : state_need ≤ s = omega (arith, c.if-states.false) in
    let long_too : work_need ≤ w = omega (arith, c.if-work-lt-WORK.false) in
    as_replayed (replay (replay_lists s w) a.text.now) (replay_text a.text.now) s _ _ (long_lists a.text.now s w long long_too) c.replay_with_room-else-text.ensures
