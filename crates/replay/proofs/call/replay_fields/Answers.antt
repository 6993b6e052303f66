-- `replay_fields`: the text reads as a case, which is then run; or it is refused, and the state list is as it came. Assumes nothing.
use Prim.Native.Nat.{◌≤◌}
use Rattle.fields.specs.Directory.{directory_size}
use Rattle.replay.proofs.Calls.{refuses, as_replayed, text_refused, left_by}
use Rattle.replay.specs.Running.{replay_text, replay_run}
use Rattle.rules.specs.Verdict.{work_need, text_most}
use lib.ListN.{length}
use mathlib.Core.Path.{◌≡◌}
use native.Mathlib.Omega.{arith}
use Rattle.replay.proofs.call.replay_fields.Goals as goal

pub read_case-requires : goal.read_case-requires
unfolding work_need text_most directory_size
read_case-requires c =
    let long = c.requires.lists.1 in
    let short = c.requires.short in
    (omega arith, c.requires.roomy, omega arith)

pub replay_case-requires-clause-left : goal.replay_case-requires-clause-left
unfolding work_need directory_size
replay_case-requires-clause-left c =
    let a = c.args in
    let r = c.read_case in
    let x = c.in-Ok in
    let kept : length r.new.directory ≡ length a.work.now = r.auto.directory in
    let lent = c.requires.lists.1 in
    let long : directory_size ≤ length r.new.directory = omega arith in
    let w = left_by a.text.now r.new.fields r.new.directory r.result r.ensures c.requires.short x.case long x.is in
    (w.0, w.1)

pub returns-in-Ok : goal.returns-in-Ok
unfolding work_need directory_size
returns-in-Ok c =
    let a = c.args in
    let r = c.read_case in
    let x = c.in-Ok in
    let kept : length r.new.directory ≡ length a.work.now = r.auto.directory in
    let lent = c.requires.lists.1 in
    let long : directory_size ≤ length r.new.directory = omega arith in
    let w = left_by a.text.now r.new.fields r.new.directory r.result r.ensures c.requires.short x.case long x.is in
    as_replayed (replay_text a.text.now) (replay_run w.0) (length a.states.now) _ _ w.3 (c.replay_case.ensures w.0 w.1 w.2)

pub returns-in-Err : goal.returns-in-Err
returns-in-Err c =
    let a = c.args in
    let r = c.read_case in
    let x = c.in-Err in
    refuses (length a.states.now) (replay_text a.text.now) x.answer _
    (text_refused a.text.now r.new.fields r.new.directory r.result r.ensures c.requires.short x.answer x.is) c.requires.zero
