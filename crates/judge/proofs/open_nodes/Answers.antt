-- `open_nodes`: no position is marked, the walk finds the tree, and the claims follow; or it refuses, and the state list is cleared.
-- Assumes nothing.
use Rattle.judge.proofs.Frames.{marks_cleared}
use Rattle.judge.proofs.Phases.{open_sound, walk_ready, walk_refuses, walk_finds}
use Rattle.judge.proofs.Verdicts.{tree_refused}
use Rattle.rules.specs.Verdict.{work_need}
use native.Mathlib.Omega.{arith}
use Rattle.std.proofs.Common.{sym, ap, ◌∙◌}
use Rattle.rules.specs.Result.{refused}
use Rattle.rules.specs.declared.Answer.{Answer}
use Rattle.judge.proofs.open_nodes.Goals as goal

pub slice_bounds-clear_work-end : goal.slice_bounds-clear_work-end
unfolding work_need
slice_bounds-clear_work-end c = let room = c.requires.1.opens.work_room in omega arith

pub walk_tree-requires : goal.walk_tree-requires
walk_tree-requires c =
    let a = c.args in
    let (k, p) = c.requires in
    let clear = marks_cleared k.head.cues a.work.now c.clear_work.new.work (open_sound p.opens).head_good.few_cues p.opens.work_room c.clear_work.ensures in
    (k, walk_ready p.opens clear)

pub open_claims-requires : goal.open_claims-requires
open_claims-requires c =
    let a = c.args in
    let (k, p) = c.requires in
    let b = c.walk_tree in
    let clear = marks_cleared k.head.cues a.work.now c.clear_work.new.work (open_sound p.opens).head_good.few_cues p.opens.work_room c.clear_work.ensures in
    (k, a.fields.now, walk_finds p.opens clear b.new.work (b.ensures k (walk_ready p.opens clear)) a.states.now c.in-Ok.is b.auto.work p.run)

pub returns-in-Ok : goal.returns-in-Ok
returns-in-Ok c =
    let a = c.args in
    let b = c.walk_tree in
    λ k p.
    let clear = marks_cleared k.head.cues a.work.now c.clear_work.new.work (open_sound p.opens).head_good.few_cues p.opens.work_room c.clear_work.ensures in
    c.open_claims.ensures k a.fields.now
    (walk_finds p.opens clear b.new.work (b.ensures k (walk_ready p.opens clear)) a.states.now c.in-Ok.is b.auto.work p.run)

pub returns-in-Err : goal.returns-in-Err
returns-in-Err c =
    let a = c.args in
    let b = c.walk_tree in
    let x = c.in-Err in
    let z = c.refuse in
    λ k p.
    let clear = marks_cleared k.head.cues a.work.now c.clear_work.new.work (open_sound p.opens).head_good.few_cues p.opens.work_room c.clear_work.ensures in
    let refuses = walk_refuses p.opens clear b.new.work (b.ensures k (walk_ready p.opens clear)) x.answer x.is in
    (λ rest. tree_refused rest k x.answer refuses ∙ ap (λ (a : Answer). refused a) (sym z.ensures.answer), z.ensures.states)
