-- The two tests decide the claim; a claim that passes is marked, and its leaf has its row. Assumes nothing.
use Prim.Native.Nat.{ℕ, ◌+◌, ◌-◌}
use Rattle.rules.specs.Index.{at}
use Rattle.tree.proofs.Passing.{claim_right, claim_other, claim_taken}
use Rattle.tree.proofs.Steps.{nodes_few, cues_few, line_small, line_is, claim_inside, claim_planned}
use Rattle.tree.specs.Layout.{marks_from}
use Rattle.tree.specs.Standing.{put_row, settled}
use lib.ListN.{get_or, set, length-set}
use mathlib.Core.Path.{ap, ◌∙◌}
use native.Mathlib.Omega.{arith}
use Rattle.tree.proofs.rows.claim.Goals as goal
use Rattle.tree.proofs.rows.claim.Goals.{then-fields-planned-via-then-fields-planned, then-fields-planned-via-else-fields-planned+then-work-mark-ne0}

pub overflow_add-planned : goal.overflow_add-planned
overflow_add-planned c =
    let a = c.args in
    let (k, st, w) = c.requires in
    let i = claim_inside k a.fields.now a.g a.work.now st a.node a.position w in
    omega arith

pub offset_bounds-fields-planned : goal.offset_bounds-fields-planned
offset_bounds-fields-planned c =
    let a = c.args in
    let (k, st, w) = c.requires in
    let i = claim_inside k a.fields.now a.g a.work.now st a.node a.position w in
    omega arith

pub bounds-fields-planned : goal.bounds-fields-planned
bounds-fields-planned c =
    let a = c.args in
    let (k, st, w) = c.requires in
    let i = claim_inside k a.fields.now a.g a.work.now st a.node a.position w in
    omega arith

pub bounds-work-mark : goal.bounds-work-mark
bounds-work-mark c =
    let a = c.args in
    let (k, st, w) = c.requires in
    omega (arith, st.room, w.low, w.high, cues_few k a.fields.now a.g a.work.now st)

pub bounds-work-mark-2 : goal.bounds-work-mark-2
bounds-work-mark-2 c =
    let a = c.args in
    let (k, st, w) = c.requires in
    omega (arith, st.room, w.low, w.high, cues_few k a.fields.now a.g a.work.now st)

pub of_cue-requires : goal.of_cue-requires
of_cue-requires c =
    let a = c.args in
    let (k, st, w) = c.requires in
    omega (arith, w.high, cues_few k a.fields.now a.g a.work.now st)

pub settle-requires : goal.settle-requires
settle-requires c =
    let a = c.args in
    let (k, st, w) = c.requires in
    (omega (arith, w.node, nodes_few k a.fields.now a.g a.work.now st), simp length-set st.room)

pub line_at-requires : goal.line_at-requires
line_at-requires c =
    let a = c.args in
    let (k, st, w) = c.requires in
    line_small k a.fields.now a.g a.work.now st a.node (let n = w.node in omega arith)

pub returns-then-fields-planned : goal.returns-then-fields-planned
unfolding marks_from
returns-then-fields-planned c = λ k st w.
    let a = c.args in
    let x = get_or a.fields.now (a.g.plan + a.position) 0 in
    let few = cues_few k a.fields.now a.g a.work.now st in
    let is = claim_planned k a.fields.now a.g a.work.now st a.node a.position w in
    let line = line_is k a.fields.now a.g a.work.now st a.node c.line_at.result c.line_at.ensures in
    elim c.then-fields-planned.branch [
      | then-fields-planned-via-then-fields-planned b ↦
          claim_other k a.node a.action a.position x a.next a.work.now w few is c.line_at.result a.work.now b.if-fields-planned.true line
      | then-fields-planned-via-else-fields-planned+then-work-mark-ne0 b ↦
          claim_taken k a.node a.action a.position x a.next a.work.now w few is c.line_at.result a.work.now b.if-fields-planned.false
          b.if-work-mark-ne0.true line
    ]

pub returns : goal.returns
unfolding marks_from
returns c = λ k st w.
    let a = c.args in
    let e = c.settle in
    let o = c.of_cue.ensures in
    claim_right k a.node a.action a.position (get_or a.fields.now (a.g.plan + a.position) 0) a.next a.work.now w
    (cues_few k a.fields.now a.g a.work.now st) (claim_planned k a.fields.now a.g a.work.now st a.node a.position w)
    e.result e.new.work c.if-fields-planned.false c.if-work-mark-ne0.false
    (e.ensures.answer ∙ ap (λ (x : ℕ). settled x a.next) o)
    (e.ensures.row ∙ ap (λ (x : ℕ). put_row a.node (at x) a.next.node (set a.work.now (3072 + (a.position - 1)) 1)) o)
