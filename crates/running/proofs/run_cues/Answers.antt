-- `run_cues`: the run from the start is the run from here (Reached), of every case whose fields these are; a cue is stepped in the first words of
-- the state, which are lent (Front). Assumes nothing.
use Rattle.std.proofs.Common.{◌≡◌, Bool, ℕ, ◌+◌, ◌-◌, List, length, get_or, drop, refl, sym, ap, subst, ◌∙◌, arith, length-append}
use Rattle.index.specs.Spans.{state_of}
use Rattle.running.proofs.Front.{lent, back, lent_whole, lent_long, back_long}
use Rattle.running.proofs.Reached.{left_sound, cues_in, cues_inside, cues_long, cue_due, cue_known, actions_listed, action_stands, action_fits, Reached, reached_none, reached_next, reached_stop, reached_all}
use Rattle.running.specs.Running.{Left, stopped, RanAs}
use Rattle.running.specs.Sets.{HasAction, IsStep, Holds}
use Rattle.rules.specs.Case.{Case}
use Rattle.rules.specs.Fields.{line_fields, action_line}
use Rattle.rules.specs.State.{Action, word_count, action_at, step}
use Rattle.rules.proofs.Judgement.Sound.{GoodAction, initial_worded}
use Rattle.fields.specs.Standing.{Stands}
use Rattle.running.proofs.run_cues.Goals as goal

pub overflow_add-from : goal.overflow_add-from
overflow_add-from c = let inside = cues_inside c.requires.left.1 in omega arith

pub overflow_add-end : goal.overflow_add-end
overflow_add-end c = let inside = cues_inside c.requires.left.1 in omega arith

pub offset_bounds-fields-from : goal.offset_bounds-fields-from
offset_bounds-fields-from c = let inside = cues_inside c.requires.left.1 in omega arith

pub slice_bounds-action-items-end : goal.slice_bounds-action-items-end
slice_bounds-action-items-end c = let inside = cues_inside c.requires.left.1 in omega arith

pub loop-action-init : goal.loop-action-init
loop-action-init c =
    let a = c.args in
    let p = c.requires.left in
    let first = c.read_initial-first in
    let is : (k : Case) → Left k a.fields.now a.directory.now a.header a.initial a.plan → first.result.words ≡ k.initial =
    λ k left. first.ensures k.initial (left_sound left).initial_set left.finds.initial_here in (
      c.initial-l.ensures,
      refl,
      ap length (is p.0 p.1) ∙ initial_worded p.0 (left_sound p.1),
      λ k left.
          subst (Reached k a.states.now first.result.words a.states.now) (sym c.initial-l.ensures)
          (reached_none k a.states.now first.result.words (is k left)),
    )

pub take_cue-requires-clause-listed : goal.take_cue-requires-clause-listed
take_cue-requires-clause-listed c =
    let a = c.args in
    let l = c.loop-action in
    let left = c.requires.left.1 in
    let due = cue_due left (state_of l.l) l.action-index l.invariant.0 c.loop-action-test.true in
    let action = get_or (cues_in a.fields.now (a.plan + 1) a.header.cues) l.action-index 0 in
    let known = cue_known left (state_of l.l) action due.0 due.1 in
    let listed = actions_listed left in
    omega arith

pub take_cue-requires-clause-here : goal.take_cue-requires-clause-here
take_cue-requires-clause-here c =
    let a = c.args in
    let l = c.loop-action in
    let p = c.requires.left in
    let few = c.requires.sized.0 in
    let long = sym (lent_long a.size l.words (omega (arith, l.invariant.2))) in
    let due = cue_due p.1 (state_of l.l) l.action-index l.invariant.0 c.loop-action-test.true in
    let action = get_or (cues_in a.fields.now (a.plan + 1) a.header.cues) l.action-index 0 in
    let known = cue_known p.1 (state_of l.l) action due.0 due.1 in
    subst (λ (m : ℕ). HasAction m a.fields.now (get_or a.directory.now action 0)) long
    (action_at p.0.actions action, action_fits p.1 action known a.size c.requires.sized.1, action_stands p.1 action known)

pub take_cue-requires-clause-holds : goal.take_cue-requires-clause-holds
take_cue-requires-clause-holds c =
    let a = c.args in
    let few = c.requires.sized.0 in
    let long = sym (lent_long a.size c.loop-action.words (omega (arith, c.loop-action.invariant.2))) in
    subst (λ (m : ℕ). Holds a.fields.now a.directory.now a.table.now m a.held) long c.requires.holds

-- The step in the words lent is the step of the state.
steps : {fields : List ℕ} {at : ℕ} (n : ℕ) (s t : List ℕ) (ok : Bool) → length s ≡ word_count → IsStep fields at (lent n s) ok t
    → (a : Action) → GoodAction a → Stands fields at (line_fields (action_line a)) → (ok, back n s t) ≡ step s a
steps n s t ok long is a good here =
    let whole = lent_whole n s in
    let size : length (lent n s) + length (drop (n - 0) (drop 0 s)) ≡ word_count =
    sym (length-append (lent n s) (drop (n - 0) (drop 0 s))) ∙ ap length whole ∙ long in
    is a good here (drop (n - 0) (drop 0 s)) size ∙ ap (λ (x : List ℕ). step x a) whole

pub returns-then-not-take_cue : goal.returns-then-not-take_cue
returns-then-not-take_cue c =
    let a = c.args in
    let l = c.loop-action in
    let row = c.put_row in
    let taken = c.take_cue in
    let t = taken.new.s in
    λ k left.
    let due = cue_due left (state_of l.l) l.action-index l.invariant.0 c.loop-action-test.true in
    subst (λ (m : ℕ). RanAs k (stopped m) a.states.now row.new.states) (sym (c.number.ensures ∙ c.next-next.ensures))
    (reached_stop left (l.invariant.3 k left) row.ensures _ due.0 due.1 taken.result (back a.size l.words t)
    (steps a.size l.words t taken.result l.invariant.2 taken.ensures) c.if-not-take_cue.true)

pub loop-action-preserved : goal.loop-action-preserved
loop-action-preserved c =
    let a = c.args in
    let l = c.loop-action in
    let row = c.put_row in
    let taken = c.take_cue in
    let t = taken.new.s in
    let next = c.next-next.ensures in (
      omega arith,
      row.auto.states ∙ l.invariant.1,
      back_long a.size l.words t taken.auto.s ∙ l.invariant.2,
      λ k left.
          let due = cue_due left (state_of l.l) l.action-index l.invariant.0 c.loop-action-test.true in
          subst (Reached k a.states.now (back a.size l.words t) row.new.states) (sym next)
          (reached_next left (l.invariant.3 k left) row.ensures _ due.0 due.1 taken.result (back a.size l.words t)
          (steps a.size l.words t taken.result l.invariant.2 taken.ensures) c.if-not-take_cue.false),
    )

pub returns : goal.returns
returns c =
    let l = c.loop-action in
    λ k left. let over = cues_long left in reached_all left (l.invariant.3 k left) c.put_row-2.ensures (omega arith)
