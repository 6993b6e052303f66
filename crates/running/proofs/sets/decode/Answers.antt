-- `decode`: the rows below i have the sets of the line, and the others are zero (Filling). Assumes nothing.
use Prim.Native.Nat.{ℕ, ◌+◌, ◌*◌, ◌≤◌}
use Rattle.rows.proofs.Filling.{filling_none, filling_blank, filling_next}
use Rattle.rules.specs.State.{insert_all}
use Rattle.state.specs.Words.{widened}
use Rattle.running.proofs.SetFields.{place_of, action_inside, action_put, action_is}
use Rattle.running.specs.Sets.{members_at, past}
use lib.ListN.{length}
use mathlib.Core.Path.{refl, sym, ap, ap₂, subst, ◌∙◌}
use native.Mathlib.Numerals.{add-one}
use native.Mathlib.Omega.{arith}
use Rattle.running.proofs.sets.decode.Goals as goal

pub overflow_add-place : goal.overflow_add-place
unfolding past
overflow_add-place c =
    let inside = action_inside c.args.fields.now c.args.at c.requires.here.0 c.requires.here.2 0 (omega arith) in
    omega arith

pub loop-i-init : goal.loop-i-init
loop-i-init c = (refl, filling_none c.requires.zero (omega arith))

pub put_members-place-requires : goal.put_members-place-requires
put_members-place-requires c =
    let l = c.loop-i in
    subst (λ (p : ℕ). past c.args.fields.now p ≤ length c.args.fields.now) (sym l.invariant.0)
    (action_inside c.args.fields.now c.args.at c.requires.here.0 c.requires.here.2 l.i c.loop-i-test.true)

pub loop-i-preserved : goal.loop-i-preserved
loop-i-preserved c =
    let a = c.args in
    let l = c.loop-i in
    let more = c.loop-i-test.true in
    let put = c.put_members-place in
    let blank = filling_blank l.invariant.1 more (a.size * l.i) refl in (
      put.ensures.next ∙ ap (past a.fields.now) l.invariant.0 ∙ ap (place_of a.fields.now (a.at + 1)) (sym (add-one l.i)),
      filling_next l.invariant.1 more (a.size * l.i) refl put.auto.words (put.ensures.put ∙ ap₂ insert_all blank (ap (members_at a.fields.now) l.invariant.0)),
    )

pub returns : goal.returns
returns c =
    let a = c.args in
    let l = c.loop-i in
    let over = c.loop-i-test.false in
    λ act good here. action_is a.fields.now a.at act here a.size l.words
    (λ i h.
    ap widened (l.invariant.1.done i (omega arith))
    ∙ action_put a.fields.now a.at c.requires.here.0 c.requires.here.2 a.size c.requires.few c.requires.here.1 i h)
    good
