-- `decode_actions`: the stretches below a have the sets of their actions, and the others are zero (Filling). Assumes nothing.
use Prim.Native.Nat.{◌*◌}
use Rattle.rows.proofs.Filling.{filling_none, filling_blank, filling_next}
use Rattle.rules.specs.State.{word_count}
use Rattle.running.specs.Sets.{set_count}
use mathlib.Core.Path.{refl, sym}
use native.Mathlib.Nat.{le_trans, le_of_eq}
use native.Mathlib.Omega.{arith}
use Rattle.running.proofs.table.decode_actions.Goals as goal

pub overflow_mul-stretch : goal.overflow_mul-stretch
unfolding word_count
overflow_mul-stretch c = let few = c.requires.few in omega arith

pub loop-a-init : goal.loop-a-init
loop-a-init c = filling_none c.requires.zero c.requires.room

pub decode-requires-clause-zero : goal.decode-requires-clause-zero
decode-requires-clause-zero c = filling_blank c.loop-a.invariant c.loop-a-test.true (set_count * c.args.size * c.loop-a.a) refl

pub loop-a-preserved : goal.loop-a-preserved
loop-a-preserved c =
    let l = c.loop-a in
    let part = c.decode in
    filling_next l.invariant c.loop-a-test.true (set_count * c.args.size * l.a) refl part.auto.words part.ensures

pub returns : goal.returns
returns c =
    let l = c.loop-a in
    let over = c.loop-a-test.false in
    let room = c.requires.room in
    record { room = le_trans room (le_of_eq (sym l.invariant.long)); right = λ i h. l.invariant.done i (omega arith) }
