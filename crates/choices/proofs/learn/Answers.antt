-- `learn`: the gaps of the set that are below s are a reason (Stands). Assumes nothing.
use mathlib.Core.Path.{refl, ◌∙◌}
use Prim.Native.Nat.{◌-◌}
use native.Mathlib.Omega.{arith}
use Rattle.choices.proofs.Reasoning.{passed, widened, learnt}
use Rattle.choices.proofs.learn.Goals as goal

pub returns-then-choice-s : goal.returns-then-choice-s
returns-then-choice-s c =
    let l = c.loop-s in
    let a = c.args in
    learnt a.k a.m l.s (l.s - 1) l.set a.choice.now a.why.now l.why c.clear_from.new.list
    c.loop-s-test.true refl (omega arith) (l.auto.why ∙ c.requires.0) c.if-choice-s.true l.invariant c.clear_from.ensures

pub loop-s-preserved-then-set-s-eq1 : goal.loop-s-preserved-then-set-s-eq1
loop-s-preserved-then-set-s-eq1 c =
    let l = c.loop-s in
    let a = c.args in
    widened a.k a.m l.s (l.s - 1) l.set a.choice.now a.why.now l.why c.loop-s-test.true refl (omega arith) c.if-choice-s.false l.invariant

pub loop-s-preserved : goal.loop-s-preserved
loop-s-preserved c =
    let l = c.loop-s in
    let a = c.args in
    passed a.k a.m l.s (l.s - 1) l.set a.choice.now a.why.now l.why c.loop-s-test.true refl c.if-set-s-eq1.false l.invariant
