-- `learn`: the gaps of the set that are below s are a reason (Stands). Assumes nothing.
use Rattle.choices.proofs.Reasoning.{Stands}
use Rattle.choices.proofs.learn.Given as goal

abbrev pub invariant-loop-s : goal.invariant-loop-s
invariant-loop-s l = Stands l.k l.m l.choice l.initial.why l.s l.set l.why
