-- The method's task and how many subtasks it has stand after its letter. Assumes nothing.
use mathlib.Core.Path.{◌∙◌}
use native.Mathlib.Omega.{arith}
use borrow.Author.Tests.{ne_eqb}
use Rattle.fields.specs.Directory.{methods_from}
use Rattle.forms.proofs.Named.{directory_inside, head_inside, suits_not, suits_by}
use Rattle.forms.proofs.lookups.suits.Goals as goal

pub bounds-model-m : goal.bounds-model-m
bounds-model-m c = directory_inside _ _ _ c.requires.2.here _ c.requires.3

pub bounds-model-at : goal.bounds-model-at
unfolding methods_from
bounds-model-at c =
    let i = head_inside _ _ _ c.requires.2.here _ c.requires.3 in omega arith

pub bounds-model-at-then-model-at : goal.bounds-model-at-then-model-at
unfolding methods_from
bounds-model-at-then-model-at c =
    let i = head_inside _ _ _ c.requires.2.here _ c.requires.3 in
    omega arith

pub returns-then-model-at : goal.returns-then-model-at
unfolding methods_from
returns-then-model-at c = λ k ns t i. suits_by k _ _ t.here _ i _ _ c.if-model-at.true

pub returns-else-model-at : goal.returns-else-model-at
unfolding methods_from
returns-else-model-at c = λ k ns t i. ne_eqb _ _ c.if-model-at.false ∙ suits_not k _ _ t.here _ i _ _ c.if-model-at.false
