-- The numbers of the method's line, from left to right. Assumes nothing.
use Rattle.fields.specs.Directory.{methods_from}
use Rattle.tree.specs.Fits.{method_head}
use mathlib.Core.Path.{refl}
use native.Mathlib.Omega.{arith}
use Rattle.tree.proofs.fit.method_head.Goals as goal

pub bounds-fields-at : goal.bounds-fields-at
unfolding methods_from
bounds-fields-at c = let i = c.requires.inside in omega arith

pub bounds-fields-at-2 : goal.bounds-fields-at-2
unfolding methods_from
bounds-fields-at-2 c = let i = c.requires.inside in omega arith

pub returns : goal.returns
unfolding method_head methods_from
returns c = refl
