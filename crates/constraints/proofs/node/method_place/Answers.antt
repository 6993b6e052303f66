-- The methods' places start at `methods_from`. Assumes nothing.
use Rattle.fields.specs.Directory.{methods_from}
use mathlib.Core.Path.{refl}
use Rattle.std.proofs.Common.{rules}
use Rattle.constraints.proofs.node.method_place.Goals as goal

pub bounds-directory-at : goal.bounds-directory-at
unfolding methods_from
bounds-directory-at c = search rules

pub returns : goal.returns
unfolding methods_from
returns c = refl
