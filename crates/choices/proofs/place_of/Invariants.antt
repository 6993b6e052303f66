-- `place_of`: n is the place of the gaps passed. Assumes nothing.
use mathlib.Core.Path.{◌≡◌}
use lib.ListN.{take}
use Rattle.choices.specs.Searching.{place}
use Rattle.choices.proofs.place_of.Given as goal

abbrev pub invariant-loop-gap : goal.invariant-loop-gap
invariant-loop-gap l = l.n ≡ place l.k (take l.gap-index l.choice)
