-- `plan_place`: the P line has a field for its letter and one for each cue. Assumes nothing.
use mathlib.Core.Path.{subst}
use Prim.Native.Nat.{ℕ, ◌-◌}
use native.Mathlib.Omega.{arith}
use Rattle.making.specs.Making.{PlanLast}
use Rattle.making.proofs.Cases.{place_low, place_is}
use Rattle.making.proofs.plan_place.Goals as goal

pub overflow_sub-result : goal.overflow_sub-result
overflow_sub-result c = let (k, r, last, e) = c.requires in omega (arith, place_low k r c.args.nodes last)

pub overflow_sub-result-2 : goal.overflow_sub-result-2
overflow_sub-result-2 c = let (k, r, last, e) = c.requires in omega (arith, place_low k r c.args.nodes last)

pub returns : goal.returns
returns c =
    let a = c.args in
    λ k r last e. subst (λ (n : ℕ). PlanLast k (a.nodes - 1 - n)) e (place_is k r a.nodes last)
