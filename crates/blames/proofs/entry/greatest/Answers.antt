-- `greatest`: the greatest of all is that of the greatest so far and of the gaps at the members that remain (Going). Assumes nothing.
use Prim.Native.Nat.{ℕ, ◌≤◌, ◌<◌, max}
use Rattle.rules.specs.Index.{of_gap}
use Rattle.rules.specs.Gaps.{Within}
use Rattle.subsets.specs.Members.{members_of}
use Rattle.blames.specs.Entries.{highest}
use Rattle.rules.proofs.Gaps.Texts.{gap_within}
use Rattle.blames.proofs.Walks.{Going, going_starts, next_below, going_on}
use lib.ListN.{length, get_or}
use mathlib.Core.List.{List, head_d}
use mathlib.Core.Path.{◌≡◌, refl, sym, ap, subst}
use native.Mathlib.Omega.{arith}
use Rattle.blames.proofs.entry.greatest.Goals as goal

-- A member that is found is a position of the choice.
inside : (walk : ℕ → List ℕ → List ℕ → ℕ) (v set : ℕ) (gs : List ℕ) (far rest s : ℕ) → Going walk v set gs far rest → 0 < length (members_of rest)
    → s ≡ head_d (members_of rest) 32 → s < length gs
inside walk v set gs far rest s g some e = subst (λ (n : ℕ). n < length gs) (sym e) (next_below g some)

small : (k : ℕ) (gs : List ℕ) (s : ℕ) → k ≤ 1000 → Within k gs → get_or gs s 0 ≤ 1000
small k gs s most w = omega (arith, gap_within k gs s w)

pub loop-s-init : goal.loop-s-init
loop-s-init c = going_starts highest c.args.v c.args.set c.args.choice.now c.requires.3

pub bounds-choice-s : goal.bounds-choice-s
bounds-choice-s c =
    let l = c.loop-s in
    inside highest c.args.v c.args.set c.args.choice.now l.high l.rest c.lowest-s.result l.invariant (omega arith) c.lowest-s.ensures

pub overflow_mul-choice : goal.overflow_mul-choice
overflow_mul-choice c = omega (arith, small c.args.k c.args.choice.now c.lowest-s.result c.requires.0 c.requires.1)

pub overflow_add-choice : goal.overflow_add-choice
overflow_add-choice c = omega (arith, small c.args.k c.args.choice.now c.lowest-s.result c.requires.0 c.requires.1)

pub loop-s-preserved : goal.loop-s-preserved
unfolding of_gap
loop-s-preserved c =
    let l = c.loop-s in
    let gs = c.args.choice.now in
    let at : get_or gs c.lowest-s.result 0 ≡ get_or gs (head_d (members_of l.rest) 32) 0 = ap (λ (n : ℕ). get_or gs n 0) c.lowest-s.ensures in
    going_on l.invariant (omega arith) max (λ w s ss. refl) _ c.others-rest.result (omega (arith, at)) c.others-rest.ensures
