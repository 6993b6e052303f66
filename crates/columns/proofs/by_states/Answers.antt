-- `by_states`: the test of all states from the first is that of those from here on. Assumes nothing.
use Prim.Native.Nat.{ℕ, ◌+◌, ◌-◌, ◌<◌}
use Rattle.index.specs.Spans.{state_of}
use Rattle.rows.specs.Rows.{in_row}
use Rattle.rules.proofs.Tables.{every_next}
use Rattle.rules.specs.Constraint.{holds_from}
use Rattle.rules.specs.State.{word_count, every}
use Rattle.std.proofs.lemmas.Bool.Decides.{nat_tests}
use mathlib.Core.Path.{refl, sym, ap, ◌∙◌}
use native.Mathlib.Omega.{arith}
use Rattle.columns.proofs.by_states.Goals as goal

pub loop-sign-init : goal.loop-sign-init
unfolding holds_from
loop-sign-init c = (omega arith, refl)

pub holds_at-requires : goal.holds_at-requires
unfolding word_count
holds_at-requires c =
    let less : state_of c.loop-sign.l < state_of c.args.past = grind (arith, nat_tests) in
    omega arith

pub loop-sign-preserved : goal.loop-sign-preserved
loop-sign-preserved c =
    let a = c.args in
    let l = c.loop-sign in
    let n = state_of l.l in
    let m = state_of a.past in
    let less : n < m = grind (arith, nat_tests) in (
      omega (arith, c.next-l.ensures),
      l.invariant.1 ∙ every_next (m - n) (m - (n + 1)) n (λ i. in_row a.states.now a.sign a.p i) (omega arith)
          (sym c.holds_at.ensures ∙ c.if-not-holds_at.false)
          ∙ ap (λ (i : ℕ). every (m - i) i (λ j. in_row a.states.now a.sign a.p j)) (sym c.next-l.ensures),
    )
