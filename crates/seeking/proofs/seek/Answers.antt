-- `seek`: where the search has come to (Searched), with the columns as they were asked for. The measure is how many choices are left.
-- Assumes nothing.
use mathlib.Core.Path.{sym, ◌∙◌, subst}
use Prim.Native.Nat.{ℕ}
use lib.ListN.{length}
use Rattle.rows.specs.Rows.{in_row}
use Rattle.blames.specs.Entries.{PoolFits}
use Rattle.seeking.proofs.Searching.{Against, entry_against, length_against, ended, moved}
use Rattle.seeking.proofs.seek.Goals as goal
use Rattle.seeking.proofs.seek.Goals.{in-Some, in-None+in-Some-too_long}

-- what comes out of the match is a reason, by the entry or by the length
pub returns-in_default-clause-sought : goal.returns-in_default-clause-sought
returns-in_default-clause-sought c =
    let a = c.args in
    let d = c.loop-set.choice in
    let holds = in_row a.states.now in
    let fits : PoolFits a.k (length d) a.pool.now =
    subst (λ (n : ℕ). PoolFits a.k n a.pool.now) (sym c.loop-set.invariant.0.same_length) c.requires.pool_fits in
    let because : Against holds a.k a.spare a.pool.now c.match-test.set d =
    elim c.match-test.branch [
      | in-Some w ↦ entry_against holds a.k a.spare a.pool.now c.test.result c.match-test.set d w.in-Some.is w.set-is fits c.test.ensures.says
      | in-None+in-Some-too_long w ↦
          length_against holds a.k a.spare a.pool.now w.too_long.result c.match-test.set d w.in-Some-too_long.is w.set-is w.too_long.ensures
    ] in
    ended holds a.k a.spare a.pool.now a.choice.now a.why.now d c.loop-set.why c.loop-set.invariant.0 c.match-test.set because c.skip.result
    c.skip.new.choice c.skip.new.why c.in_default.not-Some c.skip.ensures.skips

pub loop-set-preserved : goal.loop-set-preserved
loop-set-preserved c =
    let a = c.args in
    let d = c.loop-set.choice in
    let holds = in_row a.states.now in
    let fits : PoolFits a.k (length d) a.pool.now =
    subst (λ (n : ℕ). PoolFits a.k n a.pool.now) (sym c.loop-set.invariant.0.same_length) c.requires.pool_fits in
    let because : Against holds a.k a.spare a.pool.now c.match-test.set d =
    elim c.match-test.branch [
      | in-Some w ↦ entry_against holds a.k a.spare a.pool.now c.test.result c.match-test.set d w.in-Some.is w.set-is fits c.test.ensures.says
      | in-None+in-Some-too_long w ↦
          length_against holds a.k a.spare a.pool.now w.too_long.result c.match-test.set d w.in-Some-too_long.is w.set-is w.too_long.ensures
    ] in (
      moved holds a.k a.spare a.pool.now a.choice.now a.why.now d c.loop-set.why c.loop-set.invariant.0 c.match-test.set because c.skip.result
          c.skip.new.choice c.skip.new.why c.in-Some-skip.is c.skip.ensures.nearer c.skip.auto.why c.skip.ensures.skips,
      c.test.auto.order ∙ c.loop-set.invariant.1,
      c.test.auto.columns ∙ c.loop-set.invariant.2,
      c.test.auto.built ∙ c.loop-set.invariant.3,
      c.test.ensures.columns_2,
    )
