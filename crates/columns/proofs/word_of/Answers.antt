-- `word_of`: the tests from l on are in the word (Tests). Assumes nothing.
use Prim.Native.Nat.{ℕ, ◌+◌, ◌-◌, ◌*◌, ◌/◌, ◌%◌, ◌^◌}
use Rattle.columns.proofs.Filling.{Tests, tests_more}
use Rattle.rows.proofs.Written.{word_stretch}
use Rattle.rows.specs.Rows.{row_at, in_row}
use Rattle.rules.specs.declared.Sign.TheVariants.{Positive}
use Rattle.rules.specs.State.{word_count, member, bit}
use Rattle.rules.specs.Constraint.{signed}
use lib.ListN.{get_or}
use mathlib.Core.Path.{◌≡◌, sym, ap, subst}
use native.Mathlib.Omega.{arith}
use Rattle.std.proofs.Common.{rules}
use Rattle.columns.proofs.word_of.Goals as goal

pub offset_bounds-states-l : goal.offset_bounds-states-l
unfolding word_count
offset_bounds-states-l c = search rules

pub bounds-states-l : goal.bounds-states-l
unfolding word_count
bounds-states-l c = search rules

pub loop-l-preserved : goal.loop-l-preserved
unfolding word_count signed in_row row_at member bit
loop-l-preserved c =
    let l = c.loop-l in
    let a = c.args in
    let f = in_row a.states.now Positive a.p in
    let d = get_or a.states.now (word_count * (l.l - 1) + a.p / 64) 0 / 2 ^ (a.p % 64) % 2 in
    let back : l.l ≡ l.l - 1 + 1 = omega arith in (
      omega arith,
      tests_more f (l.l - 1) a.to l.word d (omega arith) (omega arith)
          (sym (ap (λ (w : ℕ). bit w (a.p % 64)) (word_stretch word_count a.states.now (l.l - 1) (a.p / 64) (omega arith))))
          (subst (λ (m : ℕ). Tests f m a.to l.word) back l.invariant.1),
    )
