-- `too_long`: the digits and the positions of the gaps below s (Counted). Assumes nothing.
use Prim.Native.Nat.{ℕ, ◌+◌, ◌*◌, ◌%◌, ◌^◌, ◌≤◌, ◌<◌}
use native.Mathlib.Omega.{arith}
use lib.Bits.{bit_or}
use lib.ListN.{length, get_or}
use mathlib.Core.List.{List}
use Rattle.rules.specs.Gaps.{Within}
use Rattle.rules.proofs.Gaps.Texts.{gap_within}
use Rattle.seeking.proofs.Long.{passed, named_too, counted_as, more_few, long_reason}
use Rattle.seeking.proofs.too_long.Goals as goal
use Rattle.seeking.proofs.too_long.Goals.{then-more-ne0, else-more-ne0}

-- a gap is at most k
gap_small : (k : ℕ) (choice : List ℕ) (s : ℕ) → k ≤ 1000 → Within k choice → get_or choice s 0 ≤ 1000
gap_small k choice s small within = omega (arith, gap_within k choice s within)

pub more_digits-more-requires : goal.more_digits-more-requires
more_digits-more-requires c = gap_small c.args.k c.args.choice.now c.loop-s.s c.requires.0 c.requires.1

pub overflow_add-digits : goal.overflow_add-digits
overflow_add-digits c =
    let s = c.loop-s.s in
    let few = more_few (get_or c.args.choice.now s 0) (gap_small c.args.k c.args.choice.now s c.requires.0 c.requires.1) in
    omega (arith, few, c.loop-s.invariant.few)

pub loop-s-preserved : goal.loop-s-preserved
loop-s-preserved c =
    let list = c.args.choice.now in
    let s = c.loop-s.s in
    let n = c.loop-s.digits in
    let set = c.loop-s.set in
    let m = c.more_digits-more.result in
    let inside : s < length list = omega arith in
    let most = more_few (get_or list s 0) (gap_small c.args.k list s c.requires.0 c.requires.1) in
    let few : m ≤ 3 = omega (arith, most, c.more_digits-more.ensures) in
    elim c.if-more-ne0.branch [
      | then-more-ne0 w ↦
          counted_as list (s + 1) (n + m) (bit_or set (1 * 2 ^ s % 2 ^ 32)) c.if-more-ne0.digits c.if-more-ne0.set w.digits-is w.set-is
          (named_too list s n set inside c.loop-s.invariant m c.more_digits-more.ensures few (omega arith))
      | else-more-ne0 w ↦
          counted_as list (s + 1) n set c.if-more-ne0.digits c.if-more-ne0.set w.digits-is w.set-is
          (passed list s n set inside c.loop-s.invariant (omega (arith, c.more_digits-more.ensures, w.if-more-ne0.false)))
    ]

pub returns-then-spare-digits : goal.returns-then-spare-digits
returns-then-spare-digits c =
    let a = c.args in
    long_reason a.k a.spare a.choice.now c.loop-s.s c.loop-s.digits c.loop-s.set (omega arith) c.loop-s.invariant c.if-spare-digits.true
