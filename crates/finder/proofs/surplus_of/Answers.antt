-- `surplus_of`: the digits past the first ones so far, and those of the gaps left, are all of them. Assumes nothing.
use mathlib.Core.List.{List}
use mathlib.Core.Path.{◌≡◌, sym, ap, ◌∙◌}
use Prim.Native.Nat.{ℕ, ◌+◌, ◌-◌, ◌<◌}
use native.Mathlib.Numerals.{add-one}
use native.Mathlib.Omega.{arith}
use lib.ListN.{length, get_or, drop}
use lib.Seq.{drop-cons}
use Rattle.rules.proofs.Gaps.Lengths.{surplus}
use Rattle.rules.proofs.Gaps.Texts.{gap_within}
use Rattle.rules.specs.Text.{decimal}
use Rattle.gaps.proofs.Digits.{digits_few}
use Rattle.finder.proofs.surplus_of.Goals as goal

surplus_next : (choice : List ℕ) (s : ℕ) → s < length choice
    → surplus (drop s choice) ≡ length (decimal (get_or choice s 0)) - 1 + surplus (drop (s + 1) choice)
surplus_next choice s h =
    ap surplus (drop-cons choice s 0 h) ∙ ap (λ (n : ℕ). length (decimal (get_or choice s 0)) - 1 + surplus (drop n choice)) (sym (add-one s))

pub more_digits-digits-requires : goal.more_digits-digits-requires
more_digits-digits-requires c = omega (arith, gap_within c.args.k c.args.choice.now c.loop-gap.gap-index c.requires.1)

pub overflow_add-digits : goal.overflow_add-digits
overflow_add-digits c =
    let few = gap_within c.args.k c.args.choice.now c.loop-gap.gap-index c.requires.1 in
    let own = digits_few (get_or c.args.choice.now c.loop-gap.gap-index 0) (omega (arith, c.requires.0)) in
    let is = c.more_digits-digits.ensures in
    omega arith

pub loop-gap-preserved : goal.loop-gap-preserved
loop-gap-preserved c =
    let few = gap_within c.args.k c.args.choice.now c.loop-gap.gap-index c.requires.1 in
    let own = digits_few (get_or c.args.choice.now c.loop-gap.gap-index 0) (omega (arith, c.requires.0)) in
    let is = c.more_digits-digits.ensures in
    let next = surplus_next c.args.choice.now c.loop-gap.gap-index (omega arith) in
    (omega arith, omega arith)
