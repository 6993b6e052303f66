-- `find_only`: the one choice is accepted, or there is none. Assumes nothing.
use mathlib.Core.Path.{◌≡◌, sym, ap}
use Prim.Native.Nat.{ℕ}
use native.Mathlib.Omega.{arith}
use lib.ListN.{length, take, replicate, length-replicate}
use lib.Seq.{length-take-le}
use Rattle.rules.proofs.Gaps.Lengths.{surplus}
use Rattle.finder.proofs.Counts.{zeros_taken, zeros_choice}
use Rattle.finder.proofs.Prints.{few_empties, surplus_zeros}
use Rattle.finder.proofs.Trying.{only_accepted, only_refused}
use Rattle.finder.proofs.find_only.Goals as goal

pub slice_bounds-zeros-end : goal.slice_bounds-zeros-end
slice_bounds-zeros-end c = let (k, p, b, e, one) = c.requires.printable in let few = few_empties p in omega arith

pub slice_bounds-try_choice-end : goal.slice_bounds-try_choice-end
slice_bounds-try_choice-end c =
    let a = c.args in
    let (k, p, b, e, one) = c.requires.printable in
    let few = few_empties p in
    let room : length (replicate {A = ℕ} 3000 0) ≡ 3000 = length-replicate {A = ℕ} 3000 0 in
    sym (length-take-le a.empties (replicate {A = ℕ} 3000 0) (omega arith))

pub try_choice-answer-requires-clause-printable : goal.try_choice-answer-requires-clause-printable
try_choice-answer-requires-clause-printable c =
    let a = c.args in
    let (k, p, b, e, one) = c.requires.printable in
    let zeros : take a.empties (replicate {A = ℕ} 3000 0) ≡ replicate a.empties 0 = zeros_taken a.empties 3000 (omega (arith, few_empties p)) in
    (k, p, b, zeros_choice k a.empties _ e zeros)

pub try_choice-answer-requires-clause-spacious : goal.try_choice-answer-requires-clause-spacious
try_choice-answer-requires-clause-spacious c =
    let a = c.args in
    let (k, p, b, e, one) = c.requires.printable in
    let zeros : take a.empties (replicate {A = ℕ} 3000 0) ≡ replicate a.empties 0 = zeros_taken a.empties 3000 (omega (arith, few_empties p)) in
    (c.requires.spacious, omega (arith, ap surplus zeros, surplus_zeros a.empties))

pub returns-in_default : goal.returns-in_default
returns-in_default c = λ k p b e one.
    let a = c.args in
    let zeros : take a.empties (replicate {A = ℕ} 3000 0) ≡ replicate a.empties 0 = zeros_taken a.empties 3000 (omega (arith, few_empties p)) in
    let told = c.try_choice-answer.ensures k p b (zeros_choice k a.empties _ e zeros) in
    only_refused k a.empties e one _ zeros told c.in_default.not-Accepted

pub returns : goal.returns
returns c = λ k p b e one.
    let a = c.args in
    let zeros : take a.empties (replicate {A = ℕ} 3000 0) ≡ replicate a.empties 0 = zeros_taken a.empties 3000 (omega (arith, few_empties p)) in
    let told = c.try_choice-answer.ensures k p b (zeros_choice k a.empties _ e zeros) in
    only_accepted k a.empties e one _ zeros told _ _ c.in-Accepted.is
