-- `take_turn`: no choice is left; or the first that nothing is known against is tried, and its check accepts it or not. Assumes nothing.
use mathlib.Core.Path.{◌≡◌}
use Prim.Native.Nat.{◌-◌}
use native.Mathlib.Omega.{arith}
use lib.ListN.{length}
use Rattle.rules.specs.Verdict.{text_most}
use Rattle.finder.proofs.Prints.{spare_of}
use Rattle.finder.proofs.Seeks.{choice_of, sought_none, sought_some}
use Rattle.finder.proofs.Trying.{choice_few, choice_passes, choice_fails, choice_zeros}
use Rattle.finder.proofs.Turns.{claimed_printable}
use Rattle.finder.specs.Finding.{passing}
use mathlib.Core.Path.{ap}
use mathlib.Core.Bool.{not}
use Rattle.finder.proofs.take_turn.Goals as goal

pub returns-then-not-seek_on : goal.returns-then-not-seek_on
unfolding text_most
returns-then-not-seek_on c = λ k x b h known.
    let a = c.args in
    let g = c.seek_on in
    let d = g.new.choice in
    let spare = spare_of k a.base b (65535 - a.base) (omega (arith, c.requires.base_bound.0)) in
    sought_none (passing k) k.head.cues a.choice.now d g.new.why g.result (ap not c.if-not-seek_on.true) (g.ensures.sought k x h spare known)

pub try_choice-answer-requires-clause-spacious : goal.try_choice-answer-requires-clause-spacious
try_choice-answer-requires-clause-spacious c =
    let a = c.args in
    let g = c.seek_on in
    let d = g.new.choice in
    let (k, x, b, h) = c.requires.claimed in
    let same : length d ≡ length a.choice.now = g.auto.choice in
    let on = choice_of x a.choice.now d h same (g.ensures.within c.if-not-seek_on.false) in
    (c.requires.base_bound.3, choice_few (claimed_printable x) a.base b d on (omega (arith, c.requires.base_bound.1)))

pub returns-in_default : goal.returns-in_default
unfolding text_most
returns-in_default c = λ k x b h known.
    let a = c.args in
    let g = c.seek_on in
    let d = g.new.choice in
    let spare = spare_of k a.base b (65535 - a.base) (omega (arith, c.requires.base_bound.0)) in
    let found = c.if-not-seek_on.false in
    let goes = sought_some (passing k) k.head.cues a.choice.now d g.new.why g.result (ap not found) (g.ensures.sought k x h spare known) in
    let told = c.try_choice-answer.ensures k (claimed_printable x) b (choice_of x a.choice.now d h g.auto.choice (g.ensures.within found)) in
    let refused = c.in_default.not-Accepted in
    (goes, choice_fails k d told refused, choice_zeros k d told refused)

pub returns : goal.returns
unfolding text_most
returns c = λ k x b h known.
    let a = c.args in
    let g = c.seek_on in
    let d = g.new.choice in
    let spare = spare_of k a.base b (65535 - a.base) (omega (arith, c.requires.base_bound.0)) in
    let found = c.if-not-seek_on.false in
    let goes = sought_some (passing k) k.head.cues a.choice.now d g.new.why g.result (ap not found) (g.ensures.sought k x h spare known) in
    let told = c.try_choice-answer.ensures k (claimed_printable x) b (choice_of x a.choice.now d h g.auto.choice (g.ensures.within found)) in
    (goes, choice_passes k d told _ _ c.in-Accepted.is, told)
