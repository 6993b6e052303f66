-- `find_choices`: too many choices are refused; the one choice is tried; and of more the first that is accepted is sought. Assumes nothing.
use mathlib.Core.Path.{refl, sym, ap, ◌∙◌}
use Prim.Native.Nat.{ℕ}
use native.Mathlib.Omega.{arith}
use Rattle.rules.specs.Gaps.{empty_count}
use Rattle.rules.specs.declared.Answer.TheVariants.{TooManyChoices}
use Rattle.finder.proofs.Counting.{counted_many, counted_few, counted_is, counted_positions, digits_inside, base_of, start_size, start_zeros}
use Rattle.finder.proofs.Counts.{tried_one, zeros_taken, zeros_choice}
use Rattle.finder.proofs.Prints.{is_sound, nodes_stand, few_lines, few_cues}
use Rattle.finder.proofs.Turns.{claimed_printable}
use Rattle.finder.proofs.Verdicts.{refused_finds, finds_as, many_choices, few_choices_lem}
use Rattle.finder.proofs.find_choices.Goals as goal

pub count_empties-empties-requires-clause-count_bound : goal.count_empties-empties-requires-clause-count_bound
count_empties-empties-requires-clause-count_bound c =
    let (k, x) = c.requires.passes in
    let p = claimed_printable x.claimed in
    few_lines p

pub count_empties-empties-requires-clause-nodes_stand : goal.count_empties-empties-requires-clause-nodes_stand
count_empties-empties-requires-clause-nodes_stand c =
    let (k, x) = c.requires.passes in
    let p = claimed_printable x.claimed in
    (k.nodes, nodes_stand p)

pub count_of-choices-requires : goal.count_of-choices-requires
count_of-choices-requires c =
    let (k, x) = c.requires.passes in
    let p = claimed_printable x.claimed in
    few_cues p

pub returns-then-choices-gt-CHOICES : goal.returns-then-choices-gt-CHOICES
returns-then-choices-gt-CHOICES c = λ k x.
    let p = claimed_printable x.claimed in
    let a = c.args in
    let stand = nodes_stand p in
    let e = c.count_empties-empties.result in
    let counted = c.count_empties-empties.ensures k.nodes stand in
    let n = c.count_of-choices.result in
    let is = c.count_of-choices.ensures in
    let many = counted_many k a.o.header p.head e counted n is c.if-choices-gt-CHOICES.true in
    let told = c.refuse.ensures in
    refused_finds 1 (tried_one k) (TooManyChoices (empty_count k.nodes)) (many_choices k 1 many)
    (told.0 ∙ ap (λ (m : ℕ). TooManyChoices m) counted) told.1 told.2

pub claimed_surplus-requires-clause-count_bound : goal.claimed_surplus-requires-clause-count_bound
claimed_surplus-requires-clause-count_bound c =
    let (k, x) = c.requires.passes in
    let p = claimed_printable x.claimed in
    few_lines p

pub claimed_surplus-requires-clause-nodes_stand : goal.claimed_surplus-requires-clause-nodes_stand
claimed_surplus-requires-clause-nodes_stand c =
    let (k, x) = c.requires.passes in
    let p = claimed_printable x.claimed in
    (k.nodes, k.head, nodes_stand p, (is_sound p).nodes_good, (is_sound p).head_good.few_cues)

pub overflow_sub-base : goal.overflow_sub-base
overflow_sub-base c =
    let (k, x) = c.requires.passes in
    let p = claimed_printable x.claimed in
    digits_inside c.args.text.now k x.reads c.claimed_surplus.result (c.claimed_surplus.ensures k.nodes (nodes_stand p))

pub find_only-requires-clause-printable : goal.find_only-requires-clause-printable
find_only-requires-clause-printable c =
    let (k, x) = c.requires.passes in
    let p = claimed_printable x.claimed in
    let a = c.args in
    let stand = nodes_stand p in
    let e = c.count_empties-empties.result in
    let counted = c.count_empties-empties.ensures k.nodes stand in
    let n = c.count_of-choices.result in
    let is = c.count_of-choices.ensures in
    let digits = c.claimed_surplus.result in
    let own = c.claimed_surplus.ensures k.nodes stand in
    let b = base_of a.text.now k x.reads digits own in
    let one = counted_is k a.o.header p.head e counted n is (omega (arith, c.if-choices-gt-CHOICES.false)) ∙ c.if-choices-eq1.true in
    (k, p, b, sym counted, one)

pub returns-then-choices-eq1 : goal.returns-then-choices-eq1
returns-then-choices-eq1 c = λ k x.
    let p = claimed_printable x.claimed in
    let a = c.args in
    let stand = nodes_stand p in
    let e = c.count_empties-empties.result in
    let counted = c.count_empties-empties.ensures k.nodes stand in
    let n = c.count_of-choices.result in
    let is = c.count_of-choices.ensures in
    let few = counted_few k a.o.header p.head e counted n is (omega (arith, c.if-choices-gt-CHOICES.false)) in
    let digits = c.claimed_surplus.result in
    let own = c.claimed_surplus.ensures k.nodes stand in
    let b = base_of a.text.now k x.reads digits own in
    let one = counted_is k a.o.header p.head e counted n is (omega (arith, c.if-choices-gt-CHOICES.false)) ∙ c.if-choices-eq1.true in
    finds_as (λ i. sym (few_choices_lem k i few)) (λ i w. w) refl (c.find_only.ensures k p b (sym counted) one)

pub slice_bounds-choice-end : goal.slice_bounds-choice-end
slice_bounds-choice-end c =
    let (k, x) = c.requires.passes in
    let p = claimed_printable x.claimed in
    let a = c.args in
    let stand = nodes_stand p in
    let e = c.count_empties-empties.result in
    let counted = c.count_empties-empties.ensures k.nodes stand in
    let n = c.count_of-choices.result in
    let is = c.count_of-choices.ensures in
    counted_positions k a.o.header p.head e counted n is (omega (arith, c.if-choices-gt-CHOICES.false)) c.if-choices-eq1.false

pub slice_bounds-find_first-end : goal.slice_bounds-find_first-end
slice_bounds-find_first-end c =
    let (k, x) = c.requires.passes in
    let p = claimed_printable x.claimed in
    let a = c.args in
    let stand = nodes_stand p in
    let e = c.count_empties-empties.result in
    let counted = c.count_empties-empties.ensures k.nodes stand in
    let n = c.count_of-choices.result in
    let is = c.count_of-choices.ensures in
    let most = counted_positions k a.o.header p.head e counted n is (omega (arith, c.if-choices-gt-CHOICES.false)) c.if-choices-eq1.false in
    sym (start_size e 19 most)

pub slice_bounds-why-end : goal.slice_bounds-why-end
slice_bounds-why-end c =
    let (k, x) = c.requires.passes in
    let p = claimed_printable x.claimed in
    let a = c.args in
    let stand = nodes_stand p in
    let e = c.count_empties-empties.result in
    let counted = c.count_empties-empties.ensures k.nodes stand in
    let n = c.count_of-choices.result in
    let is = c.count_of-choices.ensures in
    counted_positions k a.o.header p.head e counted n is (omega (arith, c.if-choices-gt-CHOICES.false)) c.if-choices-eq1.false

pub slice_bounds-find_first-end-2 : goal.slice_bounds-find_first-end-2
slice_bounds-find_first-end-2 c =
    let (k, x) = c.requires.passes in
    let p = claimed_printable x.claimed in
    let a = c.args in
    let stand = nodes_stand p in
    let e = c.count_empties-empties.result in
    let counted = c.count_empties-empties.ensures k.nodes stand in
    let n = c.count_of-choices.result in
    let is = c.count_of-choices.ensures in
    let most = counted_positions k a.o.header p.head e counted n is (omega (arith, c.if-choices-gt-CHOICES.false)) c.if-choices-eq1.false in
    sym (start_size e 19 most)

pub find_first-requires-clause-passes : goal.find_first-requires-clause-passes
find_first-requires-clause-passes c =
    let (k, x) = c.requires.passes in
    let p = claimed_printable x.claimed in
    let a = c.args in
    let stand = nodes_stand p in
    let e = c.count_empties-empties.result in
    let counted = c.count_empties-empties.ensures k.nodes stand in
    let n = c.count_of-choices.result in
    let is = c.count_of-choices.ensures in
    let few = counted_few k a.o.header p.head e counted n is (omega (arith, c.if-choices-gt-CHOICES.false)) in
    let digits = c.claimed_surplus.result in
    let own = c.claimed_surplus.ensures k.nodes stand in
    let b = base_of a.text.now k x.reads digits own in
    let most = counted_positions k a.o.header p.head e counted n is (omega (arith, c.if-choices-gt-CHOICES.false)) c.if-choices-eq1.false in
    (k, x, b, zeros_choice k e _ (sym counted) (zeros_taken e 19 most), few)

pub find_first-requires-clause-spacious : goal.find_first-requires-clause-spacious
find_first-requires-clause-spacious c =
    let (k, x) = c.requires.passes in
    let p = claimed_printable x.claimed in
    let a = c.args in
    let stand = nodes_stand p in
    let e = c.count_empties-empties.result in
    let counted = c.count_empties-empties.ensures k.nodes stand in
    let n = c.count_of-choices.result in
    let is = c.count_of-choices.ensures in
    let most = counted_positions k a.o.header p.head e counted n is (omega (arith, c.if-choices-gt-CHOICES.false)) c.if-choices-eq1.false in
    let size = start_size e 19 most in
    (c.requires.spacious.0, c.requires.spacious.1, omega arith, omega arith, refl, start_zeros e 19 most)

pub returns : goal.returns
returns c = λ k x.
    let p = claimed_printable x.claimed in
    let a = c.args in
    let stand = nodes_stand p in
    let e = c.count_empties-empties.result in
    let counted = c.count_empties-empties.ensures k.nodes stand in
    let n = c.count_of-choices.result in
    let is = c.count_of-choices.ensures in
    let few = counted_few k a.o.header p.head e counted n is (omega (arith, c.if-choices-gt-CHOICES.false)) in
    let digits = c.claimed_surplus.result in
    let own = c.claimed_surplus.ensures k.nodes stand in
    let b = base_of a.text.now k x.reads digits own in
    let most = counted_positions k a.o.header p.head e counted n is (omega (arith, c.if-choices-gt-CHOICES.false)) c.if-choices-eq1.false in
    finds_as (λ i. sym (few_choices_lem k i few)) (λ i w. w) refl
    (c.find_first.ensures k x b (zeros_choice k e _ (sym counted) (zeros_taken e 19 most)) few)
