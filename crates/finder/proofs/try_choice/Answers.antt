-- `try_choice`: a text that would be too long is refused; any other is printed from the fields with the gaps put in, and checked. Assumes nothing.
use mathlib.Core.Path.{refl}
use Prim.Native.Nat.{◌+◌, ◌≤◌, ◌<◌}
use native.Mathlib.Omega.{arith}
use Rattle.rules.specs.Fields.{lines_of}
use Rattle.rules.specs.Gaps.{case_with}
use Rattle.rules.specs.Verdict.{text_most}
use Rattle.rules.specs.declared.Answer.TheVariants.{LongText}
use Rattle.output.proofs.Cases.{print_short}
use Rattle.finder.proofs.Prints.{is_sound, nodes_stand, few_lines, few_cues, few_empties, has_lines}
use Rattle.finder.proofs.Trying.{within_header, choice_long, choice_put, choice_size, choice_roomy, choice_answers}
use Rattle.judge.proofs.Phases.{refused_all}
use Rattle.finder.proofs.try_choice.Goals as goal

pub surplus_of-requires : goal.surplus_of-requires
surplus_of-requires c =
    let (k, p, b, h) = c.requires.printable in
    (few_cues p, within_header p c.args.base b c.args.choice.now h, omega (arith, h.0, few_empties p))

pub overflow_add-length : goal.overflow_add-length
unfolding text_most
overflow_add-length c =
    let (k, p, b, h) = c.requires.printable in
    let few : c.args.base ≤ 65535 = omega (arith, b, print_short k p.read) in
    omega (arith, c.surplus_of.type_inv)

pub returns-then-length-gt-TEXT : goal.returns-then-length-gt-TEXT
unfolding text_most
returns-then-length-gt-TEXT c = λ k p b h.
    let a = c.args in
    let digits = c.surplus_of in
    let over : text_most < a.base + digits.result = omega (arith, c.if-length-gt-TEXT.true) in
    refused_all LongText (choice_long p a.base b a.choice.now h digits.result digits.ensures over) refl c.clear.ensures

pub put_gaps-requires : goal.put_gaps-requires
put_gaps-requires c =
    let (k, p, b, h) = c.requires.printable in
    (k.nodes, nodes_stand p, omega (arith, h.0))

pub sum_lines-sum-requires-clause-count_bound : goal.sum_lines-sum-requires-clause-count_bound
unfolding text_most
sum_lines-sum-requires-clause-count_bound c =
    let a = c.args in
    let digits = c.surplus_of in
    let (k, p, b, h) = c.requires.printable in
    let put = c.put_gaps in
    let short : a.base + digits.result ≤ text_most = omega (arith, c.if-length-gt-TEXT.false) in
    let q = choice_put p a.base b a.choice.now h digits.result digits.ensures short put.new.fields put.ensures in
    let l = case_with a.choice.now k in
    (few_lines q, few_cues q)

pub sum_lines-sum-requires-clause-nodes_stand : goal.sum_lines-sum-requires-clause-nodes_stand
unfolding text_most
sum_lines-sum-requires-clause-nodes_stand c =
    let a = c.args in
    let digits = c.surplus_of in
    let (k, p, b, h) = c.requires.printable in
    let put = c.put_gaps in
    let short : a.base + digits.result ≤ text_most = omega (arith, c.if-length-gt-TEXT.false) in
    let q = choice_put p a.base b a.choice.now h digits.result digits.ensures short put.new.fields put.ensures in
    let l = case_with a.choice.now k in
    (l.nodes, l.head, nodes_stand q, (is_sound q).nodes_good, (is_sound q).head_good.few_cues)

pub check_within-requires-clause-has_lines : goal.check_within-requires-clause-has_lines
unfolding text_most
check_within-requires-clause-has_lines c =
    let a = c.args in
    let digits = c.surplus_of in
    let (k, p, b, h) = c.requires.printable in
    let put = c.put_gaps in
    let short : a.base + digits.result ≤ text_most = omega (arith, c.if-length-gt-TEXT.false) in
    let q = choice_put p a.base b a.choice.now h digits.result digits.ensures short put.new.fields put.ensures in
    let l = case_with a.choice.now k in
    let lines = has_lines q c.sum_lines-sum.result.next (c.sum_lines-sum.ensures l.nodes (nodes_stand q)).3 in
    let size = choice_size p a.base b a.choice.now h digits.result digits.ensures in
    let own = choice_roomy p a.base b a.choice.now h digits.result digits.ensures c.requires.spacious.0 c.requires.spacious.1 short put.new.fields put.auto.fields in
    (lines_of l, lines, omega (arith, c.if-length-le-SHORT.true), own)

pub returns-then-length-le-SHORT : goal.returns-then-length-le-SHORT
unfolding text_most
returns-then-length-le-SHORT c = λ k p b h.
    let a = c.args in
    let digits = c.surplus_of in
    let put = c.put_gaps in
    let short : a.base + digits.result ≤ text_most = omega (arith, c.if-length-gt-TEXT.false) in
    let q = choice_put p a.base b a.choice.now h digits.result digits.ensures short put.new.fields put.ensures in
    let l = case_with a.choice.now k in
    let lines = has_lines q c.sum_lines-sum.result.next (c.sum_lines-sum.ensures l.nodes (nodes_stand q)).3 in
    choice_answers p a.base b a.choice.now h digits.result digits.ensures (c.check_within.ensures (lines_of l) lines)

pub check_within-requires-2-clause-has_lines : goal.check_within-requires-2-clause-has_lines
unfolding text_most
check_within-requires-2-clause-has_lines c =
    let a = c.args in
    let digits = c.surplus_of in
    let (k, p, b, h) = c.requires.printable in
    let put = c.put_gaps in
    let short : a.base + digits.result ≤ text_most = omega (arith, c.if-length-gt-TEXT.false) in
    let q = choice_put p a.base b a.choice.now h digits.result digits.ensures short put.new.fields put.ensures in
    let l = case_with a.choice.now k in
    let lines = has_lines q c.sum_lines-sum.result.next (c.sum_lines-sum.ensures l.nodes (nodes_stand q)).3 in
    let size = choice_size p a.base b a.choice.now h digits.result digits.ensures in
    let own = choice_roomy p a.base b a.choice.now h digits.result digits.ensures c.requires.spacious.0 c.requires.spacious.1 short put.new.fields put.auto.fields in
    (lines_of l, lines, omega arith, own)

pub returns : goal.returns
unfolding text_most
returns c = λ k p b h.
    let a = c.args in
    let digits = c.surplus_of in
    let put = c.put_gaps in
    let short : a.base + digits.result ≤ text_most = omega (arith, c.if-length-gt-TEXT.false) in
    let q = choice_put p a.base b a.choice.now h digits.result digits.ensures short put.new.fields put.ensures in
    let l = case_with a.choice.now k in
    let lines = has_lines q c.sum_lines-sum.result.next (c.sum_lines-sum.ensures l.nodes (nodes_stand q)).3 in
    choice_answers p a.base b a.choice.now h digits.result digits.ensures (c.check_within-2.ensures (lines_of l) lines)

pub check_within-requires-clause-state_need_in_bounds : goal.check_within-requires-clause-state_need_in_bounds
unfolding text_most
check_within-requires-clause-state_need_in_bounds c =
    let p = c.requires.state_need_in_bounds in
    let short : 4096 ≤ 65535 = omega arith in
    (p.0, p.1, short)

pub check_within-requires-2-clause-state_need_in_bounds : goal.check_within-requires-2-clause-state_need_in_bounds
unfolding text_most
check_within-requires-2-clause-state_need_in_bounds c =
    let p = c.requires.state_need_in_bounds in
    let most : 65535 ≤ 65535 = omega arith in
    (p.0, p.1, most)
