-- `in_range`: the two bounds of the kind, as they are listed, and what it asks for besides (Ranges). Assumes nothing.
use borrow.Author.Tests.{lt-ltb}
use Rattle.lines.proofs.Ranges.{too_low, too_high, between, plain}
use mathlib.Core.Path.{sym, ◌∙◌}
use Rattle.lines.proofs.range.in_range.Goals as goal

pub returns-then-v-x : goal.returns-then-v-x
returns-then-v-x c =
    let a = c.args in
    too_low a.x.now.numbers a.before.now a.kind a.v c.requires.kind_bound c.args.x.now.known c.ranges.v.fits c.if-v-x.true

pub returns-then-x-at : goal.returns-then-x-at
returns-then-x-at c =
    let a = c.args in
    too_high a.x.now.numbers a.before.now a.kind a.v c.requires.kind_bound c.args.x.now.known c.ranges.v.fits c.if-x-at.true

pub returns-then-kind-gt-OTHER_SUBTASK : goal.returns-then-kind-gt-OTHER_SUBTASK
returns-then-kind-gt-OTHER_SUBTASK c =
    let a = c.args in
    lt-ltb 2 a.kind c.if-kind-gt-OTHER_SUBTASK.true ∙ (sym (plain a.before.now a.v a.kind c.if-kind-gt-OTHER_SUBTASK.true)
    ∙ between a.x.now.numbers a.before.now a.kind a.v c.requires.kind_bound c.args.x.now.known c.ranges.v.fits c.if-v-x.false c.if-x-at.false)

pub returns-else-kind-gt-OTHER_SUBTASK : goal.returns-else-kind-gt-OTHER_SUBTASK
returns-else-kind-gt-OTHER_SUBTASK c =
    let a = c.args in
    c.apart.ensures
    ∙ between a.x.now.numbers a.before.now a.kind a.v c.requires.kind_bound c.args.x.now.known c.ranges.v.fits c.if-v-x.false c.if-x-at.false
