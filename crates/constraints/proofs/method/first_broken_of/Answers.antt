-- `first_broken_of`: the first broken constraint from the start on is that from here on (Testing). Assumes nothing.
use Rattle.constraints.proofs.Testing.{due, tested_here, testing_breaks, testing_goes_on}
use mathlib.Core.Path.{◌∙◌}
use Rattle.constraints.proofs.method.first_broken_of.Goals as goal

-- The constraint that is due, of any that stand where the tests began; the caller names some.
pub line_at-d-requires : goal.line_at-d-requires
line_at-d-requires c =
    let r = c.requires.constraints_here in
    let x = due (c.loop-number.invariant.1 r.0 r.1) c.loop-number-test.true in
    (x.this, x.later, x.stands)

-- The code has its line.
pub keeps_line-requires-clause-tested : goal.keeps_line-requires-clause-tested
keeps_line-requires-clause-tested c =
    let r = c.requires.constraints_here in
    let p = c.loop-number.invariant.1 r.0 r.1 in
    let x = due p c.loop-number-test.true in
    tested_here p x (c.line_at-d.ensures x.this x.later x.stands) r.2

pub returns-then-not-keeps_line-clause-value : goal.returns-then-not-keeps_line-clause-value
returns-then-not-keeps_line-clause-value c = λ cs h.
    let p = c.loop-number.invariant.1 cs h in
    let x = due p c.loop-number-test.true in
    let d = c.line_at-d.result in
    testing_breaks p x (c.line_at-d.ensures x.this x.later x.stands) c.keeps_line.ensures.value c.if-not-keeps_line.true
    (c.broken.ensures d.first d.second d.third)

pub loop-number-preserved : goal.loop-number-preserved
loop-number-preserved c =
    let k = c.keeps_line in (
      k.ensures.columns_2,
      λ cs h.
          let p = c.loop-number.invariant.1 cs h in
          let x = due p c.loop-number-test.true in
          testing_goes_on p x (c.line_at-d.ensures x.this x.later x.stands) k.ensures.value c.if-not-keeps_line.false,
      k.auto.columns ∙ c.loop-number.invariant.2,
      k.auto.built ∙ c.loop-number.invariant.3,
    )
