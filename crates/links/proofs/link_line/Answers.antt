-- `links::link_line` meets its contract: of the line's ids some are done, and the others stand in the text from here on. Assumes nothing.
use mathlib.Core.Path.{refl, sym, ◌∙◌}
use Rattle.rules.specs.Text.{is_digit}
use Rattle.links.proofs.Rows.{going_inside, going_feeds, going_plain, going_next, going_over}
use Rattle.links.proofs.link_line.Goals as goal

pub bounds-text-at : goal.bounds-text-at
bounds-text-at c = going_inside (c.loop-at.invariant.going c.requires.by_index.0 c.requires.by_index.1)

pub number_at-requires : goal.number_at-requires
unfolding is_digit
number_at-requires c =
    (refl, going_feeds (c.loop-at.invariant.going c.requires.by_index.0 c.requires.by_index.1) c.loop-at-test.true)

-- A number stands there.
pub returns-in_default-clause-stored : goal.returns-in_default-clause-stored
returns-in_default-clause-stored c =
    absurd
    (going_plain (c.loop-at.invariant.going c.requires.by_index.0 c.requires.by_index.1) c.loop-at-test.true
    (sym c.in_default.is ∙ c.number_at.ensures))

pub loop-at-preserved : goal.loop-at-preserved
loop-at-preserved c =
    let k = c.store_link-missing in record {
      tallied = k.ensures.1;
      going = λ vs p. going_next (c.loop-at.invariant.going vs p) c.loop-at-test.true (sym c.in-Some.is ∙ c.number_at.ensures) k.ensures.0 refl;
    }

pub returns-clause-stored : goal.returns-clause-stored
returns-clause-stored c = λ vs p. going_over (c.loop-at.invariant.going vs p) c.loop-at-test.false
