-- `enter_lines`: the constraints that are left stand at a place, and the entries of the others are sound (Entered). Assumes nothing.
use Rattle.blames.specs.declared.entry.Entry.{Entry}
use Rattle.blames.specs.Entries.{EntryFits, EntrySound}
use Rattle.constraints.specs.Methods.{meant}
use Rattle.entering.proofs.Entered.{due, line_among, entered_on}
use lib.ListN.{length}
use mathlib.Core.Path.{sym, ◌∙◌, subst}
use Rattle.entering.proofs.lines.enter_lines.Goals as goal

-- Of any constraints that stand where the arguments say; the caller names some.
pub line_at-d-requires : goal.line_at-d-requires
line_at-d-requires c =
    let h = c.requires.constraints_here in
    let x = due (c.loop-number.invariant.2 h.0 h.1) c.loop-number-test.true in
    (x.this, x.later, x.stands)

pub entry_of-x-requires : goal.entry_of-x-requires
entry_of-x-requires c =
    let h = c.requires.constraints_here in
    let p = c.loop-number.invariant.2 h.0 h.1 in
    let x = due p c.loop-number-test.true in
    h.2 (meant c.line_at-d.result) (line_among p x (c.line_at-d.ensures x.this x.later x.stands))

pub loop-number-preserved : goal.loop-number-preserved
loop-number-preserved c =
    let a = c.args in
    let k = a.k in
    let e = length a.choice.now in
    let l = c.loop-number.invariant in
    let more = c.loop-number-test.true in (
      c.enter.ensures.columns,
      c.enter.ensures.fits,
      λ cs h. let x = due (l.2 cs h) more in entered_on (l.2 cs h) x (c.line_at-d.ensures x.this x.later x.stands),
      λ holds passing cs h all sound.
          let x = due (l.2 cs h) more in
          let among = line_among (l.2 cs h) x (c.line_at-d.ensures x.this x.later x.stands) in
          let its : EntryFits k e c.entry_of-x.result → EntrySound holds passing k e c.entry_of-x.result =
          subst (λ (y : Entry). EntryFits k e y → EntrySound holds passing k e y) (sym c.entry_of-x.ensures) (all c.line_at-d.result among) in
          c.enter.ensures.sound holds passing its (l.3 holds passing cs h all sound),
      c.enter.auto.counts ∙ l.4,
      c.enter.auto.columns ∙ l.5,
      c.enter.auto.built ∙ l.6,
    )
