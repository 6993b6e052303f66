-- `skip`: one turn of a search. Assumes nothing.
use mathlib.Core.Path.{◌≡◌, ap, ◌∙◌}
use mathlib.Core.Bool.{Bool}
use Rattle.choices.specs.Searching.{next, over, next_of, advanced}
use Rattle.seeking.proofs.Skipping.{blame_inside, nearer, goes, none_left_lem}
use Rattle.seeking.proofs.skip.Goals as goal

pub advance-requires : goal.advance-requires
advance-requires c =
    let a = c.args in
    (c.requires.0, blame_inside a.k a.set c.learn-b.result a.choice.now a.why.now c.learn-b.new.why c.learn-b.ensures)

pub returns-then-not-advance-clause-skips : goal.returns-then-not-advance-clause-skips
returns-then-not-advance-clause-skips c = λ passing w r known.
    let a = c.args in
    let on : next_of a.k c.learn-b.result a.choice.now ≡ over =
    c.advance.ensures ∙ ap (λ (r : Bool). advanced r c.advance.new.choice) c.if-not-advance.true in
    none_left_lem passing a.k a.choice.now a.set c.learn-b.result a.why.now c.learn-b.new.why c.learn-b.ensures on w r known

pub returns-clause-nearer : goal.returns-clause-nearer
returns-clause-nearer c =
    let a = c.args in
    let d = c.advance.new.choice in
    let on : next_of a.k c.learn-b.result a.choice.now ≡ next d = c.advance.ensures ∙ ap (λ (r : Bool). advanced r d) c.if-not-advance.false in
    nearer a.k c.learn-b.result a.choice.now d (blame_inside a.k a.set c.learn-b.result a.choice.now a.why.now c.learn-b.new.why c.learn-b.ensures) on

pub returns-clause-skips : goal.returns-clause-skips
returns-clause-skips c = λ passing w r known.
    let a = c.args in
    let d = c.advance.new.choice in
    let on : next_of a.k c.learn-b.result a.choice.now ≡ next d = c.advance.ensures ∙ ap (λ (r : Bool). advanced r d) c.if-not-advance.false in
    goes passing a.k a.choice.now a.set c.learn-b.result a.why.now c.learn-b.new.why d c.learn-b.ensures on w r known
