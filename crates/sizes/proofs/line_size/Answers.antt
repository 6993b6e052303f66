-- `line_size`: the items from here on (Items). Assumes nothing.
use Rattle.sizes.proofs.Items.{letter_here, passing_starts, item_due, passing_ends}
use native.Mathlib.Omega.{arith}
use Rattle.sizes.proofs.line_size.Goals as goal

pub offset_bounds-fields-at : goal.offset_bounds-fields-at
offset_bounds-fields-at c =
    let a = c.args in
    let d = letter_here a.cues a.fields.now a.at c.requires.0 c.requires.1 c.requires.2 in
    omega arith

pub bounds-fields-at : goal.bounds-fields-at
bounds-fields-at c =
    let a = c.args in
    (letter_here a.cues a.fields.now a.at c.requires.0 c.requires.1 c.requires.2).1

pub overflow_cast-fields : goal.overflow_cast-fields
overflow_cast-fields c =
    let a = c.args in
    let d = letter_here a.cues a.fields.now a.at c.requires.0 c.requires.1 c.requires.2 in
    omega arith

pub loop-rest-init : goal.loop-rest-init
loop-rest-init c =
    let a = c.args in
    λ x l s. passing_starts a.cues a.fields.now a.at x c.shape-rest.result (omega arith) c.shape-rest.ensures l s

pub overflow_add-at : goal.overflow_add-at
overflow_add-at c =
    let a = c.args in
    let l = c.loop-rest in
    let w = (l.invariant c.requires.0 c.requires.1 c.requires.2).whole in
    let inside = (letter_here a.cues a.fields.now a.at c.requires.0 c.requires.1 c.requires.2).0 in
    omega arith

pub item_size-size-requires : goal.item_size-size-requires
item_size-size-requires c =
    let a = c.args in
    let l = c.loop-rest in
    let d = item_due a.cues a.fields.now a.at c.requires.0 l.rest l.size (l.invariant c.requires.0 c.requires.1 c.requires.2) c.loop-rest-test.true in
    (d.value, d.is, d.here)

pub overflow_add-size : goal.overflow_add-size
overflow_add-size c =
    let a = c.args in
    let l = c.loop-rest in
    let d = item_due a.cues a.fields.now a.at c.requires.0 l.rest l.size (l.invariant c.requires.0 c.requires.1 c.requires.2) c.loop-rest-test.true in
    let e = c.item_size-size.ensures d.value d.is d.here in
    let own = d.inside in
    let inside = (letter_here a.cues a.fields.now a.at c.requires.0 c.requires.1 c.requires.2).0 in
    omega arith

pub loop-rest-preserved : goal.loop-rest-preserved
loop-rest-preserved c =
    let a = c.args in
    let l = c.loop-rest in
    λ x is s.
    let d = item_due a.cues a.fields.now a.at x l.rest l.size (l.invariant x is s) c.loop-rest-test.true in
    d.next c.item_size-size.result (c.item_size-size.ensures d.value d.is d.here)

pub returns : goal.returns
returns c =
    let a = c.args in
    let l = c.loop-rest in
    λ x is s. passing_ends a.cues a.fields.now a.at x l.rest l.size (l.invariant x is s) c.loop-rest-test.false
