-- All bytes passed are a name's, so from here on it is as from the start whether all bytes are, and where the piece ends. Assumes nothing.
use mathlib.Core.Path.{sym, ap, ◌∙◌}
use Prim.Native.Nat.{ℕ, ◌<◌}
use native.Mathlib.Omega.{arith}
use lib.ListN.{get_or}
use Rattle.rules.specs.Tokens.{is_name}
use Rattle.text.proofs.Feeds.{feed_inside}
use Rattle.tokens.specs.Pieces.{piece_from}
use Rattle.tokens.proofs.Pieces.{name_stays, inner_feeds, name_on, name_over, name_fails, no_first}
use Rattle.tokens.proofs.Words.{named, unnamed, part_unnamed}
use Rattle.tokens.proofs.name_end.Goals as goal

pub bounds-text-at : goal.bounds-text-at
bounds-text-at c =
    let l = c.loop-at in feed_inside c.args.text.now l.at l.invariant.0

pub overflow_add-at : goal.overflow_add-at
overflow_add-at c =
    let l = c.loop-at in
    let inside = feed_inside c.args.text.now l.at l.invariant.0 in
    omega arith

pub loop-at-smaller : goal.loop-at-smaller
loop-at-smaller c =
    let l = c.loop-at in
    let inside = feed_inside c.args.text.now l.at l.invariant.0 in
    omega arith

pub loop-at-preserved : goal.loop-at-preserved
loop-at-preserved c =
    let l = c.loop-at in
    let a = c.args in
    let e = sym c.in_name.ensures ∙ c.loop-at-test.true in
    let on = name_on a.separator a.text.now l.at l.invariant.0 c.requires.0 e in (
      inner_feeds a.separator a.text.now l.at l.invariant.0 (name_stays a.separator (get_or a.text.now l.at 0) c.requires.0 e),
      omega (arith, l.invariant.1),
      l.invariant.2 ∙ on.0,
      l.invariant.3 ∙ on.1,
    )

pub returns-then-at-from : goal.returns-then-at-from
returns-then-at-from c =
    let l = c.loop-at in
    let a = c.args in
    let n = sym c.in_name.ensures ∙ c.loop-at-test.false in
    let no = no_first a.separator a.text.now l.at l.invariant.0 n in
    unnamed a.from (piece_from a.separator a.text.now a.from)
    (ap (λ (i : ℕ). is_name (piece_from a.separator a.text.now i)) (sym c.if-at-from.true) ∙ no)

pub bounds-text-at-2 : goal.bounds-text-at-2
bounds-text-at-2 c =
    let l = c.loop-at in
    feed_inside c.args.text.now l.at l.invariant.0

pub returns-then-ends_piece : goal.returns-then-ends_piece
returns-then-ends_piece c =
    let l = c.loop-at in
    let a = c.args in
    let e = sym c.ends_piece.ensures ∙ c.if-ends_piece.true in
    let over = name_over a.separator a.text.now l.at l.invariant.0 e in
    let further : a.from < l.at = omega (arith, l.invariant.1, c.if-at-from.false) in
    named a.from (piece_from a.separator a.text.now a.from) l.at (l.invariant.2 ∙ over.0) (l.invariant.3 ∙ over.1) further

pub returns-else-ends_piece : goal.returns-else-ends_piece
returns-else-ends_piece c =
    let l = c.loop-at in
    let a = c.args in
    let e = sym c.ends_piece.ensures ∙ c.if-ends_piece.false in
    let n = sym c.in_name.ensures ∙ c.loop-at-test.false in
    unnamed a.from (piece_from a.separator a.text.now a.from)
    (part_unnamed (piece_from a.separator a.text.now a.from) (l.invariant.2 ∙ name_fails a.separator a.text.now l.at l.invariant.0 e n))
