-- No line feed follows place i; the loop stops where one stands before it, or where nothing does. Assumes nothing.
use mathlib.Core.Path.{◌≡◌, sym, ap, ◌∙◌}
use Prim.Native.Nat.{◌+◌, ◌-◌}
use native.Mathlib.Omega.{arith}
use lib.ListN.{length}
use Rattle.rules.specs.Text.{feed_follows}
use Rattle.text.proofs.Feeds.{feed_out, feed_in, feed_next, feeds_before}
use Rattle.text.proofs.past_last_feed.Goals as goal

pub loop-i-init : goal.loop-i-init
loop-i-init c = let t = c.args.text.now in feed_out t (length t) (omega arith)

pub returns-then-text-i-eq10-clause-follows : goal.returns-then-text-i-eq10-clause-follows
returns-then-text-i-eq10-clause-follows c =
    let t = c.args.text.now in
    let l = c.loop-i in
    let same : l.i - 1 + 1 ≡ l.i = omega arith in
    rw same (feeds_before t l.i (λ _. feed_in t (l.i - 1) (omega arith) c.if-text-i-eq10.true) l.invariant)

pub loop-i-preserved : goal.loop-i-preserved
loop-i-preserved c =
    let t = c.args.text.now in
    let l = c.loop-i in
    let same : l.i - 1 + 1 ≡ l.i = omega arith in
    feed_next t (l.i - 1) (omega arith) c.if-text-i-eq10.false ∙ (ap (feed_follows t) same ∙ l.invariant)

pub returns-clause-follows : goal.returns-clause-follows
returns-clause-follows c =
    let t = c.args.text.now in
    let l = c.loop-i in
    let none : l.i ≡ 0 = omega arith in
    feeds_before t 0 (λ h. absurd (omega arith)) (ap (feed_follows t) (sym none) ∙ l.invariant)
