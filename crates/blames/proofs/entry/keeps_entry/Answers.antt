-- `keeps_entry`: the letter picks the test, at the span that the entry has with the gaps. Assumes nothing.
use Prim.Native.Nat.{ℕ, ◌+◌, ◌≤◌}
use Rattle.rules.specs.State.{word_count}
use Rattle.rules.specs.Index.{Span, c, f, rounded_up, rounded_down}
use Rattle.rules.specs.Gaps.{Within}
use Rattle.rows.specs.Rows.{in_row}
use Rattle.parts.proofs.Letters.{numbered_W, numbered_F, numbered_B, numbered_O}
use Rattle.blames.specs.declared.entry.Entry.{Entry}
use Rattle.blames.specs.Entries.{edges, EntryFits}
use Rattle.blames.proofs.Edges.{EdgesFit, edges_fit}
use Rattle.blames.proofs.Letters.{silent_keeps, order_kept, before_kept, after_kept, between_kept}
use lib.ListN.{length}
use mathlib.Core.List.{List}
use mathlib.Core.Path.{◌≡◌, sym, subst, ◌∙◌}
use native.Mathlib.Omega.{arith}
use Rattle.blames.proofs.entry.keeps_entry.Goals as goal

fit : (k : ℕ) (x : Entry) (gs : List ℕ) {s : Span} → Within k gs → EntryFits k (length gs) x → s ≡ edges x gs → EdgesFit k s
fit k x gs few is e = subst (EdgesFit k) (sym e) (edges_fit k (length gs) x gs few is)

-- The span's roundings are among the states.
up_least : {k : ℕ} {s : Span} → EdgesFit k s → 1 ≤ c s
unfolding c rounded_up
up_least t = let least = t.start_least in omega arith

up_most : {k : ℕ} {s : Span} → EdgesFit k s → c s ≤ k + 1
unfolding c rounded_up
up_most t = let most = t.start_most in omega arith

pub returns-then-letter-eq0-clause-value : goal.returns-then-letter-eq0-clause-value
returns-then-letter-eq0-clause-value c = sym (silent_keeps (in_row c.args.states.now) c.args.x c.args.choice.now c.if-letter-eq0.true)

pub keeps_between-requires-clause-v_bound : goal.keeps_between-requires-clause-v_bound
keeps_between-requires-clause-v_bound c =
    let p = c.requires.k_bound in
    up_most (fit c.args.k c.args.x c.args.choice.now p.1 (p.3 c.if-letter-eq0.false) c.span_of-span.ensures)

pub returns-then-is_either-clause-value : goal.returns-then-is_either-clause-value
returns-then-is_either-clause-value c =
    let x = c.args.x in
    between_kept (in_row c.args.states.now) x c.args.choice.now c.if-letter-eq0.false c.span_of-span.ensures c.sign_of-sign.ensures
    (numbered_W x.letter x.p x.p x.p (sym c.is_either.ensures ∙ c.if-is_either.true)) c.keeps_between.ensures.value

pub keeps_after-requires : goal.keeps_after-requires
unfolding word_count f rounded_down
keeps_after-requires c =
    let p = c.requires.k_bound in
    let k = c.requires.columns.there in
    let t = fit c.args.k c.args.x c.args.choice.now p.1 (p.3 c.if-letter-eq0.false) c.span_of-span.ensures in
    omega (arith, t.start_most, t.end_most)

pub returns-then-is_either-2-clause-value : goal.returns-then-is_either-2-clause-value
returns-then-is_either-2-clause-value c =
    let x = c.args.x in
    after_kept (in_row c.args.states.now) x c.args.choice.now c.if-letter-eq0.false c.span_of-span.ensures c.sign_of-sign.ensures
    (numbered_F x.letter x.p x.p x.p (sym c.is_either.ensures ∙ c.if-is_either.false) (sym c.is_either-2.ensures ∙ c.if-is_either-2.true))
    c.keeps_after.ensures

pub keeps_before-requires-clause-bound : goal.keeps_before-requires-clause-bound
keeps_before-requires-clause-bound c =
    let p = c.requires.k_bound in
    up_least (fit c.args.k c.args.x c.args.choice.now p.1 (p.3 c.if-letter-eq0.false) c.span_of-span.ensures)

pub keeps_before-requires-clause-u_in_bounds : goal.keeps_before-requires-clause-u_in_bounds
unfolding word_count
keeps_before-requires-clause-u_in_bounds c =
    let p = c.requires.k_bound in
    let k = c.requires.columns.there in
    omega (arith, up_most (fit c.args.k c.args.x c.args.choice.now p.1 (p.3 c.if-letter-eq0.false) c.span_of-span.ensures))

pub returns-then-is_either-3-clause-value : goal.returns-then-is_either-3-clause-value
returns-then-is_either-3-clause-value c =
    let x = c.args.x in
    before_kept (in_row c.args.states.now) x c.args.choice.now c.if-letter-eq0.false c.span_of-span.ensures c.sign_of-sign.ensures
    (numbered_B x.letter x.p x.p x.p (sym c.is_either.ensures ∙ c.if-is_either.false) (sym c.is_either-2.ensures ∙ c.if-is_either-2.false)
    (sym c.is_either-3.ensures ∙ c.if-is_either-3.true))
    c.keeps_before.ensures

pub returns-clause-value : goal.returns-clause-value
returns-clause-value c =
    let x = c.args.x in
    order_kept (in_row c.args.states.now) x c.args.choice.now c.if-letter-eq0.false c.span_of-span.ensures
    (numbered_O x.letter x.p x.p x.p (sym c.is_either.ensures ∙ c.if-is_either.false) (sym c.is_either-2.ensures ∙ c.if-is_either-2.false)
    (sym c.is_either-3.ensures ∙ c.if-is_either-3.false))
    c.is_before.ensures
