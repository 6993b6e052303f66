-- `fill`: the part that was lent is the column of p. Assumes nothing.
use Rattle.columns.proofs.Kept.{place, long, columns_more, marked}
use Rattle.columns.specs.Columns.{column_words, column_at, Columns}
use Rattle.rows.specs.Rows.{put_stretch}
use Rattle.rows.proofs.Written.{part_at, part_put}
use Rattle.rules.specs.State.{member}
use Prim.Native.Nat.{ℕ}
use lib.ListN.{length}
use mathlib.Core.List.{List}
use mathlib.Core.Path.{◌≡◌, refl, sym, ap, ◌∙◌, subst}
use native.Mathlib.Omega.{arith}
use Rattle.std.proofs.Common.{rules}
use Rattle.columns.proofs.fill.Goals as goal

pub overflow_add-to : goal.overflow_add-to
unfolding column_words
overflow_add-to c = search rules

pub offset_bounds-columns-from : goal.offset_bounds-columns-from
unfolding column_words
offset_bounds-columns-from c = search rules

pub slice_bounds-build-end : goal.slice_bounds-build-end
unfolding column_words
slice_bounds-build-end c =
    omega (arith, place c.requires.columns c.args.p c.requires.p_in_bounds, c.column_start-from.ensures)

pub build-requires-clause-column_len : goal.build-requires-clause-column_len
unfolding column_words column_at
build-requires-clause-column_len c =
    let a = c.args in
    let from = c.column_start-from in
    ap length (part_at column_words a.columns.now a.p from.result from.ensures) ∙ long a.columns.now a.p (place c.requires.columns a.p c.requires.p_in_bounds)

pub returns-clause-columns_2 : goal.returns-clause-columns_2
unfolding column_words column_at
returns-clause-columns_2 c =
    let a = c.args in
    let k = c.requires.columns in
    let w = c.requires.p_in_bounds in
    let b = c.build in
    let from = c.column_start-from in
    let m = c.insert.ensures in
    let size : length b.new.column ≡ column_words = b.auto.column ∙ ap length (part_at column_words a.columns.now a.p from.result from.ensures) ∙ long a.columns.now a.p (place k a.p w) in
    subst (λ (x : List ℕ). Columns a.states.now a.n x c.insert.new.words)
    (sym (part_put column_words a.columns.now a.p from.result from.ensures b.new.column b.new.column refl))
    (subst (Columns a.states.now a.n (put_stretch column_words a.columns.now a.p b.new.column)) (sym m) (columns_more k a.p b.new.column w size b.ensures))

pub returns-clause-p_after : goal.returns-clause-p_after
returns-clause-p_after c = ap (λ (x : List ℕ). member x c.args.p) c.insert.ensures ∙ marked c.args.built.now c.args.p c.requires.p_in_bounds
