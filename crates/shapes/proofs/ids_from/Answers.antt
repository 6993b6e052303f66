-- The ids up to `at` are passed; each turn passes one more, or finds a word that is none. Assumes nothing.
use mathlib.Core.Path.{refl, sym, subst}
use Prim.Native.Nat.{◌+◌}
use native.Mathlib.Omega.{arith}
use Rattle.rules.specs.Text.{is_digit}
use Rattle.tokens.specs.Pieces.{piece_from}
use Rattle.tokens.proofs.Words.{number_told, other_told}
use Rattle.shapes.specs.Shapes.{IdsAre}
use Rattle.shapes.proofs.Idents.{passed_inside, id_feeds, passed_other, passed_one, passed_all}
use Rattle.shapes.proofs.ids_from.Goals as goal

pub bounds-text-at : goal.bounds-text-at
bounds-text-at c = passed_inside c.args.text.now _ _ _ c.loop-at.invariant

pub number_at-requires : goal.number_at-requires
unfolding is_digit
number_at-requires c = (refl, id_feeds c.args.text.now _ _ _ c.loop-at.invariant c.loop-at-test.true)

pub loop-at-preserved : goal.loop-at-preserved
loop-at-preserved c =
    let l = c.loop-at in
    let a = c.args in
    let v = number_told (l.at + 1) (piece_from 32 a.text.now (l.at + 1)) c.in_ok-at.ensures in
    passed_one a.text.now _ _ _ l.invariant c.loop-at-test.true _ _ v

pub returns-in_err-at : goal.returns-in_err-at
returns-in_err-at c =
    let l = c.loop-at in
    let a = c.args in
    subst (IdsAre a.text.now a.from) (sym c.from_residual.ensures)
    (passed_other a.text.now _ _ _ l.invariant c.loop-at-test.true
    (other_told (l.at + 1) (piece_from 32 a.text.now (l.at + 1)) c.in_err-at.ensures))

pub overflow_add-result : goal.overflow_add-result
overflow_add-result c =
    let inside = passed_inside c.args.text.now _ _ _ c.loop-at.invariant in
    omega arith

pub returns : goal.returns
returns c = passed_all c.args.text.now _ _ _ c.loop-at.invariant c.loop-at-test.false
