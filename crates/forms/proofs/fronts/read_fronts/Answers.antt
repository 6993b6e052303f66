-- `read_fronts`: the lines so far, with those from here on, are all lines (FrontTurns). Assumes nothing.
use native.Mathlib.Omega.{arith}
use Rattle.std.proofs.lemmas.Result.{err_from_is_err_and}
use Rattle.forms.specs.Held.{Modelled}
use Rattle.forms.proofs.FrontTurns.{fronting_starts, fronting_few, fronting_more, fronting_root, fronting_refused}
use Rattle.forms.proofs.fronts.read_fronts.Goals as goal

pub loop-next-init : goal.loop-next-init
loop-next-init c =
    let a = c.args in
    fronting_starts (λ k ns. Modelled k ns a.model.now) a.form.now a.from _ _ c.requires.ids_len.0 c.requires.ids_len.1

pub loop-next-smaller : goal.loop-next-smaller
loop-next-smaller c =
    let a = c.args in
    let l = c.loop-next in
    let few = fronting_few (λ k ns. Modelled k ns a.model.now) a.form.now a.from _ _ l.at l.e l.invariant _ _ _ c.in_ok-next.ensures c.requires.modelled _ c.in-Taken.is in
    omega arith

pub loop-next-preserved : goal.loop-next-preserved
loop-next-preserved c =
    let a = c.args in
    let l = c.loop-next in
    fronting_more (λ k ns. Modelled k ns a.model.now) a.form.now a.from _ _ l.at l.e l.invariant _ _ _ c.in_ok-next.ensures c.requires.modelled _ c.in-Taken.is

pub returns-in-Root : goal.returns-in-Root
returns-in-Root c =
    let a = c.args in
    let l = c.loop-next in
    λ k ns t. fronting_root (λ k ns. Modelled k ns a.model.now) a.form.now a.from _ _ l.at l.e l.invariant _ _ _ c.in_ok-next.ensures k ns t _ _ c.in-Root.is

pub returns-in_err-next : goal.returns-in_err-next
returns-in_err-next c =
    let a = c.args in
    let l = c.loop-next in
    let p = err_from_is_err_and c.from_residual.result c.from_residual.ensures.1 in
    λ k ns t. rw (p.1, p.2) (fronting_refused (λ k ns. Modelled k ns a.model.now) a.form.now a.from _ _ l.at l.e l.invariant c.take_ahead.new.ids c.take_ahead.new.labels k ns t _ (c.in_err-next.ensures k ns t))
