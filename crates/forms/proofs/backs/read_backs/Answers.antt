-- `read_backs`: the lines so far, with those from here on, are all lines (BackTurns). Assumes nothing.
use Rattle.std.proofs.lemmas.Result.{err_from_is_err_and}
use Rattle.forms.specs.Held.{Modelled}
use Rattle.forms.proofs.BackTurns.{backing_more, backing_end, backing_refused}
use Rattle.forms.proofs.backs.read_backs.Goals as goal

pub loop-next-preserved : goal.loop-next-preserved
loop-next-preserved c =
    let a = c.args in
    let l = c.loop-next in
    backing_more (λ k ns. Modelled k ns a.model.now) a.form.now a.cues a.from a.ids.now a.labels.now _ _ _ l.at l.e l.invariant _ _ _ _ c.in_ok-next.ensures c.requires.modelled _ c.in-Taken.is

pub returns-in-End : goal.returns-in-End
returns-in-End c =
    let a = c.args in
    let l = c.loop-next in
    λ k ns t cs size lines. backing_end (λ k ns. Modelled k ns a.model.now) a.form.now a.cues a.from a.ids.now a.labels.now _ _ _ l.at l.e l.invariant _ _ _ _ c.in_ok-next.ensures k ns t cs size lines _ c.in-End.is

pub returns-in_err-next : goal.returns-in_err-next
returns-in_err-next c =
    let a = c.args in
    let l = c.loop-next in
    let p = err_from_is_err_and c.from_residual.result c.from_residual.ensures.1 in
    λ k ns t cs size lines. rw (p.1, p.2) (backing_refused (λ k ns. Modelled k ns a.model.now) a.form.now a.cues a.from a.ids.now a.labels.now _ _ _ l.at l.e l.invariant c.take_after.new.ids c.take_after.new.labels c.take_after.new.places k ns t cs size lines _ (c.in_err-next.ensures k ns t))
