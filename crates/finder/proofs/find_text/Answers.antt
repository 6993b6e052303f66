-- `find_text`: the choices of a case that passes the rows to 9; or their refusal. Assumes nothing.
use mathlib.Core.Path.{refl, sym}
use Rattle.finder.proofs.Counting.{limited_by, limited_one}
use Rattle.finder.proofs.Verdicts.{refused_finds, finds_as}
use Rattle.finder.specs.Finding.{from_gaps}
use Rattle.judge.proofs.Openings.{opening_passes, opening_refuses}
use Rattle.finder.proofs.find_text.Goals as goal

pub returns-in-Ok : goal.returns-in-Ok
returns-in-Ok c =
    let o = c.open_text in
    let (k, p) = opening_passes _ o.new.fields _ o.result o.new.states o.new.work o.ensures c.in-Ok.opened c.in-Ok.is in
    finds_as (λ n. sym (p.rows (from_gaps n))) (limited_by c.args.text.now k p.reads) o.auto.states (c.find_choices.ensures k p)

pub returns-in-Err : goal.returns-in-Err
returns-in-Err c =
    let o = c.open_text in
    let (refuses, zeros) = opening_refuses _ o.new.fields _ o.result o.new.states o.new.work o.ensures c.in-Err.answer c.in-Err.is in
    refused_finds 1 (limited_one c.args.text.now) c.in-Err.answer (refuses (from_gaps 1)) refl refl zeros
