-- `open_text`: the text reads as a case, and the run follows; or it is refused, and the state list is zero as it was. Assumes nothing.
use Rattle.fields.specs.Directory.{directory_size}
use Rattle.judge.proofs.Openings.{goes_opens}
use Rattle.judge.proofs.Phases.{read_opens, read_refuses}
use Rattle.judge.proofs.Verdicts.{text_refused}
use Rattle.judge.specs.Phases.{from_claimed}
use Rattle.rules.specs.Verdict.{text_most, work_need}
use lib.ListN.{length}
use Rattle.std.proofs.lemmas.Result.{err_from_is_err_and}
use mathlib.Core.Path.{◌≡◌}
use native.Mathlib.Omega.{arith}
use Rattle.judge.proofs.open_text.Goals as goal

pub read_case-requires : goal.read_case-requires
unfolding work_need text_most directory_size
read_case-requires c =
    let p = c.requires in
    let room = p.0.work_room in
    (p.0.short, p.1, omega arith)

pub returns : goal.returns
returns c =
    let a = c.args in
    let b = c.read_case in
    let x = c.in_ok-case in
    let kept : length b.new.directory ≡ length a.work.now = b.auto.directory in
    let room = c.requires.0.work_room in
    let (k, reads, opens) = read_opens a.text.now b.new.fields b.new.directory b.ensures x.case x.was c.requires.0.short (omega arith) in
    goes_opens a.text.now b.new.fields _ c.open_run.result _ _ k reads c.requires.0.short
    (c.open_run.ensures k (record { opens = opens; state_room = c.requires.0.state_room; states_zero = c.requires.0.states_zero }))

pub returns-in_err-case : goal.returns-in_err-case
returns-in_err-case c =
    let a = c.args in
    let b = c.read_case in
    let x = c.in_err-case in
    let refuses = read_refuses a.text.now b.new.fields b.new.directory b.ensures x.field-0.0 x.was in
    let p = err_from_is_err_and c.from_residual.result c.from_residual.ensures.1 in
    rw (p.1, p.2)
    (λ rest. text_refused (from_claimed rest) a.text.now x.field-0.0 c.requires.0.short refuses, c.requires.0.states_zero)
