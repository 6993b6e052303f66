-- The text reads as a case, and the rest follows; or it is refused. Assumes nothing.
use mathlib.Core.Path.{◌≡◌, refl}
use native.Mathlib.Omega.{arith}
use lib.ListN.{length}
use Rattle.rules.specs.Verdict.{text_most, work_need}
use Rattle.fields.specs.Directory.{directory_size}
use Rattle.std.proofs.lemmas.Result.{err_from_is_err_and}
use Rattle.judge.proofs.Phases.{read_opens, read_refuses}
use Rattle.importer.proofs.Reading.{half_fields}
use Rattle.importer.proofs.Opening.{case_here, text_made, text_refused}
use Rattle.importer.proofs.texts.make_text.Goals as goal

pub read_case-requires : goal.read_case-requires
unfolding work_need text_most directory_size
read_case-requires c =
    let p = c.requires in
    let short = p.0 in
    let room = p.1 in
    let long = p.2 in
    (short, omega arith, omega arith)

pub make_case-requires-clause-case_here : goal.make_case-requires-clause-case_here
unfolding work_need
make_case-requires-clause-case_here c =
    let b = c.read_case in
    let a = c.args in
    let x = c.in_ok-case.case in
    let work_kept : length b.new.directory ≡ length a.work.now = b.auto.directory in
    let fields_kept : length b.new.fields ≡ length a.fields.now = b.auto.fields in
    let room = c.requires.1 in
    let long = c.requires.2 in
    let (k, reads, opens) = read_opens a.text.now b.new.fields b.new.directory c.in_ok-case.ensures x refl c.requires.0 (omega arith) in
    (k, case_here k _ _ _ _ opens, omega (arith, half_fields a.text.now k reads))

pub make_case-requires-clause-in_bounds : goal.make_case-requires-clause-in_bounds
unfolding work_need
make_case-requires-clause-in_bounds c =
    let work_kept : length c.read_case.new.directory ≡ length c.args.work.now = c.read_case.auto.directory in
    let room = c.requires.1 in
    omega arith

pub returns : goal.returns
unfolding work_need
returns c =
    let b = c.read_case in
    let a = c.args in
    let x = c.in_ok-case.case in
    let work_kept : length b.new.directory ≡ length a.work.now = b.auto.directory in
    let room = c.requires.1 in
    let (k, reads, opens) = read_opens a.text.now b.new.fields b.new.directory c.in_ok-case.ensures x refl c.requires.0 (omega arith) in
    text_made _ a.text.now a.names.now a.form.now k reads _ _ (c.make_case.ensures k (case_here k _ _ _ _ opens))

pub returns-in_err-case : goal.returns-in_err-case
returns-in_err-case c =
    let b = c.read_case in
    let a = c.args in
    let p = err_from_is_err_and c.from_residual.result c.from_residual.ensures.1 in
    rw (p.1, p.2) (text_refused _ a.text.now a.names.now a.form.now _ (read_refuses a.text.now b.new.fields b.new.directory c.in_err-case.ensures _ refl) _)
