-- `read_case`: the header line, and the case as it goes on from there (Cases). Assumes nothing.
use Rattle.std.proofs.lemmas.Result.{err_from_is_err_and}
use Rattle.reading.proofs.Cases.{first_left, first_refused, good, header_is, header_room, body_due, case_read}
use Rattle.rules.specs.Case.{no_header}
use Rattle.rules.proofs.Judgement.Sound.{GoodHeader}
use mathlib.Core.Path.{sym, subst, ◌∙◌}
use Rattle.reading.proofs.read_case.Goals as goal

pub header_of-read-requires : goal.header_of-read-requires
unfolding no_header
header_of-read-requires c =
    let a = c.args in
    let f = c.past_last_feed-past in
    let k = c.known-known in
    let z = c.new-start in
    let r = c.one_line in
    let n = c.in_ok-next in
    header_room a.text.now f.result a.fields.now a.directory.now f.ensures.follows c.requires.0 c.requires.1 c.requires.2 r.result _ (first_left a.text.now f.result a.fields.now a.directory.now f.ensures.follows c.requires.0 c.requires.1 c.requires.2 z.result z.ensures k.result.numbers k.ensures r.result _ r.ensures) n.next n.was

pub body-requires-clause-due : goal.body-requires-clause-due
unfolding no_header
body-requires-clause-due c =
    let a = c.args in
    let f = c.past_last_feed-past in
    let k = c.known-known in
    let z = c.new-start in
    let r = c.one_line in
    let q = first_left a.text.now f.result a.fields.now a.directory.now f.ensures.follows c.requires.0 c.requires.1 c.requires.2 z.result z.ensures k.result.numbers k.ensures r.result _ r.ensures in
    let n = c.in_ok-next in
    body_due a.text.now f.result a.fields.now a.directory.now f.ensures.follows c.requires.0 c.requires.1 c.requires.2 r.result _ q n.next n.was

pub body-requires-clause-good_header : goal.body-requires-clause-good_header
unfolding no_header
body-requires-clause-good_header c =
    let a = c.args in
    let f = c.past_last_feed-past in
    let k = c.known-known in
    let z = c.new-start in
    let r = c.one_line in
    let q = first_left a.text.now f.result a.fields.now a.directory.now f.ensures.follows c.requires.0 c.requires.1 c.requires.2 z.result z.ensures k.result.numbers k.ensures r.result _ r.ensures in
    let n = c.in_ok-next in
    let h = c.header_of-read in
    (subst GoodHeader (sym (h.ensures ∙ header_is a.text.now f.result a.fields.now a.directory.now f.ensures.follows c.requires.0 c.requires.1 c.requires.2 r.result _ q n.next n.was)) (good a.text.now f.result a.fields.now a.directory.now f.ensures.follows c.requires.0 c.requires.1 c.requires.2 r.result _ q n.next n.was), c.requires.2)

pub returns : goal.returns
unfolding no_header
returns c =
    let a = c.args in
    let f = c.past_last_feed-past in
    let k = c.known-known in
    let z = c.new-start in
    let r = c.one_line in
    let q = first_left a.text.now f.result a.fields.now a.directory.now f.ensures.follows c.requires.0 c.requires.1 c.requires.2 z.result z.ensures k.result.numbers k.ensures r.result _ r.ensures in
    let n = c.in_ok-next in
    let h = c.header_of-read in
    case_read a.text.now f.result a.fields.now a.directory.now f.ensures.follows c.requires.0 c.requires.1 c.requires.2 r.result _ q n.next n.was h.result h.ensures _ _ _ c.body.ensures

pub returns-in_err-next : goal.returns-in_err-next
unfolding no_header
returns-in_err-next c =
    let a = c.args in
    let f = c.past_last_feed-past in
    let k = c.known-known in
    let z = c.new-start in
    let r = c.one_line in
    let q = first_left a.text.now f.result a.fields.now a.directory.now f.ensures.follows c.requires.0 c.requires.1 c.requires.2 z.result z.ensures k.result.numbers k.ensures r.result _ r.ensures in
    let x = c.in_err-next in
    let p = err_from_is_err_and c.from_residual.result c.from_residual.ensures.1 in
    rw (p.1, p.2)
    (first_refused a.text.now f.result a.fields.now a.directory.now f.ensures.follows c.requires.0 c.requires.1 c.requires.2 r.result _ q x.field-0.0 x.was _ _)
