-- `one_method`: the M line's numbers say which constraint lines follow. Assumes nothing.
use Rattle.std.proofs.lemmas.Result.{err_from_is_err_and}
use lib.ListN.{get_or}
use Rattle.rules.specs.Case.{header_in}
use Rattle.reading.proofs.MethodLines.{method_zero, method_left, inside_fields, few_read, method_refused}
use Rattle.reading.proofs.Turns.{line_goes, due_next}
use Rattle.reading.specs.Groups.{valued_line}
use Rattle.rules.specs.Fields.{line_fields}
use Rattle.rules.specs.Table as T
use native.Mathlib.Omega.{arith}
use Rattle.reading.proofs.one_method.Goals as goal

pub bounds-fields-from : goal.bounds-fields-from
bounds-fields-from c =
    let a = c.args in
    let r = c.one_line in
    let read = method_zero a.text.now (header_in a.x.now.numbers) (get_or a.x.now.numbers 7 0) a.at.line a.at.start.at a.at.from a.fields.now r.result _ c.requires.no_subtasks r.ensures in
    let n = c.in_ok-next in
    (inside_fields a.text.now (header_in a.x.now.numbers) a.past a.at n.next a.fields.now _ r.result c.requires.due read n.was).0

pub overflow_sub-count : goal.overflow_sub-count
overflow_sub-count c =
    let a = c.args in
    let r = c.one_line in
    let read = method_zero a.text.now (header_in a.x.now.numbers) (get_or a.x.now.numbers 7 0) a.at.line a.at.start.at a.at.from a.fields.now r.result _ c.requires.no_subtasks r.ensures in
    let n = c.in_ok-next in
    (inside_fields a.text.now (header_in a.x.now.numbers) a.past a.at n.next a.fields.now _ r.result c.requires.due read n.was).1

pub offset_bounds-fields-next : goal.offset_bounds-fields-next
offset_bounds-fields-next c =
    let a = c.args in
    let r = c.one_line in
    let read = method_zero a.text.now (header_in a.x.now.numbers) (get_or a.x.now.numbers 7 0) a.at.line a.at.start.at a.at.from a.fields.now r.result _ c.requires.no_subtasks r.ensures in
    let n = c.in_ok-next in
    let i = inside_fields a.text.now (header_in a.x.now.numbers) a.past a.at n.next a.fields.now _ r.result c.requires.due read n.was in
    let l = r.auto.fields in
    omega arith

pub bounds-fields-next : goal.bounds-fields-next
bounds-fields-next c =
    let a = c.args in
    let r = c.one_line in
    let read = method_zero a.text.now (header_in a.x.now.numbers) (get_or a.x.now.numbers 7 0) a.at.line a.at.start.at a.at.from a.fields.now r.result _ c.requires.no_subtasks r.ensures in
    let n = c.in_ok-next in
    (inside_fields a.text.now (header_in a.x.now.numbers) a.past a.at n.next a.fields.now _ r.result c.requires.due read n.was).2

pub with_subtasks-own-requires : goal.with_subtasks-own-requires
with_subtasks-own-requires c =
    let a = c.args in
    let r = c.one_line in
    let read = method_zero a.text.now (header_in a.x.now.numbers) (get_or a.x.now.numbers 7 0) a.at.line a.at.start.at a.at.from a.fields.now r.result _ c.requires.no_subtasks r.ensures in
    let n = c.in_ok-next in
    record {
      n_bound = few_read a.text.now (header_in a.x.now.numbers) a.past a.at n.next a.fields.now _ r.result c.requires.due read n.was;
    }

pub lines_of-requires : goal.lines_of-requires
lines_of-requires c =
    let a = c.args in
    let r = c.one_line in
    let read = method_zero a.text.now (header_in a.x.now.numbers) (get_or a.x.now.numbers 7 0) a.at.line a.at.start.at a.at.from a.fields.now r.result _ c.requires.no_subtasks r.ensures in
    let n = c.in_ok-next in
    let one = valued_line a.text.now (header_in a.x.now.numbers) T.method 0 in
    record {
      due = due_next line_fields a.text.now a.past a.fields.now _ a.at n.next (one a.at.line a.at.start.at) r.result c.requires.due
          (line_goes a.text.now (header_in a.x.now.numbers) T.method 0 a.at.line a.at.start.at a.at.from c.requires.due.ahead c.requires.due.inside) read n.was;
    }

pub returns : goal.returns
returns c =
    let a = c.args in
    let r = c.one_line in
    let read = method_zero a.text.now (header_in a.x.now.numbers) (get_or a.x.now.numbers 7 0) a.at.line a.at.start.at a.at.from a.fields.now r.result _ c.requires.no_subtasks r.ensures in
    let n = c.in_ok-next in
    let own = c.with_subtasks-own in
    method_left a.text.now (header_in a.x.now.numbers) a.past a.at n.next a.fields.now _ r.result c.requires.due read n.was own.result.numbers own.ensures _ _ c.lines_of.ensures

pub returns-in_err-next : goal.returns-in_err-next
returns-in_err-next c =
    let a = c.args in
    let r = c.one_line in
    let read = method_zero a.text.now (header_in a.x.now.numbers) (get_or a.x.now.numbers 7 0) a.at.line a.at.start.at a.at.from a.fields.now r.result _ c.requires.no_subtasks r.ensures in
    let e = c.in_err-next in
    let p = err_from_is_err_and c.from_residual.result c.from_residual.ensures.1 in
    rw (p.1, p.2)
    (method_refused a.text.now (header_in a.x.now.numbers) a.past a.at a.at a.fields.now _ r.result c.requires.due read e.field-0.0 e.was _)
