-- `is_tidy`: the lines before the methods say where these start (Whole). Assumes nothing.
use Rattle.tidying.proofs.Whole.{tidy_answer, first_asked, methods_here}
use Rattle.tidying.proofs.order.is_tidy.Goals as goal

pub past_lines-from-requires : goal.past_lines-from-requires
past_lines-from-requires c =
    first_asked c.args.fields.now c.args.header c.requires

pub methods_in_order-requires : goal.methods_in_order-requires
methods_in_order-requires c =
    let f = c.past_lines-from in
    (c.requires.0.methods, methods_here c.args.fields.now c.args.header c.requires f.result f.ensures)

pub returns : goal.returns
returns c = λ k read head here.
    let f = c.past_lines-from in
    let a = c.args in
    tidy_answer a.fields.now a.header (k, read, head, here) _
    (c.methods_in_order.ensures k.methods (methods_here a.fields.now a.header (k, read, head, here) f.result f.ensures))
