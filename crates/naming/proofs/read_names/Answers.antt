-- `read_names`: the tasks, then the methods, each as the definition reads them, then the end (Outcomes). Assumes nothing.
use native.Mathlib.Omega.{arith}
use Rattle.naming.proofs.Turns.{passed_on}
use Rattle.naming.proofs.Outcomes.{tasks_refused, next_few, methods_refused, names_left}
use Rattle.naming.proofs.read_names.Goals as goal

pub returns-in_err-next-clause-left : goal.returns-in_err-next-clause-left
returns-in_err-next-clause-left c =
    let a = c.args in
    let r = c.lines_of in
    let q = c.from_residual in
    tasks_refused a.text.now a.header r.result _ _ _ r.ensures _ c.in_err-next.was q.result (passed_on q.result q.ensures) _ _ _ _ _ _

pub lines_of-requires-2-clause-line_bound : goal.lines_of-requires-2-clause-line_bound
lines_of-requires-2-clause-line_bound c =
    let few = c.requires.compounds_bound in
    let r = c.lines_of in
    let line = next_few c.args.text.now c.args.header r.result _ _ _ r.ensures _ c.in_ok-next.was few.0 in
    (omega (arith, line), few.1)

pub returns-in_err-end-clause-left : goal.returns-in_err-end-clause-left
returns-in_err-end-clause-left c =
    let a = c.args in
    let r = c.lines_of in
    let r' = c.lines_of-2 in
    let q = c.from_residual-in_err-end in
    methods_refused a.text.now a.header r.result _ _ _ r.ensures _ c.in_ok-next.was r'.result _ _ _ r'.ensures _ c.in_err-end.was q.result (passed_on q.result q.ensures) _ _ _ _ _ _

pub returns-clause-left : goal.returns-clause-left
returns-clause-left c =
    let a = c.args in
    let r = c.lines_of in
    let r' = c.lines_of-2 in
    names_left a.text.now a.header r.result _ _ _ r.ensures _ c.in_ok-next.was r'.result _ _ _ r'.ensures _ c.in_ok-end.was c.whole.result c.whole.ensures
