-- `small`: each arm of the match is the row of its letter, and no other byte of its sort has a row. Assumes nothing.
use Rattle.lines.proofs.Shapes.{shape_other}
use Rattle.rules.specs.Table.{table}
use native.Mathlib.Omega.{arith}
use Rattle.lines.proofs.table.small.Goals as goal

pub returns-in_default : goal.returns-in_default
unfolding table
returns-in_default c =
    let b = c.requires in
    shape_other c.args.letter
    ((λ e. omega (arith, e, b)), ((λ e. omega (arith, e, b)), ((λ e. omega (arith, e, b)), ((λ e. omega (arith, e, b)), ((λ e. omega (arith, e, b)), ((λ e. omega (arith, e, b)), ((λ e. omega (arith, e, b)), ((λ e. omega (arith, e, b)), ((λ e. omega (arith, e, b)), ((λ e. omega (arith, e, b)), ((λ e. omega (arith, e, b)), ((λ e. omega (arith, e, b)), ((λ e. omega (arith, e, b)), ((λ e. omega (arith, e, b)), ((λ e. omega (arith, e, b)), tt)))))))))))))))
