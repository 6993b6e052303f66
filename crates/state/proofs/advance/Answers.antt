-- The loop's invariant: the words below i are those of the next state, the others as they came. A turn stores one more. Assumes nothing.
use native.Mathlib.Omega.{arith}
use lib.ListN.{length}
use Rattle.rules.proofs.Tables.{tabulate_of}
use Rattle.state.proofs.advance.Invariants.{made}
use Rattle.state.proofs.advance.Goals as goal

pub returns : goal.returns
returns c =
    let a = c.args in
    let l = c.loop-i in
    tabulate_of (length a.s.now) (made a.s.now a.added.now a.deleted.now) l.s l.invariant.0
    (λ k h. l.invariant.1 k (omega arith))
