-- `seek_with`: the constraints are entered, and the search goes by the entries. Assumes nothing.
use mathlib.Core.Path.{sym}
use lib.ListN.{length}
use Rattle.blames.proofs.Reasons.{pool_none_fits, pool_none_sound}
use Rattle.finder.proofs.Fails.{breaks_fail}
use Rattle.finder.proofs.Prints.{few_cues}
use Rattle.finder.proofs.Seeks.{columns_ready, within_cues, sought_so}
use Rattle.finder.proofs.Turns.{claimed_printable}
use Rattle.finder.specs.Finding.{passing}
use Rattle.judge.proofs.Constrained.{constraints_ready}
use Rattle.rows.specs.Rows.{in_row}
use Rattle.finder.proofs.seek_with.Goals as goal

pub enter_all-requires-clause-columns_2 : goal.enter_all-requires-clause-columns_2
enter_all-requires-clause-columns_2 c = let (k, x, h) = c.requires.claimed in columns_ready x c.args.columns.now c.args.built.now c.requires.choice_len_bound.2

pub enter_all-requires-clause-pool_fits : goal.enter_all-requires-clause-pool_fits
enter_all-requires-clause-pool_fits c = pool_none_fits c.args.o.header.cues (length c.args.choice.now) 2432

pub seek-requires-clause-k_bound : goal.seek-requires-clause-k_bound
seek-requires-clause-k_bound c =
    let (k, x, h) = c.requires.claimed in
    (few_cues (claimed_printable x), within_cues x c.args.choice.now h, c.requires.choice_len_bound.0, c.requires.choice_len_bound.1)

pub returns-clause-sought : goal.returns-clause-sought
returns-clause-sought c = λ k x h spare known.
    let a = c.args in
    let e = c.enter_all in
    let g = c.seek in
    let sound =
    e.ensures.sound k x.walked.tree (constraints_ready x) (sym h.0) (passing k) (breaks_fail x)
    (pool_none_sound (in_row a.states.now) (passing k) a.o.header.cues (length a.choice.now) 2432) in
    sought_so x a.choice.now g.new.choice a.why.now g.new.why e.new.pool g.result a.spare h spare known sound g.ensures.sought
