-- `judge_with`: every constraint holds and the records are written; or one does not, and the state list is cleared. Assumes nothing.
use Rattle.judge.proofs.Constrained.{constraints_ready, kept_not, records_ask, nodes_ask, records_done}
use Rattle.judge.proofs.Phases.{refused_all}
use Rattle.judge.proofs.judge_with.Goals as goal

pub write_records-requires-clause-nodes_bound : goal.write_records-requires-clause-nodes_bound
write_records-requires-clause-nodes_bound c =
    let (k, p) = c.requires.claimed in
    let b = c.first_broken-kept in
    let said = b.ensures.value k p.walked.tree (constraints_ready p) in
    records_ask p said b.ensures.leaves

pub write_records-requires-clause-nodes_stand : goal.write_records-requires-clause-nodes_stand
write_records-requires-clause-nodes_stand c =
    let (k, p) = c.requires.claimed in
    let said = c.first_broken-kept.ensures.value k p.walked.tree (constraints_ready p) in
    (k.nodes, nodes_ask p said)

pub returns-in-Ok : goal.returns-in-Ok
returns-in-Ok c =
    let b = c.first_broken-kept in
    let z = c.write_records in
    λ k p.
    let said = b.ensures.value k p.walked.tree (constraints_ready p) in
    records_done p said b.ensures.leaves c.in-Ok.is z.new.work (z.ensures k.nodes (nodes_ask p said))

pub returns-in-Err : goal.returns-in-Err
returns-in-Err c =
    let b = c.first_broken-kept in
    let x = c.in-Err in
    let z = c.refuse in
    λ k p.
    let said = b.ensures.value k p.walked.tree (constraints_ready p) in
    refused_all x.answer (kept_not p said x.answer x.is) z.ensures.answer z.ensures.states
