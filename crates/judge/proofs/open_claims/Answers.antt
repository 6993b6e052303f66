-- `open_claims`: every position is claimed, and the case is open; or one is not, and the state list is cleared. Assumes nothing.
use Prim.Native.Nat.{ℕ}
use Rattle.judge.proofs.Openings.{goes_claimed}
use Rattle.judge.proofs.Phases.{open_few, claims_all, claims_lack}
use Rattle.judge.proofs.Verdicts.{claims_refused}
use Rattle.rules.specs.Verdict.{work_need}
use Rattle.rules.specs.Result.{refused}
use Rattle.rules.specs.declared.Answer.{Answer}
use Rattle.rules.specs.declared.Answer.TheVariants.{Unclaimed}
use mathlib.Core.Path.{sym, ap, ◌∙◌}
use Rattle.judge.proofs.open_claims.Goals as goal

pub least_unclaimed-requires : goal.least_unclaimed-requires
unfolding work_need
least_unclaimed-requires c =
    let (k, f, p) = c.requires in
    (open_few p.opens, p.opens.work_room)

pub returns-in-None : goal.returns-in-None
returns-in-None c = λ k f p.
    goes_claimed p (claims_all p c.least_unclaimed.ensures c.in-None.is)

pub returns-in-Some : goal.returns-in-Some
returns-in-Some c =
    let x = c.in-Some in
    let z = c.refuse in
    λ k f p.
    let lacks = claims_lack p c.least_unclaimed.ensures x.position x.is in
    let same = z.ensures.answer ∙ ap (λ (n : ℕ). Unclaimed n x.position) p.opens.planned in
    (λ rest. claims_refused rest k p.tree p.claimed p.walks x.position lacks ∙ ap (λ (a : Answer). refused a) (sym same), z.ensures.states)
