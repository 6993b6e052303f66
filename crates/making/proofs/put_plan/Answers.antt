-- `put_plan`: after its letter the actions. Assumes nothing.
use mathlib.Core.Path.{refl}
use native.Mathlib.Omega.{arith}
use Rattle.making.proofs.Plans.{plan_put}
use Rattle.making.proofs.put_plan.Goals as goal

pub returns : goal.returns
returns c =
    let a = c.args in
    (plan_put a.fields.now a.labels.now _ a.from a.cues _ c.copy_from_slice.ensures.after (omega arith) (omega arith) (omega arith), refl)
