-- `take_cue`: the step with the action's sets is the action's. Assumes nothing.
use Rattle.rows.proofs.Written.{part_at}
use Rattle.rules.specs.State.{step}
use Rattle.running.specs.Sets.{set_count, action_in}
use Prim.Native.Nat.{◌*◌}
use lib.ListN.{length}
use mathlib.Core.List.{◌++◌}
use mathlib.Core.Path.{refl, ap, ◌∙◌}
use Rattle.running.proofs.take_cue.Goals as goal

pub returns-then-a-held : goal.returns-then-a-held
returns-then-a-held c =
    let a = c.args in
    let m = length a.s.now in
    λ act good here.
    λ rest whole.
    c.step_with.ensures rest whole
    ∙ ap (step (a.s.now ++ rest))
    (ap (action_in m) (part_at (set_count * m) a.table.now a.action (set_count * m * a.action) refl)
    ∙ c.requires.holds.right a.action c.if-a-held.true act good here)
