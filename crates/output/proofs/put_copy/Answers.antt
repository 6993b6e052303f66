-- `put_copy`: the text, and zeros after it. Assumes nothing.
use mathlib.Core.Path.{refl, ◌∙◌}
use Prim.Native.Nat.{ℕ, ◌-◌}
use lib.ListN.{length, replicate}
use lib.Seq.{sets}
use Rattle.output.proofs.Putting.{sets_filled}
use Rattle.output.proofs.put_copy.Goals as goal

pub returns : goal.returns
returns c =
    let p = c.copy in
    let past = length c.args.text.now in
    c.clear_from.ensures
    ∙ (λ j. sets (p.ensures j) past (replicate {A = ℕ} (length (p.ensures j) - past) 0))
    ∙ sets_filled c.args.out.now c.args.text.now past refl c.requires
