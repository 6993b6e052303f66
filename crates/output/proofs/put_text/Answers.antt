-- `put_text`: the lines, and zeros after them. Assumes nothing.
use mathlib.Core.Path.{◌∙◌}
use Prim.Native.Nat.{ℕ, ◌-◌, ◌≤◌}
use lib.ListN.{length, replicate}
use lib.Seq.{sets}
use Rattle.rules.specs.Print.{lines_text}
use Rattle.output.proofs.Putting.{sets_filled}
use native.Mathlib.Omega.{arith}
use Rattle.output.proofs.put_text.Goals as goal

pub returns : goal.returns
returns c =
    let x = c.requires in
    let past = c.put_lines-past.result in
    let fits : past ≤ length c.args.out.now = let all = (c.put_lines-past.ensures x.0 x.1).1 in let room = x.2 in omega arith in
    λ xs h.
    let e = c.put_lines-past.ensures xs h in (
      c.clear_from.ensures
          ∙ (λ j. sets (e.0 j) past (replicate {A = ℕ} (length (e.0 j) - past) 0))
          ∙ sets_filled c.args.out.now (lines_text xs) past e.1 fits,
      e.1,
    )
