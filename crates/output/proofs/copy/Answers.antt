-- `copy`: the part from the start on is the text. Assumes nothing.
use mathlib.Core.Path.{◌≡◌, sym, ap₂, ◌∙◌}
use mathlib.Core.List.{List, ◌++◌}
use Prim.Native.Nat.{ℕ, ◌+◌}
use lib.ListN.{length, drop}
use lib.Seq.{sets-eq}
use native.Mathlib.Omega.{arith}
use Rattle.output.proofs.copy.Goals as goal

pub returns : goal.returns
returns c =
    let a = c.args in
    let end : length a.text.now ≡ 0 + length a.text.now = omega arith in
    ap₂ (λ (x : List ℕ) (n : ℕ). x ++ drop n a.out.now) c.copy_from_slice.ensures.after end ∙ sym (sets-eq a.text.now a.out.now 0 (omega (arith, c.requires)))
