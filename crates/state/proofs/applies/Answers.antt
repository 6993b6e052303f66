-- The loop's invariant: nothing is found so far exactly if each word below i passes its test. Assumes nothing.
use mathlib.Core.Path.{◌≡◌, sym, ap, ap₂, ◌∙◌}
use mathlib.Core.Bool.{Bool, ◌&&◌, and-true}
use Prim.Native.Nat.{ℕ, ◌+◌}
use native.Mathlib.Omega.{arith}
use Rattle.rules.specs.State.{every}
use Rattle.rules.proofs.Tables.{every_split}
use Rattle.state.proofs.Tests.{or_none}
use Rattle.state.proofs.applies.Invariants.{part}
use Rattle.state.proofs.applies.Goals as goal

-- One word more.
every_more : (n : ℕ) (f : ℕ → Bool) → every (n + 1) 0 f ≡ (every n 0 f && f n)
every_more n f =
    let here : 0 + n ≡ n = omega arith in
    every_split n 1 0 f ∙ ap (λ (b : Bool). every n 0 f && b) (and-true (f (0 + n)) ∙ ap f here)

pub loop-i-preserved : goal.loop-i-preserved
loop-i-preserved c =
    let a = c.args in
    let l = c.loop-i in
    or_none l.found c.obstacles-found.result ∙ ap₂ (λ (x y : Bool). x && y) l.invariant c.obstacles-found.ensures
    ∙ sym (every_more l.i (part a.s.now a.needed.now a.forbidden.now))
