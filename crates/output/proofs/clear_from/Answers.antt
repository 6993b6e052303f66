-- `clear_from`: the part from there on is zeros. Assumes nothing.
use mathlib.Core.Path.{◌≡◌, sym, ap, ap₂, ◌∙◌}
use mathlib.Core.List.{List, ◌++◌, append_assoc}
use Prim.Native.Nat.{ℕ, ◌+◌, ◌-◌}
use lib.ListN.{length, take, drop, replicate, length-replicate, length-drop, drop_of_length-le}
use lib.Seq.{sets-eq, length-take-le}
use native.Mathlib.Omega.{arith}
use Rattle.output.proofs.clear_from.Goals as goal

pub returns : goal.returns
returns c =
    let a = c.args in
    let n = length a.out.now in
    let zeros : List ℕ = replicate (n - a.from) 0 in
    let long : length zeros ≡ n - a.from = length-replicate {A = ℕ} (n - a.from) 0 in
    let part : length (take (n - a.from) (drop a.from a.out.now)) ≡ n - a.from = length-take-le (n - a.from) (drop a.from a.out.now) (omega (arith, length-drop a.from a.out.now)) in
    let new : c.fill.new.self ≡ zeros = c.fill.ensures.after (λ y e. e) ∙ ap (λ (m : ℕ). replicate {A = ℕ} m 0) part in
    let rest = drop_of_length-le (drop a.from a.out.now) {i = n - a.from} (omega (arith, length-drop a.from a.out.now)) in
    let tail = drop_of_length-le a.out.now {i = a.from + length zeros} (omega arith) in
    ap₂ (λ (x y : List ℕ). take a.from a.out.now ++ (x ++ y)) new rest
    ∙ sym (sets-eq zeros a.out.now a.from (omega arith) ∙ append_assoc (take a.from a.out.now) zeros (drop (a.from + length zeros) a.out.now)
    ∙ ap (λ (y : List ℕ). take a.from a.out.now ++ (zeros ++ y)) tail)
