-- Below the last word the shifted 1 is that power of two; past it the store of the definition changes nothing. Assumes nothing.
use mathlib.Core.Path.{sym, ap}
use Prim.Native.Nat.{ℕ, ◌/◌, ◌%◌, ◌^◌}
use native.Mathlib.Omega.{arith}
use lib.ListN.{get_or, set}
use lib.Bits.{bit_or}
use lib.Seq.{set_out}
use Rattle.rules.specs.State.{insert}
use Rattle.rules.proofs.Bits.{shifted_one}
use Rattle.state.proofs.insert.Goals as goal

pub returns-then-i-words : goal.returns-then-i-words
unfolding insert
returns-then-i-words c =
    let a = c.args in
    let ws = a.words.now in
    let i = a.p / 64 in
    let k = a.p % 64 in
    ap (λ (n : ℕ). set ws i (bit_or (get_or ws i 0) n)) (shifted_one 64 k (omega arith))

pub returns-else-i-words : goal.returns-else-i-words
unfolding insert
returns-else-i-words c =
    let a = c.args in
    let ws = a.words.now in
    sym (set_out ws (a.p / 64) (bit_or (get_or ws (a.p / 64) 0) (2 ^ (a.p % 64))) (omega arith))
