-- What the derived order of indexes and of state numbers says, in the definitions' words. Assumes nothing.
use Rattle.std.proofs.Common.{◌≡◌, ℕ, cond, arith}
use Rattle.std.specs.Ordering.{is_lt, nat_cmp}
use Rattle.std.proofs.lemmas.Grind.{common_steps}
use Rattle.std.proofs.lemmas.Bool.Decides.{nat_tests}
use Prim.Native.Nat.{min, max}
use lib.Dec.{ltb}
use Rattle.index.specs.declared.Doubled.{Doubled}
use Rattle.index.specs.Spans.{index_in}

-- `a < b`
pub less : (a b : ℕ) → is_lt (nat_cmp a b) ≡ ltb a b
less a b = grind (arith, nat_tests)

-- `a.min(b)` and `a.max(b)`
pub lesser : (a b : Doubled) → index_in (cond (is_lt (nat_cmp b.0 a.0)) b a) ≡ min a.0 b.0
lesser a b = grind (arith, nat_tests, common_steps)

pub greater : (a b : Doubled) → index_in (cond (is_lt (nat_cmp b.0 a.0)) a b) ≡ max a.0 b.0
greater a b = grind (arith, nat_tests, common_steps)
