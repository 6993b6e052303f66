-- The rows of the table from each one on: what the phases of the check have left to do. Definitions only; `check` is all of them.
use mathlib.Core.List.{List}
use Prim.Native.Nat.{ℕ}
use Rattle.rules.specs.Result.{found, ◌>>=◌, ◌>>◌}
use Rattle.rules.specs.Case.{Case, read_case}
use Rattle.rules.specs.Tree.{Tree, may_claim, walk_tree}
use Rattle.rules.specs.Verdict.{Found, text_short, plan_runs, all_claimed, none_broken}

-- Rows 10 to 13.
abbrev pub from_constraints : Case → Tree → Found Tree
from_constraints k t = none_broken k t >> found (k, t)

-- Row 9, then the rest.
abbrev pub from_claims : Case → Tree → List ℕ → Found Tree
from_claims k t claimed = all_claimed k claimed >> from_constraints k t

-- Rows 6 to 8 and 20 to 22, then the rest.
unfoldable pub from_tree : Case → Found Tree
from_tree k = walk_tree k (may_claim k.plan) >>= λ (t, claimed). from_claims k t claimed

-- Row 5, then the rest.
unfoldable pub from_run : {A : Type 0} → (Case → Found A) → Case → Found A
from_run rest k = plan_runs k >> rest k

-- Rows 2 to 4, then the rest.
unfoldable pub from_text : {A : Type 0} → (Case → Found A) → List ℕ → Found A
from_text rest text = text_short text >> (read_case text >>= λ k. from_run rest k)
