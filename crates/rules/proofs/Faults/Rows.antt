-- What the values of a header and of an M line are in the line's numbers, by the rows of the table. Assumes nothing.
use mathlib.Core.Path.{◌≡◌, refl, sym, ap, ◌∙◌, subst}
use mathlib.Core.Bool.{Bool, true, false}
use mathlib.Core.List.{List, [], ◌∷◌, ◌++◌, map}
use mathlib.Core.Option.{Option, some}
use Prim.Native.Nat.{ℕ, suc, ◌+◌}
use native.Mathlib.Omega.{arith}
use lib.Dec.{eqb}
use lib.ListN.{length, get_or}
use lib.Seq.{get_or-append_seam}
use Rattle.rules.specs.Table.{Role, header, initial, action, method, constraint, plan, node, Kind, up_to, one_up_to, goal, compound, Item, one, subtaskList, Row, table, row_in, row_of, Value, number_of}
use Rattle.rules.specs.State.{proposition_most}
use Rattle.rules.specs.Case.{scalar_at}
use Rattle.rules.proofs.Faults.Items.{a_number, a_list, HoldAll, over, more}

-- The values that decide what comes after a line: the header's numbers; a method's numbers of subtasks and of constraints.
abbrev pub Meant : Role → List Value → List ℕ → Type 0
Meant header vs ns = map number_of vs ≡ ns
Meant initial vs ns = Unit {0}
Meant action vs ns = Unit {0}
Meant method vs ns = (scalar_at vs 1 ≡ get_or ns 1 0) × (scalar_at vs 2 ≡ get_or ns (2 + get_or ns 1 0) 0)
Meant constraint vs ns = Unit {0}
Meant plan vs ns = Unit {0}
Meant node vs ns = Unit {0}

header_means : (ks : List Kind) {vs : List Value} {ns : List ℕ} → HoldAll (map one ks) vs ns → map number_of vs ≡ ns
header_means [] over = refl
header_means (k ∷ ks) (more (a_number {v}) o) = ap (λ (l : List ℕ). v ∷ l) (header_means ks o)

method_means : {vs : List Value} {ns : List ℕ} → HoldAll (one compound ∷ subtaskList ∷ one (up_to 64) ∷ []) vs ns → Meant method vs ns
unfolding scalar_at
method_means (more (a_number {v = w}) (more (a_list {vs}) (more (a_number {v}) over))) =
    let at : 2 + length vs ≡ suc (suc (length vs)) = omega arith in
    (refl, sym (ap (λ (i : ℕ). get_or (w ∷ length vs ∷ (vs ++ v ∷ [])) i 0) at ∙ get_or-append_seam vs v [] 0))

-- What is asked of each row.
abbrev RowMeans : Row → Type 0
RowMeans r = (vs : List Value) (ns : List ℕ) → HoldAll r.items vs ns → Meant r.role vs ns

abbrev AllRows : List Row → Type 0
AllRows [] = Unit {0}
AllRows (r ∷ rs) = RowMeans r × AllRows rs

all_rows : AllRows table
unfolding table
all_rows = (
  λ vs ns o. header_means (up_to proposition_most ∷ up_to 1024 ∷ up_to 1024 ∷ up_to 2048 ∷ goal ∷ up_to 1000 ∷ one_up_to 3000 ∷ []) o,
  (any, (any, (λ vs ns o. method_means o, (any, (any, (any, (any, (any, (any, (any, (any, (any, (any, (any, tt)))))))))))))),
)
  where
    any : {is : List Item} (vs : List Value) (ns : List ℕ) → HoldAll is vs ns → Unit {0}
    any vs ns o = tt

row_in_lem : (b : ℕ) (rs : List Row) (r : Row) → AllRows rs → row_in b rs ≡ some r → RowMeans r
row_in_lem b [] r all e = let z : ◌≡◌ {A = ℕ} 0 1 = cc in absurd (omega arith)
row_in_lem b (x ∷ rs) r all e = go (eqb b x.letter) e (row_in_lem b rs r all.1)
  where
    go : (t : Bool) → elim t as (λ x. Option Row) [ true ↦ some x | false ↦ row_in b rs ] ≡ some r → (row_in b rs ≡ some r → RowMeans r) → RowMeans r
    go true e rest = let same : x ≡ r = cc in subst RowMeans same all.0
    go false e rest = rest e

pub row_means : (b : ℕ) {r : Row} → row_of b ≡ some r → RowMeans r
unfolding row_of
row_means b {r} e = row_in_lem b table r all_rows e
