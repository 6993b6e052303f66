-- What reading asks of a line, as a statement about its letter and its values: the tests of its row of the table, and that each number is
-- as small as a plain number must be. Assumes nothing.
use mathlib.Core.Path.{◌≡◌}
use mathlib.Core.Bool.{Bool, true, false, ◌&&◌}
use mathlib.Core.List.{List, [], ◌∷◌, ◌++◌}
use mathlib.Core.Option.{Option, none, some}
use Prim.Native.Nat.{ℕ}
use lib.Dec.{eqb, leb}
use lib.ListN.{length}
use Rattle.rules.specs.declared.Header.{Header}
use Rattle.rules.specs.Table.{Role, up_to, task, an_action, proposition, memberCount, Item, one, set, subtaskList, cues, Row, row_of, role_number, in_range, Value, scalar, listed, number_of, least_after}
use Rattle.rules.specs.Case.{Valued}
use Rattle.rules.proofs.Printing.Numbers.{Plain}

abbrev pub OkMembers : (ℕ → Bool) → Bool → ℕ → List ℕ → Type 0
OkMembers ok ascending low [] = Unit {0}
OkMembers ok ascending low (v ∷ vs) = ((leb low v && ok v) ≡ true) × Plain v × OkMembers ok ascending (least_after ascending v) vs

abbrev pub OkList : (ℕ → Bool) → (ℕ → Bool) → Bool → List ℕ → Type 0
OkList count? ok ascending vs = (count? (length vs) ≡ true) × Plain (length vs) × OkMembers ok ascending 0 vs

abbrev pub OkItem : Header → ℕ → List ℕ → Item → Value → Type 0
OkItem h n before (one kind) (scalar v) = (in_range h n before kind v ≡ true) × Plain v
OkItem h n before (one kind) (listed vs) = ⊥
OkItem h n before set (scalar v) = ⊥
OkItem h n before set (listed vs) = OkList (in_range h n before memberCount) (in_range h n before proposition) true vs
OkItem h n before subtaskList (scalar v) = ⊥
OkItem h n before subtaskList (listed vs) = OkList (in_range h n before (up_to 32)) (in_range h n before task) false vs
OkItem h n before cues (scalar v) = ⊥
OkItem h n before cues (listed vs) = (length vs ≡ h.cues) × OkMembers (in_range h n before an_action) false 0 vs

abbrev pub OkItems : Header → ℕ → List Item → List ℕ → List Value → Type 0
OkItems h n [] before [] = Unit {0}
OkItems h n [] before (v ∷ vs) = ⊥
OkItems h n (i ∷ is) before [] = ⊥
OkItems h n (i ∷ is) before (v ∷ vs) = OkItem h n before i v × OkItems h n is (before ++ (number_of v ∷ [])) vs

abbrev pub OkRow : Role → Header → ℕ → List Value → Option Row → Type 0
OkRow due h n vs none = ⊥
OkRow due h n vs (some r) = (eqb (role_number due) (role_number r.role) ≡ true) × OkItems h n r.items [] vs

-- A line that reading lets pass where one of this role is due.
unfoldable pub OkLine : Header → ℕ → Role → Valued → Type 0
OkLine h n due x = OkRow due h n x.1 (row_of x.0)
