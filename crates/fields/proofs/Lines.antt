-- The fields of each kind of line, spelled out. Assumes nothing.
use mathlib.Core.Path.{◌≡◌, refl, ap}
use mathlib.Core.List.{List, [], ◌∷◌, ◌++◌, map, append-nil, append_assoc}
use Prim.Native.Nat.{ℕ}
use lib.ListN.{length}
use Rattle.rules.specs.declared.Sign.TheVariants.{Positive, Negative}
use Rattle.rules.specs.State.{State, Action}
use Rattle.rules.specs.Table.{row_of, table}
use Rattle.rules.specs.Case.{Constraint, O, B, F, W, Method, NodeLine, D, E, L}
use Rattle.rules.specs.Fields.{propositions_of, line_fields, lines_fields, initial_line, action_line, signed_letter, constraint_line, method_lines, cues_line, node_line}

-- A set's fields: how many propositions it has, and which.
abbrev pub set_fields : State → List ℕ
set_fields s = length (propositions_of s) ∷ propositions_of s

pub initial_fields_lem : (s : State) → line_fields (initial_line s) ≡ 73 ∷ set_fields s
unfolding line_fields initial_line row_of table
initial_fields_lem s = ap (λ (l : List ℕ). 73 ∷ l) (append-nil (set_fields s))

pub action_fields_lem : (a : Action)
    → line_fields (action_line a) ≡ 65 ∷ (set_fields a.needed ++ (set_fields a.forbidden ++ (set_fields a.added ++ set_fields a.deleted)))
unfolding line_fields action_line row_of table
action_fields_lem a =
    ap (λ (l : List ℕ). 65 ∷ (set_fields a.needed ++ (set_fields a.forbidden ++ (set_fields a.added ++ l)))) (append-nil (set_fields a.deleted))

pub method_fields_lem : (m : Method)
    → lines_fields (method_lines m)
    ≡ 77 ∷ m.task ∷ length m.subtasks ∷ (m.subtasks ++ (length m.constraints ∷ lines_fields (map constraint_line m.constraints)))
unfolding line_fields method_lines row_of table
method_fields_lem m = ap (λ (l : List ℕ). 77 ∷ m.task ∷ length m.subtasks ∷ l)
    (append_assoc m.subtasks (length m.constraints ∷ []) (lines_fields (map constraint_line m.constraints)))

pub cues_fields : (plan : List ℕ) → line_fields (cues_line plan) ≡ 80 ∷ plan
unfolding line_fields cues_line row_of table
cues_fields plan = ap (λ (l : List ℕ). 80 ∷ l) (append-nil plan)

abbrev pub constraint_fields : Constraint → List ℕ
constraint_fields (O i j) = 79 ∷ i ∷ j ∷ []
constraint_fields (B s p u) = signed_letter s "B" "b" ∷ p ∷ u ∷ []
constraint_fields (F s p u) = signed_letter s "F" "f" ∷ p ∷ u ∷ []
constraint_fields (W s u p v) = signed_letter s "W" "w" ∷ u ∷ p ∷ v ∷ []

pub constraint_fields_lem : (c : Constraint) → line_fields (constraint_line c) ≡ constraint_fields c
unfolding line_fields constraint_line row_of table
constraint_fields_lem (O i j) = refl
constraint_fields_lem (B Positive p u) = refl
constraint_fields_lem (B Negative p u) = refl
constraint_fields_lem (F Positive p u) = refl
constraint_fields_lem (F Negative p u) = refl
constraint_fields_lem (W Positive u p v) = refl
constraint_fields_lem (W Negative u p v) = refl

abbrev pub node_fields : NodeLine → List ℕ
node_fields (D m) = 68 ∷ m ∷ []
node_fields (E m g) = 69 ∷ m ∷ g ∷ []
node_fields (L a i) = 76 ∷ a ∷ i ∷ []

pub node_fields_lem : (x : NodeLine) → line_fields (node_line x) ≡ node_fields x
unfolding line_fields node_line row_of table
node_fields_lem (D m) = refl
node_fields_lem (E m g) = refl
node_fields_lem (L a i) = refl
