-- The lines of a case are lines of the table, each kind and each group of them. Assumes nothing.
use mathlib.Core.Path.{◌≡◌}
use mathlib.Core.List.{List, [], ◌∷◌, ◌++◌, map, flatten}
use Prim.Native.Nat.{ℕ}
use native.Mathlib.Omega.{arith}
use lib.ListN.{length}
use Rattle.rules.specs.declared.Header.{Header}
use Rattle.rules.specs.declared.Sign.TheVariants.{Positive, Negative}
use Rattle.rules.specs.State.{State, Action}
use Rattle.rules.specs.Table.{row_of, table}
use Rattle.rules.specs.Case.{Constraint, O, B, F, W, Method, NodeLine, D, E, L, Case, Valued}
use Rattle.rules.specs.Fields.{header_line, initial_line, action_line, constraint_line, method_lines, cues_line, node_line, lines_of}
use Rattle.sizes.specs.Sizes.{IsLine, AreLines}

-- ---- Lines in two parts

pub lines_append : (k : ℕ) (xs ys : List Valued) → AreLines k xs → AreLines k ys → AreLines k (xs ++ ys)
lines_append k [] ys a b = b
lines_append k (x ∷ xs) ys a b = (a.0, lines_append k xs ys a.1 b)

pub lines_left : (k : ℕ) (xs ys : List Valued) → AreLines k (xs ++ ys) → AreLines k xs
lines_left k [] ys a = tt
lines_left k (x ∷ xs) ys a = (a.0, lines_left k xs ys a.1)

pub lines_right : (k : ℕ) (xs ys : List Valued) → AreLines k (xs ++ ys) → AreLines k ys
lines_right k [] ys a = a
lines_right k (x ∷ xs) ys a = lines_right k xs ys a.1

-- ---- Each kind of line

module _ (k : ℕ) where
  pub header_line_lem : (h : Header) → IsLine k (header_line h)
  unfolding header_line row_of table
  header_line_lem h = record { byte = omega arith; shaped = (tt, (tt, (tt, (tt, (tt, (tt, (tt, tt))))))) }

  pub initial_line_lem : (s : State) → IsLine k (initial_line s)
  unfolding initial_line row_of table
  initial_line_lem s = record { byte = omega arith; shaped = (tt, tt) }

  pub action_line_lem : (a : Action) → IsLine k (action_line a)
  unfolding action_line row_of table
  action_line_lem a = record { byte = omega arith; shaped = (tt, (tt, (tt, (tt, tt)))) }

  pub constraint_line_lem : (c : Constraint) → IsLine k (constraint_line c)
  unfolding constraint_line row_of table
  constraint_line_lem (O i j) = record { byte = omega arith; shaped = (tt, (tt, tt)) }
  constraint_line_lem (B Positive p u) = record { byte = omega arith; shaped = (tt, (tt, tt)) }
  constraint_line_lem (B Negative p u) = record { byte = omega arith; shaped = (tt, (tt, tt)) }
  constraint_line_lem (F Positive p u) = record { byte = omega arith; shaped = (tt, (tt, tt)) }
  constraint_line_lem (F Negative p u) = record { byte = omega arith; shaped = (tt, (tt, tt)) }
  constraint_line_lem (W Positive u p v) = record { byte = omega arith; shaped = (tt, (tt, (tt, tt))) }
  constraint_line_lem (W Negative u p v) = record { byte = omega arith; shaped = (tt, (tt, (tt, tt))) }

  pub cues_line_lem : (plan : List ℕ) → length plan ≡ k → IsLine k (cues_line plan)
  unfolding cues_line row_of table
  cues_line_lem plan e = record { byte = omega arith; shaped = (e, tt) }

  pub node_line_lem : (n : NodeLine) → IsLine k (node_line n)
  unfolding node_line row_of table
  node_line_lem (D m) = record { byte = omega arith; shaped = (tt, tt) }
  node_line_lem (E m g) = record { byte = omega arith; shaped = (tt, (tt, tt)) }
  node_line_lem (L a i) = record { byte = omega arith; shaped = (tt, (tt, tt)) }

  -- ---- Groups of lines

  pub lines_map : {A : Type 0} (f : A → Valued) → ((a : A) → IsLine k (f a)) → (l : List A) → AreLines k (map f l)
  lines_map f h [] = tt
  lines_map f h (a ∷ l) = (h a, lines_map f h l)

  pub action_lines : (actions : List Action) → AreLines k (map action_line actions)
  action_lines = lines_map action_line action_line_lem

  pub constraint_lines : (cs : List Constraint) → AreLines k (map constraint_line cs)
  constraint_lines = lines_map constraint_line constraint_line_lem

  pub node_lines : (ns : List NodeLine) → AreLines k (map node_line ns)
  node_lines = lines_map node_line node_line_lem

  pub method_lines_lem : (m : Method) → AreLines k (method_lines m)
  unfolding method_lines row_of table
  method_lines_lem m = (record { byte = omega arith; shaped = (tt, (tt, (tt, tt))) }, constraint_lines m.constraints)

  pub methods_lines : (ms : List Method) → AreLines k (flatten (map method_lines ms))
  unfolding flatten
  methods_lines [] = tt
  methods_lines (m ∷ ms) = lines_append k (method_lines m) (flatten (map method_lines ms)) (method_lines_lem m) (methods_lines ms)

-- The lines of a whole case, whose plan has as many cues as its header says.
pub case_lines : (k : Case) → length k.plan ≡ k.head.cues → AreLines k.head.cues (lines_of k)
unfolding lines_of
case_lines k e =
    let n = k.head.cues in
    let methods = flatten (map method_lines k.methods) in
    let after = cues_line k.plan ∷ map node_line k.nodes in (
      header_line_lem n k.head,
      (
        initial_line_lem n k.initial,
        lines_append n (map action_line k.actions) (methods ++ after) (action_lines n k.actions)
            (lines_append n methods after (methods_lines n k.methods) (cues_line_lem n k.plan e, node_lines n k.nodes)),
      ),
    )
