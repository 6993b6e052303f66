-- What the code takes from the fields: a node's line, the head of a method's line, an action of the plan. Assumes nothing.
use mathlib.Core.Path.{◌≡◌, sym, ap, subst, ◌∙◌}
use mathlib.Core.Logic.{◌≢◌}
use mathlib.Core.Bool.{Bool, true, false}
use mathlib.Core.List.{List, [], ◌∷◌, ◌++◌, map}
use Prim.Native.Nat.{ℕ, suc, ◌+◌, ◌-◌, ◌≤◌, ◌<◌}
use native.Mathlib.Numerals.{add-one}
use native.Mathlib.Omega.{arith}
use borrow.Author.Tests.{ne_eqb}
use lib.Dec.{eqb}
use lib.ListN.{length, get_or, take, drop, length-append}
use lib.Seq.{take-append_seam, drop-cons}
use Rattle.rules.specs.Case.{Method, NodeLine, D, E, L, node_of, Case}
use Rattle.rules.specs.Fields.{line_fields, lines_fields, constraint_line, method_lines, cues_line, node_line}
use Rattle.fields.specs.Standing.{Stands}
use Rattle.fields.specs.Directory.{node_size}
use Rattle.fields.proofs.Standing.{stands_left, stands_right, stands_inside, stands_at, stands_first, stands_as}
use Rattle.fields.proofs.Lines.{method_fields_lem, cues_fields, node_fields, node_fields_lem}
use Rattle.tree.specs.Layout.{NodesFrom}
use Rattle.tree.specs.Fits.{as_entry, entry_at, method_head, subtasks_in}

-- ---- A node's line

-- A line has two fields at least, and three if it is no D line.
abbrev size_if : Bool → ℕ
size_if b = elim b [ true ↦ 2 | false ↦ 3 ]

pub two_fields : (l : ℕ) → 2 ≤ node_size l
unfolding node_size
two_fields l = go (eqb l 68)
  where
    go : (b : Bool) → 2 ≤ size_if b
    go true = omega arith
    go false = omega arith

pub three_fields : (l : ℕ) → l ≢ 68 → node_size l ≡ 3
unfolding node_size
three_fields l n = ap size_if (ne_eqb l 68 n)

module _ (fields : List ℕ) (place : ℕ) where
  size_here : (x : NodeLine) → Stands fields place (node_fields x) → node_size (get_or fields place 0) ≡ length (node_fields x)
  unfolding node_size
  size_here (D m) s = ap node_size (stands_first fields place 68 (m ∷ []) s)
  size_here (E m g) s = ap node_size (stands_first fields place 69 (m ∷ g ∷ []) s)
  size_here (L a i) s = ap node_size (stands_first fields place 76 (a ∷ i ∷ []) s)

  entry_is : (x : NodeLine) → Stands fields place (node_fields x) → entry_at fields place ≡ as_entry x
  unfolding entry_at node_of
  entry_is (D m) s =
      let l = stands_first fields place 68 (m ∷ []) s in
      let f = stands_at fields place (node_fields (D m)) 1 s (omega arith) in
      λ j. as_entry (node_of (l j) (f j) (get_or fields (place + 2) 0))
  entry_is (E m g) s =
      let l = stands_first fields place 69 (m ∷ g ∷ []) s in
      let f = stands_at fields place (node_fields (E m g)) 1 s (omega arith) in
      let h = stands_at fields place (node_fields (E m g)) 2 s (omega arith) in
      λ j. as_entry (node_of (l j) (f j) (h j))
  entry_is (L a i) s =
      let l = stands_first fields place 76 (a ∷ i ∷ []) s in
      let f = stands_at fields place (node_fields (L a i)) 1 s (omega arith) in
      let h = stands_at fields place (node_fields (L a i)) 2 s (omega arith) in
      λ j. as_entry (node_of (l j) (f j) (h j))

-- The node lines from node n on, of which the first stands at a place: its own, and those after it.
pub record EntryHere (k : Case) (fields : List ℕ) (n place : ℕ) : Type 0 where
  pub line : NodeLine
  pub here : drop n k.nodes ≡ line ∷ drop (n + 1) k.nodes
  pub entry : entry_at fields place ≡ as_entry line
  pub inside : place + node_size (get_or fields place 0) ≤ length fields
  pub rest : NodesFrom k fields (n + 1) (place + node_size (get_or fields place 0))

pub entry_here : (k : Case) (fields : List ℕ) (n place : ℕ) → NodesFrom k fields n place → n < length k.nodes → EntryHere k fields n place
entry_here k fields n place s h =
    let x = get_or k.nodes n (D 0) in
    let left = drop (n + 1) k.nodes in
    let after = lines_fields (map node_line left) in
    let here : drop n k.nodes ≡ x ∷ left = rw (add-one, drop-cons k.nodes n (D 0)) in
    let own : lines_fields (map node_line (drop n k.nodes)) ≡ node_fields x ++ after
    = ap (λ (l : List NodeLine). lines_fields (map node_line l)) here ∙ ap (λ (l : List ℕ). l ++ after) (node_fields_lem x) in
    let both = stands_as fields place _ _ own s in
    let one = stands_left fields place (node_fields x) after both in
    let size = size_here fields place x one in
    record {
      line = x;
      here = here;
      entry = entry_is fields place x one;
      inside = let o = two_fields (get_or fields place 0) in omega (arith, stands_inside fields place (node_fields x) one (omega arith));
      rest = subst (λ (d : ℕ). Stands fields (place + d) after) (sym size) (stands_right fields place (node_fields x) after both);
    }

-- ---- The head of a method's line

-- The numbers that stand at a place, as many as there are.
stands_take : (fields : List ℕ) (at : ℕ) (xs : List ℕ) → Stands fields at xs → take (length xs) (drop at fields) ≡ xs
stands_take fields at xs s = ap (take (length xs)) s.here ∙ take-append_seam xs s.rest

-- The line at a place holds a method's task, its subtask count and its subtasks.
pub record HeadIs (fields : List ℕ) (place : ℕ) (m : Method) : Type 0 where
  pub task : m.task ≡ (method_head fields place).task
  pub count : length m.subtasks ≡ (method_head fields place).subtasks.count
  pub subtasks : m.subtasks ≡ subtasks_in fields (method_head fields place).subtasks
  pub inside : place + 3 + length m.subtasks ≤ length fields

pub head_is : (fields : List ℕ) (place : ℕ) (m : Method) → Stands fields place (lines_fields (method_lines m)) → HeadIs fields place m
unfolding method_head
head_is fields place m s =
    let more = length m.constraints ∷ lines_fields (map constraint_line m.constraints) in
    let head : List ℕ = 77 ∷ m.task ∷ length m.subtasks ∷ [] in
    let all = stands_as fields place _ _ (method_fields_lem m) s in
    let count = stands_at fields place (head ++ (m.subtasks ++ more)) 2 all (omega arith) in
    let own = stands_left fields (place + 3) m.subtasks more (stands_right fields place head (m.subtasks ++ more) all) in
    record {
      task = sym (stands_at fields place (head ++ (m.subtasks ++ more)) 1 all (omega arith));
      count = sym count;
      subtasks = sym (ap (λ (c : ℕ). take c (drop (place + 3) fields)) count ∙ stands_take fields (place + 3) m.subtasks own);
      inside = omega (arith, stands_inside fields place (head ++ (m.subtasks ++ more)) all (omega arith), length-append m.subtasks more);
    }

-- ---- The plan

module _ (fields : List ℕ) (at : ℕ) (plan : List ℕ) (i : ℕ) (s : Stands fields at (line_fields (cues_line plan))) (low : 1 ≤ i) (high : i ≤ length plan) where
  plan_here_lem : Stands fields at (80 ∷ plan)
  plan_here_lem = stands_as fields at _ _ (cues_fields plan) s

  -- The action at position i, and that it lies inside the fields.
  pub plan_at_lem : get_or fields (at + i) 0 ≡ get_or plan (i - 1) 0
  plan_at_lem =
      let e : i ≡ suc (i - 1) = omega arith in
      stands_at fields at (80 ∷ plan) i plan_here_lem (omega arith) ∙ ap (λ (j : ℕ). get_or (80 ∷ plan) j 0) e

  pub plan_inside : at + i < length fields
  plan_inside = omega (arith, stands_inside fields at (80 ∷ plan) plan_here_lem (omega arith))
