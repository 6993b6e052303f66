-- The print of a case within the ranges reads as that case: each line passes its tests (Ranges), so it is read (Given), and what it means is
-- what it was printed from. Assumes nothing.
use mathlib.Core.Path.{◌≡◌, refl, ap, ◌∙◌, subst}
use mathlib.Core.List.Memᴰ.{head as here}
use mathlib.Core.List.{List, [], ◌∷◌, ◌++◌, map, flatten}
use Prim.Native.Nat.{ℕ, zero, suc, ◌+◌}
use native.Mathlib.Omega.{arith}
use lib.ListN.{length, drop, length-append, length-drop, length-map}
use borrow.Author.Tests.{le-ltb}
use Rattle.rules.specs.declared.Header.{Header}
use Rattle.rules.specs.declared.Sign.TheVariants.{Positive, Negative}
use Rattle.rules.specs.State.{State, Action}
use Rattle.rules.specs.Table.{Role, header, initial, action, method, constraint, plan, node}
use Rattle.rules.specs.Result.{found, ◌>>=◌, ◌>>◌}
use Rattle.rules.specs.Case.{Constraint, O, B, F, W, Method, NodeLine, D, E, L, Case, Valued, Read, read_as, scalar_at, members_at, set_at, header_of, initial_of, action_of, sign_of, constraint_of, as_constraint, plan_of, node_of, as_node, one_line, many, one_method, no_surplus, read_body, no_header, read_from, read_case}
use Rattle.rules.specs.Fields.{header_line, initial_line, action_line, constraint_line, method_lines, cues_line, node_line, lines_of, plan_line_of}
use Rattle.rules.specs.Print.{printed}
use Rattle.rules.specs.Ranges.{GoodHeader, GoodConstraint, GoodMethod, GoodNode, IsSet, GoodAction, ActionBelow, InRanges}
use Rattle.rules.proofs.Judgement.Each.{Each, each_tail}
use Rattle.rules.proofs.Printing.Onto.{line_onto, lines_onto, lines_append, flatten_ones, printed_onto}
use Rattle.rules.proofs.Printing.Tests.{OkLine}
use Rattle.rules.proofs.Printing.Given.{line_given}
use Rattle.rules.proofs.Printing.Ranges.{header_ok, initial_ok, action_ok, method_head, method_ok, constraint_ok, plan_ok, node_ok}

-- ---- What a line means is what it was printed from

header_again : (h : Header) → header_of (header_line h) ≡ h
unfolding header_of header_line
header_again h = refl

initial_again : (s : State) → IsSet s → initial_of (initial_line s) ≡ s
unfolding initial_of initial_line set_at members_at
initial_again s e = e

action_again : (a : Action) → GoodAction a → action_of (action_line a) ≡ a
unfolding action_of action_line set_at members_at
action_again a g = λ i. record { needed = g.needed_set i; forbidden = g.forbidden_set i; added = g.added_set i; deleted = g.deleted_set i }

constraint_again : (c : Constraint) → as_constraint (constraint_line c) ≡ c
unfolding as_constraint constraint_line constraint_of sign_of scalar_at
constraint_again (O i j) = refl
constraint_again (B Positive p u) = refl
constraint_again (B Negative p u) = refl
constraint_again (F Positive p u) = refl
constraint_again (F Negative p u) = refl
constraint_again (W Positive u p v) = refl
constraint_again (W Negative u p v) = refl

plan_again : (cs : List ℕ) → plan_of (cues_line cs) ≡ cs
unfolding plan_of cues_line members_at
plan_again cs = refl

node_again : (x : NodeLine) → as_node (node_line x) ≡ x
unfolding as_node node_line node_of scalar_at
node_again (D m) = refl
node_again (E m g) = refl
node_again (L a i) = refl

module _ (text : List ℕ) where
  -- ---- Line by line

  -- This is read, the next line has this number, and this stands there.
  abbrev Given : {A : Type 0} → A → ℕ → List ℕ → Read A → Type 0
  Given a n rest r = (place : ℕ) × (r ≡ found (a, n, place)) × (drop place text ≡ rest)

  given_then : {A B : Type 0} {a : A} {n : ℕ} {rest : List ℕ} {r : Read A} (Q : Read B → Type 0) (k : A × ℕ × ℕ → Read B) → Given a n rest r
      → ((place : ℕ) → drop place text ≡ rest → Q (k (a, n, place))) → Q (r >>= k)
  given_then Q k (place, e, d) f = rw e (f place d)

  one_line_given : {A : Type 0} (h : Header) (due : Role) (s : ℕ) (means : Valued → A) (x : Valued) (a : A) (n place : ℕ) (rest : List ℕ)
      → OkLine h s due x → means x ≡ a → drop place text ≡ line_onto x rest → Given a (n + 1) rest (one_line text h due s means n place)
  unfolding one_line
  one_line_given {A} h due s means x a n place rest ok again e =
      let g = line_given text due h s place x rest ok e in
      (g.0, ap (read_as means n) g.1 ∙ ap (λ (b : A). found (b, n + 1, g.0)) again, g.2)

  many_given : {A : Type 0} (lines : A → List Valued) (Ok : A → Type 0) (each : ℕ → ℕ → Read A)
      → ((x : A) (n place : ℕ) (rest : List ℕ) → Ok x → drop place text ≡ lines_onto (lines x) rest → Given x (n + length (lines x)) rest (each n place))
      → (xs : List A) (count n place : ℕ) (rest : List ℕ) → length xs ≡ count → Each Ok xs → drop place text ≡ lines_onto (flatten (map lines xs)) rest
      → Given xs (n + length (flatten (map lines xs))) rest (many each count n place)
  unfolding flatten
  many_given lines Ok each f [] zero n place rest c all e = (place, ap (λ (m : ℕ). found ([], m, place)) (omega arith), e)
  many_given lines Ok each f [] (suc count) n place rest c all e = absurd (omega arith)
  many_given lines Ok each f (x ∷ xs) zero n place rest c all e = absurd (omega arith)
  many_given {A} lines Ok each f (x ∷ xs) (suc count) n place rest c all e =
      let more = flatten (map lines xs) in
      let Q : Read (List A) → Type 0 = Given (x ∷ xs) (n + length (lines x ++ more)) rest in
      given_then Q _ (f x n place (lines_onto more rest) (all x (here refl)) (e ∙ lines_append (lines x) more rest))
      (λ place' d. given_then Q _
      (many_given lines Ok each f xs count (n + length (lines x)) place' rest (omega arith) (each_tail Ok x xs all) d)
      (λ place'' d'. (place'', ap (λ (m : ℕ). found (x ∷ xs, m, place'')) (omega (arith, length-append (lines x) more)), d')))

  lines_given : {A : Type 0} (h : Header) (due : Role) (s : ℕ) (means : Valued → A) (back : A → Valued) (Ok : A → Type 0)
      → ((a : A) → Ok a → OkLine h s due (back a)) → ((a : A) → Ok a → means (back a) ≡ a) → (xs : List A) (count n place : ℕ) (rest : List ℕ)
      → length xs ≡ count → Each Ok xs → drop place text ≡ lines_onto (map back xs) rest
      → Given xs (n + length (map back xs)) rest (many (one_line text h due s means) count n place)
  lines_given h due s means back Ok ok again xs count n place rest c all =
      subst (λ (ls : List Valued). drop place text ≡ lines_onto ls rest → Given xs (n + length ls) rest (many (one_line text h due s means) count n place))
      (flatten_ones back xs)
      (many_given (λ a. back a ∷ []) Ok (one_line text h due s means)
      (λ a m at after o d. one_line_given h due s means (back a) a m at after (ok a o) (again a o) d) xs count n place rest c all)

  method_given : (h : Header) → GoodHeader h → (m : Method) (n place : ℕ) (rest : List ℕ) → GoodMethod h m → drop place text ≡ lines_onto (method_lines m) rest
      → Given m (n + length (method_lines m)) rest (one_method text h n place)
  unfolding one_method method_lines method_head scalar_at members_at
  method_given h good m n place rest g e =
      let cs = map constraint_line m.constraints in
      let count = length m.subtasks in
      let Q : Read Method → Type 0 = Given m (n + length (method_lines m)) rest in
      given_then Q _
      (one_line_given h method 0 (λ x. x.1) (method_head m) (method_head m).1 n place (lines_onto cs rest) (method_ok h good m g) refl e)
      (λ place' d. given_then Q _
      (lines_given h constraint count as_constraint constraint_line (GoodConstraint h count) (constraint_ok h good count g.few_subtasks)
      (λ c o. constraint_again c) m.constraints (length m.constraints) (n + 1) place' rest refl g.constraints_good d)
      (λ place'' d'. (place'', ap (λ (l : ℕ). found (m, l, place'')) (omega arith), d')))

  -- ---- The whole

  -- Reading ends with the text, and finds this case.
  abbrev Finds : Case → Read Case → Type 0
  Finds k r = (r >>= (λ (b, n, place). no_surplus text n place >> found b)) ≡ found k

  surplus_given : (k : Case) (n place : ℕ) → drop place text ≡ [] → (no_surplus text n place >> found k) ≡ found k
  unfolding no_surplus
  surplus_given k n place d =
      let l : length (drop place text) ≡ 0 = ap length d in rw (le-ltb place (length text) (omega (arith, length-drop place text)), no_surplus)

  case_given : (k : Case) → InRanges k → text ≡ printed k → Finds k (read_from text 1 0)
  unfolding read_from read_body lines_of plan_line_of
  case_given k r e =
      let h = k.head in
      let s = r.sound in
      let good = s.head_good in
      let acts = map action_line k.actions in
      let ms = flatten (map method_lines k.methods) in
      let t₄ : List ℕ = lines_onto (map node_line k.nodes) [] in
      let t₃ : List ℕ = line_onto (cues_line k.plan) t₄ in
      let t₂ : List ℕ = lines_onto ms t₃ in
      let t₁ : List ℕ = lines_onto acts t₂ in
      let rest = cues_line k.plan ∷ map node_line k.nodes in
      let body : lines_onto (acts ++ (ms ++ rest)) [] ≡ t₁ = lines_append acts (ms ++ rest) [] ∙ ap (lines_onto acts) (lines_append ms rest []) in
      let line : 3 + length acts + length ms ≡ k.plan_line = omega (arith, r.planned, length-map k.actions action_line) in
      given_then (Finds k) _
      (one_line_given no_header header 0 header_of (header_line h) h 1 0 (line_onto (initial_line k.initial) t₁) (header_ok h good) (header_again h)
      (e ∙ printed_onto k ∙ ap (λ (t : List ℕ). line_onto (header_line h) (line_onto (initial_line k.initial) t)) body))
      (λ p₀ d₀. given_then (Finds k) _
      (one_line_given h initial 0 initial_of (initial_line k.initial) k.initial 2 p₀ t₁ (initial_ok h good k.initial r.initial_below)
      (initial_again k.initial s.initial_set) d₀)
      (λ p₁ d₁. given_then (Finds k) _
      (lines_given h action 0 action_of action_line (λ a. ActionBelow h a × GoodAction a) (λ a o. action_ok h good a o.0) (λ a o. action_again a o.1)
      k.actions h.actions 3 p₁ t₂ s.actions_length (λ a m. (r.actions_below a m, s.actions_good a m)) d₁)
      (λ p₂ d₂. given_then (Finds k) _
      (many_given method_lines (GoodMethod h) (one_method text h) (method_given h good) k.methods h.methods (3 + length acts) p₂ t₃
      s.methods_length s.methods_good d₂)
      (λ p₃ d₃. given_then (Finds k) _
      (one_line_given h plan 0 plan_of (cues_line k.plan) k.plan (3 + length acts + length ms) p₃ t₄
      (plan_ok h good k.plan s.plan_length s.plan_below) (plan_again k.plan) d₃)
      (λ p₄ d₄. given_then (Finds k) _
      (lines_given h node 0 as_node node_line (GoodNode h) (node_ok h good) (λ x o. node_again x) k.nodes h.nodes (3 + length acts + length ms + 1) p₄ []
      s.nodes_length s.nodes_good d₄)
      (λ p₅ d₅. surplus_given _ _ p₅ d₅ ∙ (λ i. found (record {
        head = h;
        initial = k.initial;
        actions = k.actions;
        methods = k.methods;
        plan = k.plan;
        nodes = k.nodes;
        plan_line = line i;
      }))))))))

-- The print of a case within the ranges reads as that case.
pub round_trip : (k : Case) → InRanges k → read_case (printed k) ≡ found k
unfolding read_case
round_trip k r = case_given (printed k) k r refl
