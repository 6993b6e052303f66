-- The text made from a form reads, if it reads at all, as the case that was made (02, Card 6): what reads has the header that is printed, so
-- there are not too many cues, and all else of the made case is within the ranges. Assumes nothing.
use mathlib.Core.Path.{◌≡◌, refl, sym, ap, ◌∙◌, subst}
use mathlib.Core.List.{List, [], ◌∷◌, ◌++◌, tail-eq_of_cons-eq}
use mathlib.Core.Bool.{Bool, true, false}
use mathlib.Core.List.Memᴰ.{head as here}
use mathlib.Core.Option.{Option, none, some}
use Prim.Native.Nat.{ℕ, zero, suc, ◌+◌, ◌≤◌, ◌<◌}
use Prim.Native.Char.{code}
use native.Mathlib.Omega.{arith}
use lib.Dec.{eqb}
use lib.ListN.{length, length-append}
use Rattle.rules.specs.declared.Header.{Header}
use Rattle.rules.specs.State.{Action, proposition_most}
use Rattle.rules.specs.Text.{is_feed, is_comma, ends_field, decimal}
use Rattle.rules.specs.Table.{table, row_of}
use Rattle.rules.specs.Result.{found}
use Rattle.rules.specs.Case.{Constraint, O, B, F, W, Method, NodeLine, header_in, Case, read_case}
use Rattle.rules.specs.Fields.{header_line, lines_of}
use Rattle.rules.specs.Print.{printed}
use Rattle.rules.specs.Ranges.{GoodHeader, GoodConstraint, GoodMethod, GoodNode, ActionBelow, InRanges}
use Rattle.rules.specs.Form.{FormLine, cue_line, task_line, form_line_most, Form, defines, form_lines}
use Rattle.rules.specs.Import.{line_defining, node_for, subtasks_first, nodes_of, actions_of, made_nodes, made_header, made_case}
use Rattle.rules.proofs.Judgement.Each.{Each, each_nil, each_cons, each_tail, each_weaken}
use Rattle.rules.proofs.Printing.{canonical, read_in_ranges, round_trip}
use Rattle.rules.proofs.Printing.Numbers.{Plain}
use Rattle.rules.proofs.Printing.Places.{Ends, number_given}
use Rattle.rules.proofs.Printing.Onto.{numbers_onto, line_onto, printed_onto}
use Rattle.rules.proofs.Printing.Given.{ends_numbers}
use Rattle.rules.proofs.Import.Lines.{GoodCue, GoodTask, GoodForm, each_line}

-- ---- The header

abbrev AllPlain : List ℕ → Type 0
AllPlain [] = Unit {0}
AllPlain (n ∷ ns) = Plain n × AllPlain ns

-- Plain numbers that are printed alike are the same, and so is what stands after them.
number_same : (m n : ℕ) (xs ys : List ℕ) → Plain m → Plain n → Ends xs → Ends ys → code "," ∷ (decimal m ++ xs) ≡ code "," ∷ (decimal n ++ ys)
    → (m ≡ n) × (xs ≡ ys)
number_same m n xs ys p q e f s =
    let text = code "," ∷ (decimal n ++ ys) in
    let (a, u, v) = number_given text 0 m xs p e (sym s) in
    let (b, w, z) = number_given text 0 n ys q f refl in
    (cc, cc)

numbers_same : (ms ns xs ys : List ℕ) → length ms ≡ length ns → AllPlain ms → AllPlain ns
    → numbers_onto ms (code "\n" ∷ xs) ≡ numbers_onto ns (code "\n" ∷ ys) → ms ≡ ns
unfolding ends_field is_feed is_comma
numbers_same [] [] xs ys l p q e = refl
numbers_same [] (n ∷ ns) xs ys l p q e = absurd (omega arith)
numbers_same (m ∷ ms) [] xs ys l p q e = absurd (omega arith)
numbers_same (m ∷ ms) (n ∷ ns) xs ys l p q e =
    let (a, f) = number_same m n _ _ p.0 q.0 (ends_numbers ms (code "\n" ∷ xs) refl) (ends_numbers ns (code "\n" ∷ ys) refl) e in
    let b = numbers_same ms ns xs ys (omega arith) p.1 q.1 f in
    λ j. a j ∷ b j

abbrev head_numbers : Header → List ℕ
head_numbers h = h.propositions ∷ h.actions ∷ h.compounds ∷ h.methods ∷ h.goal ∷ h.cues ∷ h.nodes ∷ []

good_plain : (h : Header) → GoodHeader h → AllPlain (head_numbers h)
unfolding proposition_most
good_plain h g = omega arith

-- A case whose print reads has the header that is read.
header_reads : (k l : Case) → AllPlain (head_numbers k.head) → read_case (printed k) ≡ found l → l.head ≡ k.head
unfolding lines_of header_line line_onto row_of table
header_reads k l p e =
    let same = sym (printed_onto k) ∙ canonical (printed k) l e ∙ printed_onto l in
    let good = (read_in_ranges (printed k) l e).sound.head_good in
    sym (ap header_in (numbers_same (head_numbers k.head) (head_numbers l.head) _ _ refl p (good_plain l.head good) (tail-eq_of_cons-eq same)))

-- ---- Nodes

-- P of the line that defines an id, if there is one.
abbrev IfLine : (FormLine → Type 0) → Option FormLine → Type 0
IfLine P none = Unit {0}
IfLine P (some e) = P e

line_among : (P : FormLine → Type 0) (es : List FormLine) (id : ℕ) → Each P es → IfLine P (line_defining es id)
line_among P [] id f = tt
line_among P (e ∷ es) id f = go (eqb (defines e) id) (line_among P es id (each_tail P e es f))
  where
    go : (b : Bool) → IfLine P (line_defining es id) → IfLine P (elim b [ true ↦ some e | false ↦ line_defining es id ])
    go true w = f e (here refl)
    go false w = w

nodes_each : (P : NodeLine → Type 0) (es : List FormLine) → Each (λ e. P (node_for e)) es → (left : ℕ) (ids : List ℕ) → Each P (nodes_of left es ids)
nodes_each P es f zero ids = each_nil P
nodes_each P es f (suc left) [] = each_nil P
nodes_each P es f (suc left) (id ∷ ids) = go (line_defining es id) (line_among (λ e. P (node_for e)) es id f) (nodes_each P es f left)
  where
    go : (o : Option FormLine) → IfLine (λ e. P (node_for e)) o → ((xs : List ℕ) → Each P (nodes_of left es xs))
        → Each P (elim o [ none ↦ nodes_of left es ids | some e ↦ node_for e ∷ nodes_of left es (subtasks_first e ids) ])
    go none w rest = rest ids
    go (some e) w rest = each_cons P (node_for e) (nodes_of left es (subtasks_first e ids)) w (rest (subtasks_first e ids))

nodes_few : (es : List FormLine) (left : ℕ) (ids : List ℕ) → length (nodes_of left es ids) ≤ left
nodes_few es zero ids = omega arith
nodes_few es (suc left) [] = omega arith
nodes_few es (suc left) (id ∷ ids) = go (line_defining es id) (nodes_few es left)
  where
    go : (o : Option FormLine) → ((xs : List ℕ) → length (nodes_of left es xs) ≤ left)
        → length {A = NodeLine} (elim o [ none ↦ nodes_of left es ids | some e ↦ node_for e ∷ nodes_of left es (subtasks_first e ids) ]) ≤ suc left
    go none rest = omega (arith, rest ids)
    go (some e) rest = omega (arith, rest (subtasks_first e ids))

module _ (k : Case) (h : Header) (actions : h.actions ≡ k.head.actions) (methods : h.methods ≡ k.head.methods) where
  cue_node : (e : FormLine) → GoodCue k 1 (1 + h.cues) e → GoodNode h (node_for e)
  cue_node (cue_line line id a i) (b, lo, hi) = omega arith
  cue_node (task_line line id m subtasks) w = absurd w

  task_node : (e : FormLine) → GoodTask k e → GoodNode h (node_for e)
  task_node (cue_line line id a i) w = absurd w
  task_node (task_line line id m []) (b, c) = omega arith
  task_node (task_line line id m (s ∷ ss)) (b, c) = omega arith

-- ---- The plan

plan_length : (k : Case) (low high : ℕ) (es : List FormLine) → Each (GoodCue k low high) es → length (actions_of es) ≡ length es
plan_length k low high [] f = refl
plan_length k low high (cue_line line id a i ∷ es) f = ap suc (plan_length k low high es (each_tail (GoodCue k low high) (cue_line line id a i) es f))
plan_length k low high (task_line line id m ss ∷ es) f = absurd (f (task_line line id m ss) (here refl))

plan_below : (k : Case) (low high : ℕ) (es : List FormLine) → Each (GoodCue k low high) es → Each (λ a. a < k.head.actions) (actions_of es)
plan_below k low high [] f = each_nil (λ a. a < k.head.actions)
plan_below k low high (cue_line line id a i ∷ es) f =
    each_cons (λ a. a < k.head.actions) a (actions_of es) (f (cue_line line id a i) (here refl)).0
    (plan_below k low high es (each_tail (GoodCue k low high) (cue_line line id a i) es f))
plan_below k low high (task_line line id m ss ∷ es) f = absurd (f (task_line line id m ss) (here refl))

-- ---- The made case

-- The ranges of a method's constraints go by the propositions alone, and its own by the tasks.
constraint_still : (h : Header) (cues nodes count : ℕ) (c : Constraint) → GoodConstraint h count c → GoodConstraint (made_header h cues nodes) count c
unfolding made_header
constraint_still h cues nodes count (O i j) g = g
constraint_still h cues nodes count (B s p u) g = g
constraint_still h cues nodes count (F s p u) g = g
constraint_still h cues nodes count (W s u p v) g = g

method_still : (h : Header) (cues nodes : ℕ) (m : Method) → GoodMethod h m → GoodMethod (made_header h cues nodes) m
unfolding made_header
method_still h cues nodes m g = record {
  task_least = g.task_least;
  task_below = g.task_below;
  few_subtasks = g.few_subtasks;
  subtasks_below = g.subtasks_below;
  few_constraints = g.few_constraints;
  constraints_good = each_weaken _ _ m.constraints (constraint_still h cues nodes (length m.subtasks)) g.constraints_good;
}

action_still : (h : Header) (cues nodes : ℕ) (a : Action) → ActionBelow h a → ActionBelow (made_header h cues nodes) a
unfolding made_header
action_still h cues nodes a b =
    record { needed_below = b.needed_below; forbidden_below = b.forbidden_below; added_below = b.added_below; deleted_below = b.deleted_below }

made_in_ranges : (k : Case) (f : Form) → InRanges k → GoodForm k f → GoodHeader (made_case k f).head → InRanges (made_case k f)
unfolding made_case made_header made_nodes
made_in_ranges k f r g good =
    let s = r.sound in
    let h = (made_case k f).head in
    record {
      sound = record {
        head_good = good;
        initial_set = s.initial_set;
        actions_good = s.actions_good;
        actions_length = s.actions_length;
        methods_length = s.methods_length;
        methods_good = each_weaken _ _ k.methods (method_still k.head h.cues h.nodes) s.methods_good;
        plan_length = plan_length k 1 (1 + length f.cues) f.cues g.cues_good;
        plan_below = plan_below k 1 (1 + length f.cues) f.cues g.cues_good;
        nodes_length = refl;
        nodes_good = nodes_each (GoodNode h) (form_lines f)
            (each_line f _ _ (λ e. GoodNode h (node_for e)) (cue_node k h refl refl) (task_node k h refl refl) g.cues_good g.tasks_good)
            (length (form_lines f)) (f.root ∷ []);
      };
      initial_below = r.initial_below;
      actions_below = each_weaken _ _ k.actions (action_still k.head h.cues h.nodes) r.actions_below;
      planned = r.planned;
    }

-- The made text reads as nothing but the made case.
pub made_reads : (text : List ℕ) (k : Case) (f : Form) (l : Case) → read_case text ≡ found k → GoodForm k f → read_case (printed (made_case k f)) ≡ found l
    → read_case (printed (made_case k f)) ≡ found (made_case k f)
unfolding made_case made_header made_nodes form_lines form_line_most
made_reads text k f l reading g e =
    let r = read_in_ranges text k reading in
    let es = form_lines f in
    let q = good_plain k.head r.sound.head_good in
    let p : AllPlain (head_numbers (made_case k f).head) =
    omega (arith, g.few, length-append f.cues f.tasks, nodes_few es (length es) (f.root ∷ [])) in
    let same = header_reads (made_case k f) l p e in
    round_trip (made_case k f) (made_in_ranges k f r g (subst GoodHeader same (read_in_ranges (printed (made_case k f)) l e).sound.head_good))
