-- What is written is accepted, with the same tree: the rules of a case go by its constraints and not by their order, so they hold of the
-- tidied case, and its print reads as that case and is not too long. So the check answers and fills alike, and so does writing again.
-- Assumes nothing.
use mathlib.Core.Path.{◌≡◌, refl, sym, ap, ◌∙◌, subst}
use mathlib.Core.Bool.{true, false}
use mathlib.Core.List.{List, [], ◌∷◌, Memᴰ as Mem}
use Prim.Native.Nat.{ℕ, ◌≤◌}
use native.Mathlib.Omega.{arith}
use lib.Dec.{ltb}
use lib.ListN.{length, length-map}
use Rattle.rules.specs.declared.Answer.TheVariants.{ShortOutput}
use Rattle.rules.specs.State.{word_count}
use Rattle.rules.specs.Result.{Result, found, refused, ◌>>=◌, ◌>>◌}
use Rattle.rules.specs.Case.{Constraint, Method, method_at, NodeLine, D, E, L, Case, read_case}
use Rattle.rules.specs.Print.{printed}
use Rattle.rules.specs.Tree.{Tree, leaf, empty, task, Trees, no_tree, more, level_count}
use Rattle.rules.specs.Constraint.{constraints_of}
use Rattle.rules.specs.Verdict.{Found, Lent, state_need, node_need, work_need, check_lists, lists_long, text_most, states_of, check, filled, states_after, nodes_after}
use Rattle.rules.specs.Rules.{cue_action, MethodOf, Fits, FitsTask, FitsTasks, Rules}
use Rattle.rules.specs.Demands.{as_asked}
use Rattle.rules.specs.Writing.{tidied_method, tidied, written, output_long, write, output_after, length_after, Accepts, Alike}
use Rattle.rules.proofs.Judgement.Preorder.{height}
use Rattle.rules.proofs.Judgement.Refusals.{Accepts as AllPassed, CheckSays, check_says}
use Rattle.rules.proofs.Judgement.Theorem.{accepts_rules, rules_pass, rows_pass}
use Rattle.rules.proofs.Writing.Sorted.{sorted_same}
use Rattle.rules.proofs.Writing.Tidied.{tidied_at, tidied_twice}
use Rattle.rules.proofs.Writing.Lengths.{written_length}

-- ---- The rules of a tidied case

module _ (k : Case) where
  -- A method keeps its task and its subtasks.
  same_task : (m : ℕ) → (method_at (tidied k).methods m).task ≡ (method_at k.methods m).task
  unfolding tidied tidied_method
  same_task m = ap (λ (x : Method). x.task) (tidied_at k.methods m)

  same_subtasks : (m : ℕ) → (method_at (tidied k).methods m).subtasks ≡ (method_at k.methods m).subtasks
  unfolding tidied tidied_method
  same_subtasks m = ap (λ (x : Method). x.subtasks) (tidied_at k.methods m)

  method_of_lem : (m t : ℕ) → MethodOf k m t → MethodOf (tidied k) m t
  unfolding tidied
  method_of_lem m t w = record {
    there = let e = length-map k.methods tidied_method in let h = w.there in omega arith;
    compound = w.compound;
    own = same_task m ∙ w.own;
  }

  fits_still : (x : NodeLine) (t : ℕ) → Fits k x t → Fits (tidied k) x t
  unfolding Fits tidied
  fits_still (D m) t w = (method_of_lem m t w.0, λ e. w.1 (sym (same_subtasks m) ∙ e))
  fits_still (E m g) t w = (method_of_lem m t w.0, same_subtasks m ∙ w.1)
  fits_still (L a i) t w = w

  mutual
    unfolding FitsTask FitsTasks

    tree_still : (x : Tree) (t : ℕ) → FitsTask k x t → FitsTask (tidied k) x t
    tree_still (leaf a i) t w = fits_still (L a i) t w
    tree_still (empty m g) t w = fits_still (E m g) t w
    tree_still (task m xs) t w = (
      fits_still (D m) t w.0,
      subst (λ (ts : List ℕ). FitsTasks (tidied k) xs ts) (sym (same_subtasks m)) (trees_still xs (method_at k.methods m).subtasks w.1),
    )

    trees_still : (xs : Trees) (ts : List ℕ) → FitsTasks k xs ts → FitsTasks (tidied k) xs ts
    trees_still no_tree [] w = tt
    trees_still no_tree (t ∷ ts) w = w
    trees_still (more x xs) [] w = w
    trees_still (more x xs) (t ∷ ts) w = (tree_still x t w.0, trees_still xs ts w.1)

  -- A constraint of a node in the tidied case is one in the case.
  from_method : (m : ℕ) (d : Constraint) → Mem d (method_at (tidied k).methods m).constraints → Mem d (method_at k.methods m).constraints
  unfolding tidied tidied_method
  from_method m d i =
      let e = ap (λ (x : Method). x.constraints) (tidied_at k.methods m) in
      (sorted_same (method_at k.methods m).constraints d).0 (subst (λ (l : List Constraint). Mem d l) e i)

  from_node : (x : Tree) (d : Constraint) → Mem d (constraints_of (tidied k) x) → Mem d (constraints_of k x)
  unfolding constraints_of
  from_node (leaf a i) d m = m
  from_node (empty n g) d m = from_method n d m
  from_node (task n xs) d m = from_method n d m

  rules_still : Rules k → Rules (tidied k)
  unfolding tidied cue_action
  rules_still r = record {
    states = r.states;
    are = record { count = r.are.count; initial = r.are.initial; follows = r.are.follows };
    runs = r.runs;
    tree = r.tree;
    preordered = r.preordered;
    fitting = tree_still r.tree k.head.goal r.fitting;
    claimed = r.claimed;
    kept = λ x m d i. r.kept x m d (from_node x d i);
  }

-- ---- The check of the written text

-- The written text is accepted, as the tidied case and with the tree that was found, where the text is a print and the written one reads.
pub written_accepted : (a : List ℕ) (k : Case) (t : Tree) → Accepts a k t → a ≡ printed k → read_case (written k) ≡ found (tidied k)
    → Accepts (written k) (tidied k) t
unfolding rules_still
written_accepted a k t accepts print reads =
    let says : AllPassed as_asked a k t = subst (λ (f : Found Tree). CheckSays as_asked a f) accepts (check_says as_asked a) in
    let admits = says.covered.grown.runs.reads.admits in
    let (rules, same) = (accepts_rules as_asked a k t accepts).1 in
    let fits : length (written k) ≤ text_most = omega (arith, admits.short_text, ap length print, written_length k) in
    let shallow : height rules.tree ≤ level_count = subst (λ (x : Tree). height x ≤ level_count) (sym same) says.shallow in
    rows_pass as_asked (written k) (tidied k) admits.long_lists fits reads ∙ rules_pass (written k) (tidied k) reads (rules_still k rules) shallow
    ∙ ap (λ (x : Tree). found (tidied k, x)) same

-- ---- Any lists

-- Lists as long as asked pass; so with other lists only the first row is another.
check_as : (lists : List Lent) (text : List ℕ) {k : Case} {t : Tree} → Accepts text k t → check lists text ≡ (lists_long lists >> found (k, t))
unfolding check as_asked check_lists state_need node_need work_need word_count
check_as lists text e = ap (λ (f : Found Tree). lists_long lists >> f) e

-- Row 14, after the check.
abbrev from_check : ℕ → Found Tree → Found Tree
from_check size f = f >>= λ (k, t). output_long size k >> found (k, t)

write_as : (lists : List Lent) (size : ℕ) (text : List ℕ) {k : Case} {t : Tree} → Accepts text k t
    → write lists size text ≡ (lists_long lists >> output_long size k >> found (k, t))
unfolding write
write_as lists size text {k} {t} e = ap (from_check size) (check_as lists text e) ∙ join (lists_long lists)
  where
    join : (o : Result (Unit {0})) → from_check size (o >> found (k, t)) ≡ (o >> output_long size k >> found (k, t))
    join (found u) = refl
    join (refused r) = refl

-- The tidied case is written as the case is.
written_twice : (k : Case) → written (tidied k) ≡ written k
unfolding written
written_twice k = ap printed (tidied_twice k)

-- Whatever row comes before, it lets the case and the tidied case pass alike.
module _ (k : Case) (t : Tree) where
  alike : (o : Result (Unit {0})) → Alike (o >> found (tidied k, t)) (o >> found (k, t))
  unfolding tidied states_after states_of nodes_after output_after length_after
  alike (found u) = record {
    answer = refl;
    states = λ size. refl;
    nodes = λ size. refl;
    outputs = λ size. ap (λ (text : List ℕ). filled size 0 text) (written_twice k);
    lengths = ap length (written_twice k);
  }
  alike (refused r) = record { answer = refl; states = λ size. refl; nodes = λ size. refl; outputs = λ size. refl; lengths = refl }

  pub check_alike : (a : List ℕ) → Accepts a k t → Accepts (written k) (tidied k) t → (lists : List Lent)
      → Alike (check lists (written k)) (check lists a)
  check_alike a e f lists = rw (check_as lists a e, check_as lists (written k) f) (alike (lists_long lists))

  same_output : (size : ℕ) → output_long size (tidied k) ≡ output_long size k
  unfolding output_long
  same_output size =
      ap (λ (text : List ℕ). elim (ltb size (length text)) [ true ↦ refused (ShortOutput (length text)) | false ↦ found tt ]) (written_twice k)

  pub write_alike : (a : List ℕ) → Accepts a k t → Accepts (written k) (tidied k) t → (lists : List Lent) (size : ℕ)
      → Alike (write lists size (written k)) (write lists size a)
  write_alike a e f lists size =
      rw (write_as lists size a e, write_as lists size (written k) f, same_output size) (alike (lists_long lists >> output_long size k))
