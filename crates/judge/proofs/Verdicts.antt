-- The verdict row by row: what the rows up to here have answered settles it, or leaves it to the rows after. Assumes nothing.
use mathlib.Core.Path.{◌≡◌, refl, ap, ◌∙◌, subst}
use mathlib.Core.Bool.{Bool, true, false}
use mathlib.Core.List.{List}
use mathlib.Core.Option.{Option, none, some}
use Prim.Native.Nat.{ℕ, ◌+◌, ◌≤◌, ◌<◌}
use native.Mathlib.Omega.{arith}
use Rattle.std.specs.Prelude.{Result, Ok, Err}
use borrow.Author.Tests.{lt-ltb, le-ltb}
use lib.Dec.{ltb}
use lib.ListN.{length}
use Rattle.rules.specs.declared.Answer.{Answer}
use Rattle.rules.specs.declared.Answer.TheVariants.{ShortList, LongText, Inapplicable, Unclaimed}
use Rattle.rules.specs.State.{first_stop}
use Rattle.rules.specs.Result as R
use Rattle.rules.specs.Result.{found, refused, ◌>>=◌, ◌>>◌}
use Rattle.rules.specs.Case.{Case, read_case}
use Rattle.rules.specs.Fields.{fields_of}
use Rattle.rules.specs.Tree.{Tree, preorder, may_claim, walk_tree, least_unclaimed}
use Rattle.rules.specs.Constraint.{holds_in, first_broken}
use Rattle.rules.specs.Verdict.{Found, state_need, node_need, work_need, check_lists, lists_long, text_short, unless, states_of, plan_runs, all_claimed, none_broken, text_most, check}
use Rattle.fields.specs.Standing.{Stands}
use Rattle.fields.specs.Directory.{IsRead}
use Rattle.judge.specs.Phases.{rows_ahead, FieldsHeld, Admits, from_claimed}
use Rattle.rules.proofs.Judgement.Rows.{from_constraints, from_tree, from_run, from_text}

-- ---- Rows 6 to 9 and 20 to 22

module _ (rest : Case → Tree → Found Tree) (k : Case) where
  abbrev on_tree : R.Result (Tree × List ℕ) → Found Tree
  on_tree x = x >>= λ (t, claimed). all_claimed k claimed >> rest k t

  pub tree_refused : (a : Answer) → walk_tree k (may_claim k.plan) ≡ refused a → from_claimed rest k ≡ refused a
  tree_refused a e = ap on_tree e

  module _ (t : Tree) (claimed : List ℕ) (walks : walk_tree k (may_claim k.plan) ≡ found (t, claimed)) where
    claims_are : (o : Option ℕ) → least_unclaimed claimed k.head.cues 1 ≡ o → from_claimed rest k ≡ (unless (Unclaimed k.plan_line) o >> rest k t)
    unfolding all_claimed
    claims_are o e = ap on_tree walks ∙ ap (λ (x : Option ℕ). unless (Unclaimed k.plan_line) x >> rest k t) e

    pub claims_refused : (i : ℕ) → least_unclaimed claimed k.head.cues 1 ≡ some i → from_claimed rest k ≡ refused (Unclaimed k.plan_line i)
    claims_refused i e = claims_are (some i) e

    pub claims_right : least_unclaimed claimed k.head.cues 1 ≡ none → from_claimed rest k ≡ rest k t
    claims_right e = claims_are none e

-- ---- Rows 10 to 13

module _ (k : Case) (t : Tree) (claimed : List ℕ) (walks : walk_tree k (may_claim k.plan) ≡ found (t, claimed))
    (claims : least_unclaimed claimed k.head.cues 1 ≡ none) where
  pub tree_claimed : from_tree k ≡ from_constraints k t
  unfolding from_tree
  tree_claimed = claims_right from_constraints k t claimed walks claims

  constraints_are : (o : Option Answer) → first_broken k (holds_in (states_of k)) (k.plan_line + 1) (preorder t) ≡ o
      → from_tree k ≡ (unless (λ r. r) o >> found (k, t))
  unfolding none_broken
  constraints_are o e = tree_claimed ∙ ap (λ (x : Option Answer). ◌>>◌ {B = Case × Tree} (unless (λ r. r) x) (found (k, t))) e

  pub constraints_refused : (a : Answer) → first_broken k (holds_in (states_of k)) (k.plan_line + 1) (preorder t) ≡ some a → from_tree k ≡ refused a
  constraints_refused a e = constraints_are (some a) e

  pub tree_right : first_broken k (holds_in (states_of k)) (k.plan_line + 1) (preorder t) ≡ none → from_tree k ≡ found (k, t)
  tree_right e = constraints_are none e

-- ---- Row 5

module _ {A : Type 0} (rest : Case → Found A) (k : Case) where
  run_is : (o : Option ℕ) → first_stop k.actions k.plan k.initial 1 ≡ o → from_run rest k ≡ (unless (Inapplicable k.plan_line) o >> rest k)
  unfolding from_run plan_runs
  run_is o e = ap (λ (x : Option ℕ). unless (Inapplicable k.plan_line) x >> rest k) e

  pub run_refused : (i : ℕ) → first_stop k.actions k.plan k.initial 1 ≡ some i → from_run rest k ≡ refused (Inapplicable k.plan_line i)
  run_refused i e = run_is (some i) e

  pub run_right : first_stop k.actions k.plan k.initial 1 ≡ none → from_run rest k ≡ rest k
  run_right e = run_is none e

-- ---- Rows 2 to 4

module _ {A : Type 0} (rest : Case → Found A) (text : List ℕ) where
  abbrev on_case : R.Result Case → Found A
  on_case r = r >>= λ k. from_run rest k

  text_is : (b : Bool) → ltb text_most (length text) ≡ b
      → from_text rest text ≡ ◌>>◌ {A = Unit {0}} (elim b [ true ↦ refused LongText | false ↦ found tt ]) (on_case (read_case text))
  unfolding from_text
  text_is b e = ap (λ (x : Bool). ◌>>◌ {A = Unit {0}} (elim x [ true ↦ refused LongText | false ↦ found tt ]) (on_case (read_case text))) e

  pub text_long : text_most < length text → from_text rest text ≡ refused LongText
  text_long h = text_is true (lt-ltb text_most (length text) h)

  pub text_refused : (a : Answer) → length text ≤ text_most → read_case text ≡ refused a → from_text rest text ≡ refused a
  text_refused a h e = text_is false (le-ltb text_most (length text) h) ∙ ap on_case e

  pub text_reads : (k : Case) → length text ≤ text_most → read_case text ≡ found k → from_text rest text ≡ from_run rest k
  text_reads k h e = text_is false (le-ltb text_most (length text) h) ∙ ap on_case e

-- ---- Row 1

-- The first of three lists that is short.
abbrev pub short_of : Bool → Bool → Bool → R.Result (Unit {0})
short_of s n w =
    elim s [
      | true ↦ refused (ShortList 1)
      | false ↦ elim n [ true ↦ refused (ShortList 2) | false ↦ elim w [ true ↦ refused (ShortList 3) | false ↦ found tt ] ]
    ]

module _ (states nodes work : ℕ) (text : List ℕ) where
  lists_are : (o : R.Result (Unit {0})) → short_of (ltb states state_need) (ltb nodes node_need) (ltb work work_need) ≡ o
      → check (check_lists states nodes work) text ≡ (o >> from_text from_tree text)
  unfolding check check_lists from_tree from_run from_text
  lists_are o e = ap (λ (x : R.Result (Unit {0})). x >> from_text from_tree text) e

  -- The rows ahead of reading, by the lists.
  ahead_are : (o : R.Result (Unit {0})) → short_of (ltb states state_need) (ltb nodes node_need) (ltb work work_need) ≡ o
      → rows_ahead states nodes work text ≡ (o >> text_short text)
  unfolding check_lists
  ahead_are o e = ap (λ (x : R.Result (Unit {0})). x >> text_short text) e

  pub states_short : states < state_need → rows_ahead states nodes work text ≡ refused (ShortList 1)
  states_short s = ahead_are (refused (ShortList 1)) (ap (λ (b : Bool). short_of b (ltb nodes node_need) (ltb work work_need)) (lt-ltb states state_need s))

  pub nodes_short : state_need ≤ states → nodes < node_need → rows_ahead states nodes work text ≡ refused (ShortList 2)
  nodes_short s n = ahead_are (refused (ShortList 2)) (λ j. short_of (le-ltb states state_need s j) (lt-ltb nodes node_need n j) (ltb work work_need))

  pub work_short : state_need ≤ states → node_need ≤ nodes → work < work_need → rows_ahead states nodes work text ≡ refused (ShortList 3)
  work_short s n w = ahead_are (refused (ShortList 3)) (λ j. short_of (le-ltb states state_need s j) (le-ltb nodes node_need n j) (lt-ltb work work_need w j))

  pub text_over : state_need ≤ states → node_need ≤ nodes → work_need ≤ work → text_most < length text
      → rows_ahead states nodes work text ≡ refused LongText
  text_over s n w h =
      ahead_are (found tt) (λ j. short_of (le-ltb states state_need s j) (le-ltb nodes node_need n j) (le-ltb work work_need w j))
      ∙ ap (λ (b : Bool). elim b [ true ↦ refused LongText | false ↦ found tt ]) (lt-ltb text_most (length text) h)

  -- What they refuse the check refuses.
  pub ahead_refused : (a : Answer) → rows_ahead states nodes work text ≡ refused a → check (check_lists states nodes work) text ≡ refused a
  unfolding check
  ahead_refused a e = go (lists_long (check_lists states nodes work)) (text_short text) _ e
    where
      go : (o p : R.Result (Unit {0})) (rest : Found Tree) → ◌>>◌ {B = Unit {0}} o p ≡ refused a → (o >> (p >> rest)) ≡ refused a
      go (found u) (found v) rest q = let z : ◌≡◌ {A = ℕ} 0 1 = cc in absurd (omega arith)
      go (found u) (refused r) rest q = let same : r ≡ a = cc in ap (λ (x : Answer). refused x) same
      go (refused r) p rest q = let same : r ≡ a = cc in ap (λ (x : Answer). refused x) same

  pub long_lists : state_need ≤ states → node_need ≤ nodes → work_need ≤ work → check (check_lists states nodes work) text ≡ from_text from_tree text
  long_lists s n w = lists_are (found tt) (λ j. short_of (le-ltb states state_need s j) (le-ltb nodes node_need n j) (le-ltb work work_need w j))

-- What a list that is short, or a text that is long, says of these rows.
pub ruleset short_first = (states_short, nodes_short, work_short, text_over)

-- ---- Rows 1 and 2

module _ (states nodes work : ℕ) (text : List ℕ) {r : Result (Unit {0}) Answer} (said : Admits states nodes work text r) where
  pub admit_passes : r ≡ Ok tt → Admits states nodes work text (Ok tt)
  admit_passes e = subst (Admits states nodes work text) e said

  pub admit_rows : (a : Answer) → r ≡ Err a → rows_ahead states nodes work text ≡ refused a
  admit_rows a e = subst (Admits states nodes work text) e said

  pub admit_refuses : (a : Answer) → r ≡ Err a → check (check_lists states nodes work) text ≡ refused a
  admit_refuses a e = ahead_refused states nodes work text a (admit_rows a e)

-- ---- From the rows ahead to the constraints

-- The check's rows are those up to 9, with the constraints for the rest.
pub check_goes_on : (text : List ℕ) → from_text from_tree text ≡ from_text (from_claimed from_constraints) text
unfolding from_tree
check_goes_on text = refl

-- Whatever the constraints answer, a case that they accept is the one that was read.
pub fields_held : (k : Case) (t : Tree) (fields : List ℕ) → IsRead k → Stands fields 0 (fields_of k) → FieldsHeld (from_constraints k t) fields
unfolding FieldsHeld
fields_held k t fields r s = go (none_broken k t)
  where
    go : (o : R.Result (Unit {0})) → FieldsHeld (o >> found (k, t)) fields
    go (found u) = (r, s)
    go (refused a) = tt
