-- The find-the-gaps call row by row: with lists that are long enough the rows from reading on decide; what rows 1 and 2 refuse is refused; and the
-- limits of the number tried are those of the case that was read. Assumes nothing.
use mathlib.Core.Path.{◌≡◌, refl, ap, ◌∙◌}
use mathlib.Core.List.{List}
use Prim.Native.Nat.{ℕ, ◌≤◌}
use native.Mathlib.Omega.{arith}
use borrow.Author.Tests.{le-ltb}
use Rattle.rules.specs.declared.Answer.{Answer}
use Rattle.rules.specs.declared.Answer.TheVariants.{NoChoice}
use Rattle.rules.specs.Result.{Result, found, refused, ◌>>=◌, ◌>>◌}
use Rattle.rules.specs.Case.{Case, read_case}
use Rattle.rules.specs.Tree.{may_claim, walk_tree}
use Rattle.rules.specs.Verdict.{Lent, state_need, node_need, work_need, check_lists, lists_long, text_short, plan_runs, all_claimed, check}
use Rattle.rules.specs.Gaps.{empty_count, choices, text_with, few_choices, first_accepted, before_choices, find_gaps, Limited}
use Rattle.rules.proofs.Judgement.Rows.{from_tree, from_run, from_text}
use Rattle.rules.proofs.Gaps.Answers.{as_rows}
use Rattle.judge.specs.Phases.{from_claimed}
use Rattle.judge.proofs.Verdicts.{short_of}
use Rattle.finder.specs.Finding.{from_gaps, LimitedBy}

-- ---- Row 1

pub all_long : (states nodes work : ℕ) → state_need ≤ states → node_need ≤ nodes → work_need ≤ work → lists_long (check_lists states nodes work) ≡ found tt
unfolding check_lists
all_long states nodes work s n w =
    λ j. short_of (le-ltb states state_need s j) (le-ltb nodes node_need n j) (le-ltb work work_need w j)

module _ (lists : List Lent) (long : lists_long lists ≡ found tt) where
  pub checks_rows : (text : List ℕ) → check lists text ≡ from_text from_tree text
  unfolding check from_tree from_run from_text
  checks_rows text = ap (λ (o : Result (Unit {0})). o >> from_text from_tree text) long

  -- So the text with a choice's gaps is checked by them too.
  pub finds_rows : (number : ℕ) (text : List ℕ) → find_gaps number lists text ≡ from_text (from_claimed (from_gaps number)) text
  finds_rows number text =
      as_rows number lists text long
      ∙ (λ j. from_text (λ k. walk_tree k (may_claim k.plan) >>= λ (t, claimed). all_claimed k claimed
      >> (few_choices k
      >> first_accepted (λ gs. checks_rows (text_with gs k) j) (NoChoice number) (choices k.head.cues (empty_count k.nodes)))) text)

-- ---- Rows 1 and 2

-- A refusal by the first two of three steps.
then_refused : {A B : Type 0} (a : Answer) (o p : Result (Unit {0})) (rest : Result A) (f : A → Result B) → ◌>>◌ {B = Unit {0}} o p ≡ refused a
    → ((o >> (p >> rest)) >>= f) ≡ refused a
then_refused a (found u) (found v) rest f e = let z : ◌≡◌ {A = ℕ} 0 1 = cc in absurd (omega arith)
then_refused a (found u) (refused r) rest f e = let same : r ≡ a = cc in ap (λ (x : Answer). refused x) same
then_refused a (refused r) p rest f e = let same : r ≡ a = cc in ap (λ (x : Answer). refused x) same

pub finds_refused : (number : ℕ) (lists : List Lent) (text : List ℕ) (a : Answer) → ◌>>◌ {B = Unit {0}} (lists_long lists) (text_short text) ≡ refused a
    → find_gaps number lists text ≡ refused a
unfolding find_gaps before_choices
finds_refused number lists text a e = then_refused a (lists_long lists) (text_short text) _ _ e

-- ---- The limits of the number tried

module _ (number : ℕ) where
  within_bind : {A : Type 0} (o : Result A) (f : A → Result Case) → ((x : A) → o ≡ found x → Limited (f x) number) → Limited (o >>= f) number
  within_bind (found x) f h = h x refl
  within_bind (refused r) f h = tt

  within_then : {A : Type 0} (o : Result A) (m : Result Case) → Limited m number → Limited (o >> m) number
  within_then (found x) m h = h
  within_then (refused r) m h = tt

  pub limits_hold : (lists : List Lent) (text : List ℕ) → LimitedBy text number → Limited (before_choices lists text) number
  unfolding before_choices
  limits_hold lists text h =
      within_then (lists_long lists) _ (within_then (text_short text) _
      (within_bind (read_case text) _ (λ k r. within_then (plan_runs k) _
      (within_bind (walk_tree k (may_claim k.plan)) _ (λ (t, claimed) w. within_then (all_claimed k claimed) _
      (within_then (few_choices k) (found k) (h k r)))))))
