-- "what is found has the form's tree and plan" (02, Card 6): it is what the check finds of the made case with some gaps, whose plan and model are
-- the made case's and whose nodes are those of the form. Assumes nothing.
use mathlib.Core.Path.{◌≡◌, refl, sym, ap, ◌∙◌, subst}
use mathlib.Core.List.{List}
use Prim.Native.Nat.{ℕ}
use Rattle.rules.specs.declared.Answer.TheVariants.{NoChoice}
use Rattle.rules.specs.Result.{found, refused}
use Rattle.rules.specs.Case.{Method, Case, read_case}
use Rattle.rules.specs.Print.{printed}
use Rattle.rules.specs.Tree.{Tree, may_claim, walk_tree}
use Rattle.rules.specs.Verdict.{Found, Lent, lists_long, text_short, plan_runs, all_claimed, check}
use Rattle.rules.specs.Writing.{room_for}
use Rattle.rules.specs.Gaps.{empty_count, choices, case_with, text_with, ChoiceOf, few_choices, before_choices, first_accepted, find_gaps}
use Rattle.rules.specs.Naming.{Names, read_names}
use Rattle.rules.specs.Form.{Form, read_form, form_lines, ids_right}
use Rattle.rules.specs.FormFaults.{NamesFault, NamesAre, FormFault, FormIs}
use Rattle.rules.specs.Import.{made_header, made_case, made_from, import_form, TreeFor, HasForm}
use Rattle.rules.proofs.Judgement.Each.{Each, first_in}
use Rattle.rules.proofs.Judgement.Theorem.{accepts_rules}
use Rattle.rules.proofs.Gaps.{reads_with, choices_are, found_first}
use Rattle.rules.proofs.Gaps.Answers.{FirstSays}
use Rattle.rules.proofs.Import.Says.{Says}
use Rattle.rules.proofs.Import.NamesShow.{names_say, distinct_names}
use Rattle.rules.proofs.Import.LinesShow.{lines_say}
use Rattle.rules.proofs.Import.Lines.{IfFound, found_bind, found_then, found_with, GoodForm, form_good, Counts, form_counts}
use Rattle.rules.proofs.Import.Ids.{RightIds, ids_right_lem}
use Rattle.rules.proofs.Import.Trees.{tree_hangs}
use Rattle.rules.proofs.Import.Made.{made_reads}

-- ---- What the find-the-gaps call finds

-- The text reads as a case, and its check with some choice of gaps finds this.
record FoundWith (lists : List Lent) (text : List ℕ) (x : Case × Tree) : Type 0 where
  came : Case
  gaps : List ℕ
  reads : read_case text ≡ found came
  choice : ChoiceOf came gaps
  checks : check lists (text_with gaps came) ≡ found x

before_reads : (lists : List Lent) (text : List ℕ) → IfFound (λ k. read_case text ≡ found k) (before_choices lists text)
unfolding before_choices
before_reads lists text =
    let Q : Case → Type 0 = λ k. read_case text ≡ found k in
    found_then Q (lists_long lists) _ (λ u a. found_then Q (text_short text) _ (λ v b. found_bind Q (read_case text) _ (λ k e.
    found_then Q (plan_runs k) _ (λ w c. found_bind Q (walk_tree k (may_claim k.plan)) _ (λ (t, claimed) d.
    found_then Q (all_claimed k claimed) _ (λ x f. found_then Q (few_choices k) _ (λ y g. e)))))))

find_says : (n : ℕ) (lists : List Lent) (text : List ℕ) → IfFound (FoundWith lists text) (find_gaps n lists text)
unfolding find_gaps
find_says n lists text =
    found_with (λ k. read_case text ≡ found k) (FoundWith lists text) (before_choices lists text) _ (before_reads lists text)
    (λ k e. go k e (first_accepted (λ gs. check lists (text_with gs k)) (NoChoice n) (choices k.head.cues (empty_count k.nodes)))
    (found_first (λ gs. check lists (text_with gs k)) (NoChoice n) (choices k.head.cues (empty_count k.nodes))))
  where
    go : (k : Case) → read_case text ≡ found k → (f : Found Tree)
        → FirstSays (λ gs. check lists (text_with gs k)) (NoChoice n) (choices k.head.cues (empty_count k.nodes)) f → IfFound (FoundWith lists text) f
    go k e (found x) w = record {
      came = k;
      gaps = w.it;
      reads = e;
      choice = choices_are k.head.cues (empty_count k.nodes) w.it (first_in _ w);
      checks = w.bad;
    }
    go k e (refused r) w = tt

-- ---- The made case

record MadeFrom (text names form : List ℕ) (made : Case) : Type 0 where
  model : Case
  listed : Names
  lines : Form
  reads : read_case text ≡ found model
  lists : read_names model.head names ≡ found listed
  forms : read_form model listed form ≡ found lines
  right : ids_right lines ≡ found tt
  is : made ≡ made_case model lines

made_says : (lists : List Lent) (text names form : List ℕ) → IfFound (MadeFrom text names form) (made_from lists text names form)
unfolding made_from
made_says lists text names form =
    let Q = MadeFrom text names form in
    found_then Q (lists_long lists) _ (λ u a. found_then Q (text_short text) _ (λ v b. found_bind Q (read_case text) _ (λ k e.
    found_bind Q (read_names k.head names) _ (λ ns c. found_bind Q (read_form k ns form) _ (λ f d. found_then Q (ids_right f) _
    (λ w r. record { model = k; listed = ns; lines = f; reads = e; lists = c; forms = d; right = r; is = refl }))))))

-- ---- All of it

module _ (lists : List Lent) (text names form : List ℕ) (made : Case) (m : MadeFrom text names form made) (k : Case) (t : Tree)
    (w : FoundWith lists (printed made) (k, t)) where
  abbrev this : Case
  this = made_case m.model m.lines

  good : GoodForm m.model m.lines
  good =
      let k = m.model in
      let ns = m.listed in
      let n = subst (Says (NamesAre k.head names) (NamesFault k.head names)) m.lists (names_say k.head names) in
      let says = lines_say k ns form (distinct_names n.tasks) (distinct_names n.methods) in
      form_good k ns form m.lines n.methods.counted (subst (Says (FormIs k ns form) (FormFault k ns form)) m.forms says)

  this_reads : read_case (printed this) ≡ found this
  this_reads =
      made_reads text m.model m.lines w.came m.reads good (ap (λ (c : Case). read_case (printed c)) (sym m.is) ∙ w.reads)

  came_this : w.came ≡ this
  came_this = let a = w.reads in let b = this_reads in let c = m.is in cc

  -- What is found is the made case with these gaps.
  found_this : k ≡ case_with w.gaps this
  found_this =
      let choice = subst (λ (c : Case). ChoiceOf c w.gaps) came_this w.choice in
      let a = (accepts_rules lists (text_with w.gaps w.came) k t w.checks).0 in
      let b = reads_with (printed this) this w.gaps this_reads choice in
      let c = came_this in
      cc

  same_methods : k.methods ≡ m.model.methods
  unfolding case_with made_case
  same_methods = ap (λ (c : Case). c.methods) found_this

  found_tree_lem : TreeFor (form_lines m.lines) t m.lines.root
  unfolding case_with made_case
  found_tree_lem =
      let (rules, same) = (accepts_rules lists (text_with w.gaps w.came) k t w.checks).1 in
      let counts = subst (λ (ms : List Method). Each (Counts ms) (form_lines m.lines)) (sym same_methods) (form_counts m.model m.lines good) in
      let right = subst (IfFound (λ u. RightIds m.lines)) m.right (ids_right_lem m.lines) in
      subst (λ (x : Tree). TreeFor (form_lines m.lines) x m.lines.root) same
      (tree_hangs k m.lines w.gaps counts right rules.tree k.head.goal rules.fitting
      (rules.preordered ∙ ap (λ (c : Case). c.nodes) found_this))

  found_form : HasForm text names form k t
  unfolding case_with made_case made_header
  found_form = record {
    model = m.model;
    listed = m.listed;
    lines = m.lines;
    reads = m.reads;
    lists = m.lists;
    forms = m.forms;
    right = m.right;
    plan = ap (λ (c : Case). c.plan) found_this;
    tree = found_tree_lem;
    initial = ap (λ (c : Case). c.initial) found_this;
    actions = ap (λ (c : Case). c.actions) found_this;
    methods = same_methods;
    goal = ap (λ (c : Case). c.head.goal) found_this;
  }

import_says : (n : ℕ) (lists : List Lent) (size : ℕ) (text names form : List ℕ)
    → IfFound (λ x. HasForm text names form x.0 x.1.0) (import_form n lists size text names form)
unfolding import_form
import_says n lists size text names form =
    let Q : Case × (Tree × List ℕ) → Type 0 = λ x. HasForm text names form x.0 x.1.0 in
    found_with (MadeFrom text names form) Q (made_from lists text names form) _ (made_says lists text names form)
    (λ made m. found_then Q (room_for size (printed made)) _
    (λ u r. found_with (FoundWith lists (printed made)) Q (find_gaps n lists (printed made)) _ (find_says n lists (printed made))
    (λ (k, t) w. found_form lists text names form made m k t w)))

pub has_form : (n : ℕ) (lists : List Lent) (size : ℕ) (text names form : List ℕ) (k : Case) (t : Tree) (made : List ℕ)
    → import_form n lists size text names form ≡ found (k, (t, made)) → HasForm text names form k t
has_form n lists size text names form k t made e =
    subst (IfFound (λ x. HasForm text names form x.0 x.1.0)) e (import_says n lists size text names form)
