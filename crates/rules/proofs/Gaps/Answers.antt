-- What the find-the-gaps call answers (02, Card 4): its refusals ahead of the choices are the check's or that there are too many; past them it
-- finds the first choice in dictionary order with which the text would be accepted, or says that there is none. Assumes nothing.
use mathlib.Core.Path.{◌≡◌, refl, sym, ap, ◌∙◌, subst}
use mathlib.Core.Bool.{Bool, true, false, false≢true}
use mathlib.Core.List.{List, [], ◌∷◌}
use mathlib.Core.Logic.{◌↔◌, ◌⊎◌, inl, inr}
use Prim.Native.Nat.{ℕ}
use native.Mathlib.Omega.{arith}
use Rattle.rules.specs.declared.Answer.{Answer}
use Rattle.rules.specs.declared.Answer.TheVariants.{NoChoice}
use Rattle.rules.specs.Result.{Result, found, refused, ◌>>=◌, ◌>>◌}
use Rattle.rules.specs.Case.{Case, read_case}
use Rattle.rules.specs.Tree.{Tree, may_claim, walk_tree}
use Rattle.rules.specs.Verdict.{Found, Lent, reported, lists_long, text_short, plan_runs, all_claimed, check, answer_of}
use Rattle.rules.specs.Refusals.{Each, First}
use Rattle.rules.specs.Gaps.{empty_count, choices, text_with, ChoiceOf, few_choices, before_choices, or_later, first_accepted, find_gaps, WouldBe, FirstChoice, FindAnswers}
use Rattle.rules.proofs.Judgement.Each.{each_nil, each_cons, first_here, first_later, first_in}
use Rattle.rules.proofs.Judgement.Rows.{from_constraints, from_run, from_text}
use Rattle.rules.proofs.Gaps.Texts.{own_gaps}
use Rattle.rules.proofs.Gaps.Order.{choices_are, choices_all, choices_ordered}

-- ---- Found or refused

abbrev is_found : {A : Type 0} → Result A → Bool
is_found (found a) = true
is_found (refused r) = false

not_both : {A : Type 0} {o : Result A} {a : A} {r : Answer} → o ≡ found a → o ≡ refused r → ⊥
not_both p q = false≢true (sym (ap is_found q) ∙ ap is_found p)

one_answer : {A : Type 0} (r a : Answer) → ◌≡◌ {A = Result A} (refused r) (refused a) → r ≡ a
one_answer r a e = cc

-- ---- The first choice that is accepted

module _ (checked : List ℕ → Found Tree) (nothing : Answer) where
  -- A choice is refused: nothing is found with it.
  abbrev pub IsRefused : List ℕ → Type 0
  IsRefused gs = (x : Case × Tree) → checked gs ≡ found x → ⊥

  -- The first of choices with which something is found, and that is it; or each is refused.
  abbrev pub FirstSays : List (List ℕ) → Found Tree → Type 0
  FirstSays cs (found x) = First IsRefused (λ gs. checked gs ≡ found x) cs
  FirstSays cs (refused r) = (r ≡ nothing) × Each IsRefused cs

  pub found_first : (cs : List (List ℕ)) → FirstSays cs (first_accepted checked nothing cs)
  found_first [] = (refl, each_nil IsRefused)
  found_first (gs ∷ cs) = go (checked gs) refl (first_accepted checked nothing cs) (found_first cs)
    where
      later : IsRefused gs → (f : Found Tree) → FirstSays cs f → FirstSays (gs ∷ cs) f
      later n (found x) w = first_later gs cs n w
      later n (refused r) (e, w) = (e, each_cons IsRefused gs cs n w)

      go : (f : Found Tree) → checked gs ≡ f → (rest : Found Tree) → FirstSays cs rest → FirstSays (gs ∷ cs) (or_later f rest)
      go (found x) e rest w = first_here gs cs e
      go (refused r) e rest w = later (λ x q. not_both q e) rest w

-- ---- Row by row

-- The choices in turn: what is left to do of a case that has passed the rows ahead of them.
abbrev pub from_choices : ℕ → List Lent → Case → Found Tree
from_choices number lists k =
    first_accepted (λ gs. check lists (text_with gs k)) (NoChoice number) (choices k.head.cues (empty_count k.nodes))

-- From row 6 on.
abbrev pub from_nodes : ℕ → List Lent → Case → Found Tree
from_nodes number lists k =
    walk_tree k (may_claim k.plan) >>= λ (t, claimed). all_claimed k claimed >> (few_choices k >> from_choices number lists k)

-- Steps joined from the left are joined from the right.
then_bind : {A B C : Type 0} (o : Result A) (m : Result B) (f : B → Result C) → ((o >> m) >>= f) ≡ (o >> (m >>= f))
then_bind (found a) m f = refl
then_bind (refused r) m f = refl

bind_bind : {A B C : Type 0} (o : Result A) (m : A → Result B) (f : B → Result C) → ((o >>= m) >>= f) ≡ (o >>= λ a. m a >>= f)
bind_bind (found a) m f = refl
bind_bind (refused r) m f = refl

module _ (number : ℕ) (lists : List Lent) where
  choices_row : (k : Case) (claimed : List ℕ)
      → ((all_claimed k claimed >> (few_choices k >> found k)) >>= from_choices number lists)
      ≡ (all_claimed k claimed >> (few_choices k >> from_choices number lists k))
  choices_row k claimed =
      then_bind (all_claimed k claimed) (few_choices k >> found k) (from_choices number lists)
      ∙ ap (λ (m : Found Tree). all_claimed k claimed >> m) (then_bind (few_choices k) (found k) (from_choices number lists))

  nodes_row : (k : Case)
      → ((plan_runs k >> (walk_tree k (may_claim k.plan) >>= λ (t, claimed). all_claimed k claimed >> (few_choices k >> found k))) >>= from_choices number lists)
      ≡ (plan_runs k >> from_nodes number lists k)
  nodes_row k =
      let walk = walk_tree k (may_claim k.plan) in
      let rest : Tree × List ℕ → Result Case = λ (t, claimed). all_claimed k claimed >> (few_choices k >> found k) in
      then_bind (plan_runs k) (walk >>= rest) (from_choices number lists)
      ∙ ap (λ (m : Found Tree). plan_runs k >> m)
      (bind_bind walk rest (from_choices number lists) ∙ (λ j. walk >>= λ (t, claimed). choices_row k claimed j))

  -- With lists that are long enough, from row 2 on.
  pub as_rows : (text : List ℕ) → lists_long lists ≡ found tt → find_gaps number lists text ≡ from_text (λ k. from_nodes number lists k) text
  unfolding find_gaps before_choices from_text from_run
  as_rows text e =
      let body : Case → Result Case = λ k. plan_runs k
      >> (walk_tree k (may_claim k.plan) >>= λ (t, claimed). all_claimed k claimed >> (few_choices k >> found k)) in
      ap (λ (o : Result (Unit {0})). (o >> (text_short text >> (read_case text >>= body))) >>= from_choices number lists) e
      ∙ then_bind (text_short text) (read_case text >>= body) (from_choices number lists)
      ∙ ap (λ (m : Found Tree). text_short text >> m)
      (bind_bind (read_case text) body (from_choices number lists) ∙ (λ j. read_case text >>= λ k. nodes_row k j))

-- ---- Ahead of the choices

-- A refusal by two lots of rows with the same first one: by that, or by what comes after it.
module _ (a : Answer) (X : Type 0) where
  row_bind : {A B C : Type 0} (o : Result A) (f : A → Result B) (g : A → Result C)
      → ((x : A) → o ≡ found x → f x ≡ refused a → (g x ≡ refused a) ⊎ X) → (o >>= f) ≡ refused a → ((o >>= g) ≡ refused a) ⊎ X
  row_bind (found x) f g later e = later x refl e
  row_bind {B = B} (refused r) f g later e = inl (ap (λ (z : Answer). refused z) (one_answer {A = B} r a e))

  row_then : {A B C : Type 0} (o : Result A) (m : Result B) (n : Result C) → (m ≡ refused a → (n ≡ refused a) ⊎ X) → (o >> m) ≡ refused a
      → ((o >> n) ≡ refused a) ⊎ X
  row_then (found x) m n later e = later e
  row_then {B = B} (refused r) m n later e = inl (ap (λ (z : Answer). refused z) (one_answer {A = B} r a e))

-- The last row refuses.
last_row : (a : Answer) (k : Case) (o : Result (Unit {0})) → (o >> found k) ≡ refused a → o ≡ refused a
last_row a k (found u) e = absurd (not_both refl e)
last_row a k (refused r) e = ap (λ (z : Answer). refused z) (one_answer {A = Case} r a e)

-- There are too many choices.
abbrev TooMany : List ℕ → Answer → Type 0
TooMany text a = (k : Case) × (read_case text ≡ found k) × (few_choices k ≡ refused a)

before_refused : (text : List ℕ) (lists : List Lent) (a : Answer) → before_choices lists text ≡ refused a
    → (check lists text ≡ refused a) ⊎ TooMany text a
unfolding before_choices check
before_refused text lists a =
    let X = TooMany text a in
    row_then a X (lists_long lists) _ _ (row_then a X (text_short text) _ _
    (row_bind a X (read_case text) _ _ (λ k r. row_then a X (plan_runs k) _ _
    (row_bind a X (walk_tree k (may_claim k.plan)) _ _ (λ (t, claimed) w. row_then a X (all_claimed k claimed) _ (from_constraints k t)
    (λ e. inr (k, r, last_row a k (few_choices k) e)))))))

-- ---- Past them

module _ (lists : List Lent) (k : Case) (number : ℕ) where
  abbrev Tried : Found Tree → Type 0
  Tried f = FirstSays (λ gs. check lists (text_with gs k)) (NoChoice number) (choices k.head.cues (empty_count k.nodes)) f

  tried : Tried (from_choices number lists k)
  tried = found_first (λ gs. check lists (text_with gs k)) (NoChoice number) (choices k.head.cues (empty_count k.nodes))

  none_says : (f : Found Tree) → Tried f
      → ((reported (answer_of f)).number ≡ 16) ↔ ((gs : List ℕ) (x : Case × Tree) → ChoiceOf k gs → WouldBe lists k gs x → ⊥)
  unfolding reported
  none_says (found x) w = (
    λ e. absurd (omega arith),
    λ n. absurd (n w.it x (choices_are k.head.cues (empty_count k.nodes) w.it (first_in _ w)) w.bad),
  )
  none_says (refused r) (e, w) = (
    λ n gs x c. w gs (choices_all k.head.cues (empty_count k.nodes) gs c) x,
    λ n. ap (λ (z : Answer). (reported z).number) e,
  )

  first_says : (f : Found Tree) → Tried f → ((reported (answer_of f)).number ≡ 16 → ⊥)
      → (gs : List ℕ) × (x : Case × Tree) × FirstChoice lists k gs x × (reported (answer_of f) ≡ reported (answer_of {A = Tree} (found x)))
  unfolding reported
  first_says (found x) w n =
      let c = k.head.cues in
      let e = empty_count k.nodes in (
        w.it,
        x,
        record {
          choice = choices_are c e w.it (first_in _ w);
          accepted = w.bad;
          ahead = λ ds y d l. w.good ds (choices_ordered c e w.before w.it w.after w.split ds d l) y;
        },
        refl,
      )
  first_says (refused r) (e, w) n = absurd (n (ap (λ (z : Answer). (reported z).number) e))

pub find_answers : (text : List ℕ) (lists : List Lent) (number : ℕ) → FindAnswers text lists (reported (answer_of (find_gaps number lists text)))
unfolding find_gaps
find_answers text lists number = record {
  checks = λ a e. (
    ap (λ (r : Result Case). reported (answer_of (r >>= from_choices number lists))) e,
    before_refused text lists a e,
  );
  none = λ k e. subst (λ (r : Result Case). ((reported (answer_of (r >>= from_choices number lists))).number ≡ 16)
      ↔ ((gs : List ℕ) (x : Case × Tree) → ChoiceOf k gs → WouldBe lists k gs x → ⊥)) (sym e)
      (none_says lists k number (from_choices number lists k) (tried lists k number));
  first = λ k e. subst (λ (r : Result Case). ((reported (answer_of (r >>= from_choices number lists))).number ≡ 16 → ⊥)
      → (gs : List ℕ) × (x : Case × Tree) × FirstChoice lists k gs x
      × (reported (answer_of (r >>= from_choices number lists)) ≡ reported (answer_of {A = Tree} (found x)))) (sym e)
      (first_says lists k number (from_choices number lists k) (tried lists k number));
  own = λ k e. own_gaps text k e;
}
