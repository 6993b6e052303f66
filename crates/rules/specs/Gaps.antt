-- The find-the-gaps call (02, Card 4): the choices of gaps in their order, the text with other gaps, the first choice with which it would be
-- accepted, what the call answers and leaves in the lent lists, and what it promises. Assumes nothing.
use Rattle.std.specs.Prelude.{◌≡◌, true, false, List, [], ◌∷◌, ◌++◌, ◌↔◌, ◌⊎◌, ℕ, zero, suc, ◌^◌, ◌≤◌, ltb, length, get_or}
use Rattle.rules.specs.declared.Answer.{Answer}
use Rattle.rules.specs.declared.Answer.TheVariants.{TooManyChoices, NoChoice}
use Rattle.rules.specs.Result.{Result, found, refused, ◌>>=◌, ◌>>◌}
use Rattle.rules.specs.Case.{NodeLine, D, E, L, Case, read_case}
use Rattle.rules.specs.Print.{printed}
use Rattle.rules.specs.Tree.{Tree, may_claim, walk_tree}
use Rattle.rules.specs.Verdict.{Report, reported, Lent, lists_long, text_short, plan_runs, all_claimed, Found, check, answer_of, states_after, nodes_after, work_after}
use Rattle.rules.specs.Demands.{Borrowed, lent_by}
use Rattle.rules.specs.Writing.{is_less}

-- ---- The choices

-- "e empty nodes in preorder": how many E lines there are.
abbrev pub empty_count : List NodeLine → ℕ
empty_count [] = 0
empty_count (D m ∷ ns) = empty_count ns
empty_count (E m g ∷ ns) = suc (empty_count ns)
empty_count (L a i ∷ ns) = empty_count ns

-- Each choice of a list with g in front; then with g + 1 in front, and so on, n values.
abbrev pub led : ℕ → List (List ℕ) → List (List ℕ)
led g [] = []
led g (c ∷ cs) = (g ∷ c) ∷ led g cs

abbrev pub led_from : ℕ → ℕ → List (List ℕ) → List (List ℕ)
led_from zero g cs = []
led_from (suc n) g cs = led g cs ++ led_from n (suc g) cs

-- "gap choices in dictionary order, first node slowest": e gaps, each 0 to k.
abbrev pub choices : ℕ → ℕ → List (List ℕ)
choices k zero = [] ∷ []
choices k (suc e) = led_from (suc k) 0 (choices k e)

-- "(k + 1) to the power e": how many choices there are.
unfoldable pub power : ℕ → ℕ → ℕ
power k e = suc k ^ e

-- Every gap is at most k; a choice of e gaps.
abbrev pub Within : ℕ → List ℕ → Type 0
Within k [] = Unit {0}
Within k (g ∷ gs) = (g ≤ k) × Within k gs

abbrev pub Choice : ℕ → ℕ → List ℕ → Type 0
Choice k e gs = (length gs ≡ e) × Within k gs

-- ---- The text with other gaps

-- The E lines take the gaps of a choice in turn, the first of them gap a of it.
abbrev pub with_gaps : List ℕ → ℕ → List NodeLine → List NodeLine
with_gaps gs a [] = []
with_gaps gs a (D m ∷ ns) = D m ∷ with_gaps gs a ns
with_gaps gs a (E m g ∷ ns) = E m (get_or gs a 0) ∷ with_gaps gs (suc a) ns
with_gaps gs a (L x i ∷ ns) = L x i ∷ with_gaps gs a ns

-- All else stays as it came.
unfoldable pub case_with : List ℕ → Case → Case
case_with gs k = record {
  head = k.head;
  initial = k.initial;
  actions = k.actions;
  methods = k.methods;
  plan = k.plan;
  nodes = with_gaps gs 0 k.nodes;
  plan_line = k.plan_line;
}

unfoldable pub text_with : List ℕ → Case → List ℕ
text_with gs k = printed (case_with gs k)

-- The gaps that a case claims.
abbrev pub gaps_of : List NodeLine → List ℕ
gaps_of [] = []
gaps_of (D m ∷ ns) = gaps_of ns
gaps_of (E m g ∷ ns) = g ∷ gaps_of ns
gaps_of (L a i ∷ ns) = gaps_of ns

-- ---- The call

-- How many choices of gaps a case has, and a choice of its gaps.
unfoldable pub choice_count : Case → ℕ
choice_count k = power k.head.cues (empty_count k.nodes)

abbrev pub ChoiceOf : Case → List ℕ → Type 0
ChoiceOf k gs = Choice k.head.cues (empty_count k.nodes) gs

unfoldable pub choice_most : ℕ
choice_most = 1000000

-- "15, that power is over 1,000,000, tested after 9, item e"
unfoldable pub few_choices : Case → Result (Unit {0})
few_choices k = elim (ltb choice_most (choice_count k)) [ true ↦ refused (TooManyChoices (empty_count k.nodes)) | false ↦ found tt ]

-- "does 01's checks down to 9", on the text as it came; then 15.
unfoldable pub before_choices : List Lent → List ℕ → Result Case
before_choices lists text = do
  lists_long lists  -- 1
  text_short text  -- 2
  k ← read_case text  -- 3, 4
  plan_runs k  -- 5
  (t, claimed) ← walk_tree k (may_claim k.plan)  -- 6, 7, 8
  all_claimed k claimed  -- 9
  few_choices k  -- 15
  found k

-- What is found stands; or else what is found later.
abbrev pub or_later : Found Tree → Found Tree → Found Tree
or_later (found x) later = found x
or_later (refused r) later = later

-- Of choices in turn, "the first with which the text would be accepted": what its check finds. Or the answer that there is none.
abbrev pub first_accepted : (List ℕ → Found Tree) → Answer → List (List ℕ) → Found Tree
first_accepted checked nothing [] = refused nothing
first_accepted checked nothing (gs ∷ later) = or_later (checked gs) (first_accepted checked nothing later)

-- "tries gap choices in dictionary order [..] and returns the first with which the text would be accepted"; "16, none, given last, item the
-- number tried". The number tried is what the card leaves open.
unfoldable pub find_gaps : ℕ → List Lent → List ℕ → Found Tree
find_gaps tried lists text = do
  k ← before_choices lists text  -- 1 to 9, 15
  first_accepted (λ gs. check lists (text_with gs k)) (NoChoice tried) (choices k.head.cues (empty_count k.nodes))  -- 16

-- The number tried that comes back beside k and n, 0 for a refusal.
unfoldable pub tried_after : ℕ → Found Tree → ℕ
tried_after tried (found x) = tried
tried_after tried (refused r) = 0

-- ---- What the call promises

-- "at least 1 and at most (k + 1) to the power e"
abbrev pub Limited : Result Case → ℕ → Type 0
Limited (found k) n = (1 ≤ n) × (n ≤ choice_count k)
Limited (refused r) n = Unit {0}

-- Demand 1 of the call: "both lists filled as by its check". An equation but for the number tried, "It reports how many it tried, at least 1
-- and at most (k + 1) to the power e": the card leaves it open within these limits.
pub record FindDemand1 (text : List ℕ) (before : Borrowed) (r : Report) (tried : ℕ) (after : Borrowed) : Type 0 where
  pub number : ℕ
  pub limited : Limited (before_choices (lent_by before) text) number
  pub answer : r ≡ reported (answer_of (find_gaps number (lent_by before) text))
  pub answered : tried ≡ tried_after number (find_gaps number (lent_by before) text)
  pub states : after.states ≡ states_after (length before.states) (find_gaps number (lent_by before) text)
  pub nodes : after.nodes ≡ nodes_after (length before.nodes) (find_gaps number (lent_by before) text)
  pub work : after.work ≡ work_after (length before.work)

-- The text with these gaps would be accepted: its check finds this.
abbrev pub WouldBe : List Lent → Case → List ℕ → Case × Tree → Type 0
WouldBe lists k gs x = check lists (text_with gs k) ≡ found x

-- A choice with which the text would be accepted, none ahead of it in dictionary order being such: the first number that differs decides.
pub record FirstChoice (lists : List Lent) (k : Case) (gs : List ℕ) (x : Case × Tree) : Type 0 where
  pub choice : ChoiceOf k gs
  pub accepted : WouldBe lists k gs x
  pub ahead : (ds : List ℕ) (y : Case × Tree) → ChoiceOf k ds → is_less ds gs ≡ true → WouldBe lists k ds y → ⊥

pub record FindAnswers (text : List ℕ) (lists : List Lent) (r : Report) : Type 0 where
  -- Its refusals ahead of the choices are those of the check; or there are too many choices.
  pub checks : (a : Answer) → before_choices lists text ≡ refused a
      → (r ≡ reported a) × ((check lists text ≡ refused a) ⊎ ((k : Case) × (read_case text ≡ found k) × (few_choices k ≡ refused a)))
  -- "Past its other refusals it says "none" exactly if no choice of gaps would be accepted."
  pub none : (k : Case) → before_choices lists text ≡ found k
      → (r.number ≡ 16) ↔ ((gs : List ℕ) (x : Case × Tree) → ChoiceOf k gs → WouldBe lists k gs x → ⊥)
  -- And else it returns the first that would be.
  pub first : (k : Case) → before_choices lists text ≡ found k → (r.number ≡ 16 → ⊥)
      → (gs : List ℕ) × (x : Case × Tree) × FirstChoice lists k gs x × (r ≡ reported (answer_of {A = Tree} (found x)))
  -- The text with the gaps that it claims is the text.
  pub own : (k : Case) → read_case text ≡ found k → text_with (gaps_of k.nodes) k ≡ text
