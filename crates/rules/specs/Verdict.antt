-- The check and replay calls: what each answers, and what it leaves in the lent lists (01, "The check and replay calls"). Assumes nothing.
use Rattle.std.specs.Prelude.{◌≡◌, Bool, true, false, ◌&&◌, not, ℕ, ◌+◌, ◌-◌, ◌*◌, ◌/◌, ◌%◌, ◌<◌, eqb, ltb, length, get_or, replicate}
use mathlib.Core.List.{List, [], ◌∷◌, ◌++◌, map, flatten}
use Rattle.std.proofs.Math.Option.{Option, none, some}
use Rattle.rules.specs.declared.Answer.{Answer}
use Rattle.rules.specs.declared.Answer.TheVariants.{Accepted, ShortList, LongText, Unreadable, OutOfRange, Inapplicable, WrongTask, TooDeep, WrongClaim, Unclaimed, OrderBroken, BeforeBroken, AfterBroken, BetweenBroken, ShortOutput, TooManyChoices, NoChoice, WrongShape, WrongName, WrongId, WrongLetter, SurplusNode, MissingNode}
use Rattle.rules.specs.declared.Node.{Node}
use Rattle.rules.specs.State.{State, word_count, bit, member, states, state_at, first_stop}
use Rattle.rules.specs.Index.{Span}
use Rattle.rules.specs.Result.{Result, found, refused, ◌>>=◌, ◌>>◌}
use Rattle.rules.specs.Case.{NodeLine, D, E, L, Case, read_case}
use Rattle.rules.specs.Tree.{Tree, preorder, root_line, span, may_claim, walk_tree, least_unclaimed}
use Rattle.rules.specs.Constraint.{holds_in, first_broken}

-- ---- The paper's numbers for each answer

-- The columns "No.", "Line" and "Item" of the table, 0 for acceptance; and the k and n that come back, 0 for a refusal.
pub record Report : Type 0 where
  pub number : ℕ
  pub line : ℕ
  pub item : ℕ
  pub cues : ℕ
  pub nodes : ℕ

abbrev pub refusal : ℕ → ℕ → ℕ → Report
refusal n l i = record { number = n; line = l; item = i; cues = 0; nodes = 0 }

unfoldable pub reported : Answer → Report
reported (Accepted cues nodes) = record { number = 0; line = 0; item = 0; cues = cues; nodes = nodes }
reported (ShortList list) = refusal 1 0 list
reported LongText = refusal 2 0 0
reported (Unreadable line field) = refusal 3 line field
reported (OutOfRange line field) = refusal 4 line field
reported (Inapplicable line cue) = refusal 5 line cue
reported (WrongTask line) = refusal 6 line 0
reported (TooDeep line) = refusal 7 line 0
reported (WrongClaim line position) = refusal 8 line position
reported (Unclaimed line position) = refusal 9 line position
reported (OrderBroken line constraint) = refusal 10 line constraint
reported (BeforeBroken line constraint) = refusal 11 line constraint
reported (AfterBroken line constraint) = refusal 12 line constraint
reported (BetweenBroken line constraint) = refusal 13 line constraint
-- "14, output shorter than needed, checked last, line 0, item the bytes needed" (02, Card 2)
reported (ShortOutput needed) = refusal 14 0 needed
-- "15, that power is over 1,000,000 [..] item e; 16, none, given last, item the number tried; both with line 0" (02, Card 4)
reported (TooManyChoices empties) = refusal 15 0 empties
reported (NoChoice tried) = refusal 16 0 tried
-- "17, line missing, surplus [..] or of another shape"; "18, a name not listed for that use [..]"; "19, first line that defines [..]": "each with
-- the line, item 1 in the name list, else 0" (02, Card 6)
reported (WrongShape line item) = refusal 17 line item
reported (WrongName line item) = refusal 18 line item
reported (WrongId line) = refusal 19 line 0
-- "20, a D line with an empty method or an E line with one that isn't; 21, a surplus node [..]; 22, nodes over too soon; line and item as 6 had"
-- (02, Card 7)
reported (WrongLetter line) = refusal 20 line 0
reported (SurplusNode line) = refusal 21 line 0
reported (MissingNode line) = refusal 22 line 0

-- ---- Row by row

-- A lent list: its item in row 1, its length and the length asked.
pub record Lent : Type 0 where
  pub item : ℕ
  pub size : ℕ
  pub need : ℕ

abbrev pub lent : ℕ → ℕ → ℕ → Lent
lent i s n = record { item = i; size = s; need = n }

-- "states 0 to k", "k (0 to 1,000)": how many states at most.
abbrev pub state_most : ℕ
state_most = 1001

-- "the state list needs 8,008 numbers" (02, Card 3); "a list of at least 3,000 node records, and work space of at least 16,384 32-bit numbers"
unfoldable pub state_need : ℕ
state_need = state_most * word_count

unfoldable pub node_need : ℕ
node_need = 3000

unfoldable pub work_need : ℕ
work_need = 16384

unfoldable pub check_lists : ℕ → ℕ → ℕ → List Lent
check_lists state_size node_size workSize = lent 1 state_size state_need ∷ lent 2 node_size node_need ∷ lent 3 workSize work_need ∷ []

-- "number 1 has no item 2 there"
unfoldable pub replay_lists : ℕ → ℕ → List Lent
replay_lists state_size workSize = lent 1 state_size state_need ∷ lent 3 workSize work_need ∷ []

-- "lent lists: one is shorter than asked": "1 state, 2 node, 3 work; first such".
abbrev pub lists_long : List Lent → Result (Unit {0})
lists_long [] = found tt
lists_long (l ∷ ls) = elim (ltb l.size l.need) [ true ↦ refused (ShortList l.item) | false ↦ lists_long ls ]

-- "text: longer than 65,535 bytes"
unfoldable pub text_most : ℕ
text_most = 65535

abbrev pub text_short : List ℕ → Result (Unit {0})
text_short text = elim (ltb text_most (length text)) [ true ↦ refused LongText | false ↦ found tt ]

-- Nothing is wrong, or what is.
abbrev pub unless : {A : Type 0} → (A → Answer) → Option A → Result (Unit {0})
unless wrong none = found tt
unless wrong (some a) = refused (wrong a)

-- "running: first cue that doesn't apply"
unfoldable pub plan_runs : Case → Result (Unit {0})
plan_runs k = unless (Inapplicable k.plan_line) (first_stop k.actions k.plan k.initial 1)

-- "after the walk: least position unclaimed"
unfoldable pub all_claimed : Case → List ℕ → Result (Unit {0})
all_claimed k claimed = unless (Unclaimed k.plan_line) (least_unclaimed claimed k.head.cues 1)

-- States 0 to k of a case.
unfoldable pub states_of : Case → List State
states_of k = states k.actions k.plan k.initial

-- "constraints, nodes in order"
unfoldable pub none_broken : Case → Tree → Result (Unit {0})
none_broken k t = unless (λ r. r) (first_broken k (holds_in (states_of k)) (k.plan_line + 1) (preorder t))

-- The case and what is found besides, or the answer that refuses the text.
abbrev pub Found : Type 0 → Type 0
Found A = Result (Case × A)

-- The rows of the table, "in this order".
unfoldable pub check : List Lent → List ℕ → Found Tree
check lists text = do
  lists_long lists  -- 1
  text_short text  -- 2
  k ← read_case text  -- 3, 4
  plan_runs k  -- 5
  (t, claimed) ← walk_tree k (may_claim k.plan)  -- 6, 20, 7, 8; 22; 21
  all_claimed k claimed  -- 9
  none_broken k t  -- 10, 11, 12, 13
  found (k, t)

-- "The replay call [..] does only the checks down to number 5"
unfoldable pub replay : List Lent → List ℕ → Found (Unit {0})
replay lists text = do
  lists_long lists
  text_short text
  k ← read_case text
  plan_runs k
  found (k, tt)

-- "Accepted: k and the node count n come back"
abbrev pub answer_of : {A : Type 0} → Found A → Answer
answer_of (found (k, a)) = Accepted k.head.cues k.head.nodes
answer_of (refused r) = r

-- ---- What the lent lists hold afterwards, to their ends

-- "the rest is zero"
unfoldable pub filled : {A : Type 0} → ℕ → A → List A → List A
filled size zeroed l = l ++ replicate (size - length l) zeroed

-- "the state list holds states 0 to k, each written to its own stretch". "Refused: both lists are zero throughout."
unfoldable pub states_after : {A : Type 0} → ℕ → Found A → List ℕ
states_after size (found (k, a)) = filled size 0 (flatten (states_of k))
states_after size (refused r) = replicate size 0

-- The same, number by number: state i has the numbers from `word_count * i` on, and "proposition p is bit (p mod 64) of word (p div 64)".
abbrev pub Laid : List State → List ℕ → Type 0
Laid ss l = (i p : ℕ) → i < length ss → p < 64 * word_count → bit (get_or l (word_count * i + p / 64) 0) (p % 64) ≡ member (state_at ss i) p

-- "letter code (D 1, E 2, L 3), method or action, place (0 for D), doubled start and doubled end"
unfoldable pub node_record : NodeLine → Span → Node
node_record (D m) s = record { letter = 1; label = m; place = 0; start = s.start; end = s.end }
node_record (E m g) s = record { letter = 2; label = m; place = g; start = s.start; end = s.end }
node_record (L a i) s = record { letter = 3; label = a; place = i; start = s.start; end = s.end }

unfoldable pub no_node : Node
no_node = record { letter = 0; label = 0; place = 0; start = 0; end = 0 }

unfoldable pub nodes_after : ℕ → Found Tree → List Node
nodes_after size (found (k, t)) = filled size no_node (map (λ x. node_record (root_line x) (span x)) (preorder t))
nodes_after size (refused r) = replicate size no_node

-- "Work space is zero after each call."
unfoldable pub work_after : ℕ → List ℕ
work_after size = replicate size 0

-- ---- Readable, inside the limits

-- Number n is not what refuses.
abbrev pub refused_not_by : {A : Type 0} → ℕ → Result A → Bool
refused_not_by n (found a) = true
refused_not_by n (refused r) = not (eqb (reported r).number n)

-- "Readable is what 3 doesn't refuse"
unfoldable pub readable : List ℕ → Bool
readable text = refused_not_by 3 (read_case text)

-- Rows 6, 20, 7, 22 and 21 alone, with every claim let pass, don't say 7.
abbrev pub levels_fit : Result Case → Bool
levels_fit (found k) = refused_not_by 7 (walk_tree k (λ a i claimed. true))
levels_fit (refused r) = true

-- "inside the limits is what 2, 4 and 7 don't; the table settles both from the text, whatever a call answers"
unfoldable pub inside_limits : List ℕ → Bool
inside_limits text = refused_not_by 2 (text_short text) && (refused_not_by 4 (read_case text) && levels_fit (read_case text))
