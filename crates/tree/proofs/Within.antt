-- Line n of a case starts at byte n - 1 or later, since reading a line moves on by one byte at least: so the P line's number is at most the
-- text's length. Assumes nothing.
use mathlib.Core.Path.{◌≡◌, refl, sym, ap, subst, ◌∙◌}
use mathlib.Core.Bool.{Bool, true, false, ◌&&◌, false≢true}
use mathlib.Core.List.{List, [], ◌∷◌, ◌++◌}
use mathlib.Core.Option.{Option, none, some}
use Prim.Native.Nat.{ℕ, zero, suc, ◌+◌, ◌≤◌, ◌<◌}
use native.Mathlib.Decide.{dec_lt}
use native.Mathlib.Omega.{arith}
use lib.Dec.{eqb, leb}
use lib.ListN.{length, drop, drop_of_length-le}
use Rattle.rules.specs.declared.Header.{Header}
use Rattle.rules.specs.Text.{is_comma, is_feed, field_of, is_plain, value_of, Number, number, not_plain, missing, number_in, number_after, number_at, letter_of, letter_at, ended, surplus, ending_of, ending_at, has_feed, feed_follows}
use Rattle.rules.specs.Table as T
use Rattle.rules.specs.Table.{Role, Item, one, Row, row_of, role_number, in_range, taken, out, within, Value, scalar, listed, ItemRead, item, follow_taken, with_member, least_after, read_members, read_list, read_item, LineRead, line, follow_item, with_value, finish_line, read_items, read_row, read_letter, read_line}
use Rattle.rules.specs.Result.{Result, found, refused, ◌>>=◌, ◌>>◌}
use Rattle.rules.specs.Case.{Case, Constraint, Method, NodeLine, Valued, scalar_at, header_of, initial_of, action_of, as_constraint, plan_of, as_node, Read, read_as, one_line, many, one_method, no_surplus, read_body, no_header, read_from, read_case}
use Rattle.rules.specs.State.{Action}
use Rattle.rules.specs.Verdict.{text_most}
use Rattle.fields.specs.Directory.{IsRead}

-- Two readings that differ are not the same.
apart : {A : Type 0} → ◌≡◌ {A = ℕ} 0 1 → A
apart z = absurd (omega arith)

-- ---- A field and an item move on

abbrev NumberAhead : ℕ → Number → Type 0
NumberAhead place (number v next) = place ≤ next
NumberAhead place not_plain = Unit {0}
NumberAhead place missing = Unit {0}

number_of_ahead : (place : ℕ) (field : List ℕ) → NumberAhead place (number_in (place + 1) field)
number_of_ahead place field = go (is_plain field)
  where
    go : (b : Bool) → NumberAhead place (elim b [ true ↦ number (value_of 0 field) (place + 1 + length field) | false ↦ not_plain ])
    go true = omega arith
    go false = tt

number_ahead : (text : List ℕ) (place : ℕ) → NumberAhead place (number_at text place)
unfolding number_at
number_ahead text place = after (drop place text)
  where
    after : (l : List ℕ) → NumberAhead place (number_after place l)
    after [] = tt
    after (b ∷ bs) = go (is_comma b)
      where
        go : (c : Bool) → NumberAhead place (elim c [ true ↦ number_in (place + 1) (field_of bs) | false ↦ missing ])
        go true = number_of_ahead place (field_of bs)
        go false = tt

abbrev ItemAhead : ℕ → ItemRead → Type 0
ItemAhead place (item v field next) = place ≤ next
ItemAhead place (ItemRead.unreadable field) = Unit {0}
ItemAhead place (ItemRead.outside field) = Unit {0}

item_from : (p q : ℕ) (r : ItemRead) → p ≤ q → ItemAhead q r → ItemAhead p r
item_from p q (item v field next) h a = omega arith
item_from p q (ItemRead.unreadable field) h a = tt
item_from p q (ItemRead.outside field) h a = tt

taken_ahead : (ok : ℕ → Bool) (place : ℕ) (x : Number) (field : ℕ) (rest : ℕ → ℕ → ItemRead) → NumberAhead place x
    → ((v next : ℕ) → ItemAhead next (rest v next)) → ItemAhead place (follow_taken (within ok x) field rest)
taken_ahead ok place (number v next) field rest a f = go (ok v)
  where
    go : (b : Bool) → ItemAhead place (follow_taken (elim b [ true ↦ taken v next | false ↦ out ]) field rest)
    go true = item_from place next (rest v next) a (f v next)
    go false = tt
taken_ahead ok place not_plain field rest a f = tt
taken_ahead ok place missing field rest a f = tt

member_ahead : (place v : ℕ) (r : ItemRead) → ItemAhead place r → ItemAhead place (with_member v r)
member_ahead place v (item (scalar w) field next) a = a
member_ahead place v (item (listed vs) field next) a = a
member_ahead place v (ItemRead.unreadable field) a = tt
member_ahead place v (ItemRead.outside field) a = tt

members_ahead : (text : List ℕ) (ok : ℕ → Bool) (ascending : Bool) (count low field place : ℕ)
    → ItemAhead place (read_members text ok ascending count low field place)
members_ahead text ok ascending zero low field place = omega arith
members_ahead text ok ascending (suc count) low field place =
    taken_ahead (λ v. leb low v && ok v) place (number_at text place) field
    (λ v next. with_member v (read_members text ok ascending count (least_after ascending v) (field + 1) next)) (number_ahead text place)
    (λ v next. member_ahead next v (read_members text ok ascending count (least_after ascending v) (field + 1) next)
    (members_ahead text ok ascending count (least_after ascending v) (field + 1) next))

list_ahead : (text : List ℕ) (count? ok : ℕ → Bool) (ascending : Bool) (field place : ℕ) → ItemAhead place (read_list text count? ok ascending field place)
unfolding read_list
list_ahead text count? ok ascending field place =
    taken_ahead count? place (number_at text place) field (λ count next. read_members text ok ascending count 0 (field + 1) next) (number_ahead text place)
    (λ count next. members_ahead text ok ascending count 0 (field + 1) next)

item_ahead : (text : List ℕ) (h : Header) (n : ℕ) (before : List ℕ) (i : Item) (field place : ℕ) → ItemAhead place (read_item text h n before i field place)
unfolding read_item
item_ahead text h n before (one kind) field place =
    taken_ahead (in_range h n before kind) place (number_at text place) field (λ v next. item (scalar v) (field + 1) next) (number_ahead text place)
    (λ v next. omega arith)
item_ahead text h n before T.set field place = list_ahead text (in_range h n before T.memberCount) (in_range h n before T.proposition) true field place
item_ahead text h n before T.subtaskList field place = list_ahead text (in_range h n before (T.up_to 32)) (in_range h n before T.task) false field place
item_ahead text h n before T.cues field place = members_ahead text (in_range h n before T.an_action) false h.cues 0 field place

-- ---- So does a line

abbrev LineAhead : ℕ → LineRead → Type 0
LineAhead place (line l vs next) = place ≤ next
LineAhead place (LineRead.unreadable field) = Unit {0}
LineAhead place (LineRead.outside field) = Unit {0}

value_ahead : (p q : ℕ) (v : Value) (r : LineRead) → p ≤ q → LineAhead q r → LineAhead p (with_value v r)
value_ahead p q v (line l vs next) h a = omega arith
value_ahead p q v (LineRead.unreadable field) h a = tt
value_ahead p q v (LineRead.outside field) h a = tt

item_then : (place : ℕ) (r : ItemRead) (rest : Value → ℕ → ℕ → LineRead) → ItemAhead place r
    → ((v : Value) (field next : ℕ) → LineAhead next (rest v field next)) → LineAhead place (follow_item r (λ v field next. with_value v (rest v field next)))
item_then place (item v field next) rest a f = value_ahead place next v (rest v field next) a (f v field next)
item_then place (ItemRead.unreadable field) rest a f = tt
item_then place (ItemRead.outside field) rest a f = tt

ending_ahead : (text : List ℕ) (l field place : ℕ) → LineAhead place (finish_line l field (ending_at text place))
unfolding ending_at
ending_ahead text l field place = after (drop place text)
  where
    after : (bs : List ℕ) → LineAhead place (finish_line l field (ending_of place bs))
    after [] = tt
    after (b ∷ bs) = go (is_feed b)
      where
        go : (c : Bool) → LineAhead place (finish_line l field (elim c [ true ↦ ended (place + 1) | false ↦ surplus ]))
        go true = omega arith
        go false = tt

items_ahead : (text : List ℕ) (h : Header) (n l : ℕ) (is : List Item) (before : List ℕ) (field place : ℕ)
    → LineAhead place (read_items text h n l is before field place)
items_ahead text h n l [] before field place = ending_ahead text l field place
items_ahead text h n l (i ∷ is) before field place =
    item_then place (read_item text h n before i field place) (λ v after next. read_items text h n l is (before ++ (T.number_of v ∷ [])) after next)
    (item_ahead text h n before i field place) (λ v after next. items_ahead text h n l is (before ++ (T.number_of v ∷ [])) after next)

row_ahead : (text : List ℕ) (due : Role) (h : Header) (n l place : ℕ) (r : Option Row) → LineAhead place (read_row text due h n l place r)
row_ahead text due h n l place none = tt
row_ahead text due h n l place (some r) = go (eqb (role_number due) (role_number r.role))
  where
    go : (b : Bool) → LineAhead place (elim b [ true ↦ read_items text h n l r.items [] 2 place | false ↦ LineRead.unreadable 1 ])
    go true = items_ahead text h n l r.items [] 2 place
    go false = tt

-- A line that is read starts inside the text, and the next one starts after it.
abbrev LineWithin : List ℕ → ℕ → LineRead → Type 0
LineWithin text place (line l vs next) = (place < next) × (place < length text)
LineWithin text place (LineRead.unreadable field) = Unit {0}
LineWithin text place (LineRead.outside field) = Unit {0}

inside : (text : List ℕ) (place : ℕ) → feed_follows text place ≡ true → place < length text
unfolding feed_follows
inside text place e = go (dec_lt place (length text))
  where
    go : Dec (place < length text) → place < length text
    go (yes h) = h
    go (no h) = absurd (false≢true (sym (ap has_feed (drop_of_length-le text {i = place} (omega arith))) ∙ e))

line_within : (text : List ℕ) (due : Role) (h : Header) (n place : ℕ) → LineWithin text place (read_line text due h n place)
unfolding read_line letter_at
line_within text due h n place = go (feed_follows text place) refl
  where
    both : (r : LineRead) → place < length text → LineAhead (place + 1) r → LineWithin text place r
    both (line l vs next) b a = (omega arith, b)
    both (LineRead.unreadable field) b a = tt
    both (LineRead.outside field) b a = tt

    found : (field : List ℕ) → LineAhead (place + 1) (read_letter text due h n (letter_of place field))
    found [] = tt
    found (b ∷ []) = row_ahead text due h n b (place + 1) (row_of b)
    found (b ∷ c ∷ bs) = tt

    go : (b : Bool) → feed_follows text place ≡ b
        → LineWithin text place (elim b [ true ↦ read_letter text due h n (letter_at text place) | false ↦ LineRead.unreadable 0 ])
    go true e = both (read_letter text due h n (letter_at text place)) (inside text place e) (found (field_of (drop place text)))
    go false e = tt

-- ---- Line by line

-- What a reading tells, if it reads.
abbrev Tells : {A : Type 0} → (A → ℕ → ℕ → Type 0) → Read A → Type 0
Tells P (found (a, n, p)) = P a n p
Tells P (refused r) = Unit {0}

then_tells : {A B : Type 0} (P : A → ℕ → ℕ → Type 0) (Q : B → ℕ → ℕ → Type 0) (r : Read A) (rest : A × ℕ × ℕ → Read B) → Tells P r
    → ((a : A) (n p : ℕ) → P a n p → Tells Q (rest (a, n, p))) → Tells Q (r >>= rest)
then_tells P Q (found (a, n, p)) rest t f = f a n p t
then_tells P Q (refused r) rest t f = tt

-- The lines passed are at most the bytes passed.
abbrev Ahead : {A : Type 0} → ℕ → ℕ → A → ℕ → ℕ → Type 0
Ahead n place a n' place' = n' + place ≤ n + place'

-- And the line starts inside the text.
abbrev AheadInside : {A : Type 0} → List ℕ → ℕ → ℕ → A → ℕ → ℕ → Type 0
AheadInside text n place a n' place' = (n' + place ≤ n + place') × (place < length text)

one_tells : {A : Type 0} (text : List ℕ) (h : Header) (due : Role) (s : ℕ) (means : Valued → A) (n place : ℕ)
    → Tells (AheadInside text n place) (one_line text h due s means n place)
unfolding one_line
one_tells text h due s means n place = go (read_line text due h s place) (line_within text due h s place)
  where
    go : (r : LineRead) → LineWithin text place r → Tells (AheadInside text n place) (read_as means n r)
    go (line l vs next) w = (omega arith, w.1)
    go (LineRead.unreadable field) w = tt
    go (LineRead.outside field) w = tt

many_tells : {A : Type 0} (each : ℕ → ℕ → Read A) → ((n place : ℕ) → Tells (Ahead n place) (each n place)) → (count n place : ℕ)
    → Tells (Ahead n place) (many each count n place)
many_tells each f zero n place = omega arith
many_tells {A} each f (suc count) n place =
    then_tells (Ahead n place) (Ahead n place) (each n place) _ (f n place)
    (λ x n' p' a. then_tells (Ahead {A = List A} n' p') (Ahead n place) (many each count n' p') _ (many_tells each f count n' p')
    (λ xs n'' p'' b. omega arith))

line_tells : {A : Type 0} (text : List ℕ) (h : Header) (due : Role) (s : ℕ) (means : Valued → A) (n place : ℕ)
    → Tells (Ahead n place) (one_line text h due s means n place)
line_tells {A} text h due s means n place = go (one_line text h due s means n place) (one_tells text h due s means n place)
  where
    go : (r : Read A) → Tells (AheadInside text n place) r → Tells (Ahead n place) r
    go (found (x, n', p')) w = w.0
    go (refused a) w = tt

method_tells : (text : List ℕ) (h : Header) (n place : ℕ) → Tells (Ahead n place) (one_method text h n place)
unfolding one_method
method_tells text h n place =
    then_tells (Ahead n place) (Ahead n place) (one_line text h T.method 0 (λ x. x.1) n place) _ (line_tells text h T.method 0 (λ x. x.1) n place)
    (λ vs n' p' a. then_tells (Ahead {A = List Constraint} n' p') (Ahead n place)
    (many (one_line text h T.constraint (scalar_at vs 1) as_constraint) (scalar_at vs 2) n' p') _
    (many_tells (one_line text h T.constraint (scalar_at vs 1) as_constraint) (line_tells text h T.constraint (scalar_at vs 1) as_constraint) (scalar_at vs 2) n' p')
    (λ cs n'' p'' b. omega arith))

abbrev PlanLow : List ℕ → Case → ℕ → ℕ → Type 0
PlanLow text k n p = k.plan_line ≤ length text

body_low : (text : List ℕ) (h : Header) (n place : ℕ) → n ≤ 1 + place → Tells (PlanLow text) (read_body text h n place)
unfolding read_body
body_low text h n place low =
    then_tells (Ahead n place) (PlanLow text) (one_line text h T.initial 0 initial_of n place) _ (line_tells text h T.initial 0 initial_of n place)
    (λ i n₁ p₁ a. then_tells (Ahead {A = List Action} n₁ p₁) (PlanLow text) (many (one_line text h T.action 0 action_of) h.actions n₁ p₁) _
    (many_tells (one_line text h T.action 0 action_of) (line_tells text h T.action 0 action_of) h.actions n₁ p₁)
    (λ acts n₂ p₂ b. then_tells (Ahead {A = List Method} n₂ p₂) (PlanLow text) (many (one_method text h) h.methods n₂ p₂) _
    (many_tells (one_method text h) (method_tells text h) h.methods n₂ p₂)
    (λ ms n₃ p₃ c. then_tells (AheadInside text n₃ p₃) (PlanLow text) (one_line text h T.plan 0 plan_of n₃ p₃) _ (one_tells text h T.plan 0 plan_of n₃ p₃)
    (λ cs n₄ p₄ d. then_tells (Ahead {A = List NodeLine} n₄ p₄) (PlanLow text) (many (one_line text h T.node 0 as_node) h.nodes n₄ p₄) _
    (many_tells (one_line text h T.node 0 as_node) (line_tells text h T.node 0 as_node) h.nodes n₄ p₄)
    (λ ns n₅ p₅ e. let q = d.1 in omega arith)))))

from_low : (text : List ℕ) → Tells (PlanLow text) (read_from text 1 0)
unfolding read_from
from_low text =
    then_tells (Ahead 1 0) (PlanLow text) (one_line text no_header T.header 0 header_of 1 0) _ (line_tells text no_header T.header 0 header_of 1 0)
    (λ h n place a. body_low text h n place (omega arith))

pub plan_line_low : (text : List ℕ) (k : Case) → read_case text ≡ found k → k.plan_line ≤ length text
unfolding read_case
plan_line_low text k e = go (read_from text 1 0) (from_low text) e
  where
    over : (c : Case) (r : Result (Unit {0})) → (r >> found c) ≡ found k → c ≡ k
    over c (found u) e = cc
    over c (refused a) e = apart (cc)

    go : (r : Read Case) → Tells (PlanLow text) r → (r >>= λ (c, n, place). no_surplus text n place >> found c) ≡ found k → k.plan_line ≤ length text
    go (found (c, n, place)) t e = subst (λ (x : Case). x.plan_line ≤ length text) (over c (no_surplus text n place) e) t
    go (refused a) t e = apart (cc)

pub plan_line_few : (k : Case) → IsRead k → k.plan_line ≤ 65535
unfolding text_most
plan_line_few k r = let a = plan_line_low r.text k r.reads in let b = r.short in omega arith
