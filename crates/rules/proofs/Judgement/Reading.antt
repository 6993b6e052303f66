-- What is read of a line satisfies whatever follows from its row of the table: reading hands on a number only after its test has passed, so
-- by the list of items, what is asked of the values is a computed statement with one premise for each test.
use mathlib.Core.Path.{◌≡◌, refl, sym, ap, subst}
use mathlib.Core.Bool.{Bool, true, false, ◌&&◌}
use mathlib.Core.List.{List, [], ◌∷◌, ◌++◌}
use mathlib.Core.Option.{some}
use Prim.Native.Nat.{ℕ, zero, suc, ◌+◌}
use lib.Dec.{eqb, leb}
use lib.ListN.{length}
use borrow.Author.Tests.{eqb-true}
use Rattle.rules.specs.declared.Header.{Header}
use Rattle.rules.specs.declared.Answer.{Answer}
use Rattle.rules.specs.declared.Answer.TheVariants.{Unreadable, OutOfRange}
use Rattle.rules.specs.Text.{Number, number, not_plain, missing, number_at, Letter, letter, no_letter, letter_at, Ending, ended, surplus, ending_at, feed_follows}
use Rattle.rules.specs.Table.{Role, up_to, task, an_action, proposition, memberCount, Item, one, set, subtaskList, cues, Row, table, row_in, row_of, role_number, in_range, taken, out, within, Value, scalar, listed, number_of, ItemRead, item, follow_taken, with_member, least_after, read_members, read_list, read_item, LineRead, line, with_value, finish_line, read_items, read_row, read_letter, read_line}
use Rattle.rules.specs.Result.{Result, found, refused, ◌>>=◌}
use Rattle.rules.specs.Case.{Valued, Read, read_as, one_line, many}
use Rattle.rules.proofs.Outcomes.{AfterMember, ItemSays, member_says, LineSays, value_says, item_then}
use Rattle.rules.proofs.Judgement.Each.{Each, each_nil, each_cons, both_true}

-- ---- Items

-- Nothing is said of a field that is refused.
abbrev pub Any : ℕ → Type 0
Any field = Unit {0}

taken_says : (P : Value → ℕ → ℕ → Type 0) (ok : ℕ → Bool) (x : Number) (field : ℕ) (rest : ℕ → ℕ → ItemRead)
    → ((v next : ℕ) → ok v ≡ true → ItemSays Any Any P (rest v next)) → ItemSays Any Any P (follow_taken (within ok x) field rest)
taken_says P ok (number v next) field rest f = go (ok v) refl
  where
    go : (b : Bool) → ok v ≡ b → ItemSays Any Any P (follow_taken (elim b [ true ↦ taken v next | false ↦ out ]) field rest)
    go true e = f v next e
    go false e = tt
taken_says P ok not_plain field rest f = tt
taken_says P ok missing field rest f = tt

-- Each at least what the one before it leaves, the first at least `low`.
abbrev pub Rises : Bool → ℕ → List ℕ → Type 0
Rises ascending low [] = Unit {0}
Rises ascending low (v ∷ vs) = (leb low v ≡ true) × Rises ascending (least_after ascending v) vs

-- P of every list of so many members that all pass the test.
abbrev ForMembers : ℕ → (ℕ → Bool) → (Value → Type 0) → Type 0
ForMembers count ok P = (vs : List ℕ) → length vs ≡ count → Each (λ v. ok v ≡ true) vs → P (listed vs)

members_say : (text : List ℕ) (ok : ℕ → Bool) (ascending : Bool) (count low field place : ℕ) (P : Value → ℕ → ℕ → Type 0)
    → ((vs : List ℕ) (field next : ℕ) → length vs ≡ count → Each (λ v. ok v ≡ true) vs → Rises ascending low vs → P (listed vs) field next)
    → ItemSays Any Any P (read_members text ok ascending count low field place)
members_say text ok ascending zero low field place P f = f [] field place refl (each_nil (λ v. ok v ≡ true)) tt
members_say text ok ascending (suc count) low field place P f =
    let rest : ℕ → ℕ → ItemRead = λ v next. read_members text ok ascending count (least_after ascending v) (field + 1) next in
    taken_says P (λ v. leb low v && ok v) (number_at text place) field (λ v next. with_member v (rest v next))
    (λ v next e. member_says Any Any P v (rest v next)
    (members_say text ok ascending count (least_after ascending v) (field + 1) next (AfterMember P v)
    (λ vs field' next' n h r. let b = both_true (leb low v) (ok v) e in
    f (v ∷ vs) field' next' (ap suc n) (each_cons (λ w. ok w ≡ true) v vs b.1 h) (b.0, r))))

-- P of the value, if the item is read.
abbrev ItemTells : (Value → Type 0) → ItemRead → Type 0
ItemTells P = ItemSays Any Any (λ v field next. P v)

-- P of every list whose count and members pass their tests.
abbrev ForList : (ℕ → Bool) → (ℕ → Bool) → (Value → Type 0) → Type 0
ForList count? ok P = (vs : List ℕ) → count? (length vs) ≡ true → Each (λ v. ok v ≡ true) vs → P (listed vs)

-- The same of every list that rises.
abbrev ForRising : (ℕ → Bool) → (ℕ → Bool) → Bool → (Value → Type 0) → Type 0
ForRising count? ok ascending P = (vs : List ℕ) → count? (length vs) ≡ true → Each (λ v. ok v ≡ true) vs → Rises ascending 0 vs → P (listed vs)

list_says : (text : List ℕ) (count? ok : ℕ → Bool) (ascending : Bool) (field place : ℕ) (P : Value → Type 0) → ForRising count? ok ascending P
    → ItemTells P (read_list text count? ok ascending field place)
unfolding read_list
list_says text count? ok ascending field place P f =
    taken_says (λ v field next. P v) count? (number_at text place) field (λ count next. read_members text ok ascending count 0 (field + 1) next)
    (λ count next e. members_say text ok ascending count 0 (field + 1) next (λ v field next. P v)
    (λ vs field' next' n h r. f vs (subst (λ (c : ℕ). count? c ≡ true) (sym n) e) h r))

-- P of every value that passes the tests of an item.
abbrev pub ForItem : Header → ℕ → List ℕ → Item → (Value → Type 0) → Type 0
ForItem h n before (one kind) P = (v : ℕ) → in_range h n before kind v ≡ true → P (scalar v)
ForItem h n before set P = ForRising (in_range h n before memberCount) (in_range h n before proposition) true P
ForItem h n before subtaskList P = ForList (in_range h n before (up_to 32)) (in_range h n before task) P
ForItem h n before cues P = ForMembers h.cues (in_range h n before an_action) P

item_says : (text : List ℕ) (h : Header) (n : ℕ) (before : List ℕ) (i : Item) (field place : ℕ) (P : Value → Type 0) → ForItem h n before i P
    → ItemTells P (read_item text h n before i field place)
unfolding read_item
item_says text h n before (one kind) field place P f =
    taken_says (λ v field next. P v) (in_range h n before kind) (number_at text place) field (λ v next. item (scalar v) (field + 1) next) (λ v next e. f v e)
item_says text h n before set field place P f = list_says text (in_range h n before memberCount) (in_range h n before proposition) true field place P f
item_says text h n before subtaskList field place P f = list_says text (in_range h n before (up_to 32)) (in_range h n before task) false field place P (λ vs c g r. f vs c g)
item_says text h n before cues field place P f =
    members_say text (in_range h n before an_action) false h.cues 0 field place (λ v field next. P v) (λ vs field' next' n g r. f vs n g)

-- ---- Lines

-- P of the letter and the values, if the line is read.
abbrev pub LineTells : (ℕ → List Value → Type 0) → LineRead → Type 0
LineTells P = LineSays Any Any (λ l vs next. P l vs)

ending_says : (P : ℕ → List Value → Type 0) (l field : ℕ) (x : Ending) → P l [] → LineTells P (finish_line l field x)
ending_says P l field (ended next) p = p
ending_says P l field surplus p = tt

-- P of every list of values that passes the tests of the items.
abbrev pub ForItems : Header → ℕ → List Item → List ℕ → (List Value → Type 0) → Type 0
ForItems h n [] before P = P []
ForItems h n (i ∷ is) before P = ForItem h n before i (λ v. ForItems h n is (before ++ (number_of v ∷ [])) (λ vs. P (v ∷ vs)))

items_say : (text : List ℕ) (h : Header) (n l : ℕ) (is : List Item) (before : List ℕ) (field place : ℕ) (P : ℕ → List Value → Type 0)
    → ForItems h n is before (P l) → LineTells P (read_items text h n l is before field place)
items_say text h n l [] before field place P f = ending_says P l field (ending_at text place) f
items_say text h n l (i ∷ is) before field place P f =
    item_then Any Any (λ l' vs next. P l' vs) (λ v field next. ForItems h n is (before ++ (number_of v ∷ [])) (λ vs. P l (v ∷ vs)))
    (read_item text h n before i field place)
    (λ v after next. with_value v (read_items text h n l is (before ++ (number_of v ∷ [])) after next))
    (item_says text h n before i field place (λ v. ForItems h n is (before ++ (number_of v ∷ [])) (λ vs. P l (v ∷ vs))) f)
    (λ v after next g. value_says Any Any (λ l' vs next. P l' vs) v (read_items text h n l is (before ++ (number_of v ∷ [])) after next)
    (items_say text h n l is (before ++ (number_of v ∷ [])) after next (λ l' vs. P l' (v ∷ vs)) g))

-- A besides B, where the test passes.
abbrev pub AlsoIf : Bool → Type 0 → Type 0 → Type 0
AlsoIf true A B = A × B
AlsoIf false A B = B

-- P of every line that passes the tests of one of the rows of a role.
abbrev pub ForRows : Header → ℕ → Role → (ℕ → List Value → Type 0) → List Row → Type 0
ForRows h n due P [] = Unit {0}
ForRows h n due P (r ∷ rs) = AlsoIf (eqb (role_number due) (role_number r.role)) (ForItems h n r.items [] (P r.letter)) (ForRows h n due P rs)

also_rest : (d : Bool) (A B : Type 0) → AlsoIf d A B → B
also_rest true A B w = w.1
also_rest false A B w = w

rows_say : (text : List ℕ) (h : Header) (n : ℕ) (due : Role) (P : ℕ → List Value → Type 0) (l place : ℕ) (rs : List Row) → ForRows h n due P rs
    → LineTells P (read_row text due h n l place (row_in l rs))
rows_say text h n due P l place [] f = tt
rows_say text h n due P l place (r ∷ rs) f =
    let this = ForItems h n r.items [] (P r.letter) in
    let later = also_rest (eqb (role_number due) (role_number r.role)) this (ForRows h n due P rs) f in
    go (eqb l r.letter) refl (rows_say text h n due P l place rs later)
  where
    chosen : (d : Bool) → l ≡ r.letter → AlsoIf d (ForItems h n r.items [] (P r.letter)) (ForRows h n due P rs)
        → LineTells P (elim d [ true ↦ read_items text h n l r.items [] 2 place | false ↦ LineRead.unreadable 1 ])
    chosen true e g = items_say text h n l r.items [] 2 place P (subst (λ (x : ℕ). ForItems h n r.items [] (P x)) (sym e) g.0)
    chosen false e g = tt

    go : (b : Bool) → eqb l r.letter ≡ b → LineTells P (read_row text due h n l place (row_in l rs))
        → LineTells P (read_row text due h n l place (elim b [ true ↦ some r | false ↦ row_in l rs ]))
    go true e rest = chosen (eqb (role_number due) (role_number r.role)) (eqb-true l r.letter e) f
    go false e rest = rest

-- P of every line of a role that reading lets pass, by the table.
unfoldable pub ForLine : Header → ℕ → Role → (ℕ → List Value → Type 0) → Type 0
ForLine h n due P = ForRows h n due P table

pub line_says : (text : List ℕ) (h : Header) (n : ℕ) (due : Role) (P : ℕ → List Value → Type 0) (place : ℕ) → ForLine h n due P
    → LineTells P (read_line text due h n place)
unfolding read_line ForLine row_of
line_says text h n due P place f = go (feed_follows text place)
  where
    found : (x : Letter) → LineTells P (read_letter text due h n x)
    found (letter b next) = rows_say text h n due P b next table f
    found no_letter = tt

    go : (b : Bool) → LineTells P (elim b [ true ↦ read_letter text due h n (letter_at text place) | false ↦ LineRead.unreadable 0 ])
    go true = found (letter_at text place)
    go false = tt

-- ---- Line by line

-- The answers that reading gives.
pub data OfReading : Answer → Type 0 where
  unreadable : {l i : ℕ} → OfReading (Unreadable l i)
  outside : {l i : ℕ} → OfReading (OutOfRange l i)

-- P of what is found; or the answer is one of reading's.
abbrev pub Says : {A : Type 0} → (A → Type 0) → Result A → Type 0
Says P (found a) = P a
Says P (refused r) = OfReading r

-- P of what is read, whatever line comes next.
abbrev pub ReadSays : {A : Type 0} → (A → Type 0) → Read A → Type 0
ReadSays P r = Says (λ x. P x.0) r

pub says_then : {A B : Type 0} (P : A → Type 0) (Q : B → Type 0) (r : Result A) (rest : A → Result B) → Says P r → ((a : A) → P a → Says Q (rest a))
    → Says Q (r >>= rest)
says_then P Q (found a) rest p f = f a p
says_then P Q (refused r) rest p f = p

pub read_then : {A B : Type 0} (P : A → Type 0) (Q : B → Type 0) (r : Read A) (rest : A × ℕ × ℕ → Read B) → ReadSays P r
    → ((x : A × ℕ × ℕ) → P x.0 → ReadSays Q (rest x)) → ReadSays Q (r >>= rest)
read_then P Q r rest p f = says_then (λ x. P x.0) (λ x. Q x.0) r rest p f

pub one_line_says : {A : Type 0} (text : List ℕ) (h : Header) (due : Role) (s : ℕ) (means : Valued → A) (n place : ℕ) (P : A → Type 0)
    → ForLine h s due (λ l vs. P (means (l, vs))) → ReadSays P (one_line text h due s means n place)
unfolding one_line
one_line_says text h due s means n place P f = go (read_line text due h s place) (line_says text h s due (λ l vs. P (means (l, vs))) place f)
  where
    go : (r : LineRead) → LineTells (λ l vs. P (means (l, vs))) r → ReadSays P (read_as means n r)
    go (line l vs next) p = p
    go (LineRead.unreadable field) p = OfReading.unreadable
    go (LineRead.outside field) p = OfReading.outside

-- So many, and each has the property.
abbrev pub Counted : {A : Type 0} → (A → Type 0) → ℕ → List A → Type 0
Counted P count xs = (length xs ≡ count) × Each P xs

pub many_say : {A : Type 0} (P : A → Type 0) (each : ℕ → ℕ → Read A) → ((n place : ℕ) → ReadSays P (each n place)) → (count n place : ℕ)
    → ReadSays (Counted P count) (many each count n place)
many_say P each f zero n place = (refl, each_nil P)
many_say P each f (suc count) n place =
    read_then P (Counted P (suc count)) (each n place) _ (f n place)
    (λ x p. read_then (Counted P count) (Counted P (suc count)) (many each count x.1 x.2) _ (many_say P each f count x.1 x.2)
    (λ xs h. (ap suc h.0, each_cons P x.0 xs.0 p h.1)))

pub lines_say : {A : Type 0} (text : List ℕ) (h : Header) (due : Role) (s : ℕ) (means : Valued → A) (count n place : ℕ) (P : A → Type 0)
    → ForLine h s due (λ l vs. P (means (l, vs))) → ReadSays (Counted P count) (many (one_line text h due s means) count n place)
lines_say text h due s means count n place P f = many_say P (one_line text h due s means) (λ m at. one_line_says text h due s means m at P f) count n place
