-- The fifteen letters, what may follow each, and reading one line by them (01, "The case text" and rows 3 and 4 of its table; 02, Card 1).
-- Assumes nothing.
use Rattle.std.specs.Prelude.{Bool, true, false, ◌&&◌, not, List, [], ◌∷◌, ◌++◌, ℕ, zero, suc, ◌+◌, ◌^◌, eqb, leb, ltb, length, get_or}
use Rattle.std.proofs.Math.Option.{Option, none, some}
use Prim.Native.Char.{Char, code}
use Rattle.rules.specs.declared.Header.{Header}
use Rattle.rules.specs.State.{proposition_most}
use Rattle.rules.specs.Text.{Number, number, not_plain, missing, number_at, Letter, letter, no_letter, letter_at, Ending, ended, surplus, ending_at, feed_follows}

-- The lines of a case, by what is due there.
pub data Role : Type 0 where
  header initial action method constraint plan node : Role

-- What one number of a line may be.
pub data Kind : Type 0 where
  up_to : (most : ℕ) → Kind
  one_up_to : (most : ℕ) → Kind
  goal compound task an_action aMethod proposition memberCount subtask otherSubtask subtaskSet gap position : Kind

-- "A list is its count followed by its members." One number; a set of propositions; a list of subtasks; the k actions of the plan, which
-- have no count.
pub data Item : Type 0 where
  one : Kind → Item
  set subtaskList cues : Item

-- "The twelve letters and what may follow each form one fixed table"; "Lines b, f and w take the fields of B, F and W" (02, Card 1).
pub record Row : Type 0 where
  pub letter : ℕ
  pub role : Role
  pub items : List Item

abbrev pub row : Char → Role → List Item → Row
row l r is = record { letter = code l; role = r; items = is }

unfoldable pub table : List Row
table =
    row "N" header
    (one (up_to proposition_most) ∷ one (up_to 1024) ∷ one (up_to 1024) ∷ one (up_to 2048) ∷ one goal ∷ one (up_to 1000) ∷ one (one_up_to 3000) ∷ [])
    ∷ row "I" initial (set ∷ [])
    ∷ row "A" action (set ∷ set ∷ set ∷ set ∷ [])
    ∷ row "M" method (one compound ∷ subtaskList ∷ one (up_to 64) ∷ [])
    ∷ row "O" constraint (one subtask ∷ one otherSubtask ∷ [])
    ∷ row "B" constraint (one proposition ∷ one subtaskSet ∷ [])
    ∷ row "b" constraint (one proposition ∷ one subtaskSet ∷ [])
    ∷ row "F" constraint (one proposition ∷ one subtaskSet ∷ [])
    ∷ row "f" constraint (one proposition ∷ one subtaskSet ∷ [])
    ∷ row "W" constraint (one subtaskSet ∷ one proposition ∷ one subtaskSet ∷ [])
    ∷ row "w" constraint (one subtaskSet ∷ one proposition ∷ one subtaskSet ∷ [])
    ∷ row "P" plan (cues ∷ [])
    ∷ row "D" node (one aMethod ∷ [])
    ∷ row "E" node (one aMethod ∷ one gap ∷ [])
    ∷ row "L" node (one an_action ∷ one position ∷ [])
    ∷ []

abbrev pub row_in : ℕ → List Row → Option Row
row_in l [] = none
row_in l (r ∷ rs) = elim (eqb l r.letter) [ true ↦ some r | false ↦ row_in l rs ]

-- The row of a letter; none for a byte that is none of the fifteen.
unfoldable pub row_of : ℕ → Option Row
row_of l = row_in l table

unfoldable pub role_number : Role → ℕ
role_number header = 1
role_number initial = 2
role_number action = 3
role_number method = 4
role_number constraint = 5
role_number plan = 6
role_number node = 7

-- "Tasks below the action count are actions, those after it compound"
unfoldable pub is_compound : ℕ → ℕ → ℕ → Bool
is_compound actions compounds t = leb actions t && ltb t (actions + compounds)

-- v is in its range, by the header h, the subtask count n of the method whose constraints these are, and the numbers before it in its line.
-- "a set's count above that number, a member not above the one before it, or a j equal to i is outside its range. So is a task, action or
-- method number that the model doesn't have, or a goal or an M line's first task that isn't compound." "no bit at or above the count"
unfoldable pub in_range : Header → ℕ → List ℕ → Kind → ℕ → Bool
in_range h n before (up_to most) v = leb v most
in_range h n before (one_up_to most) v = leb 1 v && leb v most
in_range h n before goal v = is_compound (get_or before 1 0) (get_or before 2 0) v
in_range h n before compound v = is_compound h.actions h.compounds v
in_range h n before task v = ltb v (h.actions + h.compounds)
in_range h n before an_action v = ltb v h.actions
in_range h n before aMethod v = ltb v h.methods
in_range h n before proposition v = ltb v h.propositions
in_range h n before memberCount v = leb v h.propositions
in_range h n before subtask v = ltb v n
in_range h n before otherSubtask v = ltb v n && not (eqb v (get_or before 0 0))
in_range h n before subtaskSet v = ltb v (2 ^ n)
in_range h n before gap v = leb v h.cues
in_range h n before position v = leb 1 v && leb v h.cues

-- A number that is due: read and in its range; missing or not plain; outside its range.
pub data Taken : Type 0 where
  taken : (value next : ℕ) → Taken
  bad : Taken
  out : Taken

abbrev pub within : (ℕ → Bool) → Number → Taken
within ok (number v next) = elim (ok v) [ true ↦ taken v next | false ↦ out ]
within ok not_plain = bad
within ok missing = bad

-- What an item of a line holds: a number, or the members of a list.
pub data Value : Type 0 where
  scalar : ℕ → Value
  listed : List ℕ → Value

-- The number itself, or how many members there are.
abbrev pub number_of : Value → ℕ
number_of (scalar v) = v
number_of (listed vs) = length vs

-- An item that is read, with the number and the place of the field after it; or the field that is refused, as 3 or as 4.
pub data ItemRead : Type 0 where
  item : Value → (field next : ℕ) → ItemRead
  unreadable : (field : ℕ) → ItemRead
  outside : (field : ℕ) → ItemRead

abbrev pub follow_taken : Taken → ℕ → (ℕ → ℕ → ItemRead) → ItemRead
follow_taken (taken v next) field rest = rest v next
follow_taken bad field rest = unreadable field
follow_taken out field rest = outside field

abbrev pub with_member : ℕ → ItemRead → ItemRead
with_member v (item (scalar w) field next) = item (scalar w) field next
with_member v (item (listed vs) field next) = item (listed (v ∷ vs)) field next
with_member v (unreadable field) = unreadable field
with_member v (outside field) = outside field

-- "Sets are strictly ascending": where members ascend, the next is at least one more than v.
abbrev pub least_after : Bool → ℕ → ℕ
least_after true v = v + 1
least_after false v = 0

-- So many members, the first of them at least `low`.
abbrev pub read_members : List ℕ → (ℕ → Bool) → Bool → ℕ → ℕ → ℕ → ℕ → ItemRead
read_members text ok ascending zero low field place = item (listed []) field place
read_members text ok ascending (suc count) low field place =
    follow_taken (within (λ v. leb low v && ok v) (number_at text place)) field
    (λ v next. with_member v (read_members text ok ascending count (least_after ascending v) (field + 1) next))

-- "A list is its count followed by its members."
unfoldable pub read_list : List ℕ → (ℕ → Bool) → (ℕ → Bool) → Bool → ℕ → ℕ → ItemRead
read_list text count? ok ascending field place =
    follow_taken (within count? (number_at text place)) field (λ count next. read_members text ok ascending count 0 (field + 1) next)

unfoldable pub read_item : List ℕ → Header → ℕ → List ℕ → Item → ℕ → ℕ → ItemRead
read_item text h n before (one kind) field place =
    follow_taken (within (in_range h n before kind) (number_at text place)) field (λ v next. item (scalar v) (field + 1) next)
read_item text h n before set field place =
    read_list text (in_range h n before memberCount) (in_range h n before proposition) true field place
read_item text h n before subtaskList field place =
    read_list text (in_range h n before (up_to 32)) (in_range h n before task) false field place
read_item text h n before cues field place =
    read_members text (in_range h n before an_action) false h.cues 0 field place

-- A line that is read, with the place of the next one; or the field that is refused.
pub data LineRead : Type 0 where
  line : (letter : ℕ) → List Value → (next : ℕ) → LineRead
  unreadable : (field : ℕ) → LineRead
  outside : (field : ℕ) → LineRead

abbrev pub follow_item : ItemRead → (Value → ℕ → ℕ → LineRead) → LineRead
follow_item (item v field next) rest = rest v field next
follow_item (ItemRead.unreadable field) rest = LineRead.unreadable field
follow_item (ItemRead.outside field) rest = LineRead.outside field

abbrev pub with_value : Value → LineRead → LineRead
with_value v (line l vs next) = line l (v ∷ vs) next
with_value v (LineRead.unreadable field) = LineRead.unreadable field
with_value v (LineRead.outside field) = LineRead.outside field

abbrev pub finish_line : ℕ → ℕ → Ending → LineRead
finish_line l field (ended next) = line l [] next
finish_line l field surplus = LineRead.unreadable field

-- The items of a line of letter l, from left to right, and then its end.
abbrev pub read_items : List ℕ → Header → ℕ → ℕ → List Item → List ℕ → ℕ → ℕ → LineRead
read_items text h n l [] before field place = finish_line l field (ending_at text place)
read_items text h n l (i ∷ is) before field place =
    follow_item (read_item text h n before i field place)
    (λ v after next. with_value v (read_items text h n l is (before ++ (number_of v ∷ [])) after next))

abbrev pub read_row : List ℕ → Role → Header → ℕ → ℕ → ℕ → Option Row → LineRead
read_row text due h n l place none = LineRead.unreadable 1
read_row text due h n l place (some r) =
    elim (eqb (role_number due) (role_number r.role)) [ true ↦ read_items text h n l r.items [] 2 place | false ↦ LineRead.unreadable 1 ]

abbrev pub read_letter : List ℕ → Role → Header → ℕ → Letter → LineRead
read_letter text due h n (letter b next) = read_row text due h n b next (row_of b)
read_letter text due h n no_letter = LineRead.unreadable 1

-- The line that starts at a place, where one of this role is due. "a line that is due has no line feed, or the text is over before it":
-- 3 with item 0. "fields from the left: wrong letter, not a plain number, missing, surplus field": 3 with the field, from 1; "same field:
-- outside its range": 4.
unfoldable pub read_line : List ℕ → Role → Header → ℕ → ℕ → LineRead
read_line text due h n place =
    elim (feed_follows text place) [ true ↦ read_letter text due h n (letter_at text place) | false ↦ LineRead.unreadable 0 ]
