-- How far reading a line goes: it takes a byte at least and stays in the text, and each field takes two, so that fields which are counted from
-- `from` on stay below half the text's length, and a refused field's number below the length. Assumes nothing.
use mathlib.Core.Path.{◌≡◌, refl, ap, ◌∙◌}
use mathlib.Core.Bool.{Bool, true, false, ◌&&◌}
use mathlib.Core.List.{List, [], ◌∷◌, ◌++◌}
use mathlib.Core.Option.{Option, none, some}
use Prim.Native.Nat.{ℕ, zero, suc, ◌+◌, ◌-◌, ◌*◌, ◌≤◌, ◌<◌}
use native.Mathlib.Omega.{arith}
use lib.Dec.{eqb, leb}
use lib.ListN.{length, length-append}
use Rattle.rules.specs.declared.Header.{Header}
use Rattle.rules.specs.Text.{Number, number, not_plain, missing, number_at, Letter, letter, no_letter, letter_at, Ending, ended, surplus, ending_at, feed_follows}
use Rattle.rules.specs.Table as T
use Rattle.rules.specs.Table.{Role, Item, one, Row, row_of, role_number, in_range, Value, scalar, listed, number_of, ItemRead, item, follow_taken, with_member, least_after, read_members, read_list, read_item, LineRead, line, follow_item, with_value, finish_line, read_items, read_row, read_letter, read_line}
use Rattle.rules.specs.Fields.{item_fields, items_fields, row_items, line_fields}
use Rattle.lines.proofs.Lines.{Sized, sized_item}
use Rattle.text.proofs.Laws.{number_next, number_feeds, letter_next, letter_feeds, ending_next}

-- Items of a line that starts at `start`, after n fields: read, the line takes a byte at least and stays in the text, and each of its fields
-- takes two; refused, its field's number is bounded.
abbrev pub ItemsWithin : List ℕ → ℕ → ℕ → List Item → ℕ → LineRead → Type 0
ItemsWithin text from start is n (line l vs next) = (start < next) × (next ≤ length text) × (2 * (from + (n + length (items_fields is vs))) ≤ next)
ItemsWithin text from start is n (LineRead.unreadable field) = field ≤ length text + 1
ItemsWithin text from start is n (LineRead.outside field) = field ≤ length text + 1

-- A line.
abbrev pub LineWithin : List ℕ → ℕ → ℕ → LineRead → Type 0
LineWithin text from start (line l vs next) = (start < next) × (next ≤ length text) × (2 * (from + length (line_fields (l, vs))) ≤ next)
LineWithin text from start (LineRead.unreadable field) = field ≤ length text + 1
LineWithin text from start (LineRead.outside field) = field ≤ length text + 1

-- A line keeps its letter.
abbrev pub HasLetter : ℕ → LineRead → Type 0
HasLetter l (line m vs next) = m ≡ l
HasLetter l (LineRead.unreadable field) = Unit {0}
HasLetter l (LineRead.outside field) = Unit {0}

value_letter : (l : ℕ) (v : Value) (r : LineRead) → HasLetter l r → HasLetter l (with_value v r)
value_letter l v (line m vs next) h = h
value_letter l v (LineRead.unreadable field) h = h
value_letter l v (LineRead.outside field) h = h

item_letter : (l : ℕ) (r : ItemRead) (rest : Value → ℕ → ℕ → LineRead) → ((v : Value) (field next : ℕ) → HasLetter l (rest v field next)) → HasLetter l (follow_item r rest)
item_letter l (item v field next) rest f = f v field next
item_letter l (ItemRead.unreadable field) rest f = tt
item_letter l (ItemRead.outside field) rest f = tt

pub items_letter : (text : List ℕ) (h : Header) (n l : ℕ) (is : List Item) (before : List ℕ) (field place : ℕ) → HasLetter l (read_items text h n l is before field place)
items_letter text h n l [] before field place = go (ending_at text place)
  where
    go : (x : Ending) → HasLetter l (finish_line l field x)
    go (ended next) = refl
    go surplus = tt
items_letter text h n l (i ∷ is) before field place =
    item_letter l (read_item text h n before i field place) (λ v after next. with_value v (read_items text h n l is (before ++ (number_of v ∷ [])) after next))
    (λ v after next. value_letter l v (read_items text h n l is (before ++ (number_of v ∷ [])) after next) (items_letter text h n l is (before ++ (number_of v ∷ [])) after next))

-- The fields of a line are its letter and those of the items of the letter's row.
pub row_fields : (l : ℕ) (is : List Item) (m : ℕ) (vs : List Value) → row_items (row_of l) ≡ is → m ≡ l → line_fields (m, vs) ≡ l ∷ items_fields is vs
unfolding line_fields
row_fields l is m vs e q = (λ j. q j ∷ items_fields (row_items (row_of (q j))) vs) ∙ ap (λ (js : List Item). l ∷ items_fields js vs) e

by_row : (text : List ℕ) (from start l : ℕ) (is : List Item) (r : LineRead) → row_items (row_of l) ≡ is → ItemsWithin text from start is 1 r → HasLetter l r
    → LineWithin text from start r
by_row text from start l is (line m vs next) e w q = (w.0, w.1, let s = ap length (row_fields l is m vs e q) in omega (arith, w.2))
by_row text from start l is (LineRead.unreadable field) e w q = w
by_row text from start l is (LineRead.outside field) e w q = w

module _ (text : List ℕ) (from : ℕ) where
  -- A field comes at a place: each field before it took two bytes at least, and a line feed follows still.
  abbrev pub Ahead : ℕ → ℕ → ℕ → Type 0
  Ahead start field place = (start ≤ place) × (2 * (from + field) ≤ place + 3) × (place ≤ length text) × (feed_follows text place ≡ true)

  abbrev pub ItemWithin : ℕ → ItemRead → Type 0
  ItemWithin start (item v after next) = Ahead start after next
  ItemWithin start (ItemRead.unreadable field) = field ≤ length text + 1
  ItemWithin start (ItemRead.outside field) = field ≤ length text + 1

  module _ (start : ℕ) where
    taken_within : (ok : ℕ → Bool) (field place : ℕ) (rest : ℕ → ℕ → ItemRead) → Ahead start field place
        → ((v next : ℕ) → Ahead start (field + 1) next → ItemWithin start (rest v next)) → ItemWithin start (follow_taken (T.within ok (number_at text place)) field rest)
    taken_within ok field place rest a f = go (number_at text place) refl
      where
        chosen : (v next : ℕ) → Ahead start (field + 1) next → (b : Bool) → ItemWithin start (follow_taken (elim b [ true ↦ T.taken v next | false ↦ T.out ]) field rest)
        chosen v next h true = f v next h
        chosen v next h false = omega arith

        go : (x : Number) → number_at text place ≡ x → ItemWithin start (follow_taken (T.within ok x) field rest)
        go (number v next) e = let p = number_next text place e in chosen v next (omega arith, omega arith, omega arith, number_feeds text place e a.3) (ok v)
        go not_plain e = omega arith
        go missing e = omega arith

    member_within : (v : ℕ) (r : ItemRead) → ItemWithin start r → ItemWithin start (with_member v r)
    member_within v (item (scalar w) field next) h = h
    member_within v (item (listed vs) field next) h = h
    member_within v (ItemRead.unreadable field) h = h
    member_within v (ItemRead.outside field) h = h

    members_within : (ok : ℕ → Bool) (ascending : Bool) (count low field place : ℕ) → Ahead start field place
        → ItemWithin start (read_members text ok ascending count low field place)
    members_within ok ascending zero low field place a = a
    members_within ok ascending (suc count) low field place a =
        let rest : ℕ → ℕ → ItemRead = λ v next. read_members text ok ascending count (least_after ascending v) (field + 1) next in
        taken_within (λ v. leb low v && ok v) field place (λ v next. with_member v (rest v next)) a
        (λ v next h. member_within v (rest v next) (members_within ok ascending count (least_after ascending v) (field + 1) next h))

    list_within : (count? ok : ℕ → Bool) (ascending : Bool) (field place : ℕ) → Ahead start field place → ItemWithin start (read_list text count? ok ascending field place)
    unfolding read_list
    list_within count? ok ascending field place a =
        taken_within count? field place (λ count next. read_members text ok ascending count 0 (field + 1) next) a
        (λ count next h. members_within ok ascending count 0 (field + 1) next h)

    module _ (h : Header) (n : ℕ) where
      pub item_within : (before : List ℕ) (i : Item) (field place : ℕ) → Ahead start field place → ItemWithin start (read_item text h n before i field place)
      unfolding read_item
      item_within before (one kind) field place a = taken_within (in_range h n before kind) field place (λ v next. item (scalar v) (field + 1) next) a (λ v next b. b)
      item_within before T.set field place a = list_within (in_range h n before T.memberCount) (in_range h n before T.proposition) true field place a
      item_within before T.subtaskList field place a = list_within (in_range h n before (T.up_to 32)) (in_range h n before T.task) false field place a
      item_within before T.cues field place a = members_within (in_range h n before T.an_action) false h.cues 0 field place a

      value_within : (i : Item) (is : List Item) (field after : ℕ) (v : Value) (r : LineRead) → 1 ≤ field → after ≡ field + length (item_fields i v)
          → ItemsWithin text from start is (after - 1) r → ItemsWithin text from start (i ∷ is) (field - 1) (with_value v r)
      value_within i is field after v (line l vs next) k e w = (w.0, w.1, omega (arith, w.2, length-append (item_fields i v) (items_fields is vs)))
      value_within i is field after v (LineRead.unreadable f) k e w = w
      value_within i is field after v (LineRead.outside f) k e w = w

      item_then : (i : Item) (is : List Item) (field : ℕ) (r : ItemRead) (rest : Value → ℕ → ℕ → LineRead) → 1 ≤ field → Sized i field r → ItemWithin start r
          → ((v : Value) (after next : ℕ) → 1 ≤ after → Ahead start after next → ItemsWithin text from start is (after - 1) (rest v after next))
          → ItemsWithin text from start (i ∷ is) (field - 1) (follow_item r (λ v after next. with_value v (rest v after next)))
      item_then i is field (item v after next) rest k s w f = value_within i is field after v (rest v after next) k s (f v after next (omega arith) w)
      item_then i is field (ItemRead.unreadable x) rest k s w f = w
      item_then i is field (ItemRead.outside x) rest k s w f = w

      end_within : (l field place : ℕ) → 1 ≤ field → Ahead start field place → ItemsWithin text from start [] (field - 1) (finish_line l field (ending_at text place))
      end_within l field place k a = go (ending_at text place) refl
        where
          go : (x : Ending) → ending_at text place ≡ x → ItemsWithin text from start [] (field - 1) (finish_line l field x)
          go (ended next) e = let p = ending_next text place e in (omega arith, omega arith, omega arith)
          go surplus e = omega arith

      items_within : (l : ℕ) (is : List Item) (before : List ℕ) (field place : ℕ) → 1 ≤ field → Ahead start field place
          → ItemsWithin text from start is (field - 1) (read_items text h n l is before field place)
      items_within l [] before field place k a = end_within l field place k a
      items_within l (i ∷ is) before field place k a =
          item_then i is field (read_item text h n before i field place) (λ v after next. read_items text h n l is (before ++ (number_of v ∷ [])) after next) k
          (sized_item text h n before i field place) (item_within before i field place a)
          (λ v after next k' b. items_within l is (before ++ (number_of v ∷ [])) after next k' b)

  pub line_within : (due : Role) (h : Header) (n place : ℕ) → 2 * from ≤ place → LineWithin text from place (read_line text due h n place)
  unfolding read_line
  line_within due h n place low = go (feed_follows text place) refl
    where
      row : (l next : ℕ) → Ahead place 2 next → (o : Option Row) → row_of l ≡ o → LineWithin text from place (read_row text due h n l next o)
      row l next a none q = omega arith
      row l next a (some r) q = chosen (eqb (role_number due) (role_number r.role))
        where
          chosen : (b : Bool) → LineWithin text from place (elim b [ true ↦ read_items text h n l r.items [] 2 next | false ↦ LineRead.unreadable 1 ])
          chosen true = by_row text from place l r.items (read_items text h n l r.items [] 2 next) (ap row_items q) (items_within place h n l r.items [] 2 next (omega arith) a) (items_letter text h n l r.items [] 2 next)
          chosen false = omega arith

      found : feed_follows text place ≡ true → (x : Letter) → letter_at text place ≡ x → LineWithin text from place (read_letter text due h n x)
      found f (letter b next) e =
          let p = letter_next text place e in row b next (omega arith, omega arith, omega arith, letter_feeds text place e f) (row_of b) refl
      found f no_letter e = omega arith

      go : (b : Bool) → feed_follows text place ≡ b
          → LineWithin text from place (elim b [ true ↦ read_letter text due h n (letter_at text place) | false ↦ LineRead.unreadable 0 ])
      go true f = found f (letter_at text place) refl
      go false f = omega arith
