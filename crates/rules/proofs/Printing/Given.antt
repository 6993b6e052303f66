-- A line that passes its tests and stands at a place as it is printed is read there as that line: item by item along its row of the table.
-- Assumes nothing.
use mathlib.Core.Path.{◌≡◌, refl, ap, ◌∙◌, subst}
use mathlib.Core.Bool.{Bool, true, false, ◌&&◌, ◌||◌}
use mathlib.Core.List.{List, [], ◌∷◌, ◌++◌}
use mathlib.Core.Option.{Option, none, some}
use Prim.Native.Nat.{ℕ, ◌+◌}
use Prim.Native.Char.{code}
use lib.Dec.{eqb, leb}
use lib.ListN.{length, drop}
use borrow.Author.Tests.{eqb-true}
use Rattle.rules.specs.declared.Header.{Header}
use Rattle.rules.specs.Text.{is_feed, is_comma, ends_field, field_of, decimal, Number, letter_at, ending_of, ending_at, has_feed, feed_follows}
use Rattle.rules.specs.Table.{Role, up_to, task, an_action, proposition, memberCount, Item, one, set, subtaskList, cues, Row, table, row_of, in_range, within, Value, scalar, listed, number_of, ItemRead, item, follow_taken, with_member, least_after, read_members, read_list, read_item, LineRead, line, follow_item, with_value, finish_line, read_items, read_row, read_line}
use Rattle.rules.specs.Case.{Valued}
use Rattle.rules.specs.Fields.{item_fields, items_fields, row_items}
use Rattle.rules.proofs.Faults.Fields.{field_on, tail_at}
use Rattle.rules.proofs.Printing.Places.{Ends, field_none, NumberGiven, number_given}
use Rattle.rules.proofs.Printing.Onto.{numbers_onto, numbers_append, line_onto}
use Rattle.rules.proofs.Printing.Tests.{OkMembers, OkList, OkItem, OkItems, OkRow, OkLine}

-- ---- What stands first, and a line feed later

pub ends_numbers : (ns rest : List ℕ) → Ends rest → Ends (numbers_onto ns rest)
unfolding ends_field is_comma
ends_numbers [] rest e = e
ends_numbers (n ∷ ns) rest e = refl

feed_cons : (b : ℕ) (bs : List ℕ) → has_feed bs ≡ true → has_feed (b ∷ bs) ≡ true
feed_cons b bs e = go (is_feed b)
  where
    go : (c : Bool) → (elim c as (λ x. Bool) [ true ↦ true | false ↦ has_feed bs ]) ≡ true
    go true = refl
    go false = e

feed_append : (a bs : List ℕ) → has_feed bs ≡ true → has_feed (a ++ bs) ≡ true
feed_append [] bs e = e
feed_append (x ∷ a) bs e = feed_cons x (a ++ bs) (feed_append a bs e)

feed_numbers : (ns rest : List ℕ) → has_feed rest ≡ true → has_feed (numbers_onto ns rest) ≡ true
feed_numbers [] rest e = e
feed_numbers (n ∷ ns) rest e =
    feed_cons (code ",") (decimal n ++ numbers_onto ns rest) (feed_append (decimal n) (numbers_onto ns rest) (feed_numbers ns rest e))

module _ (text : List ℕ) where
  -- ---- Items

  -- The item is read, with this value, and this stands after it.
  abbrev ItemGiven : Value → List ℕ → ItemRead → Type 0
  ItemGiven v rest x = (field : ℕ) × (next : ℕ) × (x ≡ item v field next) × (drop next text ≡ rest)

  -- A number that is read and passes its test goes on to the rest.
  taken_given : {v : ℕ} {rest : List ℕ} {x : Number} {w : Value} {rest' : List ℕ} (ok : ℕ → Bool) (field : ℕ) (k : ℕ → ℕ → ItemRead)
      → NumberGiven text v rest x → ok v ≡ true → ((next : ℕ) → drop next text ≡ rest → ItemGiven w rest' (k v next))
      → ItemGiven w rest' (follow_taken (within ok x) field k)
  taken_given ok field k (next, e, d) o f = rw (e, o, within) (f next d)

  members_given : (ok : ℕ → Bool) (ascending : Bool) (vs : List ℕ) (low field place : ℕ) (rest : List ℕ) → OkMembers ok ascending low vs → Ends rest
      → drop place text ≡ numbers_onto vs rest → ItemGiven (listed vs) rest (read_members text ok ascending (length vs) low field place)
  members_given ok ascending [] low field place rest o s e = (field, place, refl, e)
  members_given ok ascending (v ∷ vs) low field place rest (passes, small, o) s e =
      taken_given (λ w. leb low w && ok w) field
      (λ w next. with_member w (read_members text ok ascending (length vs) (least_after ascending w) (field + 1) next))
      (number_given text place v (numbers_onto vs rest) small (ends_numbers vs rest s) e) passes
      (λ next d. more (members_given ok ascending vs (least_after ascending v) (field + 1) next rest o s d))
    where
      more : {x : ItemRead} → ItemGiven (listed vs) rest x → ItemGiven (listed (v ∷ vs)) rest (with_member v x)
      more (field', next, g, d) = (field', next, ap (with_member v) g, d)

  list_given : (count? ok : ℕ → Bool) (ascending : Bool) (vs : List ℕ) (field place : ℕ) (rest : List ℕ) → OkList count? ok ascending vs → Ends rest
      → drop place text ≡ numbers_onto (length vs ∷ vs) rest → ItemGiven (listed vs) rest (read_list text count? ok ascending field place)
  unfolding read_list
  list_given count? ok ascending vs field place rest (passes, small, o) s e =
      taken_given count? field (λ count next. read_members text ok ascending count 0 (field + 1) next)
      (number_given text place (length vs) (numbers_onto vs rest) small (ends_numbers vs rest s) e) passes
      (λ next d. members_given ok ascending vs 0 (field + 1) next rest o s d)

  item_given : (h : Header) (n : ℕ) (before : List ℕ) (i : Item) (v : Value) (field place : ℕ) (rest : List ℕ) → OkItem h n before i v → Ends rest
      → drop place text ≡ numbers_onto (item_fields i v) rest → ItemGiven v rest (read_item text h n before i field place)
  unfolding read_item
  item_given h n before (one kind) (scalar v) field place rest (passes, small) s e =
      taken_given (in_range h n before kind) field (λ w next. item (scalar w) (field + 1) next)
      (number_given text place v rest small s e) passes (λ next d. (field + 1, next, refl, d))
  item_given h n before (one kind) (listed vs) field place rest o s e = absurd o
  item_given h n before set (scalar v) field place rest o s e = absurd o
  item_given h n before set (listed vs) field place rest o s e =
      list_given (in_range h n before memberCount) (in_range h n before proposition) true vs field place rest o s e
  item_given h n before subtaskList (scalar v) field place rest o s e = absurd o
  item_given h n before subtaskList (listed vs) field place rest o s e =
      list_given (in_range h n before (up_to 32)) (in_range h n before task) false vs field place rest o s e
  item_given h n before cues (scalar v) field place rest o s e = absurd o
  item_given h n before cues (listed vs) field place rest (all, o) s e =
      subst (λ (c : ℕ). ItemGiven (listed vs) rest (read_members text (in_range h n before an_action) false c 0 field place)) all
      (members_given (in_range h n before an_action) false vs 0 field place rest o s e)

  -- ---- Lines

  -- The line is read, and this stands after it.
  abbrev pub LineGiven : Valued → List ℕ → LineRead → Type 0
  LineGiven x rest r = (next : ℕ) × (r ≡ line x.0 x.1 next) × (drop next text ≡ rest)

  -- An item that is read goes on to the rest of its line.
  item_then : {v : Value} {rest : List ℕ} {x : ItemRead} {y : Valued} {rest' : List ℕ} (k : Value → ℕ → ℕ → LineRead) → ItemGiven v rest x
      → ((field next : ℕ) → drop next text ≡ rest → LineGiven y rest' (k v field next)) → LineGiven y rest' (follow_item x k)
  item_then k (field, next, e, d) f = rw e (f field next d)

  value_given : {l : ℕ} {vs : List Value} {rest : List ℕ} {x : LineRead} (v : Value) → LineGiven (l, vs) rest x
      → LineGiven (l, v ∷ vs) rest (with_value v x)
  value_given v (next, e, d) = (next, ap (with_value v) e, d)

  items_given : (h : Header) (n l : ℕ) (is : List Item) (before : List ℕ) (vs : List Value) (field place : ℕ) (rest : List ℕ) → OkItems h n is before vs
      → drop place text ≡ numbers_onto (items_fields is vs) (code "\n" ∷ rest) → LineGiven (l, vs) rest (read_items text h n l is before field place)
  unfolding ending_at ends_field is_comma is_feed
  items_given h n l [] before [] field place rest o e =
      (place + 1, ap (λ (bs : List ℕ). finish_line l field (ending_of place bs)) e, tail_at text place (code "\n") rest e)
  items_given h n l [] before (v ∷ vs) field place rest o e = absurd o
  items_given h n l (i ∷ is) before [] field place rest o e = absurd o
  items_given h n l (i ∷ is) before (v ∷ vs) field place rest (o, os) e =
      let after = code "\n" ∷ rest in
      item_then (λ w field' next. with_value w (read_items text h n l is (before ++ (number_of w ∷ [])) field' next))
      (item_given h n before i v field place (numbers_onto (items_fields is vs) after) o (ends_numbers (items_fields is vs) after refl)
      (e ∙ numbers_append (item_fields i v) (items_fields is vs) after))
      (λ field' next d. value_given v (items_given h n l is (before ++ (number_of v ∷ [])) vs field' next rest os d))

  row_given : (due : Role) (h : Header) (n l place : ℕ) (vs : List Value) (rest : List ℕ) (r : Option Row) → OkRow due h n vs r
      → drop place text ≡ numbers_onto (items_fields (row_items r) vs) (code "\n" ∷ rest) → LineGiven (l, vs) rest (read_row text due h n l place r)
  row_given due h n l place vs rest none o e = absurd o
  row_given due h n l place vs rest (some r) (due?, o) e =
      rw (due?, read_row) (items_given h n l r.items [] vs 2 place rest o e)

  -- A letter of the table ends no field.
  letter_stays : (due : Role) (h : Header) (n l : ℕ) (vs : List Value) → OkRow due h n vs (row_of l) → ends_field l ≡ false
  unfolding ends_field is_comma is_feed row_of table
  letter_stays due h n l vs o = go (eqb l (code ",")) refl (eqb l (code "\n")) refl
    where
      go : (a : Bool) → eqb l (code ",") ≡ a → (b : Bool) → eqb l (code "\n") ≡ b → (a || b) ≡ false
      go true e b f = absurd (subst (λ (x : ℕ). OkRow due h n vs (row_of x)) (eqb-true l (code ",") e) o)
      go false e true f = absurd (subst (λ (x : ℕ). OkRow due h n vs (row_of x)) (eqb-true l (code "\n") f) o)
      go false e false f = refl

  pub line_given : (due : Role) (h : Header) (n place : ℕ) (x : Valued) (rest : List ℕ) → OkLine h n due x → drop place text ≡ line_onto x rest
      → LineGiven x rest (read_line text due h n place)
  unfolding read_line feed_follows letter_at OkLine line_onto ends_field is_comma is_feed
  line_given due h n place x rest o e =
      let l : ℕ = x.0 in
      let fields = items_fields (row_items (row_of l)) x.1 in
      let after : List ℕ = numbers_onto fields (code "\n" ∷ rest) in
      let feed : has_feed (drop place text) ≡ true = ap has_feed e ∙ feed_cons l after (feed_numbers fields (code "\n" ∷ rest) refl) in
      let field : field_of (drop place text) ≡ l ∷ [] =
      ap field_of e ∙ field_on l after (letter_stays due h n l x.1 o)
      ∙ ap (λ (f : List ℕ). l ∷ f) (field_none after (ends_numbers fields (code "\n" ∷ rest) refl)) in
      rw (feed, field, read_line)
      (row_given due h n l (place + 1) x.1 rest (row_of l) o (tail_at text place l after e))
