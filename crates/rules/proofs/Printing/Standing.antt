-- A line that is read stands at its place as it is printed: item by item along its row of the table. Assumes nothing.
use mathlib.Core.Path.{◌≡◌, refl, sym, ap, ap₂, ◌∙◌}
use mathlib.Core.Bool.{Bool, true, false, ◌&&◌}
use mathlib.Core.List.{List, [], ◌∷◌, ◌++◌}
use mathlib.Core.Option.{Option, none, some}
use Prim.Native.Nat.{ℕ, zero, suc, ◌+◌}
use Prim.Native.Char.{code}
use lib.Dec.{eqb, leb}
use lib.ListN.{length, drop}
use lib.Seq.{drop-drop}
use borrow.Author.Tests.{eqb-true}
use Rattle.rules.specs.declared.Header.{Header}
use Rattle.rules.specs.Text.{is_feed, field_of, decimal, Number, number, not_plain, missing, number_at, letter_of, letter_at, ended, surplus, ending_of, ending_at, feed_follows}
use Rattle.rules.specs.Table.{Role, up_to, task, an_action, proposition, memberCount, Item, one, set, subtaskList, cues, Row, row_of, role_number, in_range, taken, out, within, Value, scalar, listed, number_of, ItemRead, item, follow_taken, with_member, least_after, read_members, read_list, read_item, LineRead, with_value, finish_line, read_items, read_row, read_letter, read_line}
use Rattle.rules.specs.Fields.{item_fields, items_fields, row_items}
use Rattle.rules.proofs.Outcomes.{AfterMember, ItemSays, member_says, LineSays, value_says, item_then}
use Rattle.rules.proofs.Judgement.Reading.{Any}
use Rattle.rules.proofs.Faults.Fields.{field_split, tail_at}
use Rattle.rules.proofs.Printing.Places.{Stands, NumberStands, number_stands}
use Rattle.rules.proofs.Printing.Onto.{numbers_onto, numbers_append, line_onto}

module _ (text : List ℕ) where
  -- ---- Items

  taken_stands' : (place : ℕ) (P : Value → ℕ → ℕ → Type 0) (ok : ℕ → Bool) (x : Number) (field : ℕ) (rest : ℕ → ℕ → ItemRead) → NumberStands text place x
      → ((v next : ℕ) → Stands text place v next → ItemSays Any Any P (rest v next)) → ItemSays Any Any P (follow_taken (within ok x) field rest)
  taken_stands' place P ok (number v next) field rest s f = go (ok v)
    where
      go : (b : Bool) → ItemSays Any Any P (follow_taken (elim b [ true ↦ taken v next | false ↦ out ]) field rest)
      go true = f v next s
      go false = tt
  taken_stands' place P ok not_plain field rest s f = tt
  taken_stands' place P ok missing field rest s f = tt

  taken_stands : (place : ℕ) (P : Value → ℕ → ℕ → Type 0) (ok : ℕ → Bool) (field : ℕ) (rest : ℕ → ℕ → ItemRead)
      → ((v next : ℕ) → Stands text place v next → ItemSays Any Any P (rest v next))
      → ItemSays Any Any P (follow_taken (within ok (number_at text place)) field rest)
  taken_stands place P ok field rest f = taken_stands' place P ok (number_at text place) field rest (number_stands text place) f

  members_stand : (ok : ℕ → Bool) (ascending : Bool) (count low field place : ℕ) (P : Value → ℕ → ℕ → Type 0)
      → ((vs : List ℕ) (field next : ℕ) → length vs ≡ count → drop place text ≡ numbers_onto vs (drop next text) → P (listed vs) field next)
      → ItemSays Any Any P (read_members text ok ascending count low field place)
  members_stand ok ascending zero low field place P f = f [] field place refl refl
  members_stand ok ascending (suc count) low field place P f =
      let rest : ℕ → ℕ → ItemRead = λ v next. read_members text ok ascending count (least_after ascending v) (field + 1) next in
      taken_stands place P (λ v. leb low v && ok v) field (λ v next. with_member v (rest v next))
      (λ v next s. member_says Any Any P v (rest v next)
      (members_stand ok ascending count (least_after ascending v) (field + 1) next (AfterMember P v)
      (λ vs field' after n t. f (v ∷ vs) field' after (ap suc n) (s ∙ ap (λ (l : List ℕ). code "," ∷ (decimal v ++ l)) t))))

  -- The numbers of an item stand at a place, and next is the place after them.
  abbrev ItemStands : Item → ℕ → Value → ℕ → ℕ → Type 0
  ItemStands i place v field next = drop place text ≡ numbers_onto (item_fields i v) (drop next text)

  list_stands : (count? ok : ℕ → Bool) (ascending : Bool) (field place : ℕ)
      → ItemSays Any Any (ItemStands set place) (read_list text count? ok ascending field place)
  unfolding read_list
  list_stands count? ok ascending field place =
      taken_stands place (ItemStands set place) count? field (λ count next. read_members text ok ascending count 0 (field + 1) next)
      (λ count next s. members_stand ok ascending count 0 (field + 1) next (ItemStands set place)
      (λ vs field' after n t. s ∙ ap₂ (λ (c : ℕ) (l : List ℕ). code "," ∷ (decimal c ++ l)) (sym n) t))

  item_stands : (h : Header) (n : ℕ) (before : List ℕ) (i : Item) (field place : ℕ)
      → ItemSays Any Any (ItemStands i place) (read_item text h n before i field place)
  unfolding read_item
  item_stands h n before (one kind) field place =
      taken_stands place (ItemStands (one kind) place) (in_range h n before kind) field (λ v next. item (scalar v) (field + 1) next) (λ v next s. s)
  item_stands h n before set field place = list_stands (in_range h n before memberCount) (in_range h n before proposition) true field place
  item_stands h n before subtaskList field place = list_stands (in_range h n before (up_to 32)) (in_range h n before task) false field place
  item_stands h n before cues field place =
      members_stand (in_range h n before an_action) false h.cues 0 field place (ItemStands cues place) (λ vs field' next n t. t)

  -- ---- Lines

  ending_stands : (P : ℕ → List Value → ℕ → Type 0) (l field place : ℕ) (bs : List ℕ) → drop place text ≡ bs
      → ((next : ℕ) → drop place text ≡ code "\n" ∷ drop next text → P l [] next) → LineSays Any Any P (finish_line l field (ending_of place bs))
  unfolding is_feed
  ending_stands P l field place [] e f = tt
  ending_stands P l field place (b ∷ bs) e f = go (is_feed b) refl
    where
      go : (c : Bool) → is_feed b ≡ c → LineSays Any Any P (finish_line l field (elim c [ true ↦ ended (place + 1) | false ↦ surplus ]))
      go true c = f (place + 1) (e ∙ ap₂ (λ (x : ℕ) (t : List ℕ). x ∷ t) (eqb-true b (code "\n") c) (sym (tail_at text place b bs e)))
      go false c = tt

  items_stand : (h : Header) (n l : ℕ) (is : List Item) (before : List ℕ) (field place : ℕ) (P : ℕ → List Value → ℕ → Type 0)
      → ((vs : List Value) (next : ℕ) → drop place text ≡ numbers_onto (items_fields is vs) (code "\n" ∷ drop next text) → P l vs next)
      → LineSays Any Any P (read_items text h n l is before field place)
  unfolding ending_at
  items_stand h n l [] before field place P f = ending_stands P l field place (drop place text) refl (λ next e. f [] next e)
  items_stand h n l (i ∷ is) before field place P f =
      item_then Any Any P (ItemStands i place) (read_item text h n before i field place)
      (λ v after next. with_value v (read_items text h n l is (before ++ (number_of v ∷ [])) after next))
      (item_stands h n before i field place)
      (λ v after next s. value_says Any Any P v (read_items text h n l is (before ++ (number_of v ∷ [])) after next)
      (items_stand h n l is (before ++ (number_of v ∷ [])) after next (λ l' vs end. P l' (v ∷ vs) end)
      (λ vs end t. f (v ∷ vs) end (s ∙ ap (numbers_onto (item_fields i v)) t ∙ sym (numbers_append (item_fields i v) (items_fields is vs) _)))))

  row_stands : (due : Role) (h : Header) (n l place : ℕ) (r : Option Row) (P : ℕ → List Value → ℕ → Type 0)
      → ((vs : List Value) (next : ℕ) → drop place text ≡ numbers_onto (items_fields (row_items r) vs) (code "\n" ∷ drop next text) → P l vs next)
      → LineSays Any Any P (read_row text due h n l place r)
  row_stands due h n l place none P f = tt
  row_stands due h n l place (some r) P f = go (eqb (role_number due) (role_number r.role))
    where
      go : (b : Bool) → LineSays Any Any P (elim b [ true ↦ read_items text h n l r.items [] 2 place | false ↦ LineRead.unreadable 1 ])
      go true = items_stand h n l r.items [] 2 place P f
      go false = tt

  -- The line stands at a place, and next is the place after it.
  abbrev pub LineStands : ℕ → ℕ → List Value → ℕ → Type 0
  LineStands place l vs next = drop place text ≡ line_onto (l, vs) (drop next text)

  pub line_stands : (due : Role) (h : Header) (n place : ℕ) → LineSays Any Any (LineStands place) (read_line text due h n place)
  unfolding read_line letter_at line_onto
  line_stands due h n place = go (feed_follows text place)
    where
      found : (fs : List ℕ) → drop place text ≡ fs ++ drop (length fs) (drop place text)
          → LineSays Any Any (LineStands place) (read_letter text due h n (letter_of place fs))
      found [] e = tt
      found (b ∷ []) e =
          row_stands due h n b (place + 1) (row_of b) (LineStands place) (λ vs next t. e ∙ ap (λ (l : List ℕ). b ∷ l) (drop-drop 1 place text ∙ t))
      found (b ∷ c ∷ fs) e = tt

      go : (b : Bool) → LineSays Any Any (LineStands place) (elim b [ true ↦ read_letter text due h n (letter_at text place) | false ↦ LineRead.unreadable 0 ])
      go true = found (field_of (drop place text)) (field_split (drop place text))
      go false = tt
