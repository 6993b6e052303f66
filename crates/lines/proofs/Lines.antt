-- One step of reading a line: what the code read for an item settles what the definitions read from there on; and the numbers read so far
-- are those that the array holds, which is zero past them. Assumes nothing.
use mathlib.Core.Path.{◌≡◌, refl, sym, ap, subst, transport, ◌∙◌, fun_ext}
use mathlib.Core.Bool.{Bool, true, false, ◌&&◌, not}
use mathlib.Core.List.{List, [], ◌∷◌, ◌++◌}
use Prim.Native.Nat.{ℕ, zero, suc, ◌+◌, ◌-◌, ◌/◌, ◌%◌, ◌^◌, ◌≤◌, ◌<◌}
use native.Mathlib.Nat.{div-lt_iff_lt-mul, pow-suc}
use native.Mathlib.Decide.{dec_lt}
use native.Mathlib.Omega.{arith}
use borrow.Author.Tests.{ne_eqb, eq-eqb}
use lib.Dec.{eqb, ltb, lit<}
use lib.ListN.{length, get_or, take, set, length-take, length-append, get_or-eq_default}
use lib.Seq.{sets, get_or-take, get_or-set_other, take-suc-set}
use Rattle.std.specs.Prelude.{Option, Some, None, Result, Ok, Err}
use Rattle.rules.specs.declared.Header.{Header}
use Rattle.rules.specs.Text.{Ending, ended, surplus, number_at}
use Rattle.rules.specs.Table as T
use Rattle.rules.specs.Table.{Kind, Item, one, in_range, Value, scalar, listed, number_of, item, follow_taken, read_members, read_list, read_item, follow_item, with_value, read_items}
use Rattle.rules.specs.Fields.{item_fields, items_fields}
use Rattle.text.specs.declared.Cursor.{Cursor}
use Rattle.text.specs.Cursor.{as_ending}
use Rattle.fields.proofs.Standing.{sets_append}
use Rattle.lines.specs.declared.item.ItemRead.{ItemRead}
use Rattle.lines.specs.declared.line.Line.{Line}
use Rattle.lines.specs.declared.line.LineError.{LineError}
use Rattle.lines.specs.declared.line.LineError.TheVariants.{Bad, Range}
use Rattle.lines.specs.Shapes.{item_of, items_in}
use Rattle.lines.specs.Reading.{line_done, finish_of, ItemLeft, ItemsLeft}
use Rattle.lines.proofs.Items.{Counted, counted_members}

-- ---- The numbers before an item, as a list and as the array

module _ (h : Header) (n : ℕ) (before values : List ℕ) (same : (j : ℕ) → get_or before j 0 ≡ get_or values j 0) where
  range_at : (k : Kind) (v : ℕ) → in_range h n before k v ≡ in_range h n values k v
  unfolding in_range
  range_at (T.up_to most) v = refl
  range_at (T.one_up_to most) v = refl
  range_at T.goal v = λ j. T.is_compound (same 1 j) (same 2 j) v
  range_at T.compound v = refl
  range_at T.task v = refl
  range_at T.an_action v = refl
  range_at T.aMethod v = refl
  range_at T.proposition v = refl
  range_at T.memberCount v = refl
  range_at T.subtask v = refl
  range_at T.otherSubtask v = ap (λ (i : ℕ). ltb v n && not (eqb v i)) (same 0)
  range_at T.subtaskSet v = refl
  range_at T.gap v = refl
  range_at T.position v = refl

  range_same : in_range h n before ≡ in_range h n values
  range_same = fun_ext (λ k. fun_ext (λ v. range_at k v))

  pub item_same : (text : List ℕ) (i : Item) (field place : ℕ) → read_item text h n before i field place ≡ read_item text h n values i field place
  unfolding read_item
  item_same text (one kind) field place =
      ap (λ (r : Kind → ℕ → Bool). follow_taken (T.within (r kind) (number_at text place)) field (λ v next. item (scalar v) (field + 1) next)) range_same
  item_same text T.set field place = ap (λ (r : Kind → ℕ → Bool). read_list text (r T.memberCount) (r T.proposition) true field place) range_same
  item_same text T.subtaskList field place = ap (λ (r : Kind → ℕ → Bool). read_list text (r (T.up_to 32)) (r T.task) false field place) range_same
  item_same text T.cues field place = ap (λ (r : Kind → ℕ → Bool). read_members text (r T.an_action) false h.cues 0 field place) range_same

-- The array is zero from place i on.
abbrev pub Blank : ℕ → List ℕ → Type 0
Blank i values = (j : ℕ) → i ≤ j → get_or values j 0 ≡ 0

pub blank_next : (i v : ℕ) (values : List ℕ) → Blank i values → Blank (i + 1) (set values i v)
blank_next i v values b j h = get_or-set_other values i j v 0 (λ e. omega arith) ∙ b j (omega arith)

taken_same : (i : ℕ) (values : List ℕ) → Blank i values → (j : ℕ) → get_or (take i values) j 0 ≡ get_or values j 0
taken_same i values b j = go (dec_lt j i)
  where
    go : Dec (j < i) → get_or (take i values) j 0 ≡ get_or values j 0
    go (yes h) = get_or-take i values j 0 h
    go (no h) =
        let past : i ≤ j = omega arith in
        get_or-eq_default (take i values) 0 (simp length-take (omega arith)) ∙ sym (b j past)

-- ---- The bytes of a shape

pub rest_next : (m rest : ℕ) → rest < 256 ^ suc m → rest / 256 < 256 ^ m
rest_next m rest h = (div-lt_iff_lt-mul (lit< tt)).1 (rw (← pow-suc 256 m) h)

pub items_some : (m rest : ℕ) → (rest ≡ 0 → ⊥) → items_in (suc m) rest ≡ item_of (rest % 256) ∷ items_in m (rest / 256)
items_some m rest h = ap (λ (b : Bool). elim b as (λ x. List Item) [ true ↦ [] | false ↦ item_of (rest % 256) ∷ items_in m (rest / 256) ]) (ne_eqb rest 0 h)

pub items_none : (k rest : ℕ) → rest ≡ 0 → items_in k rest ≡ []
items_none zero rest e = refl
items_none (suc m) rest e = ap (λ (b : Bool). elim b as (λ x. List Item) [ true ↦ [] | false ↦ item_of (rest % 256) ∷ items_in m (rest / 256) ]) (eq-eqb rest 0 e)

-- ---- The line's end

abbrev pub finish_by : ℕ → ℕ → Option Cursor → Result Line LineError
finish_by n field (Some d) = Ok (record { fields = n; next = d })
finish_by n field None = Err (Bad field)

pub finish_read : (n field : ℕ) (e : Ending) (r : Option Cursor) → r ≡ as_ending e → finish_by n field r ≡ finish_of n field e
finish_read n field e r q = ap (finish_by n field) q ∙ go e
  where
    go : (x : Ending) → finish_by n field (as_ending x) ≡ finish_of n field x
    go (ended next) = refl
    go surplus = refl

pub items_end : (n l field : ℕ) (at : ℕ) (w : List ℕ) (e : Ending) (r : Result Line LineError) → r ≡ finish_of n field e → ItemsLeft [] n at w (T.finish_line l field e) r w
items_end n l field at w (ended next) r q =
    let z : n ≡ n + 0 = omega arith in (q ∙ ap (λ (k : ℕ). Ok (line_done k next)) z, refl)
items_end n l field at w surplus r q = q

-- ---- How many fields an item has

abbrev pub Sized : Item → ℕ → T.ItemRead → Type 0
Sized i field (item v after next) = after ≡ field + length (item_fields i v)
Sized i field (T.ItemRead.unreadable f) = Unit {0}
Sized i field (T.ItemRead.outside f) = Unit {0}

sized_list : (count field : ℕ) (y : T.ItemRead) → Counted count (field + 1) y → Sized T.set field y
sized_list count field (item (scalar v) after next) c = absurd c
sized_list count field (item (listed vs) after next) c = omega (arith, c.0, c.1)
sized_list count field (T.ItemRead.unreadable f) c = tt
sized_list count field (T.ItemRead.outside f) c = tt

sized_subtasks : (field : ℕ) (y : T.ItemRead) → Sized T.set field y → Sized T.subtaskList field y
sized_subtasks field (item v after next) h = h
sized_subtasks field (T.ItemRead.unreadable f) h = h
sized_subtasks field (T.ItemRead.outside f) h = h

sized_cues : (count field : ℕ) (y : T.ItemRead) → Counted count field y → Sized T.cues field y
sized_cues count field (item (scalar v) after next) c = absurd c
sized_cues count field (item (listed vs) after next) c = omega (arith, c.0, c.1)
sized_cues count field (T.ItemRead.unreadable f) c = tt
sized_cues count field (T.ItemRead.outside f) c = tt

sized_taken : (i : Item) (field : ℕ) (y : T.Taken) (rest : ℕ → ℕ → T.ItemRead) → ((v next : ℕ) → Sized i field (rest v next)) → Sized i field (follow_taken y field rest)
sized_taken i field (T.taken v next) rest h = h v next
sized_taken i field T.bad rest h = tt
sized_taken i field T.out rest h = tt

pub sized_item : (text : List ℕ) (h : Header) (n : ℕ) (before : List ℕ) (i : Item) (field place : ℕ) → Sized i field (read_item text h n before i field place)
unfolding read_item read_list
sized_item text h n before (one kind) field place =
    sized_taken (one kind) field (T.within (in_range h n before kind) (number_at text place)) (λ v next. item (scalar v) (field + 1) next) (λ v next. refl)
sized_item text h n before T.set field place =
    let ok = in_range h n before T.proposition in
    sized_taken T.set field (T.within (in_range h n before T.memberCount) (number_at text place)) (λ c next. read_members text ok true c 0 (field + 1) next)
    (λ c next. sized_list c field (read_members text ok true c 0 (field + 1) next) (counted_members text ok true c 0 (field + 1) next))
sized_item text h n before T.subtaskList field place =
    let ok = in_range h n before T.task in
    sized_taken T.subtaskList field (T.within (in_range h n before (T.up_to 32)) (number_at text place)) (λ c next. read_members text ok false c 0 (field + 1) next)
    (λ c next. sized_subtasks field (read_members text ok false c 0 (field + 1) next)
    (sized_list c field (read_members text ok false c 0 (field + 1) next) (counted_members text ok false c 0 (field + 1) next)))
sized_item text h n before T.cues field place =
    let ok = in_range h n before T.an_action in
    sized_cues h.cues field (read_members text ok false h.cues 0 field place) (counted_members text ok false h.cues 0 field place)

-- ---- One item of a line

apart : {A : Type 0} → ◌≡◌ {A = ℕ} 0 1 → A
apart z = absurd (omega arith)

unfoldable pub read_value : Result ItemRead LineError → ℕ
read_value (Ok y) = y.value
read_value (Err e) = 0

unfoldable pub read_field : Result ItemRead LineError → ℕ
read_field (Ok y) = y.field
read_field (Err e) = 0

unfoldable pub read_place : Result ItemRead LineError → ℕ
read_place (Ok y) = y.next.at
read_place (Err e) = 0

-- The same, with a refusal's field number as its value and its field.
unfoldable pub outcome_value : Result ItemRead LineError → ℕ
outcome_value (Ok y) = y.value
outcome_value (Err (Bad field)) = field
outcome_value (Err (Range field)) = field

unfoldable pub outcome_field : Result ItemRead LineError → ℕ
outcome_field (Ok y) = y.field
outcome_field (Err (Bad field)) = field
outcome_field (Err (Range field)) = field

unfoldable pub outcome_place : Result ItemRead LineError → ℕ
outcome_place (Ok y) = y.next.at
outcome_place (Err e) = 0

-- Stated of another outcome that is equal.
pub item_told : (i : Item) (at : ℕ) (w : List ℕ) (y : T.ItemRead) {o o' : Result ItemRead LineError} (u : List ℕ) → o ≡ o' → ItemLeft i at w y o u
    → ItemLeft i at w y o' u
item_told i at w y u e h = subst (λ (x : Result ItemRead LineError). ItemLeft i at w y x u) e h

-- An item's fields are stored, and then those of the items after it.
value_left : (i : Item) (is : List Item) (from field after : ℕ) (w : List ℕ) (v : Value) (y : T.LineRead) (r : Result Line LineError) (u : List ℕ) → 1 ≤ field
    → after ≡ field + length (item_fields i v)
    → ItemsLeft is (after - 1) (from + (after - 1)) (sets w (from + (field - 1)) (item_fields i v)) y r u
    → ItemsLeft (i ∷ is) (field - 1) (from + (field - 1)) w (with_value v y) r u
value_left i is from field after w v (T.line l vs next) r u some e h =
    let n : after - 1 + length (items_fields is vs) ≡ field - 1 + length (item_fields i v ++ items_fields is vs)
    = omega (arith, length-append (item_fields i v) (items_fields is vs)) in
    let p : from + (after - 1) ≡ from + (field - 1) + length (item_fields i v) = omega arith in (
      h.0 ∙ ap (λ (k : ℕ). Ok (line_done k next)) n,
      h.1 ∙ ap (λ (k : ℕ). sets (sets w (from + (field - 1)) (item_fields i v)) k (items_fields is vs)) p
          ∙ sym (sets_append (item_fields i v) (items_fields is vs) w (from + (field - 1))),
    )
value_left i is from field after w v (T.LineRead.unreadable f) r u some e h = h
value_left i is from field after w v (T.LineRead.outside f) r u some e h = h

module _ (text : List ℕ) (h : Header) (n l from : ℕ) (i : ℕ) (values : List ℕ) (inside : i < length values) (blank : Blank i values) (field place : ℕ) (one' : 1 ≤ field)
    (w now : List ℕ) (x : Item) (is : List Item) where
  abbrev reading : T.ItemRead
  reading = read_item text h n values x field place

  after_item : Value → ℕ → ℕ → T.LineRead
  after_item v after next = with_value v (read_items text h n l is (take i values ++ (number_of v ∷ [])) after next)

  by_values : (r : Result Line LineError) (u : List ℕ) → ItemsLeft (x ∷ is) (field - 1) (from + (field - 1)) w (follow_item reading after_item) r u
      → ItemsLeft (x ∷ is) (field - 1) (from + (field - 1)) w (read_items text h n l (x ∷ is) (take i values) field place) r u
  unfolding after_item
  by_values r u g =
      subst (λ (y : T.ItemRead). ItemsLeft (x ∷ is) (field - 1) (from + (field - 1)) w (follow_item y after_item) r u)
      (sym (item_same h n (take i values) values (taken_same i values blank) text x field place)) g

  -- What the items after it leave is what the line's items from this one on leave.
  pub items_more : (got : ItemRead) → ItemLeft x (from + (field - 1)) w reading (Ok got) now → (r : Result Line LineError) (u : List ℕ)
      → ItemsLeft is (got.field - 1) (from + (got.field - 1)) now (read_items text h n l is (take (suc i) (set values i got.value)) got.field got.next.at) r u
      → ItemsLeft (x ∷ is) (field - 1) (from + (field - 1)) w (read_items text h n l (x ∷ is) (take i values) field place) r u
  unfolding after_item read_value read_field read_place
  items_more got q r u g = by_values r u (go reading (sized_item text h n values x field place) q)
    where
      go : (y : T.ItemRead) → Sized x field y → ItemLeft x (from + (field - 1)) w y (Ok got) now
          → ItemsLeft (x ∷ is) (field - 1) (from + (field - 1)) w (follow_item y after_item) r u
      go (item val f nx) s e =
          let ev : got.value ≡ number_of val = ap read_value e.0 in
          let ef : got.field ≡ f = ap read_field e.0 in
          let ed : got.next.at ≡ nx = ap read_place e.0 in
          let taken : take (suc i) (set values i got.value) ≡ take i values ++ (number_of val ∷ [])
          = take-suc-set values i got.value inside ∙ ap (λ (k : ℕ). take i values ++ (k ∷ [])) ev in
          value_left x is from field f w val (read_items text h n l is (take i values ++ (number_of val ∷ [])) f nx) r u one' s
          (transport (λ j. ItemsLeft is (ef j - 1) (from + (ef j - 1)) (e.1 j) (read_items text h n l is (taken j) (ef j) (ed j)) r u) g)
      go (T.ItemRead.unreadable f) s e = apart (cc)
      go (T.ItemRead.outside f) s e = apart (cc)

  -- A refusal of the item is the line's.
  pub items_refused : (f : LineError) → ItemLeft x (from + (field - 1)) w reading (Err f) now → (u : List ℕ)
      → ItemsLeft (x ∷ is) (field - 1) (from + (field - 1)) w (read_items text h n l (x ∷ is) (take i values) field place) (Err f) u
  items_refused f q u = by_values (Err f) u (go reading q)
    where
      go : (y : T.ItemRead) → ItemLeft x (from + (field - 1)) w y (Err f) now
          → ItemsLeft (x ∷ is) (field - 1) (from + (field - 1)) w (follow_item y after_item) (Err f) u
      go (item val g nx) e = let z = e.0 in apart (cc)
      go (T.ItemRead.unreadable g) e = cc
      go (T.ItemRead.outside g) e = cc
