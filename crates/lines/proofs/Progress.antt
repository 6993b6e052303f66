-- The invariant of the loop over a line's items: what the items from here on leave, after those read so far, is what the line leaves.
-- Assumes nothing.
use mathlib.Core.Path.{◌≡◌, refl, sym, ap, subst, transport, ◌∙◌}
use mathlib.Core.List.{List, [], ◌∷◌}
use Prim.Native.Nat.{ℕ, zero, suc, ◌+◌, ◌-◌, ◌*◌, ◌/◌, ◌%◌, ◌^◌, ◌≤◌, ◌<◌}
use native.Mathlib.Decide.{dec_lt}
use native.Mathlib.Numerals.{add-one}
use native.Mathlib.Omega.{arith}
use lib.ListN.{get_or, length, take, set, length-set}
use lib.Seq.{length-sets}
use Rattle.std.specs.Prelude.{Result, Ok, Err}
use Rattle.rules.specs.Case.{header_in}
use Rattle.rules.specs.Text.{ending_at}
use Rattle.rules.specs.Table as T
use Rattle.rules.specs.Table.{Item, read_items}
use Rattle.rules.specs.Fields.{item_fields}
use Rattle.text.specs.declared.Cursor.{Cursor}
use Rattle.lines.specs.declared.item.ItemRead.{ItemRead}
use Rattle.lines.specs.declared.line.Line.{Line}
use Rattle.lines.specs.declared.line.LineError.{LineError}
use Rattle.lines.specs.Shapes.{item_of, items_in, items_of}
use Rattle.lines.specs.Reading.{read_item_in, Room, finish_of, ItemLeft, ItemsLeft}
use Rattle.lines.proofs.Lines.{Blank, blank_next, rest_next, items_some, items_none, items_end, Sized, sized_item, read_field, read_place, items_more, items_refused}
use Rattle.lines.proofs.Within.{Ahead, ItemWithin, item_within}

no_values : Blank 0 (0 ∷ 0 ∷ 0 ∷ 0 ∷ 0 ∷ 0 ∷ 0 ∷ 0 ∷ [])
no_values zero h = refl
no_values (suc zero) h = refl
no_values (suc (suc zero)) h = refl
no_values (suc (suc (suc zero))) h = refl
no_values (suc (suc (suc (suc zero)))) h = refl
no_values (suc (suc (suc (suc (suc zero))))) h = refl
no_values (suc (suc (suc (suc (suc (suc zero)))))) h = refl
no_values (suc (suc (suc (suc (suc (suc (suc zero))))))) h = refl
no_values (suc (suc (suc (suc (suc (suc (suc (suc j)))))))) h = refl

-- A byte that is not 0 is left only before the seventh item.
pub more_items : (i rest : ℕ) → rest < 256 ^ (7 - i) → (rest ≡ 0 → ⊥) → i < 7
more_items i rest small some = go (dec_lt i 7)
  where
    go : Dec (i < 7) → i < 7
    go (yes h) = h
    go (no h) =
        let none : 7 - i ≡ 0 = omega arith in
        let one : rest < 256 ^ 0 = subst (λ (k : ℕ). rest < 256 ^ k) none small in
        absurd (some (omega arith))

apart : {A : Type 0} → ◌≡◌ {A = ℕ} 0 1 → A
apart z = absurd (omega arith)

-- Where the field after an item comes.
ahead_after : (text : List ℕ) (from start field : ℕ) (x : Item) (w now : List ℕ) (got : ItemRead) (y : T.ItemRead)
    → ItemWithin text from start y → Sized x field y → ItemLeft x (from + (field - 1)) w y (Ok got) now
    → Ahead text from start got.field got.next.at × (field ≤ got.field) × (length now ≡ length w)
unfolding read_field read_place
ahead_after text from start field x w now got (T.item val f nx) a s e =
    let ef : f ≡ got.field = sym (ap read_field e.0) in
    let ed : nx ≡ got.next.at = sym (ap read_place e.0) in (
      transport (λ j. Ahead text from start (ef j) (ed j)) a,
      omega arith,
      ap length e.1 ∙ length-sets w (from + (field - 1)) (item_fields x val),
    )
ahead_after text from start field x w now got (T.ItemRead.unreadable f) a s e = apart (cc)
ahead_after text from start field x w now got (T.ItemRead.outside f) a s e = apart (cc)

module _ (text : List ℕ) (x : List ℕ) (l shape from : ℕ) (start : Cursor) (w₀ : List ℕ) where
  -- What the items of a line leave, from the first on, and from here on.
  abbrev AllLeft : Result Line LineError → List ℕ → Type 0
  AllLeft r u = ItemsLeft (items_of shape) 1 (from + 1) w₀ (read_items text (header_in x) (get_or x 7 0) l (items_of shape) [] 2 start.at) r u

  abbrev LeftFrom : ℕ → ℕ → List ℕ → ℕ → ℕ → List ℕ → Result Line LineError → List ℕ → Type 0
  LeftFrom rest i values field place w r u =
      ItemsLeft (items_in (7 - i) rest) (field - 1) (from + (field - 1)) w
      (read_items text (header_in x) (get_or x 7 0) l (items_in (7 - i) rest) (take i values) field place) r u

  pub record Progress (c : Cursor) (values : List ℕ) (field rest i : ℕ) (w : List ℕ) : Type 0 where
    pub most : i ≤ 7
    pub size : length values ≡ 8
    pub small : rest < 256 ^ (7 - i)
    pub blank : Blank i values
    pub second : 2 ≤ field
    pub kept : length w ≡ length w₀
    pub room : Room text w (from + (field - 1)) c.at
    pub same : (r : Result Line LineError) (u : List ℕ) → LeftFrom rest i values field c.at w r u → AllLeft r u

  pub begins : Room text w₀ (from + 1) start.at → shape < 256 ^ 7 → Progress start (0 ∷ 0 ∷ 0 ∷ 0 ∷ 0 ∷ 0 ∷ 0 ∷ 0 ∷ []) 2 shape 0 w₀
  unfolding items_of
  begins room small = record {
    most = omega arith;
    size = refl;
    small = small;
    blank = no_values;
    second = omega arith;
    kept = refl;
    room = room;
    same = λ r u h. h;
  }

  module _ (c : Cursor) (values : List ℕ) (field rest i : ℕ) (w : List ℕ) (p : Progress c values field rest i w) (some : rest ≡ 0 → ⊥) where
    inside : i < 7
    inside = more_items i rest p.small some

    left : 7 - i ≡ suc (7 - (i + 1))
    left = let h = inside in omega arith

    room_field : field < 2 ^ 40
    room_field = let a = p.room.ahead in let b = p.room.inside in let s = p.room.short in omega arith

    pub item_room : (field < 2 ^ 40) × Room text w (from + (field - 1)) c.at
    item_room = (room_field, p.room)

    by_byte : (r : Result Line LineError) (u : List ℕ)
        → ItemsLeft (item_of (rest % 256) ∷ items_in (7 - (i + 1)) (rest / 256)) (field - 1) (from + (field - 1)) w
        (read_items text (header_in x) (get_or x 7 0) l (item_of (rest % 256) ∷ items_in (7 - (i + 1)) (rest / 256)) (take i values) field c.at) r u
        → AllLeft r u
    by_byte r u h =
        let e : items_in (7 - i) rest ≡ item_of (rest % 256) ∷ items_in (7 - (i + 1)) (rest / 256)
        = ap (λ (k : ℕ). items_in k rest) left ∙ items_some (7 - (i + 1)) rest some in
        p.same r u
        (subst (λ (is : List Item). ItemsLeft is (field - 1) (from + (field - 1)) w (read_items text (header_in x) (get_or x 7 0) l is (take i values) field c.at) r u) (sym e) h)

    pub progress : (got : ItemRead) (now : List ℕ)
        → ItemLeft (item_of (rest % 256)) (from + (field - 1)) w (read_item_in text x values (item_of (rest % 256)) field c.at) (Ok got) now
        → Progress got.next (set values i got.value) got.field (rest / 256) (i + 1) now
    progress got now q =
        let h = inside in
        let s = p.second in
        let a = p.room.ahead in
        let two : 2 * (from + field) ≤ c.at + 3 = omega arith in
        let next = ahead_after text from c.at field (item_of (rest % 256)) w now got
        (read_item_in text x values (item_of (rest % 256)) field c.at)
        (item_within text from c.at (header_in x) (get_or x 7 0) values (item_of (rest % 256)) field c.at (omega arith, two, p.room.inside, p.room.feeds))
        (sized_item text (header_in x) (get_or x 7 0) values (item_of (rest % 256)) field c.at) q in
        let n = next.0.1 in
        let g = next.1 in
        record {
          most = omega arith;
          size = length-set values i got.value ∙ p.size;
          small = rest_next (7 - (i + 1)) rest (subst (λ (k : ℕ). rest < 256 ^ k) left p.small);
          blank = blank_next i got.value values p.blank;
          second = omega arith;
          kept = next.2 ∙ p.kept;
          room = record {
            short = p.room.short;
            inside = next.0.2;
            long = let l = p.room.long in let e = next.2 in omega arith;
            ahead = omega arith;
            feeds = next.0.3;
          };
          same = λ r u k.
              by_byte r u
              (items_more text (header_in x) (get_or x 7 0) l from i values (let z = p.size in omega arith) p.blank field c.at (omega arith) w now
              (item_of (rest % 256)) (items_in (7 - (i + 1)) (rest / 256)) got q r u
              (subst (λ (m : ℕ). ItemsLeft (items_in (7 - (i + 1)) (rest / 256)) (got.field - 1) (from + (got.field - 1)) now
              (read_items text (header_in x) (get_or x 7 0) l (items_in (7 - (i + 1)) (rest / 256)) (take m (set values i got.value)) got.field got.next.at) r u) (add-one i) k));
        }

    pub refused : (f : LineError) (now u : List ℕ)
        → ItemLeft (item_of (rest % 256)) (from + (field - 1)) w (read_item_in text x values (item_of (rest % 256)) field c.at) (Err f) now
        → AllLeft (Err f) u
    refused f now u q =
        by_byte (Err f) u
        (items_refused text (header_in x) (get_or x 7 0) l from i values (let z = p.size in let h = inside in omega arith) p.blank field c.at (let s = p.second in omega arith) w now
        (item_of (rest % 256)) (items_in (7 - (i + 1)) (rest / 256)) f q u)

  pub ends : (c : Cursor) (values : List ℕ) (field rest i : ℕ) (w : List ℕ) → Progress c values field rest i w → rest ≡ 0
      → (r : Result Line LineError) → r ≡ finish_of (field - 1) field (ending_at text c.at) → AllLeft r w
  ends c values field rest i w p e r q =
      p.same r w
      (subst (λ (is : List Item). ItemsLeft is (field - 1) (from + (field - 1)) w (read_items text (header_in x) (get_or x 7 0) l is (take i values) field c.at) r w)
      (sym (items_none (7 - i) rest e)) (items_end (field - 1) l field (from + (field - 1)) w (ending_at text c.at) r q))
