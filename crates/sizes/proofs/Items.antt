-- The items of a line, passed one by one. Assumes nothing.
use mathlib.Core.Path.{◌≡◌, refl, sym, ap, subst, ◌∙◌}
use mathlib.Core.Bool.{Bool, true, false}
use mathlib.Core.List.{List, [], ◌∷◌}
use mathlib.Core.Logic.{◌⊎◌, inl, inr, ⊎_elim}
use mathlib.Core.Option.{Option, none, some}
use Prim.Native.Nat.{ℕ, zero, suc, ◌+◌, ◌/◌, ◌%◌, ◌^◌, ◌≤◌, ◌<◌}
use native.Mathlib.Nat.{div-lt_iff_lt-mul, pow-suc}
use native.Mathlib.Omega.{arith}
use borrow.Author.Tests.{eqb-true, eqb-false, ne_eqb}
use lib.Dec.{eqb}
use lib.ListN.{length, get_or, length-append}
use Rattle.rules.specs.Table.{Item, set, subtaskList, cues, Row, Value, scalar, listed, row_of}
use Rattle.rules.specs.Case.{Valued}
use Rattle.rules.specs.Fields.{item_fields, items_fields, row_items, line_fields}
use Rattle.fields.specs.Standing.{Stands}
use Rattle.fields.proofs.Standing.{stands_left, stands_right, stands_rest, stands_inside, stands_first}
use Rattle.lines.specs.Shapes.{item_of, items_in, items_of, shape_row, row_shown}
use Rattle.lines.proofs.Shapes.{item_one, item_cues}
use Rattle.sizes.specs.Sizes.{IsOf, Shaped, IsLine}

-- ---- One item, by its byte

pub one_size : (b : ℕ) (v : Value) → b < 20 → 1 ≡ length (item_fields (item_of b) v)
one_size b v h = ap (λ (i : Item). length (item_fields i v)) (sym (item_one b h))

list_item : (b : ℕ) → 20 ≤ b → b < 22 → (item_of b ≡ set) ⊎ (item_of b ≡ subtaskList)
unfolding item_of
list_item b low high = go (eqb b 20) refl
  where
    go : (t : Bool) → eqb b 20 ≡ t → (item_of b ≡ set) ⊎ (item_of b ≡ subtaskList)
    go true e = inl (ap item_of (eqb-true b 20 e))
    go false e = let other = eqb-false b 20 e in let is : b ≡ 21 = omega arith in inr (ap item_of is)

-- "A list is its count followed by its members."
abbrev AsList : Item → Value → Type 0
AsList i v = (vs : List ℕ) × (item_fields i v ≡ length vs ∷ vs)

set_list : (k : ℕ) (v : Value) → IsOf k set v → AsList set v
set_list k (scalar n) h = absurd h
set_list k (listed vs) h = (vs, refl)

subtasks_list : (k : ℕ) (v : Value) → IsOf k subtaskList v → AsList subtaskList v
subtasks_list k (scalar n) h = absurd h
subtasks_list k (listed vs) h = (vs, refl)

as_list : (k b : ℕ) (v : Value) → 20 ≤ b → b < 22 → IsOf k (item_of b) v → AsList (item_of b) v
as_list k b v low high =
    ⊎_elim (λ e. subst (λ (i : Item). IsOf k i v → AsList i v) (sym e) (set_list k v))
    (λ e. subst (λ (i : Item). IsOf k i v → AsList i v) (sym e) (subtasks_list k v)) (list_item b low high)

-- A list stands inside the fields, and its first field tells how many there are.
pub list_size : (k b : ℕ) (v : Value) (fields : List ℕ) (at : ℕ) → 20 ≤ b → b < 22 → IsOf k (item_of b) v → Stands fields at (item_fields (item_of b) v)
    → (at < length fields) × (1 + get_or fields at 0 ≡ length (item_fields (item_of b) v))
list_size k b v fields at low high is here =
    let l = as_list k b v low high is in
    let s = subst (Stands fields at) l.1 here in
    let inside = stands_inside fields at (length l.0 ∷ l.0) s (omega arith) in
    let first = stands_first fields at (length l.0) l.0 s in
    let long : length (item_fields (item_of b) v) ≡ suc (length l.0) = ap length l.1 in
    (omega arith, omega arith)

cues_list : (k : ℕ) (v : Value) → IsOf k cues v → k ≡ length (item_fields cues v)
cues_list k (scalar n) h = absurd h
cues_list k (listed vs) h = sym h

pub cues_size : (k b : ℕ) (v : Value) → 22 ≤ b → IsOf k (item_of b) v → k ≡ length (item_fields (item_of b) v)
cues_size k b v h =
    subst (λ (i : Item). IsOf k i v → k ≡ length (item_fields i v)) (sym (item_cues b (omega arith) (λ e. omega arith) (λ e. omega arith))) (cues_list k v)

-- ---- The items in turn

more_items : (n rest : ℕ) → (rest ≡ 0 → ⊥) → items_in (suc n) rest ≡ item_of (rest % 256) ∷ items_in n (rest / 256)
more_items n rest h =
    ap (λ (b : Bool). elim b as (λ x. List Item) [ true ↦ [] | false ↦ item_of (rest % 256) ∷ items_in n (rest / 256) ]) (ne_eqb rest 0 h)

no_items : (n : ℕ) → items_in n 0 ≡ []
no_items zero = refl
no_items (suc n) = refl

-- The items of the line x from here on: `size` fields of it are passed, and `rest` has the other items, at most `left` of them.
pub record Passing (k : ℕ) (fields : List ℕ) (at : ℕ) (x : Valued) (rest size : ℕ) : Type 0 where
  pub left : ℕ
  pub fits : rest < 256 ^ left
  pub values : List Value
  pub shaped : Shaped k (items_in left rest) values
  pub here : Stands fields (at + size) (items_fields (items_in left rest) values)
  pub whole : length (line_fields x) ≡ size + length (items_fields (items_in left rest) values)

-- A line's letter stands inside the fields, and is a byte.
pub letter_here : (k : ℕ) (fields : List ℕ) (at : ℕ) (x : Valued) → IsLine k x → Stands fields at (line_fields x)
    → (at + length (line_fields x) ≤ length fields) × (at < length fields) × (get_or fields at 0 ≡ x.0) × (get_or fields at 0 < 256)
unfolding line_fields
letter_here k fields at x l s =
    let inside = stands_inside fields at (line_fields x) s (omega arith) in
    let first = stands_first fields at x.0 (items_fields (row_items (row_of x.0)) x.1) s in
    let byte = l.byte in
    (inside, omega arith, first, omega arith)

shown_items : (o : Option Row) → (row_shown o).1 ≡ row_items o
unfolding row_shown
shown_items none = refl
shown_items (some r) = refl

-- After the letter, whose shape this is.
pub passing_starts : (k : ℕ) (fields : List ℕ) (at : ℕ) (x : Valued) (shape : ℕ) → shape < 2 ^ 64 → shape_row shape ≡ row_shown (row_of (get_or fields at 0))
    → IsLine k x → Stands fields at (line_fields x) → Passing k fields at x (shape / 256) 1
unfolding line_fields shape_row items_of
passing_starts k fields at x shape small row l s =
    let first = (letter_here k fields at x l s).2 in
    let items : items_in 7 (shape / 256) ≡ row_items (row_of x.0)
    = ap (λ (p : ℕ × List Item). p.1) row ∙ shown_items (row_of (get_or fields at 0)) ∙ ap (λ (n : ℕ). row_items (row_of n)) first in
    record {
      left = 7;
      fits = omega arith;
      values = x.1;
      shaped = subst (λ (is : List Item). Shaped k is x.1) (sym items) l.shaped;
      here = subst (λ (is : List Item). Stands fields (at + 1) (items_fields is x.1)) (sym items)
          (stands_rest fields at x.0 (items_fields (row_items (row_of x.0)) x.1) s);
      whole = subst (λ (is : List Item). length (line_fields x) ≡ 1 + length (items_fields is x.1)) (sym items) (omega arith);
    }

-- The item that is due, and that those after it follow.
pub record Due (k : ℕ) (fields : List ℕ) (at : ℕ) (x : Valued) (rest size : ℕ) : Type 0 where
  pub value : Value
  pub is : IsOf k (item_of (rest % 256)) value
  pub here : Stands fields (at + size) (item_fields (item_of (rest % 256)) value)
  pub inside : size + length (item_fields (item_of (rest % 256)) value) ≤ length (line_fields x)
  pub next : (n : ℕ) → n ≡ length (item_fields (item_of (rest % 256)) value) → Passing k fields at x (rest / 256) (size + n)

module _ (k : ℕ) (fields : List ℕ) (at : ℕ) (x : Valued) (rest size : ℕ) where
  first_due : (left : ℕ) → rest / 256 < 256 ^ left → (values : List Value) → Shaped k (item_of (rest % 256) ∷ items_in left (rest / 256)) values
      → Stands fields (at + size) (items_fields (item_of (rest % 256) ∷ items_in left (rest / 256)) values)
      → length (line_fields x) ≡ size + length (items_fields (item_of (rest % 256) ∷ items_in left (rest / 256)) values) → Due k fields at x rest size
  first_due left fits [] shaped here whole = absurd shaped
  first_due left fits (v ∷ vs) shaped here whole =
      let own = item_fields (item_of (rest % 256)) v in
      let others = items_fields (items_in left (rest / 256)) vs in
      let long = length-append own others in
      record {
        value = v;
        is = shaped.0;
        here = stands_left fields (at + size) own others here;
        inside = omega arith;
        next =
            λ n e. record {
              left = left;
              fits = fits;
              values = vs;
              shaped = shaped.1;
              here =
                  let place : at + size + length own ≡ at + (size + n) = omega arith in
                  subst (λ (p : ℕ). Stands fields p others) place (stands_right fields (at + size) own others here);
              whole = omega arith;
            };
      }

  pub item_due : Passing k fields at x rest size → (rest ≡ 0 → ⊥) → Due k fields at x rest size
  item_due p more = go p.left p.fits p.shaped p.here p.whole
    where
      go : (left : ℕ) → rest < 256 ^ left → Shaped k (items_in left rest) p.values → Stands fields (at + size) (items_fields (items_in left rest) p.values)
          → length (line_fields x) ≡ size + length (items_fields (items_in left rest) p.values) → Due k fields at x rest size
      go zero fits shaped here whole = absurd (more (omega arith))
      go (suc n) fits shaped here whole =
          let e = more_items n rest more in
          first_due n ((div-lt_iff_lt-mul {k = 256} {x = rest} {y = 256 ^ n} (omega arith)).1 (rw pow-suc at fits)) p.values
          (subst (λ (is : List Item). Shaped k is p.values) e shaped)
          (subst (λ (is : List Item). Stands fields (at + size) (items_fields is p.values)) e here)
          (subst (λ (is : List Item). length (line_fields x) ≡ size + length (items_fields is p.values)) e whole)

  pub passing_ends : Passing k fields at x rest size → rest ≡ 0 → size ≡ length (line_fields x)
  passing_ends p e =
      let none : items_in p.left rest ≡ [] = ap (items_in p.left) e ∙ no_items p.left in
      let whole = subst (λ (is : List Item). length (line_fields x) ≡ size + length (items_fields is p.values)) none p.whole in
      omega arith
