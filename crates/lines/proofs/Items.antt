-- One step of reading an item: what the code took where a number is due settles what the definitions read from there on. Assumes nothing.
use mathlib.Core.Path.{◌≡◌, refl, sym, ap, subst, transport, ◌∙◌}
use mathlib.Core.Bool.{Bool, true, false, ◌&&◌}
use mathlib.Core.List.{List}
use Prim.Native.Nat.{ℕ, zero, suc, ◌+◌, ◌<◌}
use native.Mathlib.Numerals.{add-one}
use native.Mathlib.Omega.{arith}
use lib.Dec.{leb, leb-zero}
use lib.ListN.{length, set}
use lib.Seq.{sets}
use Rattle.std.specs.Prelude.{Result, Ok, Err}
use Rattle.rules.specs.Text.{Number as NumberRead, number, not_plain, missing, number_at}
use Rattle.rules.specs.Table as T
use Rattle.rules.specs.Table.{scalar, listed, item, within, follow_taken, with_member, least_after, read_members}
use Rattle.text.specs.declared.Cursor.{Cursor}
use Rattle.text.specs.declared.Number.{Number}
use Rattle.text.specs.declared.FieldError.{FieldError}
use Rattle.text.specs.declared.FieldError.TheVariants.{NotPlain, Missing}
use Rattle.text.specs.Cursor.{cursor, as_field}
use Rattle.lines.specs.declared.item.ItemRead.{ItemRead}
use Rattle.lines.specs.declared.line.LineError.{LineError}
use Rattle.lines.specs.declared.line.LineError.TheVariants.{Bad, Range}
use Rattle.text.proofs.Laws.{number_next, number_feeds}
use Rattle.lines.specs.Reading.{as_taken, item_read, Room, MembersLeft, ItemLeft}

-- What a field that was read makes of a range.
abbrev pub taken_by : (ℕ → Bool) → ℕ → Result Number FieldError → Result Number LineError
taken_by ok field (Ok m) = elim (ok m.value) [ true ↦ Ok m | false ↦ Err (Range field) ]
taken_by ok field (Err NotPlain) = Err (Bad field)
taken_by ok field (Err Missing) = Err (Bad field)

take_field : (ok : ℕ → Bool) (field : ℕ) (x : NumberRead) → taken_by ok field (as_field x) ≡ as_taken field (within ok x)
take_field ok field (number v n) = go (ok v)
  where
    go : (b : Bool) → elim b as (λ t. Result Number LineError) [ true ↦ Ok (record { value = v; next = cursor n }) | false ↦ Err (Range field) ]
        ≡ as_taken field (elim b [ true ↦ T.taken v n | false ↦ T.out ])
    go true = refl
    go false = refl
take_field ok field not_plain = refl
take_field ok field missing = refl

-- The field that was read, with what its range said.
pub take_read : (ok : ℕ → Bool) (field : ℕ) (x : NumberRead) {f : Result Number FieldError} {t : Result Number LineError} → f ≡ as_field x
    → t ≡ taken_by ok field f → t ≡ as_taken field (within ok x)
take_read ok field x e q = q ∙ ap (taken_by ok field) e ∙ take_field ok field x

pub taken_yes : (ok : ℕ → Bool) (field : ℕ) (m : Number) → ok m.value ≡ true → Ok m ≡ taken_by ok field (Ok m)
taken_yes ok field m e = ap (λ (b : Bool). elim b as (λ t. Result Number LineError) [ true ↦ Ok m | false ↦ Err (Range field) ]) (sym e)

pub taken_no : (ok : ℕ → Bool) (field : ℕ) (m : Number) → ok m.value ≡ false → Err (Range field) ≡ taken_by ok field (Ok m)
taken_no ok field m e = ap (λ (b : Bool). elim b as (λ t. Result Number LineError) [ true ↦ Ok m | false ↦ Err (Range field) ]) (sym e)

-- Every number is at least 0.
pub take_zero : (ok : ℕ → Bool) (x : NumberRead) → within (λ v. leb 0 v && ok v) x ≡ within ok x
take_zero ok (number v n) = ap (λ (b : Bool). elim (b && ok v) as (λ t. T.Taken) [ true ↦ T.taken v n | false ↦ T.out ]) (leb-zero v)
take_zero ok not_plain = refl
take_zero ok missing = refl

-- ---- What was taken settles how reading goes on

taken_value : Result Number LineError → ℕ
taken_value (Ok m) = m.value
taken_value (Err e) = 0

taken_place : Result Number LineError → ℕ
taken_place (Ok m) = m.next.at
taken_place (Err e) = 0

apart : {A : Type 0} → ◌≡◌ {A = ℕ} 0 1 → A
apart z = absurd (omega arith)

-- Whatever is to hold of what is read, holds if it does of the rest after the number that was taken, or of the refusal.
module _ (field : ℕ) (rest : ℕ → ℕ → T.ItemRead) where
  on_number : (Q : T.ItemRead → Type 0) (y : T.Taken) (m : Number) → Ok m ≡ as_taken field y → Q (rest m.value m.next.at) → Q (follow_taken y field rest)
  unfolding taken_value taken_place
  on_number Q (T.taken w next) m e q =
      subst (λ (k : ℕ). Q (rest k next)) (ap taken_value e) (subst (λ (k : ℕ). Q (rest m.value k)) (ap taken_place e) q)
  on_number Q T.bad m e q = apart (cc)
  on_number Q T.out m e q = apart (cc)

  on_refused : (Q : T.ItemRead → LineError → Type 0) (y : T.Taken) (x : LineError) → Err x ≡ as_taken field y
      → Q (T.ItemRead.unreadable field) (Bad field) → Q (T.ItemRead.outside field) (Range field) → Q (follow_taken y field rest) x
  on_refused Q (T.taken w next) x e b o = apart (cc)
  on_refused Q T.bad x e b o = let same : Bad field ≡ x = cc in subst (λ (z : LineError). Q (T.ItemRead.unreadable field) z) same b
  on_refused Q T.out x e b o = let same : Range field ≡ x = cc in subst (λ (z : LineError). Q (T.ItemRead.outside field) z) same o

-- The same of an item that the code reads, where it asked for at least 0.
module _ (i : T.Item) (at : ℕ) (w : List ℕ) (field : ℕ) (rest : ℕ → ℕ → T.ItemRead) (ok : ℕ → Bool) (x : NumberRead) where
  pub item_number : (m : Number) → Ok m ≡ as_taken field (within (λ n. leb 0 n && ok n) x) → (r : Result ItemRead LineError) (u : List ℕ)
      → ItemLeft i at w (rest m.value m.next.at) r u → ItemLeft i at w (follow_taken (within ok x) field rest) r u
  item_number m e r u h = on_number field rest (λ y. ItemLeft i at w y r u) (within ok x) m (e ∙ ap (as_taken field) (take_zero ok x)) h

  pub item_refused : (f : LineError) → Err f ≡ as_taken field (within (λ n. leb 0 n && ok n) x) → (u : List ℕ)
      → ItemLeft i at w (follow_taken (within ok x) field rest) (Err f) u
  item_refused f e u =
      on_refused field rest (λ y z. ItemLeft i at w y (Err z) u) (within ok x) f (e ∙ ap (as_taken field) (take_zero ok x)) refl refl

-- A number that was taken was read there.
taken_read : (text : List ℕ) (ok : ℕ → Bool) (place field : ℕ) (m : Number) → Ok m ≡ as_taken field (within ok (number_at text place))
    → number_at text place ≡ number m.value m.next.at
unfolding taken_value taken_place
taken_read text ok place field m e = go (number_at text place) e
  where
    in_range_lem : (w next : ℕ) (b : Bool) → Ok m ≡ as_taken field (elim b [ true ↦ T.taken w next | false ↦ T.out ]) → number w next ≡ number m.value m.next.at
    in_range_lem w next true r = λ j. number (sym (ap taken_value r) j) (sym (ap taken_place r) j)
    in_range_lem w next false r = apart (cc)

    go : (x : NumberRead) → Ok m ≡ as_taken field (within ok x) → x ≡ number m.value m.next.at
    go (number w next) r = in_range_lem w next (ok w) r
    go not_plain r = apart (cc)
    go missing r = apart (cc)

-- There is room for a number that was taken, and then for what comes after it.
module _ (text w : List ℕ) (at place : ℕ) (ok : ℕ → Bool) (field : ℕ) (m : Number) (has : Room text w at place)
    (e : Ok m ≡ as_taken field (within ok (number_at text place))) where
  pub room_here : at < length w
  room_here =
      let p = number_next text place (taken_read text ok place field m e) in
      let a = has.ahead in
      let l = has.long in
      let s = has.short in
      omega (arith, p.0, p.1)

  pub room_next : (u : List ℕ) → length u ≡ length w → Room text u (at + 1) m.next.at
  room_next u same =
      let p = number_next text place (taken_read text ok place field m e) in
      let a = has.ahead in
      let l = has.long in
      record {
        short = has.short;
        inside = p.1;
        long = omega arith;
        ahead = omega (arith, p.0);
        feeds = number_feeds text place (taken_read text ok place field m e) has.feeds;
      }

-- ---- The members of a list

member_left : (n at v : ℕ) (w : List ℕ) (y : T.ItemRead) (r : Result ItemRead LineError) (u : List ℕ) → MembersLeft (n + 1) (at + 1) (set w at v) y r u
    → MembersLeft n at w (with_member v y) r u
member_left n at v w (item (scalar x) field next) r u h = h
member_left n at v w (item (listed vs) field next) r u h =
    let e : n + 1 + length vs ≡ n + suc (length vs) = omega arith in
    (h.0 ∙ ap (λ (k : ℕ). Ok (item_read k field next)) e, h.1 ∙ ap (λ (k : ℕ). sets (set w at v) k vs) (add-one at))
member_left n at v w (T.ItemRead.unreadable field) r u h = h
member_left n at v w (T.ItemRead.outside field) r u h = h

-- A list has as many members as its count says, a field for each.
abbrev pub Counted : ℕ → ℕ → T.ItemRead → Type 0
Counted count field (item (scalar v) after next) = ⊥
Counted count field (item (listed vs) after next) = (length vs ≡ count) × (after ≡ field + count)
Counted count field (T.ItemRead.unreadable f) = Unit {0}
Counted count field (T.ItemRead.outside f) = Unit {0}

counted_member : (count field v : ℕ) (y : T.ItemRead) → Counted count (field + 1) y → Counted (suc count) field (with_member v y)
counted_member count field v (item (scalar w) after next) h = h
counted_member count field v (item (listed vs) after next) h = (omega (arith, h.0), omega (arith, h.1))
counted_member count field v (T.ItemRead.unreadable f) h = tt
counted_member count field v (T.ItemRead.outside f) h = tt

module _ (text : List ℕ) (ok : ℕ → Bool) (ascending : Bool) where
  counted_taken : (count field : ℕ) (y : T.Taken) (rest : ℕ → ℕ → T.ItemRead) → ((v next : ℕ) → Counted count field (rest v next))
      → Counted count field (follow_taken y field rest)
  counted_taken count field (T.taken v next) rest h = h v next
  counted_taken count field T.bad rest h = tt
  counted_taken count field T.out rest h = tt

  pub counted_members : (count low field place : ℕ) → Counted count field (read_members text ok ascending count low field place)
  counted_members zero low field place = (refl, omega arith)
  counted_members (suc count) low field place =
      let rest : ℕ → ℕ → T.ItemRead = λ v next. read_members text ok ascending count (least_after ascending v) (field + 1) next in
      counted_taken (suc count) field (within (λ v. leb low v && ok v) (number_at text place)) (λ v next. with_member v (rest v next))
      (λ v next. counted_member count field v (rest v next) (counted_members count (least_after ascending v) (field + 1) next))

  module _ (n at : ℕ) (w : List ℕ) (count left low field place : ℕ) (e : count ≡ suc left) where
    abbrev taking : T.Taken
    taking = within (λ v. leb low v && ok v) (number_at text place)

    more : ℕ → ℕ → T.ItemRead
    more v next = with_member v (read_members text ok ascending left (least_after ascending v) (field + 1) next)

    by_count : (r : Result ItemRead LineError) (u : List ℕ) → MembersLeft n at w (follow_taken taking field more) r u
        → MembersLeft n at w (read_members text ok ascending count low field place) r u
    unfolding more
    by_count r u h = subst (λ (k : ℕ). MembersLeft n at w (read_members text ok ascending k low field place) r u) (sym e) h

    pub members_more : (m : Number) → Ok m ≡ as_taken field taking → {low' field' : ℕ} → low' ≡ least_after ascending m.value → field' ≡ field + 1
        → (r : Result ItemRead LineError) (u : List ℕ)
        → MembersLeft (n + 1) (at + 1) (set w at m.value) (read_members text ok ascending left low' field' m.next.at) r u
        → MembersLeft n at w (read_members text ok ascending count low field place) r u
    unfolding more
    members_more m q el ef r u h =
        by_count r u (on_number field more (λ y. MembersLeft n at w y r u) taking m q
        (member_left n at m.value w (read_members text ok ascending left (least_after ascending m.value) (field + 1) m.next.at) r u
        (transport (λ j. MembersLeft (n + 1) (at + 1) (set w at m.value) (read_members text ok ascending left (el j) (ef j) m.next.at) r u) h)))

    pub members_refused : (f : LineError) (u : List ℕ) → Err f ≡ as_taken field taking
        → MembersLeft n at w (read_members text ok ascending count low field place) (Err f) u
    members_refused f u q = by_count (Err f) u (on_refused field more (λ y z. MembersLeft n at w y (Err z) u) taking f q refl refl)

  pub members_end : (n at : ℕ) (w : List ℕ) (count low field : ℕ) (d : Cursor) → count ≡ 0
      → MembersLeft n at w (read_members text ok ascending count low field d.at) (Ok (record { value = n; field = field; next = d })) w
  members_end n at w count low field d e =
      let k : n ≡ n + 0 = omega arith in
      subst (λ (c : ℕ). MembersLeft n at w (read_members text ok ascending c low field d.at) (Ok (record { value = n; field = field; next = d })) w) (sym e)
      (ap (λ (m : ℕ). Ok (record { value = m; field = field; next = d })) k, refl)

-- ---- A list, and the cues, as items

-- The count is stored, and then the members: the fields of a list.
pub list_left : (count at field : ℕ) (w : List ℕ) (y : T.ItemRead) (r : Result ItemRead LineError) (u : List ℕ) → Counted count field y
    → MembersLeft 0 (at + 1) (set w at count) y r u → ItemLeft T.set at w y r u
list_left count at field w (item (scalar v) after next) r u c h = absurd h
list_left count at field w (item (listed vs) after next) r u c h =
    let z : 0 + length vs ≡ length vs = omega arith in (
      h.0 ∙ ap (λ (k : ℕ). Ok (item_read k after next)) z,
      h.1 ∙ (λ j. sets (set w at (sym c.0 j)) (add-one at j) vs),
    )
list_left count at field w (T.ItemRead.unreadable f) r u c h = h
list_left count at field w (T.ItemRead.outside f) r u c h = h

-- The fields of a list of subtasks are those of a set.
pub subtasks_left : (at : ℕ) (w : List ℕ) (y : T.ItemRead) (r : Result ItemRead LineError) (u : List ℕ) → ItemLeft T.set at w y r u → ItemLeft T.subtaskList at w y r u
subtasks_left at w (item v after next) r u h = h
subtasks_left at w (T.ItemRead.unreadable f) r u h = h
subtasks_left at w (T.ItemRead.outside f) r u h = h

pub cues_left : (at : ℕ) (w : List ℕ) (y : T.ItemRead) (r : Result ItemRead LineError) (u : List ℕ) → MembersLeft 0 at w y r u → ItemLeft T.cues at w y r u
cues_left at w (item (scalar v) after next) r u h = absurd h
cues_left at w (item (listed vs) after next) r u h =
    let z : 0 + length vs ≡ length vs = omega arith in (h.0 ∙ ap (λ (k : ℕ). Ok (item_read k after next)) z, h.1)
cues_left at w (T.ItemRead.unreadable f) r u h = h
cues_left at w (T.ItemRead.outside f) r u h = h
