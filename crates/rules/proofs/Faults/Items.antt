-- Reading one line, item by item along its row of the table, against the line's fields. Assumes nothing.
use mathlib.Core.Path.{◌≡◌, refl, sym, ap, ◌∙◌, subst, fun_ext}
use mathlib.Core.Bool.{Bool, true, false, ◌&&◌}
use mathlib.Core.Logic.{inl, inr}
use mathlib.Core.List.{List, [], ◌∷◌, ◌++◌, append-nil, append_assoc}
use mathlib.Core.Option.{Option, none, some}
use Prim.Native.Nat.{ℕ, zero, suc, ◌+◌, ◌<◌}
use native.Mathlib.Omega.{arith}
use lib.Dec.{leb}
use lib.ListN.{length, drop, get_or, length-append}
use lib.Seq.{append_snoc, get_or_at}
use Rattle.rules.specs.declared.Header.{Header}
use Rattle.rules.specs.Text.{is_plain, value_of, number, not_plain, number_at, ending_at}
use Rattle.rules.specs.Table.{Role, Kind, up_to, task, an_action, proposition, memberCount, Item, one, set, subtaskList, cues, Row, in_range, taken, out, within, Value, scalar, listed, number_of, ItemRead, follow_taken, least_after, read_members, read_list, read_item, finish_line, read_items}
use Rattle.rules.specs.Faults.{Ended, fields_at, members_due, due, LetterOf, NumberIn, NumbersRight, Begins, Awaited, Comes, Unread, Outside}
use Rattle.rules.proofs.Outcomes.{AfterMember, ItemSays, member_says, LineSays, value_says, item_then}
use Rattle.rules.proofs.Faults.Fields.{Left, number_missing, number_there, line_over, field_over}

-- ---- The values of a line and its numbers

-- What an item of a line holds, and its numbers as they stand in the fields.
pub data Holds : Item → Value → List ℕ → Type 0 where
  a_number : {kind : Kind} {v : ℕ} → Holds (one kind) (scalar v) (v ∷ [])
  a_set : {vs : List ℕ} → Holds set (listed vs) (length vs ∷ vs)
  a_list : {vs : List ℕ} → Holds subtaskList (listed vs) (length vs ∷ vs)
  the_cues : {vs : List ℕ} → Holds cues (listed vs) vs

pub data HoldAll : List Item → List Value → List ℕ → Type 0 where
  over : HoldAll [] [] []
  more : {i : Item} {is : List Item} {v : Value} {vs : List Value} {ms ns : List ℕ} → Holds i v ms → HoldAll is vs ns
      → HoldAll (i ∷ is) (v ∷ vs) (ms ++ ns)

-- ---- Where reading is in a line

-- The numbers ns have been read; what is due after them is what `next` says; the line has the fields fs left.
pub record Upto (text after : List ℕ) (fields : List (List ℕ)) (h : Header) (n : ℕ) (items : List Item) (ns : List ℕ)
    (next : List ℕ → Option (ℕ → Bool)) (field place : ℕ) : Type 0 where
  pub right : NumbersRight h n items fields ns
  pub then : (xs : List ℕ) → due h n [] items (ns ++ xs) ≡ next xs
  pub counted : field ≡ 2 + length ns
  pub past : List (List ℕ)
  pub fs : List (List ℕ)
  pub parted : fields ≡ past ++ fs
  pub past_length : length past ≡ 1 + length ns
  pub left : Left (drop place text) fs after

-- All of a line has been read.
pub record Whole (text after : List ℕ) (fields : List (List ℕ)) (h : Header) (n : ℕ) (items : List Item) (ns : List ℕ) (place : ℕ) : Type 0 where
  pub right : NumbersRight h n items fields ns
  pub none_due : due h n [] items ns ≡ none
  pub counted : length fields ≡ 1 + length ns
  pub rest : drop place text ≡ after

-- ---- The walk

module _ (text : List ℕ) (l : ℕ) (h : Header) (role : Role) (n : ℕ) (later : List Awaited) (r : Row) (after : List ℕ)
    (comes : Comes text l (h, (role, n) ∷ later)) (ended : Ended text l) (letter : LetterOf role (fields_at text l) r) where
  -- Reading is there, in this line.
  abbrev At : List ℕ → (List ℕ → Option (ℕ → Bool)) → ℕ → ℕ → Type 0
  At = Upto text after (fields_at text l) h n r.items

  abbrev All : List ℕ → ℕ → Type 0
  All = Whole text after (fields_at text l) h n r.items

  begins : {ns : List ℕ} → NumbersRight h n r.items (fields_at text l) ns → Begins text l h role n r ns
  begins right = record { ended = ended; letter = letter; right = right }

  now_due : {ns : List ℕ} {next : List ℕ → Option (ℕ → Bool)} {field place : ℕ} → At ns next field place → due h n [] r.items ns ≡ next []
  now_due {ns} u = ap (due h n [] r.items) (sym (append-nil ns)) ∙ u.then []

  module _ {ns : List ℕ} {next : List ℕ → Option (ℕ → Bool)} {field place : ℕ} (u : At ns next field place) where
    no_more : fields_at text l ≡ u.past ++ [] → length (fields_at text l) ≡ 1 + length ns
    no_more e = ap length (e ∙ append-nil u.past) ∙ u.past_length

    one_more : (x : List ℕ) (fs : List (List ℕ)) → fields_at text l ≡ u.past ++ x ∷ fs → 1 + length ns < length (fields_at text l)
    one_more x fs e = rw (e, length-append) (omega (arith, u.past_length))

    next_field : (x : List ℕ) (fs : List (List ℕ)) → fields_at text l ≡ u.past ++ x ∷ fs → get_or (fields_at text l) (1 + length ns) [] ≡ x
    next_field x fs e = ap (λ (t : List (List ℕ)). get_or t (1 + length ns) []) e ∙ get_or_at u.past x fs [] (1 + length ns) u.past_length

  -- A number that is due: the field is missing or no plain number, or out of its range; or reading goes on after it.
  taken_says : (P : Value → ℕ → ℕ → Type 0) (ok : ℕ → Bool) {ns : List ℕ} {next : List ℕ → Option (ℕ → Bool)} {field place : ℕ}
      (rest : ℕ → ℕ → ItemRead) → At ns next field place → next [] ≡ some ok
      → ((v after : ℕ) → At (ns ++ v ∷ []) (λ xs. next (v ∷ xs)) (field + 1) after → ItemSays (Unread text l) (Outside text l) P (rest v after))
      → ItemSays (Unread text l) (Outside text l) P (follow_taken (within ok (number_at text place)) field rest)
  taken_says P ok {ns} {next} {field} {place} rest u d f = go u.fs u.parted u.left
    where
      now : due h n [] r.items ns ≡ some ok
      now = now_due u ∙ d

      go : (fs : List (List ℕ)) → fields_at text l ≡ u.past ++ fs → Left (drop place text) fs after
          → ItemSays (Unread text l) (Outside text l) P (follow_taken (within ok (number_at text place)) field rest)
      go [] e left = rw (number_missing text after place left, u.counted)
          (Unread.number comes (begins u.right) now (inl (no_more u e)))
      go (x ∷ fs) e left = rw (number_there text after place x fs left).0 (plain (is_plain x) refl)
        where
          here : get_or (fields_at text l) (1 + length ns) [] ≡ x
          here = next_field u x fs e

          it : is_plain x ≡ true → NumberIn (fields_at text l) (1 + length ns) (value_of 0 x)
          it p = record { there = one_more u x fs e; plain = ap is_plain here ∙ p; value = ap (value_of 0) here }

          inside : (b : Bool) → is_plain x ≡ true → ok (value_of 0 x) ≡ b
              → ItemSays (Unread text l) (Outside text l) P (follow_taken (elim b [ true ↦ taken (value_of 0 x) (place + 1 + length x) | false ↦ out ]) field rest)
          inside true p q = f (value_of 0 x) (place + 1 + length x)
              (record {
                right = NumbersRight.further u.right now (it p) q;
                then = λ xs. ap (due h n [] r.items) (append_snoc ns (value_of 0 x) xs) ∙ u.then (value_of 0 x ∷ xs);
                counted = rw length-append (omega (arith, u.counted));
                past = u.past ++ x ∷ [];
                fs = fs;
                parted = e ∙ sym (append_snoc u.past x fs);
                past_length = simp length-append (omega (arith, u.past_length));
                left = (number_there text after place x fs left).1;
              })
          inside false p q = rw u.counted (Outside.outside comes (begins u.right) now (it p) q)

          plain : (b : Bool) → is_plain x ≡ b
              → ItemSays (Unread text l) (Outside text l) P (follow_taken (within ok (elim b [ true ↦ number (value_of 0 x) (place + 1 + length x) | false ↦ not_plain ])) field rest)
          plain true p = inside (ok (value_of 0 x)) p refl
          plain false p = rw u.counted (Unread.number comes (begins u.right) now (inr (ap is_plain here ∙ p)))

  -- So many members, and what is due after them.
  members_say : (P : Value → ℕ → ℕ → Type 0) (ok : ℕ → Bool) (ascending : Bool) (next : List ℕ → Option (ℕ → Bool)) (count low field place : ℕ)
      (ns : List ℕ) → At ns (λ xs. members_due ok ascending count low xs next) field place
      → ((vs : List ℕ) (field place : ℕ) → length vs ≡ count → At (ns ++ vs) next field place → P (listed vs) field place)
      → ItemSays (Unread text l) (Outside text l) P (read_members text ok ascending count low field place)
  members_say P ok ascending next zero low field place ns u f =
      f [] field place refl (subst (λ (ns : List ℕ). At ns next field place) (sym (append-nil ns)) u)
  members_say P ok ascending next (suc count) low field place ns u f =
      taken_says P (λ v. leb low v && ok v) _ u refl
      (λ v place' u'. member_says (Unread text l) (Outside text l) P v (read_members text ok ascending count (least_after ascending v) (field + 1) place')
      (members_say (AfterMember P v) ok ascending next count (least_after ascending v) (field + 1) place' (ns ++ v ∷ []) u'
      (λ vs field'' place'' e u''. f (v ∷ vs) field'' place'' (ap suc e)
      (subst (λ (ns : List ℕ). At ns next field'' place'') (append_snoc ns v vs) u''))))

  list_says : (P : Value → ℕ → ℕ → Type 0) (count? ok : ℕ → Bool) (ascending : Bool) (next : ℕ → List ℕ → Option (ℕ → Bool))
      (now : List ℕ → Option (ℕ → Bool)) (field place : ℕ) (ns : List ℕ) → At ns now field place
      → now [] ≡ some count? → ((count : ℕ) (xs : List ℕ) → now (count ∷ xs) ≡ members_due ok ascending count 0 xs (next count))
      → ((vs : List ℕ) (field place : ℕ) → At (ns ++ length vs ∷ vs) (next (length vs)) field place → P (listed vs) field place)
      → ItemSays (Unread text l) (Outside text l) P (read_list text count? ok ascending field place)
  unfolding read_list
  list_says P count? ok ascending next now field place ns u d e f =
      taken_says P count? _ u d
      (λ count place' u'. members_say P ok ascending (next count) count 0 (field + 1) place' (ns ++ count ∷ [])
      (subst (λ (next : List ℕ → Option (ℕ → Bool)). At (ns ++ count ∷ []) next (field + 1) place') (fun_ext (e count)) u')
      (λ vs field'' place'' c u''. f vs field'' place'' (rw (c, ← append_snoc ns count vs) u'')))

  item_says : (P : Value → ℕ → ℕ → Type 0) (before : List ℕ) (i : Item) (is : List Item) (field place : ℕ) (ns : List ℕ)
      → At ns (due h n before (i ∷ is)) field place
      → ((v : Value) (ms : List ℕ) (field place : ℕ) → Holds i v ms → At (ns ++ ms) (due h n (before ++ number_of v ∷ []) is) field place → P v field place)
      → ItemSays (Unread text l) (Outside text l) P (read_item text h n before i field place)
  unfolding read_item due
  item_says P before (one kind) is field place ns u f =
      taken_says P (in_range h n before kind) _ u refl (λ v place' u'. f (scalar v) (v ∷ []) (field + 1) place' a_number u')
  item_says P before set is field place ns u f =
      list_says P (in_range h n before memberCount) (in_range h n before proposition) true (λ count. due h n (before ++ count ∷ []) is) _ field place ns u
      refl (λ count xs. refl) (λ vs field' place' u'. f (listed vs) (length vs ∷ vs) field' place' a_set u')
  item_says P before subtaskList is field place ns u f =
      list_says P (in_range h n before (up_to 32)) (in_range h n before task) false (λ count. due h n (before ++ count ∷ []) is) _ field place ns u
      refl (λ count xs. refl) (λ vs field' place' u'. f (listed vs) (length vs ∷ vs) field' place' a_list u')
  item_says P before cues is field place ns u f =
      members_say P (in_range h n before an_action) false (due h n (before ++ h.cues ∷ []) is) h.cues 0 field place ns u
      (λ vs field' place' c u'. f (listed vs) vs field' place' the_cues (rw c u'))

  pub items_say : (P : ℕ → List Value → ℕ → Type 0) (b : ℕ) (is : List Item) (before : List ℕ) (field place : ℕ) (ns : List ℕ)
      → At ns (due h n before is) field place
      → ((vs : List Value) (ms : List ℕ) (next : ℕ) → HoldAll is vs ms → All (ns ++ ms) next → P b vs next)
      → LineSays (Unread text l) (Outside text l) P (read_items text h n b is before field place)
  unfolding due
  items_say P b [] before field place ns u f = go u.fs u.parted u.left
    where
      go : (fs : List (List ℕ)) → fields_at text l ≡ u.past ++ fs → Left (drop place text) fs after
          → LineSays (Unread text l) (Outside text l) P (finish_line b field (ending_at text place))
      go [] e left =
          let w = line_over text after place left in
          rw w.0
          (f [] [] (place + 1) over
          (rw append-nil (record { right = u.right; none_due = now_due u; counted = no_more u e; rest = w.1 })))
      go (x ∷ fs) e left = rw (field_over text after place x fs left, u.counted) (Unread.field comes (begins u.right) (now_due u) (one_more u x fs e))
  items_say P b (i ∷ is) before field place ns u f =
      item_then (Unread text l) (Outside text l) P _ (read_item text h n before i field place) _
      (item_says (λ v field' place'. (ms : List ℕ) × Holds i v ms × At (ns ++ ms) (due h n (before ++ number_of v ∷ []) is) field' place')
      before i is field place ns u (λ v ms field' place' o u'. (ms, o, u')))
      (λ v field' place' (ms, o, u'). value_says (Unread text l) (Outside text l) P v (read_items text h n b is (before ++ number_of v ∷ []) field' place')
      (items_say (λ b vs next. P b (v ∷ vs) next) b is (before ++ number_of v ∷ []) field' place' (ns ++ ms) u'
      (λ vs ms' next o' all. f (v ∷ vs) (ms ++ ms') next (more o o') (rw append_assoc at all))))
