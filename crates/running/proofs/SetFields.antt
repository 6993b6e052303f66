-- The sets that stand among the fields: a set's members in turn, what they make where the fields of a set stand, and the four sets of an
-- action's line, one after the other. Assumes nothing.
use mathlib.Core.Path.{◌≡◌, sym, ap, ap₂, subst, ◌∙◌}
use mathlib.Core.List.{List, [], ◌∷◌, ◌++◌, append-nil}
use Prim.Native.Nat.{ℕ, zero, suc, ◌+◌, ◌-◌, ◌*◌, ◌≤◌, ◌<◌}
use native.Mathlib.Numerals.{add-one}
use native.Mathlib.Omega.{arith}
use lib.ListN.{length, get_or, take, drop, replicate}
use lib.Seq.{drop-cons, take-append_seam}
use Rattle.rules.specs.State.{State, Action, word_count, no_propositions, insert, insert_all}
use Rattle.rules.specs.Fields.{propositions_of, line_fields, initial_line, action_line}
use Rattle.rules.proofs.Judgement.Each.{Each, each_at}
use Rattle.rules.proofs.Judgement.Sound.{IsSet, GoodAction}
use Rattle.state.specs.Words.{widened}
use Rattle.state.proofs.Words.{widened_all}
use Rattle.fields.specs.Standing.{Stands}
use Rattle.fields.proofs.Standing.{stands_left, stands_right, stands_rest, stands_first, stands_inside, stands_as}
use Rattle.fields.proofs.Lines.{set_fields, initial_fields_lem, action_fields_lem}
use Rattle.rows.specs.Rows.{stretch_at}
use Rattle.running.specs.Sets.{members_at, past, Fits, sets_of, set_count, action_in}

-- ---- The loop over a set's members: those from i to the end

pub members_next : (fields : List ℕ) (end i : ℕ) (s : List ℕ) {s' : List ℕ} → i < end → end ≤ length fields → s' ≡ insert s (get_or fields i 0)
    → insert_all s (take (end - i) (drop i fields)) ≡ insert_all s' (take (end - (i + 1)) (drop (i + 1) fields))
members_next fields end i s {s'} more inside e =
    let left : end - i ≡ suc (end - (i + 1)) = omega arith in
    let here : drop i fields ≡ get_or fields i 0 ∷ drop (i + 1) fields =
    drop-cons fields i 0 (omega arith) ∙ ap (λ (n : ℕ). get_or fields i 0 ∷ drop n fields) (sym (add-one i)) in
    ap₂ (λ (n : ℕ) (l : List ℕ). insert_all s (take n l)) left here
    ∙ ap (λ (x : List ℕ). insert_all x (take (end - (i + 1)) (drop (i + 1) fields))) (sym e)

pub members_end : (fields : List ℕ) (end i : ℕ) (s : List ℕ) → end ≤ i → insert_all s (take (end - i) (drop i fields)) ≡ s
members_end fields end i s over =
    let none : end - i ≡ 0 = omega arith in ap (λ (n : ℕ). insert_all s (take n (drop i fields))) none

-- ---- Where the fields of a set stand

module _ (fields : List ℕ) (at : ℕ) (s : State) (rest : List ℕ) (here : Stands fields at (set_fields s ++ rest)) where
  count_is : get_or fields at 0 ≡ length (propositions_of s)
  count_is = stands_first fields at (length (propositions_of s)) (propositions_of s ++ rest) here

  -- Its members lie inside the list.
  set_inside : past fields at ≤ length fields
  unfolding past
  set_inside =
      let all = stands_inside fields at (set_fields s) (stands_left fields at (set_fields s) rest here) (omega arith) in
      omega (arith, count_is)

  members_are : members_at fields at ≡ propositions_of s
  unfolding members_at
  members_are =
      let members = stands_rest fields at (length (propositions_of s)) (propositions_of s ++ rest) here in
      let split = stands_left fields (at + 1) (propositions_of s) rest members in
      ap₂ take count_is split.here ∙ take-append_seam (propositions_of s) split.rest

  -- In n words, as many as its propositions take, it is the set.
  set_put : (n : ℕ) → n ≤ word_count → Fits n s → widened (insert_all (replicate n 0) (members_at fields at)) ≡ insert_all no_propositions (members_at fields at)
  set_put n few fits = widened_all n (members_at fields at) few (subst (Each (λ p. p < 64 * n)) (sym members_are) fits)

  set_is : IsSet s → insert_all no_propositions (members_at fields at) ≡ s
  set_is kept = ap (insert_all no_propositions) members_are ∙ kept

  -- What follows it stands at the place past it.
  set_next : Stands fields (past fields at) rest
  unfolding past
  set_next =
      let next : at + suc (length (propositions_of s)) ≡ at + 1 + get_or fields at 0 = omega (arith, count_is) in
      subst (λ (p : ℕ). Stands fields p rest) next (stands_right fields at (set_fields s) rest here)

-- ---- Sets one after the other

abbrev all_fields : List State → List ℕ
all_fields [] = []
all_fields (s ∷ ss) = set_fields s ++ all_fields ss

-- The place of set i, where the first is at a place.
abbrev pub place_of : List ℕ → ℕ → ℕ → ℕ
place_of fields at zero = at
place_of fields at (suc i) = past fields (place_of fields at i)

-- Set i of some, and what follows it.
abbrev from_set : List State → ℕ → List ℕ
from_set ss i = set_fields (get_or ss i no_propositions) ++ all_fields (drop (suc i) ss)

sets_here : (fields : List ℕ) (at : ℕ) (ss : List State) → Stands fields at (all_fields ss) → (i : ℕ) → i < length ss
    → Stands fields (place_of fields at i) (from_set ss i)
sets_here fields at ss here zero h = stands_as fields at (all_fields ss) (from_set ss 0) (ap all_fields (drop-cons ss 0 no_propositions h)) here
sets_here fields at ss here (suc i) h =
    stands_as fields (place_of fields at (suc i)) (all_fields (drop (suc i) ss)) (from_set ss (suc i)) (ap all_fields (drop-cons ss (suc i) no_propositions h))
    (set_next fields (place_of fields at i) (get_or ss i no_propositions) (all_fields (drop (suc i) ss)) (sets_here fields at ss here i (omega arith)))

-- ---- The lines that have sets

module _ (fields : List ℕ) (at : ℕ) (s : State) (here : Stands fields at (line_fields (initial_line s))) where
  -- The set of an I line stands after its letter.
  initial_here_lem : Stands fields (at + 1) (set_fields s ++ [])
  initial_here_lem =
      stands_rest fields at 73 (set_fields s ++ [])
      (stands_as fields at (line_fields (initial_line s)) (73 ∷ (set_fields s ++ []))
      (initial_fields_lem s ∙ ap (λ (l : List ℕ). 73 ∷ l) (sym (append-nil (set_fields s)))) here)

  pub initial_inside : past fields (at + 1) ≤ length fields
  initial_inside = set_inside fields (at + 1) s [] initial_here_lem

  pub initial_is : IsSet s → insert_all no_propositions (members_at fields (at + 1)) ≡ s
  initial_is = set_is fields (at + 1) s [] initial_here_lem

module _ (fields : List ℕ) (at : ℕ) (a : Action) (here : Stands fields at (line_fields (action_line a))) where
  -- The four sets of an A line stand after its letter, one after the other.
  set_here : (i : ℕ) → i < set_count → Stands fields (place_of fields (at + 1) i) (from_set (sets_of a) i)
  set_here =
      sets_here fields (at + 1) (sets_of a)
      (stands_rest fields at 65 (all_fields (sets_of a))
      (stands_as fields at (line_fields (action_line a)) (65 ∷ all_fields (sets_of a))
      (action_fields_lem a
      ∙ ap (λ (l : List ℕ). 65 ∷ (set_fields a.needed ++ (set_fields a.forbidden ++ (set_fields a.added ++ l)))) (sym (append-nil (set_fields a.deleted))))
      here))

  pub action_inside : (i : ℕ) → i < set_count → past fields (place_of fields (at + 1) i) ≤ length fields
  action_inside i h =
      set_inside fields (place_of fields (at + 1) i) (get_or (sets_of a) i no_propositions) (all_fields (drop (suc i) (sets_of a))) (set_here i h)

  pub action_put : (n : ℕ) → n ≤ word_count → Each (Fits n) (sets_of a) → (i : ℕ) → i < set_count
      → widened (insert_all (replicate n 0) (members_at fields (place_of fields (at + 1) i))) ≡ insert_all no_propositions (members_at fields (place_of fields (at + 1) i))
  action_put n few fits i h =
      set_put fields (place_of fields (at + 1) i) (get_or (sets_of a) i no_propositions) (all_fields (drop (suc i) (sets_of a))) (set_here i h) n few
      (each_at (Fits n) (sets_of a) i no_propositions fits h)

  pub action_is : (n : ℕ) (words : List ℕ)
      → ((i : ℕ) → i < set_count → widened (stretch_at n words i) ≡ insert_all no_propositions (members_at fields (place_of fields (at + 1) i))) → GoodAction a
      → action_in n words ≡ a
  unfolding action_in
  action_is n words rows good =
      let set : (i : ℕ) → i < set_count → IsSet (get_or (sets_of a) i no_propositions) → widened (stretch_at n words i) ≡ get_or (sets_of a) i no_propositions =
      λ i h kept. rows i h
      ∙ set_is fields (place_of fields (at + 1) i) (get_or (sets_of a) i no_propositions) (all_fields (drop (suc i) (sets_of a))) (set_here i h) kept in
      let needed = set 0 (omega arith) good.needed_set in
      let forbidden = set 1 (omega arith) good.forbidden_set in
      let added = set 2 (omega arith) good.added_set in
      let deleted = set 3 (omega arith) good.deleted_set in
      λ j. record { needed = needed j; forbidden = forbidden j; added = added j; deleted = deleted j }
