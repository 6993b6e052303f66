-- Numbers 17 and 18 in the name list (02, Card 6): where the list is read it is without fault and has these names, and where it is refused its first
-- fault stands. By induction on the lines that are left, with what the earlier ones list. Assumes nothing.
use mathlib.Core.Path.{◌≡◌, refl, sym, ap, ◌∙◌, subst}
use mathlib.Core.Bool.{Bool, true, false, ◌&&◌, ◌||◌, false≢true}
use mathlib.Core.Logic.{⊎_elim}
use mathlib.Core.List.{List, [], ◌∷◌}
use mathlib.Core.Option.{none, some}
use Prim.Native.Nat.{ℕ, zero, suc, ◌+◌, ◌<◌}
use native.Mathlib.Nat.{add-zero, zero-add, not-suc-le-zero, le_of_suc-le-suc, eq-or-lt_of_le}
use native.Mathlib.Omega.{arith}
use lib.Dec.{eqb}
use lib.ListN.{length, get_or}
use borrow.Author.Tests.{eqb-true, eq-eqb}
use Rattle.rules.specs.declared.Header.{Header}
use Rattle.rules.specs.declared.Answer.{Answer}
use Rattle.rules.specs.declared.Answer.TheVariants.{WrongShape, WrongName}
use Rattle.rules.specs.Result.{Result, found, refused}
use Rattle.rules.specs.Text.{is_comma, is_plain, value_of}
use Rattle.rules.specs.Faults.{pieces, Ended, text_line, fields_at}
use Rattle.rules.specs.Tokens.{due_line, no_more, shaped, is_name, same_bytes}
use Rattle.rules.specs.Naming.{is_among, name_for, not_again, name_lines, read_names}
use Rattle.rules.specs.FormFaults.{Stands, Lists, ListsNew, AllNew, PartFault, task_count, NamesFault, PartIs, NamesAre}
use Rattle.rules.proofs.Tables.{and_both}
use Rattle.rules.proofs.Judgement.Each.{both_true}
use Rattle.rules.proofs.Faults.Fields.{or-true}
use Rattle.rules.proofs.Faults.Line.{Starts, starts_first}
use Rattle.rules.proofs.Import.Says.{Says, says_bind, says_then, says_weaken, refusal_weaken, LineHere, due_says, more_says, same_bytes_lem, Distinct}

-- ---- One line

module _ (text : List ℕ) (l i : ℕ) where
  -- A line lists one name at most.
  lists_one : {a b : List ℕ} → Lists text l i a → Lists text l i b → a ≡ b
  lists_one v w = cc

  abbrev ShapeSays : Result (List ℕ) → Type 0
  ShapeSays = Says (Lists text l i) (λ a. (a ≡ WrongShape l 1) × ((name : List ℕ) → Lists text l i name → ⊥))

  shape_says : (line : List ℕ) → line ≡ text_line text l → Ended text l → ShapeSays (shaped 1 l (name_for i (pieces is_comma line)))
  unfolding fields_at
  shape_says line is ended = go (pieces is_comma line) (ap (pieces is_comma) (sym is))
    where
      two : (number name : List ℕ) → fields_at text l ≡ number ∷ name ∷ [] → (t : Bool)
          → (is_plain number && (eqb (value_of 0 number) i && is_name name)) ≡ t
          → ShapeSays (shaped 1 l (elim t [ true ↦ some name | false ↦ none ]))
      two number name e true t =
          let outer = both_true (is_plain number) (eqb (value_of 0 number) i && is_name name) t in
          let inner = both_true (eqb (value_of 0 number) i) (is_name name) outer.1 in
          record { number = number; ended = ended; parts = e; plain = outer.0; value = eqb-true (value_of 0 number) i inner.0; named = inner.1 }
      two number name e false t = (
        refl,
        λ name' v.
            let same : number ≡ v.number = cc in
            let also : name ≡ name' = cc in
            false≢true (sym t ∙ and_both (ap is_plain same ∙ v.plain)
            (and_both (eq-eqb (value_of 0 number) i (ap (value_of 0) same ∙ v.value)) (ap is_name also ∙ v.named))),
      )

      go : (parts : List (List ℕ)) → fields_at text l ≡ parts → ShapeSays (shaped 1 l (name_for i parts))
      go [] e = (refl, λ name v. let z : ◌≡◌ {A = ℕ} 0 1 = cc in omega arith)
      go (number ∷ []) e = (refl, λ name v. let z : ◌≡◌ {A = ℕ} 0 1 = cc in omega arith)
      go (number ∷ name ∷ []) e = two number name e (is_plain number && (eqb (value_of 0 number) i && is_name name)) refl
      go (number ∷ name ∷ more ∷ parts) e = (refl, λ name v. let z : ◌≡◌ {A = ℕ} 0 1 = cc in omega arith)

-- ---- The earlier lines

-- The names of the numbers below i, that of the last one first.
data Earlier (text : List ℕ) (from : ℕ) : ℕ → List (List ℕ) → Type 0 where
  start : Earlier text from 0 []
  next : {i : ℕ} {names : List (List ℕ)} {name : List ℕ} → Earlier text from i names → ListsNew text from i name
      → Earlier text from (suc i) (name ∷ names)

module _ (text : List ℕ) (from : ℕ) where
  -- An earlier line lists a name.
  abbrev ListedBelow : ℕ → List ℕ → Type 0
  ListedBelow i name = (j : ℕ) × (j < i) × Lists text (from + j) j name

  below_now : {P : ℕ → Type 0} {i : ℕ} → ((j : ℕ) → j < i → P j) → P i → (j : ℕ) → j < suc i → P j
  below_now {P} before now j h = ⊎_elim (λ e. subst P (sym e) now) (before j) (eq-or-lt_of_le (le_of_suc-le-suc h))

  all_new : {i : ℕ} {names : List (List ℕ)} → Earlier text from i names → AllNew text from i
  all_new Earlier.start j h = absurd (not-suc-le-zero h)
  all_new (Earlier.next {name = name} w v) j h = below_now {P = λ j. (name : List ℕ) × ListsNew text from j name} (all_new w) (name, v) j h

  among_listed : {i : ℕ} {names : List (List ℕ)} (name : List ℕ) → Earlier text from i names → is_among names name ≡ true → ListedBelow i name
  among_listed name Earlier.start e = absurd (false≢true e)
  among_listed name (Earlier.next {i = i} {names = names} {name = x} w v) e = go (same_bytes x name) refl e (among_listed name w)
    where
      go : (t : Bool) → same_bytes x name ≡ t → (t || is_among names name) ≡ true → (is_among names name ≡ true → ListedBelow i name)
          → ListedBelow (suc i) name
      go true t e ih = (i, omega arith, subst (Lists text (from + i) i) ((same_bytes_lem x name).0 t) v.lists)
      go false t e ih = let (j, h, u) = ih e in (j, omega arith, u)

  listed_among : {i : ℕ} {names : List (List ℕ)} (name : List ℕ) → Earlier text from i names → (j : ℕ) → j < i
      → Lists text (from + j) j name → is_among names name ≡ true
  listed_among name Earlier.start j h u = absurd (not-suc-le-zero h)
  listed_among name (Earlier.next {i = i} {names = names} {name = x} w v) j h u =
      below_now {P = λ j. Lists text (from + j) j name → is_among (x ∷ names) name ≡ true}
      (λ j h u. ap (λ (b : Bool). same_bytes x name || b) (listed_among name w j h u) ∙ or-true (same_bytes x name))
      (λ u. ap (λ (b : Bool). b || is_among names name) ((same_bytes_lem x name).1 (lists_one text (from + i) i v.lists u)))
      j h u

  abbrev AgainSays : ℕ → List ℕ → Result (Unit {0}) → Type 0
  AgainSays i name = Says (λ u. (j : ℕ) → j < i → Lists text (from + j) j name → ⊥) (λ a. (a ≡ WrongName (from + i) 1) × ListedBelow i name)

  again_says : {i : ℕ} {names : List (List ℕ)} (name : List ℕ) → Earlier text from i names → AgainSays i name (not_again (from + i) names name)
  unfolding not_again
  again_says {i} {names} name w = go (is_among names name) refl
    where
      go : (t : Bool) → is_among names name ≡ t → AgainSays i name (elim t [ true ↦ refused (WrongName (from + i) 1) | false ↦ found tt ])
      go true e = (refl, among_listed name w e)
      go false e = λ j h u. false≢true (sym e ∙ listed_among name w j h u)

-- ---- The lines for so many numbers

-- These are the names for the numbers from i on, so many.
record PartFrom (text : List ℕ) (from i count : ℕ) (names : List (List ℕ)) : Type 0 where
  counted : length names ≡ count
  each : (j : ℕ) → j < count → ListsNew text from (i + j) (get_or names j [])

module _ (text : List ℕ) (from total : ℕ) where
  -- The names that were read, and where the line after them starts.
  abbrev Lined : ℕ → ℕ → List (List ℕ) × ℕ × ℕ → Type 0
  Lined i count (names, n, place) = PartFrom text from i count names × (n ≡ from + total) × Starts text (from + total) place

  one_more : {i count : ℕ} {name : List ℕ} {names : List (List ℕ)} → ListsNew text from i name → PartFrom text from (suc i) count names
      → PartFrom text from i (suc count) (name ∷ names)
  one_more {i} {count} {name} {names} v w = record { counted = ap suc w.counted; each = each }
    where
      each : (j : ℕ) → j < suc count → ListsNew text from (i + j) (get_or (name ∷ names) j [])
      each zero h = rw add-zero v
      each (suc j) h =
          let same : suc i + j ≡ i + suc j = omega arith in
          subst (λ (k : ℕ). ListsNew text from k (get_or names j [])) same (w.each j (le_of_suc-le-suc h))

  lines_say : (count i : ℕ) (earlier : List (List ℕ)) (place : ℕ) → i + count ≡ total → Earlier text from i earlier → Starts text (from + i) place
      → Says (Lined i count) (PartFault text from total) (name_lines text count i earlier (from + i) place)
  lines_say zero i earlier place sum w s =
      let all : i ≡ total = omega arith in (
        record { counted = refl; each = λ j h. absurd (not-suc-le-zero h) },
        ap (λ (k : ℕ). from + k) all,
        subst (λ (k : ℕ). Starts text (from + k) place) all s,
      )
  lines_say (suc count) i earlier place sum w s =
      let Q = Lined i (suc count) in
      let R : Answer → Type 0 = PartFault text from total in
      let l = from + i in
      let due : i < total = omega arith in
      let before : AllNew text from i = all_new text from w in
      let other : (a : Answer) → a ≡ WrongShape l 1 → ((name : List ℕ) → Lists text l i name → ⊥) → R a = λ a e never. rw e (PartFault.other due before never) in
      says_bind (LineHere text l) Q R (due_line text 1 l place) _
      (refusal_weaken _ _ R (due_line text 1 l place) (λ a (e, never). other a e (λ name v. never v.ended)) (due_says text 1 l place s))
      (λ (line, n', place') (is, ended, e, s'). says_bind (Lists text l i) Q R (shaped 1 l (name_for i (pieces is_comma line))) _
      (refusal_weaken _ _ R (shaped 1 l (name_for i (pieces is_comma line))) (λ a (e, never). other a e never) (shape_says text l i line is ended))
      (λ name lists. says_then _ Q R (not_again l earlier name) _
      (refusal_weaken _ _ R (not_again l earlier name) (λ a (e, (j, h, v)). rw e (PartFault.again due before lists h v)) (again_says text from name w))
      (λ u new.
      let v : ListsNew text from i name = record { lists = lists; new = new } in
      let later : n' ≡ from + suc i = omega arith in
      says_bind (Lined (suc i) count) Q R (name_lines text count (suc i) (name ∷ earlier) n' place') _
      (rw later (lines_say count (suc i) (name ∷ earlier) place' (omega arith) (Earlier.next w v)
      (subst (λ (m : ℕ). Starts text m place') (sym e ∙ later) s')))
      (λ (names, n'', place'') (part, last, s''). (one_more v part, last, s'')))))

  -- All of them.
  part_says : (n place : ℕ) → n ≡ from → Starts text from place
      → Says (λ (names, n', place'). PartIs text from total names × (n' ≡ from + total) × Starts text (from + total) place') (PartFault text from total)
      (name_lines text total 0 [] n place)
  part_says n place e s =
      let first : n ≡ from + 0 = omega arith in
      says_weaken (Lined 0 total) _ (PartFault text from total) _ (name_lines text total 0 [] n place)
      (λ (names, n', place') (w, last, s'). (
        record { counted = w.counted; each = λ i h. subst (λ (k : ℕ). ListsNew text from k (get_or names i [])) (zero-add i) (w.each i h) },
        last,
        s',
      ))
      (λ a p. p)
      (rw first (lines_say total 0 [] place (zero-add total) Earlier.start (subst (λ (m : ℕ). Starts text m place) (sym e ∙ first) s)))

part_new : {text : List ℕ} {from count : ℕ} {names : List (List ℕ)} → PartIs text from count names → AllNew text from count
part_new {names = names} w i h = (get_or names i [], w.each i h)

-- ---- The name list

pub names_say : (h : Header) (text : List ℕ) → Says (NamesAre h text) (NamesFault h text) (read_names h text)
unfolding read_names
names_say h text =
    let Q = NamesAre h text in
    let R = NamesFault h text in
    let l = 1 + task_count h in
    let past = l + h.methods in
    says_bind _ Q R (name_lines text (task_count h) 0 [] 1 0) _
    (refusal_weaken _ _ R (name_lines text (task_count h) 0 [] 1 0) (λ a p. NamesFault.tasks p)
    (part_says text 1 (task_count h) 1 0 refl (starts_first text)))
    (λ (tasks, n, place) (ts, e, s). says_bind _ Q R (name_lines text h.methods 0 [] n place) _
    (refusal_weaken _ _ R (name_lines text h.methods 0 [] n place) (λ a p. NamesFault.methods (part_new ts) p)
    (part_says text l h.methods n place e s))
    (λ (methods, n', place') (ms, e', s'). says_then (λ u. Stands text past → ⊥) Q R (no_more text 1 n' place') _
    (refusal_weaken _ (λ a. (a ≡ WrongShape past 1) × Stands text past) R (no_more text 1 n' place')
    (λ a (q, more). rw q (NamesFault.surplus (part_new ts) (part_new ms) more)) (rw e' (more_says text 1 past place' s')))
    (λ u over. record { tasks = ts; methods = ms; over = over })))

-- ---- Names that differ

pub distinct_names : {text : List ℕ} {from count : ℕ} {names : List (List ℕ)} → PartIs text from count names → Distinct names
distinct_names {text} {from} {count} {names} w i j hi hj e =
    let before : i < j → ⊥ = λ h. later i j hi hj e h in
    let after : j < i → ⊥ = λ h. later j i hj hi (sym e) h in
    omega arith
  where
    later : (i j : ℕ) → i < length names → j < length names → get_or names i [] ≡ get_or names j [] → i < j → ⊥
    later i j hi hj e h =
        (w.each j (omega (arith, w.counted))).new i h (subst (Lists text (from + i) i) e (w.each i (omega (arith, w.counted))).lists)
