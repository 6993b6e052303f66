-- Records. An entry says by its kind which half of a record it is in; so equal records have the same methods used and the same actions left,
-- path by path, and the claimed tree's lines name both.
use mathlib.Core.Path.{◌≡◌, refl, sym, ap, subst}
use mathlib.Core.List.{List, [], ◌∷◌, ◌++◌, map}
use mathlib.Core.List.Memᴰ.{append_cases as in-cases}
use mathlib.Core.List.Memᴰ.{append_left as in_left}
use mathlib.Core.List.Memᴰ.{append_right as in_right}
use mathlib.Core.List.Memᴰ.{cases_cons}
use mathlib.Core.List.Memᴰ.{cast as in-cast}
use mathlib.Core.List.Memᴰ.{head as here}
use mathlib.Core.List.Memᴰ.{map as in_map}
use mathlib.Core.List.Memᴰ.{of_map}
use mathlib.Core.List.Memᴰ.{tail as there}
use mathlib.Core.List.{Memᴰ as Mem}
use mathlib.Core.Logic.Iff
use mathlib.Core.Logic.{◌↔◌, ⊎_elim}
use Prim.Native.Nat.{ℕ}
use Rattle.rules.specs.Case.{NodeLine, D, E, L, Case}
use Rattle.rules.specs.Rewriting.{TaskPath, Occurrence, Step, result, Entry, used, left, record_of, SameSet, entry_of, claimed_record}
use Rattle.rules.proofs.Rewritings.Statement.{claimed_names}

abbrev pub Named : Type 0
Named = TaskPath × NodeLine

-- ---- Entries

abbrev pub used_entry : Step → TaskPath × Entry
used_entry s = (s.0, used s.1)

abbrev pub left_entry : Occurrence → TaskPath × Entry
left_entry o = (o.0, left o.1)

abbrev number_of : Entry → ℕ
number_of (used m) = m
number_of (left a) = a

pub used_inj : (m n : ℕ) → used m ≡ used n → m ≡ n
used_inj m n e = ap number_of e

pub left_inj : (m n : ℕ) → left m ≡ left n → m ≡ n
left_inj m n e = ap number_of e

abbrev IsUsed : Entry → Type 0
IsUsed (used m) = Unit {0}
IsUsed (left a) = ⊥

pub used≢left : (m a : ℕ) → used m ≡ left a → ⊥
used≢left m a e = subst IsUsed e tt

entry_leaf : (l : NodeLine) (a : ℕ) → entry_of l ≡ left a → (i : ℕ) × (l ≡ L a i)
unfolding entry_of
entry_leaf (D m) a e = absurd (used≢left m a e)
entry_leaf (E m g) a e = absurd (used≢left m a e)
entry_leaf (L b i) a e = (i, ap (λ c. L c i) (left_inj b a e))

leaf_iff : (T : List Named) (q : TaskPath) (a : ℕ) → ((l : NodeLine) × Mem (q, l) T × (entry_of l ≡ left a)) ↔ ((i : ℕ) × Mem (q, L a i) T)
unfolding entry_of
leaf_iff T q a = (
  λ w. let (i, e) = entry_leaf w.0 a w.2 in (i, in-cast (ap {B = Named} (λ x. (q, x)) (sym e)) w.1),
  λ w. (L a w.0, w.1, refl),
)

-- The entries of lines with their paths.
abbrev pub entries : List Named → List (TaskPath × Entry)
entries T = map (λ (x : Named). (x.0, entry_of x.1)) T

-- ---- A record, parted by the kind of its entries

abbrev pub used_in : List (TaskPath × Entry) → List Step
used_in [] = []
used_in ((q, used m) ∷ r) = (q, m) ∷ used_in r
used_in ((q, left a) ∷ r) = used_in r

abbrev pub left_in : List (TaskPath × Entry) → List Occurrence
left_in [] = []
left_in ((q, used m) ∷ r) = left_in r
left_in ((q, left a) ∷ r) = (q, a) ∷ left_in r

pub record_parted : (r : List (TaskPath × Entry)) (x : TaskPath × Entry) → Mem x (map used_entry (used_in r) ++ map left_entry (left_in r)) ↔ Mem x r
record_parted [] x = (λ h. h, λ h. h)
record_parted ((q, used m) ∷ r) x = (
  λ h. ⊎_elim here (λ i. there ((record_parted r x).0 i)) (cases_cons h),
  λ h. ⊎_elim here (λ i. there ((record_parted r x).1 i)) (cases_cons h),
)
record_parted ((q, left a) ∷ r) x = (
  λ h. ⊎_elim (λ i. there ((record_parted r x).0 (in_left (map left_entry (left_in r)) i)))
      (λ i. ⊎_elim here (λ j. there ((record_parted r x).0 (in_right (map used_entry (used_in r)) j))) (cases_cons i))
      (in-cases (map used_entry (used_in r)) h),
  λ h. ⊎_elim (λ e. in_right (map used_entry (used_in r)) (here e))
      (λ i. ⊎_elim (in_left ((q, left a) ∷ map left_entry (left_in r))) (λ j. in_right (map used_entry (used_in r)) (there j)) (in-cases (map used_entry (used_in r)) ((record_parted r x).1 i)))
      (cases_cons h),
)

-- ---- The record of a rewriting

-- The actions left are those of the leaves.
abbrev pub LeftAre : List Named → List Occurrence → Type 0
LeftAre T os = (q : TaskPath) (a : ℕ) → Mem (q, a) os ↔ ((i : ℕ) × Mem (q, L a i) T)

module _ (k : Case) where
  abbrev pub occurrences_after : List Step → List Occurrence
  occurrences_after ss = (result k ss).occurrences

  pub record_left : (ss : List Step) (q : TaskPath) (a : ℕ) → Mem (q, a) (occurrences_after ss) ↔ Mem (q, left a) (record_of k ss)
  unfolding record_of
  record_left ss q a = (λ h. in_right (map used_entry ss) (in_map left_entry h), λ h. ⊎_elim other one (in-cases (map used_entry ss) h))
    where
      one : Mem (q, left a) (map left_entry (occurrences_after ss)) → Mem (q, a) (occurrences_after ss)
      one h = let (o, i, e) = of_map left_entry (occurrences_after ss) h in in-cast (ap {B = Occurrence} (λ (x : TaskPath × Entry). (x.0, number_of x.1)) (sym e)) i

      other : Mem (q, left a) (map used_entry ss) → Mem (q, a) (occurrences_after ss)
      other h = let (s, i, e) = of_map used_entry ss h in absurd (used≢left s.1 a (ap (λ (x : TaskPath × Entry). x.1) e))

  pub record_used : (ss : List Step) (q : TaskPath) (m : ℕ) → Mem (q, m) ss ↔ Mem (q, used m) (record_of k ss)
  unfolding record_of
  record_used ss q m = (λ h. in_left (map left_entry (occurrences_after ss)) (in_map used_entry h), λ h. ⊎_elim one other (in-cases (map used_entry ss) h))
    where
      one : Mem (q, used m) (map used_entry ss) → Mem (q, m) ss
      one h = let (s, i, e) = of_map used_entry ss h in in-cast (ap {B = Step} (λ (x : TaskPath × Entry). (x.0, number_of x.1)) (sym e)) i

      other : Mem (q, used m) (map left_entry (occurrences_after ss)) → Mem (q, m) ss
      other h = let (o, i, e) = of_map left_entry (occurrences_after ss) h in absurd (used≢left m o.1 (sym (ap (λ (x : TaskPath × Entry). x.1) e)))

  -- ---- Equal records, entry by entry

  entry_iff : (q : TaskPath) (e : Entry) → Mem (q, e) (claimed_record (claimed_names k)) ↔ ((l : NodeLine) × Mem (q, l) (claimed_names k) × (entry_of l ≡ e))
  unfolding claimed_record
  entry_iff q e = (
    λ h. let (x, i, p) = of_map {B = TaskPath × Entry} (λ (x : Named). (x.0, entry_of x.1)) (claimed_names k) h in
        (x.1, in-cast (ap {B = Named} (λ (z : TaskPath × Entry). (z.0, x.1)) (sym p)) i, ap (λ (z : TaskPath × Entry). z.1) p),
    λ w. in-cast (ap {B = TaskPath × Entry} (λ z. (q, z)) (sym w.2)) (in_map {B = TaskPath × Entry} (λ (x : Named). (x.0, entry_of x.1)) w.1),
  )

  module _ (ss : List Step) (same : SameSet (record_of k ss) (claimed_record (claimed_names k))) where
    pub used_line : (q : TaskPath) (m : ℕ) → Mem (q, m) ss ↔ ((l : NodeLine) × Mem (q, l) (claimed_names k) × (entry_of l ≡ used m))
    used_line q m = Iff.trans (record_used ss q m) (Iff.trans (same (q, used m)) (entry_iff q (used m)))

    pub left_are : LeftAre (claimed_names k) (occurrences_after ss)
    left_are q a = Iff.trans (record_left ss q a) (Iff.trans (same (q, left a)) (Iff.trans (entry_iff q (left a)) (leaf_iff (claimed_names k) q a)))
