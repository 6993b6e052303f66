-- Tests that compute, for worked cases: of all members of a list, of all numbers below one, and of two records being one set. Each is shown to
-- give what it tests, by cases on its list.
use mathlib.Core.Path.{◌≡◌, refl, sym, ◌∙◌, ap, subst}
use mathlib.Core.List.{List, [], ◌∷◌}
use mathlib.Core.List.Memᴰ.{cases_cons}
use mathlib.Core.List.Memᴰ.{head as here}
use mathlib.Core.List.Memᴰ.{not-nil}
use mathlib.Core.List.Memᴰ.{tail as there}
use mathlib.Core.List.{Memᴰ as Mem}
use mathlib.Core.Logic.{⊎_elim, by_cases}
use mathlib.Core.Bool.{Bool, true, false, ◌&&◌, ◌||◌}
use Prim.Native.Nat.{ℕ, zero, suc, ◌<◌}
use native.Mathlib.Omega.{arith}
use native.Mathlib.Decide.{ℕ_discrete}
use lib.Dec.{eqb}
use Rattle.rules.specs.Rewriting.{TaskPath, same_path, Entry, used, left, SameSet}
use Rattle.rules.proofs.Judgement.Each.{both_true}
use Rattle.rules.proofs.Rewritings.Lists.{Reflects, holds, fails, eqb_reflects}
use Rattle.rules.proofs.Rewritings.Paths.{path_reflects}
use Rattle.rules.proofs.Rewritings.Records.{used_inj, left_inj, used≢left}

-- ---- All members of a list, all numbers below one

abbrev pub all : {A : Type 0} → (A → Bool) → List A → Bool
all f [] = true
all f (x ∷ l) = f x && all f l

pub all_sure : {A : Type 0} (f : A → Bool) (l : List A) → all f l ≡ true → (x : A) → Mem x l → f x ≡ true
all_sure f [] e x h = absurd (not-nil h)
all_sure f (y ∷ l) e x (here p) = ap f p ∙ (both_true (f y) (all f l) e).0
all_sure f (y ∷ l) e x (there h) = all_sure f l (both_true (f y) (all f l) e).1 x h

abbrev pub all_below : ℕ → (ℕ → Bool) → Bool
all_below zero f = true
all_below (suc n) f = f n && all_below n f

pub below_sure : (n : ℕ) (f : ℕ → Bool) → all_below n f ≡ true → (i : ℕ) → i < n → f i ≡ true
below_sure zero f e i b = absurd (omega arith)
below_sure (suc n) f e i b =
    let (u, v) = both_true (f n) (all_below n f) e in
    by_cases (ℕ_discrete i n) (λ p. ap f p ∙ u) (λ p. below_sure n f v i (omega arith))

-- ---- Sets

map_reflects : {P Q : Type 0} {b : Bool} → (P → Q) → (Q → P) → Reflects P b → Reflects Q b
map_reflects f g (holds p) = holds (f p)
map_reflects f g (fails n) = fails (λ q. n (g q))

and_reflects : {P Q : Type 0} {a b : Bool} → Reflects P a → Reflects Q b → Reflects (P × Q) (a && b)
and_reflects (holds p) (holds q) = holds (p, q)
and_reflects (holds p) (fails n) = fails (λ w. n w.1)
and_reflects (fails n) r = fails (λ w. n w.0)

abbrev same_entry : Entry → Entry → Bool
same_entry (used m) (used n) = eqb m n
same_entry (used m) (left a) = false
same_entry (left a) (used m) = false
same_entry (left a) (left b) = eqb a b

entry_reflects : (x y : Entry) → Reflects (x ≡ y) (same_entry x y)
entry_reflects (used m) (used n) = map_reflects (ap used) (used_inj m n) (eqb_reflects m n)
entry_reflects (used m) (left a) = fails (used≢left m a)
entry_reflects (left a) (used m) = fails (λ e. used≢left m a (sym e))
entry_reflects (left a) (left b) = map_reflects (ap left) (left_inj a b) (eqb_reflects a b)

abbrev Pair : Type 0
Pair = TaskPath × Entry

abbrev same_pair : Pair → Pair → Bool
same_pair x y = same_path x.0 y.0 && same_entry x.1 y.1

pair_reflects : (x y : Pair) → Reflects (x ≡ y) (same_pair x y)
pair_reflects x y =
    map_reflects (λ w i. (w.0 i, w.1 i)) (λ e. (ap (λ (z : Pair). z.0) e, ap (λ (z : Pair). z.1) e)) (and_reflects (path_reflects x.0 y.0) (entry_reflects x.1 y.1))

abbrev has : List Pair → Pair → Bool
has [] x = false
has (y ∷ l) x = same_pair x y || has l x

has_step : (x y : Pair) (l : List Pair) (a b : Bool) → Reflects (x ≡ y) a → Reflects (Mem x l) b → Reflects (Mem x (y ∷ l)) (a || b)
has_step x y l a b (holds e) r = holds (here e)
has_step x y l a b (fails n) (holds h) = holds (there h)
has_step x y l a b (fails n) (fails m) = fails (λ h. ⊎_elim n m (cases_cons h))

has_reflects : (l : List Pair) (x : Pair) → Reflects (Mem x l) (has l x)
has_reflects [] x = fails not-nil
has_reflects (y ∷ l) x = has_step x y l (same_pair x y) (has l x) (pair_reflects x y) (has_reflects l x)

within_reflects : (k l : List Pair) → Reflects ((x : Pair) → Mem x k → Mem x l) (all (has l) k)
within_reflects [] l = holds (λ x h. absurd (not-nil h))
within_reflects (y ∷ k) l =
    map_reflects (λ w x h. ⊎_elim (λ e. subst (λ z. Mem z l) (sym e) w.0) (w.1 x) (cases_cons h)) (λ f. (f y (here refl), λ x h. f x (there h)))
    (and_reflects (has_reflects l y) (within_reflects k l))

abbrev pub same_set : List Pair → List Pair → Bool
same_set k l = all (has l) k && all (has k) l

-- Whether two records are one set.
pub same_reflects : (k l : List Pair) → Reflects (SameSet k l) (same_set k l)
same_reflects k l = map_reflects (λ w x. (w.0 x, w.1 x)) (λ s. (λ x. (s x).0, λ x. (s x).1)) (and_reflects (within_reflects k l) (within_reflects l k))
