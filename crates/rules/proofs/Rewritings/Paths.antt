-- Paths of occurrences. A step puts subtasks, whose paths lie below the one taken, in its place; so no path ever lies below two occurrences
-- of a network (`Spread`), and what a step leaves is the old list with the subtasks in place.
use mathlib.Core.Path.{◌≡◌, refl, sym, ◌∙◌, ap, subst}
use mathlib.Core.List.{List, [], ◌∷◌, ◌++◌, append_assoc, append-nil, append_cancel_left, head-eq_of_cons-eq, tail-eq_of_cons-eq, nil≢cons, cons≢nil}
use mathlib.Core.List.Memᴰ.{append_cases as in-cases}
use mathlib.Core.List.Memᴰ.{append_left as in_left}
use mathlib.Core.List.Memᴰ.{append_right as in_right}
use mathlib.Core.List.Memᴰ.{head as here}
use mathlib.Core.List.Memᴰ.{not-nil}
use mathlib.Core.List.Memᴰ.{tail as there}
use mathlib.Core.List.{Memᴰ as Mem}
use mathlib.Core.Logic.{◌≢◌, ⊎_elim}
use mathlib.Core.Bool.{Bool, cond, ◌&&◌}
use Prim.Native.Nat.{ℕ, suc, ◌≤◌}
use native.Mathlib.Omega.{arith}
use native.Mathlib.Nat.{le_refl}
use lib.ListN.{length, length-append}
use Rattle.rules.specs.Rewriting.{TaskPath, Occurrence, subtasks_of, same_path, replace}
use Rattle.rules.proofs.Rewritings.Lists.{Reflects, holds, fails, eqb_reflects, sure_reflects, never_reflects}

-- Path r lies at or below p.
abbrev pub Under : TaskPath → TaskPath → Type 0
Under p r = (s : TaskPath) × (r ≡ p ++ s)

-- No path lies below both.
abbrev pub Apart : TaskPath → TaskPath → Type 0
Apart p q = (r : TaskPath) → Under p r → Under q r → ⊥

pub under_refl : (q : TaskPath) → Under q q
under_refl q = ([], sym (append-nil q))

pub under_trans : (p q r : TaskPath) → Under p q → Under q r → Under p r
under_trans p q r (s, e) (s', e') = (s ++ s', e' ∙ ap (λ x. x ++ s') e ∙ append_assoc p s s')

pub apart_ne : (p q : TaskPath) → Apart p q → p ≢ q
apart_ne p q a e = a q (subst (λ (x : TaskPath). Under x q) (sym e) (under_refl q)) (under_refl q)

-- ---- Subtasks

subtask_path : (q : TaskPath) (j : ℕ) (ts : List ℕ) (o : Occurrence) → Mem o (subtasks_of q j ts) → (i : ℕ) × (o.0 ≡ q ++ (i ∷ [])) × (j ≤ i)
unfolding subtasks_of
subtask_path q j [] o h = absurd (not-nil h)
subtask_path q j (t ∷ ts) o (here e) = (j, ap (λ (x : Occurrence). x.0) e, le_refl j)
subtask_path q j (t ∷ ts) o (there h) = let (i, e, b) = subtask_path q (suc j) ts o h in (i, e, omega arith)

pub subtask_under : (q : TaskPath) (ts : List ℕ) (o : Occurrence) → Mem o (subtasks_of q 0 ts) → Under q o.0
subtask_under q ts o h = let (i, e, b) = subtask_path q 0 ts o h in (i ∷ [], e)

pub subtask_not_above : (q : TaskPath) (ts : List ℕ) (o : Occurrence) → Mem o (subtasks_of q 0 ts) → Under o.0 q → ⊥
subtask_not_above q ts o h (s, e) =
    let (i, p, b) = subtask_path q 0 ts o h in
    omega (arith, simp length-append at (ap length (e ∙ ap (λ x. x ++ s) p)))

same_child : (q r : TaskPath) (i j : ℕ) → Under (q ++ (i ∷ [])) r → Under (q ++ (j ∷ [])) r → i ≡ j
same_child q r i j (s, e) (s', e') =
    head-eq_of_cons-eq (append_cancel_left q (i ∷ s) (j ∷ s') (sym (append_assoc q (i ∷ []) s) ∙ sym e ∙ e' ∙ append_assoc q (j ∷ []) s'))

-- ---- Lists of occurrences that are apart from one another

abbrev pub Spread : List Occurrence → Type 0
Spread [] = Unit {0}
Spread (o ∷ os) = ((p : Occurrence) → Mem p os → Apart o.0 p.0) × Spread os

spread_subtasks : (q : TaskPath) (j : ℕ) (ts : List ℕ) → Spread (subtasks_of q j ts)
unfolding subtasks_of
spread_subtasks q j [] = tt
spread_subtasks q j (t ∷ ts) = (apart, spread_subtasks q (suc j) ts)
  where
    apart : (p : Occurrence) → Mem p (subtasks_of q (suc j) ts) → Apart (q ++ (j ∷ [])) p.0
    apart p h r u v =
        let (i, e, b) = subtask_path q (suc j) ts p h in
        let z : j ≡ i = same_child q r j i u (subst (λ (x : TaskPath). Under x r) e v) in
        omega arith

-- Two occurrences of a spread list above one path are one.
pub spread_eq : (os : List Occurrence) (o p : Occurrence) (r : TaskPath) → Spread os → Mem o os → Mem p os → Under o.0 r → Under p.0 r → o ≡ p
spread_eq [] o p r s h k u v = absurd (not-nil h)
spread_eq (x ∷ os) o p r s (here e) (here e') u v = e ∙ sym e'
spread_eq (x ∷ os) o p r s (here e) (there k) u v = absurd (s.0 p k r (subst (λ (y : Occurrence). Under y.0 r) e u) v)
spread_eq (x ∷ os) o p r s (there h) (here e') u v = absurd (s.0 o h r (subst (λ (y : Occurrence). Under y.0 r) e' v) u)
spread_eq (x ∷ os) o p r s (there h) (there k) u v = spread_eq os o p r s.1 h k u v

-- The others are apart from each.
pub spread_others : (xs : List Occurrence) (o : Occurrence) (ys : List Occurrence) → Spread (xs ++ (o ∷ ys)) → (p : Occurrence) → Mem p (xs ++ ys) → Apart p.0 o.0
spread_others [] o ys s p h r u v = s.0 p h r v u
spread_others (x ∷ xs) o ys s p (here e) r u v = s.0 o (in_right xs (here refl)) r (subst (λ (y : Occurrence). Under y.0 r) e u) v
spread_others (x ∷ xs) o ys s p (there h) r u v = spread_others xs o ys s.1 p h r u v

spread_append : (k l : List Occurrence) → Spread k → Spread l → ((o p : Occurrence) → Mem o k → Mem p l → Apart o.0 p.0) → Spread (k ++ l)
spread_append [] l s t f = t
spread_append (o ∷ k) l s t f =
    (λ p h. ⊎_elim (s.0 p) (f o p (here refl)) (in-cases k h), spread_append k l s.1 t (λ x y hx hy. f x y (there hx) hy))

-- Subtasks in the place of their occurrence.
pub spread_in_place : (xs : List Occurrence) (o : Occurrence) (ys : List Occurrence) (ts : List ℕ) → Spread (xs ++ (o ∷ ys)) → Spread (xs ++ (subtasks_of o.0 0 ts ++ ys))
spread_in_place [] o ys ts s =
    spread_append (subtasks_of o.0 0 ts) ys (spread_subtasks o.0 0 ts) s.1
    (λ x p h k r u v. s.0 p k r (under_trans o.0 x.0 r (subtask_under o.0 ts x h) u) v)
spread_in_place (x ∷ xs) o ys ts s = (
  λ p h. ⊎_elim (λ k. s.0 p (in_left (o ∷ ys) k))
      (λ k. ⊎_elim (λ i r u v. s.0 o (in_right xs (here refl)) r u (under_trans o.0 p.0 r (subtask_under o.0 ts p i) v))
      (λ i. s.0 p (in_right xs (there i))) (in-cases (subtasks_of o.0 0 ts) k))
      (in-cases xs h),
  spread_in_place xs o ys ts s.1,
)

-- ---- Replacing

cons_reflects : (i j : ℕ) (q r : TaskPath) (b b' : Bool) → Reflects (i ≡ j) b → Reflects (q ≡ r) b' → Reflects (◌≡◌ {A = TaskPath} (i ∷ q) (j ∷ r)) (b && b')
cons_reflects i j q r b b' (holds e) (holds e') = holds (cc)
cons_reflects i j q r b b' (holds e) (fails n) = fails (λ p. n (tail-eq_of_cons-eq p))
cons_reflects i j q r b b' (fails n) y = fails (λ p. n (head-eq_of_cons-eq p))

pub path_reflects : (q r : TaskPath) → Reflects (q ≡ r) (same_path q r)
unfolding same_path
path_reflects [] [] = holds refl
path_reflects [] (j ∷ r) = fails nil≢cons
path_reflects (i ∷ q) [] = fails cons≢nil
path_reflects (i ∷ q) (j ∷ r) = cons_reflects i j q r _ _ (eqb_reflects i j) (path_reflects q r)

replace_absent : (q : TaskPath) (new os : List Occurrence) → ((o : Occurrence) → Mem o os → o.0 ≢ q) → replace q new os ≡ os
unfolding replace
replace_absent q new [] f = refl
replace_absent q new (x ∷ os) f =
    ap (λ b. cond b new (x ∷ []) ++ replace q new os) (never_reflects (path_reflects x.0 q) (f x (here refl)))
    ∙ ap (λ l. x ∷ l) (replace_absent q new os (λ o h. f o (there h)))

-- A replacement in a spread list is made in place.
pub replace_in_place : (xs : List Occurrence) (o : Occurrence) (new ys : List Occurrence) → ((p : Occurrence) → Mem p (xs ++ ys) → p.0 ≢ o.0)
    → replace o.0 new (xs ++ (o ∷ ys)) ≡ xs ++ (new ++ ys)
unfolding replace
replace_in_place [] o new ys f =
    ap (λ b. cond b new (o ∷ []) ++ replace o.0 new ys) (sure_reflects (path_reflects o.0 o.0) refl)
    ∙ ap (λ l. new ++ l) (replace_absent o.0 new ys f)
replace_in_place (x ∷ xs) o new ys f =
    ap (λ b. cond b new (x ∷ []) ++ replace o.0 new (xs ++ (o ∷ ys))) (never_reflects (path_reflects x.0 o.0) (f x (here refl)))
    ∙ ap (λ l. x ∷ l) (replace_in_place xs o new ys (λ p h. f p (there h)))
