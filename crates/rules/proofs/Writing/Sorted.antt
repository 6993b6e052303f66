-- Sorting puts each constraint where it belongs among those before it, so the result is in order and has the same constraints; a list in
-- order is known by its constraints. No number that is summed over the constraints grows. Assumes nothing.
use mathlib.Core.Path.{◌≡◌, refl, sym, ◌∙◌, subst}
use mathlib.Core.Bool.{Bool, true, false}
use mathlib.Core.List.{List, [], ◌∷◌}
use mathlib.Core.List.Memᴰ.{cases_cons}
use mathlib.Core.List.Memᴰ.{cast}
use mathlib.Core.List.Memᴰ.{head as here}
use mathlib.Core.List.Memᴰ.{not-nil}
use mathlib.Core.List.Memᴰ.{tail as there}
use mathlib.Core.List.{Memᴰ as Mem}
use mathlib.Core.Logic.{◌⊎◌, inl, inr, ⊎_elim}
use Prim.Native.Nat.{ℕ, ◌+◌, ◌≤◌}
use native.Mathlib.Omega.{arith}
use Rattle.rules.specs.Case.{Constraint}
use Rattle.rules.specs.Writing.{precedes, inserted, sorted_into, sorted, SameConstraints, Ascending}
use Rattle.rules.proofs.Judgement.Each.{Each, each_nil, each_cons}
use Rattle.rules.proofs.Writing.Order.{precedes_self, precedes_trans, precedes_neither}

-- ---- In order: each precedes all that come after it

abbrev After : Constraint → Constraint → Type 0
After c d = precedes c d ≡ true

abbrev Rising : List Constraint → Type 0
Rising [] = Unit {0}
Rising (c ∷ cs) = Each (After c) cs × Rising cs

ascending : (cs : List Constraint) → Rising cs → Ascending cs
ascending [] r = tt
ascending (c ∷ []) r = tt
ascending (c ∷ d ∷ ds) r = (r.0 d (here refl), ascending (d ∷ ds) r.1)

rising : (cs : List Constraint) → Ascending cs → Rising cs
rising [] a = tt
rising (c ∷ []) a = (each_nil (After c), tt)
rising (c ∷ d ∷ ds) (e, a) = let r = rising (d ∷ ds) a in (each_cons (After c) d ds e (λ x m. precedes_trans c d x e (r.0 x m)), r)

-- ---- One constraint put among others

-- What holds of the result where c comes first, where it comes later, and where it is there already holds of the result.
inserted_by : (P : List Constraint → Type 0) (c d : Constraint) (ds : List Constraint) → (precedes c d ≡ true → P (c ∷ d ∷ ds))
    → (precedes d c ≡ true → P (d ∷ inserted c ds)) → (c ≡ d → P (d ∷ ds)) → P (inserted c (d ∷ ds))
inserted_by P c d ds first later same = go (precedes c d) refl (precedes d c) refl
  where
    go : (a : Bool) → precedes c d ≡ a → (b : Bool) → precedes d c ≡ b
        → P (elim a [ true ↦ c ∷ d ∷ ds | false ↦ elim b [ true ↦ d ∷ inserted c ds | false ↦ d ∷ ds ] ])
    go true e b f = first e
    go false e true f = later f
    go false e false f = same (precedes_neither c d e f)

inserted_only : (c : Constraint) (ds : List Constraint) (x : Constraint) → Mem x (inserted c ds) → (x ≡ c) ⊎ Mem x ds
inserted_only c [] x = cases_cons
inserted_only c (d ∷ ds) x =
    inserted_by (λ l. Mem x l → (x ≡ c) ⊎ Mem x (d ∷ ds)) c d ds (λ e. cases_cons) (λ e. later (inserted_only c ds x)) (λ e m. inr m)
  where
    later : (Mem x (inserted c ds) → (x ≡ c) ⊎ Mem x ds) → Mem x (d ∷ inserted c ds) → (x ≡ c) ⊎ Mem x (d ∷ ds)
    later below (here q) = inr (here q)
    later below (there m) = ⊎_elim (λ q. inl q) (λ n. inr (there n)) (below m)

inserted_here : (c : Constraint) (ds : List Constraint) → Mem c (inserted c ds)
inserted_here c [] = here refl
inserted_here c (d ∷ ds) = inserted_by (λ l. Mem c l) c d ds (λ e. here refl) (λ e. there (inserted_here c ds)) (λ e. here e)

inserted_others : (c : Constraint) (ds : List Constraint) (x : Constraint) → Mem x ds → Mem x (inserted c ds)
inserted_others c [] x m = there m
inserted_others c (d ∷ ds) x m = inserted_by (λ l. Mem x l) c d ds (λ e. there m) (λ e. later (inserted_others c ds x) m) (λ e. m)
  where
    later : (Mem x ds → Mem x (inserted c ds)) → Mem x (d ∷ ds) → Mem x (d ∷ inserted c ds)
    later below (here q) = here q
    later below (there n) = there (below n)

inserted_rises : (c : Constraint) (ds : List Constraint) → Rising ds → Rising (inserted c ds)
inserted_rises c [] r = (each_nil (After c), tt)
inserted_rises c (d ∷ ds) r = inserted_by Rising c d ds first (λ e. (later e, inserted_rises c ds r.1)) (λ e. r)
  where
    first : precedes c d ≡ true → Rising (c ∷ d ∷ ds)
    first e = (each_cons (After c) d ds e (λ x m. precedes_trans c d x e (r.0 x m)), r)

    later : precedes d c ≡ true → Each (After d) (inserted c ds)
    later e x m = ⊎_elim (λ (q : x ≡ c). subst (After d) (sym q) e) (λ (n : Mem x ds). r.0 x n) (inserted_only c ds x m)

-- ---- All of them

into_rises : (done cs : List Constraint) → Rising done → Rising (sorted_into done cs)
into_rises done [] r = r
into_rises done (c ∷ cs) r = into_rises (inserted c done) cs (inserted_rises c done r)

into_only : (done cs : List Constraint) (x : Constraint) → Mem x (sorted_into done cs) → Mem x done ⊎ Mem x cs
into_only done [] x m = inl m
into_only done (c ∷ cs) x m =
    ⊎_elim (λ (n : Mem x (inserted c done)). ⊎_elim (λ (q : x ≡ c). inr (here q)) (λ (n : Mem x done). inl n) (inserted_only c done x n))
    (λ (n : Mem x cs). inr (there n)) (into_only (inserted c done) cs x m)

into_done : (done cs : List Constraint) (x : Constraint) → Mem x done → Mem x (sorted_into done cs)
into_done done [] x m = m
into_done done (c ∷ cs) x m = into_done (inserted c done) cs x (inserted_others c done x m)

into_all : (done cs : List Constraint) (x : Constraint) → Mem x cs → Mem x (sorted_into done cs)
into_all done [] x m = absurd (not-nil m)
into_all done (c ∷ cs) x (here q) = into_done (inserted c done) cs x (cast q (inserted_here c done))
into_all done (c ∷ cs) x (there m) = into_all (inserted c done) cs x m

sorted_rises : (cs : List Constraint) → Rising (sorted cs)
unfolding sorted
sorted_rises cs = into_rises [] cs tt

pub sorted_ascends : (cs : List Constraint) → Ascending (sorted cs)
sorted_ascends cs = ascending (sorted cs) (sorted_rises cs)

pub sorted_same : (cs : List Constraint) → SameConstraints (sorted cs) cs
unfolding sorted
sorted_same cs c = (λ m. ⊎_elim (λ (n : Mem c []). absurd (not-nil n)) (λ (n : Mem c cs). n) (into_only [] cs c m), into_all [] cs c)

-- ---- A list in order is known by its constraints

-- Of the others none is the first.
not_first : (c d x : Constraint) (cs ds : List Constraint) → c ≡ d → Each (After c) cs → Mem x cs → Mem x (d ∷ ds) → Mem x ds
not_first c d x cs ds e f m (here q) = absurd (precedes_self c (subst (After c) (q ∙ sym e) (f x m)))
not_first c d x cs ds e f m (there n) = n

same_first : (c d : Constraint) (cs ds : List Constraint) → Each (After c) cs → Each (After d) ds → Mem c (d ∷ ds) → Mem d (c ∷ cs) → c ≡ d
same_first c d cs ds f g (here e) m = e
same_first c d cs ds f g (there m) (here e) = sym e
same_first c d cs ds f g (there m) (there n) = absurd (precedes_self c (precedes_trans c d c (f d n) (g c m)))

rising_one : (cs ds : List Constraint) → Rising cs → Rising ds → SameConstraints cs ds → cs ≡ ds
rising_one [] [] r s w = refl
rising_one [] (d ∷ ds) r s w = absurd (not-nil ((w d).1 (here refl)))
rising_one (c ∷ cs) [] r s w = absurd (not-nil ((w c).0 (here refl)))
rising_one (c ∷ cs) (d ∷ ds) r s w =
    let first = same_first c d cs ds r.0 s.0 ((w c).0 (here refl)) ((w d).1 (here refl)) in
    let rest : cs ≡ ds =
    rising_one cs ds r.1 s.1 (λ x. (
      λ m. not_first c d x cs ds first r.0 m ((w x).0 (there m)),
      λ m. not_first d c x ds cs (sym first) s.0 m ((w x).1 (there m)),
    )) in
    λ j. first j ∷ rest j

pub same_sorted : (cs ds : List Constraint) → SameConstraints cs ds → sorted cs ≡ sorted ds
same_sorted cs ds w =
    rising_one (sorted cs) (sorted ds) (sorted_rises cs) (sorted_rises ds) (λ c. (
      λ m. (sorted_same ds c).1 ((w c).0 ((sorted_same cs c).0 m)),
      λ m. (sorted_same cs c).1 ((w c).1 ((sorted_same ds c).0 m)),
    ))

-- Constraints in order are sorted already.
pub ascending_sorted : (cs : List Constraint) → Ascending cs → sorted cs ≡ cs
ascending_sorted cs a = rising_one (sorted cs) cs (sorted_rises cs) (rising cs a) (sorted_same cs)

pub sorted_back : (cs ds : List Constraint) → sorted cs ≡ sorted ds → SameConstraints cs ds
sorted_back cs ds e c = (
  λ m. (sorted_same ds c).0 (subst (λ (l : List Constraint). Mem c l) e ((sorted_same cs c).1 m)),
  λ m. (sorted_same cs c).0 (subst (λ (l : List Constraint). Mem c l) (sym e) ((sorted_same ds c).1 m)),
)

-- ---- Sums

-- A number of each constraint, summed.
abbrev pub total : (Constraint → ℕ) → List Constraint → ℕ
total f [] = 0
total f (c ∷ cs) = f c + total f cs

module _ (f : Constraint → ℕ) where
  inserted_total : (c : Constraint) (ds : List Constraint) → total f (inserted c ds) ≤ f c + total f ds
  inserted_total c [] = omega arith
  inserted_total c (d ∷ ds) =
      let h = inserted_total c ds in
      inserted_by (λ l. total f l ≤ f c + total f (d ∷ ds)) c d ds (λ e. omega arith) (λ e. omega arith) (λ e. omega arith)

  into_total : (done cs : List Constraint) → total f (sorted_into done cs) ≤ total f done + total f cs
  into_total done [] = omega arith
  into_total done (c ∷ cs) =
      let h = into_total (inserted c done) cs in
      let i = inserted_total c done in
      omega arith

  pub sorted_total : (cs : List Constraint) → total f (sorted cs) ≤ total f cs
  unfolding sorted
  sorted_total cs = let h = into_total [] cs in omega arith
