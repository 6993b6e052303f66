-- The ids that the lines of a form reach from its root (02, Card 6): as many rounds as there are lines find just those that are reached. A round
-- that makes no line more lead on leaves the set closed, and more lines than there are can't lead on. Assumes nothing.
use mathlib.Core.Path.{◌≡◌, refl, sym, ap, ◌∙◌, subst}
use mathlib.Core.Bool.{Bool, true, false, ◌||◌, or-true, false≢true}
use mathlib.Core.List.{List, [], ◌∷◌, ◌++◌}
use mathlib.Core.List.Memᴰ.{append_cases as in_either}
use mathlib.Core.List.Memᴰ.{append_left as in_left}
use mathlib.Core.List.Memᴰ.{append_right as in_right}
use mathlib.Core.List.Memᴰ.{cases_cons}
use mathlib.Core.List.Memᴰ.{eq_of_singleton as alone}
use mathlib.Core.List.Memᴰ.{head as here}
use mathlib.Core.List.Memᴰ.{not-nil}
use mathlib.Core.List.Memᴰ.{tail as there}
use mathlib.Core.List.{Memᴰ as Mem}
use mathlib.Core.Logic.{◌↔◌, ◌⊎◌, inl, inr, ⊎_elim}
use Prim.Native.Nat.{ℕ, zero, suc, ◌+◌, ◌≤◌, ◌<◌}
use native.Mathlib.Omega.{arith}
use lib.Dec.{eqb, ltb}
use lib.ListN.{length}
use borrow.Author.Tests.{eqb-true, eq-eqb, ltb-true, ltb-false}
use Rattle.rules.specs.Tree.{is_in}
use Rattle.rules.specs.Form.{FormLine, defines, uses, below, reached_in, is_reached, Reached, at_root, onward}

-- ---- The test as membership

pub is_in_lem : (i : ℕ) (l : List ℕ) → is_in i l ≡ true → Mem i l
unfolding is_in
is_in_lem i [] e = absurd (false≢true e)
is_in_lem i (x ∷ l) e = go (eqb x i) refl e (is_in_lem i l)
  where
    go : (b : Bool) → eqb x i ≡ b → (b || is_in i l) ≡ true → (is_in i l ≡ true → Mem i l) → Mem i (x ∷ l)
    go true q e later = here (sym (eqb-true x i q))
    go false q e later = there (later e)

pub in_is : {i : ℕ} {l : List ℕ} → Mem i l → is_in i l ≡ true
unfolding is_in
in_is {i} (here {x} {xs} e) = ap (λ (b : Bool). b || is_in i xs) (eq-eqb x i (sym e))
in_is {i} (there {x} {xs} m) = ap (λ (b : Bool). eqb x i || b) (in_is m) ∙ or-true (eqb x i)

-- ---- One round

-- A line leads on from some of these ids to s.
abbrev Leads : List ℕ → List FormLine → ℕ → Type 0
Leads ids es s = (e : FormLine) × Mem e es × Mem (defines e) ids × Mem s (uses e)

below_leads : (ids : List ℕ) (es : List FormLine) (s : ℕ) → Mem s (below ids es) → Leads ids es s
below_leads ids [] s m = absurd (not-nil m)
below_leads ids (e ∷ es) s m = go (is_in (defines e) ids) refl m (λ r. later (below_leads ids es s r))
  where
    later : Leads ids es s → Leads ids (e ∷ es) s
    later (x, m, f, u) = (x, there m, f, u)

    go : (b : Bool) → is_in (defines e) ids ≡ b → Mem s (elim b [ true ↦ uses e ++ below ids es | false ↦ below ids es ])
        → (Mem s (below ids es) → Leads ids (e ∷ es) s) → Leads ids (e ∷ es) s
    go true q m rest = ⊎_elim (λ (u : Mem s (uses e)). (e, here refl, is_in_lem (defines e) ids q, u)) rest (in_either (uses e) m)
    go false q m rest = rest m

leads_below : (ids : List ℕ) (es : List FormLine) (s : ℕ) → Leads ids es s → Mem s (below ids es)
leads_below ids [] s (x, m, f, u) = absurd (not-nil m)
leads_below ids (e ∷ es) s (x, m, f, u) =
    go (is_in (defines e) ids) refl (λ (n : Mem x es). leads_below ids es s (x, n, f, u)) (cases_cons m)
  where
    go : (b : Bool) → is_in (defines e) ids ≡ b → (Mem x es → Mem s (below ids es)) → (x ≡ e) ⊎ Mem x es
        → Mem s (elim b [ true ↦ uses e ++ below ids es | false ↦ below ids es ])
    go true q rest (inl p) = in_left (below ids es) (subst (λ (z : FormLine). Mem s (uses z)) p u)
    go true q rest (inr n) = in_right (uses e) (rest n)
    go false q rest (inl p) =
        absurd (false≢true (sym q ∙ in_is (subst (λ (z : FormLine). Mem (defines z) ids) p f)))
    go false q rest (inr n) = rest n

-- ---- How many lines lead on

abbrev counted : Bool → ℕ → ℕ
counted true n = suc n
counted false n = n

abbrev hits : List ℕ → List FormLine → ℕ
hits ids [] = 0
hits ids (e ∷ es) = counted (is_in (defines e) ids) (hits ids es)

hits_most : (ids : List ℕ) (es : List FormLine) → hits ids es ≤ length es
hits_most ids [] = omega arith
hits_most ids (e ∷ es) = go (is_in (defines e) ids) (hits_most ids es)
  where
    go : (b : Bool) → hits ids es ≤ length es → counted b (hits ids es) ≤ suc (length es)
    go true h = omega arith
    go false h = omega arith

-- A line that leads on is counted.
hit : (ids : List ℕ) {e : FormLine} {es : List FormLine} → Mem e es → Mem (defines e) ids → 1 ≤ hits ids es
hit ids {e} (here {x} {xs} p) f = go (is_in (defines x) ids) refl
  where
    go : (b : Bool) → is_in (defines x) ids ≡ b → 1 ≤ counted b (hits ids xs)
    go true q = omega arith
    go false q = absurd (false≢true (sym q ∙ in_is (subst (λ (z : FormLine). Mem (defines z) ids) p f)))
hit ids {e} (there {x} {xs} m) f = go (is_in (defines x) ids) (hit ids m f)
  where
    go : (b : Bool) → 1 ≤ hits ids xs → 1 ≤ counted b (hits ids xs)
    go true h = omega arith
    go false h = h

-- The lines that lead on from some of ys do so from some of xs.
abbrev Same : List ℕ → List ℕ → List FormLine → Type 0
Same xs ys es = (e : FormLine) → Mem e es → Mem (defines e) ys → Mem (defines e) xs

-- Of more ids at least as many do; and where no more do, they are the same.
hits_more : (xs ys : List ℕ) → ((x : ℕ) → Mem x xs → Mem x ys) → (es : List FormLine)
    → (hits xs es ≤ hits ys es) × (hits ys es ≤ hits xs es → Same xs ys es)
hits_more xs ys w [] = (omega arith, λ h e m. absurd (not-nil m))
hits_more xs ys w (d ∷ es) = go (is_in (defines d) xs) (is_in (defines d) ys) refl refl (hits_more xs ys w es)
  where
    one : (Mem (defines d) ys → Mem (defines d) xs) → Same xs ys es → Same xs ys (d ∷ es)
    one f g e (here p) y = subst (λ (z : FormLine). Mem (defines z) xs) (sym p) (f (subst (λ (z : FormLine). Mem (defines z) ys) p y))
    one f g e (there m) y = g e m y

    go : (b c : Bool) → is_in (defines d) xs ≡ b → is_in (defines d) ys ≡ c → (hits xs es ≤ hits ys es) × (hits ys es ≤ hits xs es → Same xs ys es)
        → (counted b (hits xs es) ≤ counted c (hits ys es)) × (counted c (hits ys es) ≤ counted b (hits xs es) → Same xs ys (d ∷ es))
    go true true p q (h, f) = (omega arith, λ i. one (λ y. is_in_lem (defines d) xs p) (f (omega arith)))
    go true false p q (h, f) = absurd (false≢true (sym q ∙ in_is (w (defines d) (is_in_lem (defines d) xs p))))
    go false true p q (h, f) = (omega arith, λ i. absurd (omega arith))
    go false false p q (h, f) = (h, λ i. one (λ y. absurd (false≢true (sym q ∙ in_is y))) (f i))

-- ---- Round after round

module _ (es : List FormLine) where
  abbrev round : List ℕ → List ℕ
  round ids = ids ++ below ids es

  -- Whatever a line leads to from these ids is one of them.
  abbrev Closed : List ℕ → Type 0
  Closed ids = (s : ℕ) → Leads ids es s → Mem s ids

  closed_round : (ids : List ℕ) → Closed ids → Closed (round ids)
  closed_round ids c s (e, m, f, u) =
      in_left (below ids es) (c s (e, m, back (in_either ids f), u))
    where
      back : Mem (defines e) ids ⊎ Mem (defines e) (below ids es) → Mem (defines e) ids
      back (inl f) = f
      back (inr f) = c (defines e) (below_leads ids es (defines e) f)

  stays_closed : (rounds : ℕ) (ids : List ℕ) → Closed ids → Closed (reached_in rounds es ids)
  stays_closed zero ids c = c
  stays_closed (suc rounds) ids c = stays_closed rounds (round ids) (closed_round ids c)

  -- A round after which no more lines lead on leaves the set closed.
  idle_closed : (ids : List ℕ) → hits (round ids) es ≤ hits ids es → Closed (round ids)
  idle_closed ids h s (e, m, f, u) =
      in_right ids (leads_below ids es s (e, m, (hits_more ids (round ids) (λ x. in_left (below ids es)) es).1 h e m f, u))

  -- Enough rounds: more lines than there are can't lead on.
  enough_closed : (rounds : ℕ) (ids : List ℕ) → length es < rounds + hits ids es → Closed (reached_in rounds es ids)
  enough_closed zero ids h = absurd (omega (arith, hits_most ids es))
  enough_closed (suc rounds) ids h = go (ltb (hits ids es) (hits (round ids) es)) refl (enough_closed rounds (round ids))
    where
      go : (b : Bool) → ltb (hits ids es) (hits (round ids) es) ≡ b
          → (length es < rounds + hits (round ids) es → Closed (reached_in rounds es (round ids))) → Closed (reached_in rounds es (round ids))
      go true q later = let l = ltb-true (hits ids es) (hits (round ids) es) q in later (omega arith)
      go false q later = stays_closed rounds (round ids) (idle_closed ids (ltb-false (hits ids es) (hits (round ids) es) q))

  -- ---- From the root

  kept : (rounds : ℕ) (ids : List ℕ) (x : ℕ) → Mem x ids → Mem x (reached_in rounds es ids)
  kept zero ids x m = m
  kept (suc rounds) ids x m = kept rounds (round ids) x (in_left (below ids es) m)

  -- As many rounds as lines: if no line leads on from the root, it is closed alone.
  as_many_closed : (root : ℕ) → Closed (reached_in (length es) es (root ∷ []))
  as_many_closed root = go (ltb 0 (hits (root ∷ []) es)) refl
    where
      go : (b : Bool) → ltb 0 (hits (root ∷ []) es) ≡ b → Closed (reached_in (length es) es (root ∷ []))
      go true q = enough_closed (length es) (root ∷ []) (omega (arith, ltb-true 0 (hits (root ∷ []) es) q))
      go false q =
          stays_closed (length es) (root ∷ [])
          (λ s (e, m, f, u). absurd (omega (arith, ltb-false 0 (hits (root ∷ []) es) q, hit (root ∷ []) m f)))

  module _ (root : ℕ) where
    all_reached : (rounds : ℕ) (ids : List ℕ) → ((x : ℕ) → Mem x ids → Reached es root x) → (x : ℕ) → Mem x (reached_in rounds es ids) → Reached es root x
    all_reached zero ids f x m = f x m
    all_reached (suc rounds) ids f x m = all_reached rounds (round ids) (λ y n. both y (in_either ids n)) x m
      where
        both : (y : ℕ) → Mem y ids ⊎ Mem y (below ids es) → Reached es root y
        both y (inl n) = f y n
        both y (inr n) = let (e, i, d, u) = below_leads ids es y n in onward e y i (f (defines e) d) u

    reached_in_lem : {id : ℕ} → Reached es root id → Mem id (reached_in (length es) es (root ∷ []))
    reached_in_lem at_root = kept (length es) (root ∷ []) root (here refl)
    reached_in_lem (onward e s m r u) = as_many_closed root s (e, m, reached_in_lem r, u)

pub is_reached_lem : (es : List FormLine) (root id : ℕ) → (is_reached es root id ≡ true) ↔ Reached es root id
unfolding is_reached
is_reached_lem es root id = (
  λ e. all_reached es root (length es) (root ∷ []) (λ x m. subst (λ (z : ℕ). Reached es root z) (sym (alone m)) at_root) id (is_in_lem id _ e),
  λ r. in_is (reached_in_lem es root r),
)
