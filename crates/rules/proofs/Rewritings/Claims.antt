-- Claimed positions. The leaves that claim a position, each with its own path, are one exactly if the rules' list of their actions is one
-- action: so "claimed by just one leaf" and "each cue once" say the same.
use mathlib.Core.Path.{◌≡◌, refl, sym, ◌∙◌, ap, subst}
use mathlib.Core.List.{List, [], ◌∷◌, ◌++◌, map, map-append, map-map, map-id, cons≢nil, tail-eq_of_cons-eq}
use mathlib.Core.List.Memᴰ.{append_cases as in-cases}
use mathlib.Core.List.Memᴰ.{append_left as in_left}
use mathlib.Core.List.Memᴰ.{append_right as in_right}
use mathlib.Core.List.Memᴰ.{cast as in-cast}
use mathlib.Core.List.Memᴰ.{eq_of_singleton as in-single}
use mathlib.Core.List.Memᴰ.{head as here}
use mathlib.Core.List.Memᴰ.{map as in_map}
use mathlib.Core.List.Memᴰ.{not-nil}
use mathlib.Core.List.Memᴰ.{of_map}
use mathlib.Core.List.Memᴰ.{tail as there}
use mathlib.Core.List.{Memᴰ as Mem}
use mathlib.Core.Logic.{◌↔◌, ⊎_elim}
use mathlib.Core.Bool.{Bool, true, false, cond}
use Prim.Native.Nat.{ℕ, ◌+◌, ◌-◌, ◌≤◌, ◌<◌}
use native.Mathlib.Omega.{arith}
use lib.Dec.{eqb}
use lib.ListN.{length, get_or}
use Rattle.rules.specs.Case.{NodeLine, D, E, L, Case}
use Rattle.rules.specs.Rules.{claim_of, claimants}
use Rattle.rules.specs.Rewriting.{TaskPath, Occurrence, Network, Place, cue, gap, place_of, places_of, PerformsPlan}
use Rattle.rules.proofs.Rewritings.Statement.{Placed, claimed_names}
use Rattle.rules.proofs.Rewritings.Lists.{mem_cond, eqb_reflects, reflects_sure, sure_reflects}
use Rattle.rules.proofs.Rewritings.Records.{Named, LeftAre}
use Rattle.rules.proofs.Rewritings.Trees.{Distinct, distinct_eq, distinct_append}

-- ---- What lines give, each at its path

-- Each member of what f gives for a line, with the line's path.
abbrev given : {B : Type 0} → (NodeLine → List B) → List Named → List (TaskPath × B)
given f [] = []
given f (x ∷ T) = map (λ b. (x.0, b)) (f x.1) ++ given f T

given_from : {B : Type 0} (f : NodeLine → List B) (T : List Named) (q : TaskPath) (b : B) → Mem (q, b) (given f T) → (l : NodeLine) × Mem (q, l) T × Mem b (f l)
given_from f [] q b h = absurd (not-nil h)
given_from {B} f (x ∷ T) q b h = ⊎_elim first (λ i. let (l, j, w) = given_from f T q b i in (l, there j, w)) (in-cases (map (λ c. (x.0, c)) (f x.1)) h)
  where
    first : Mem {A = TaskPath × B} (q, b) (map (λ c. (x.0, c)) (f x.1)) → (l : NodeLine) × Mem (q, l) (x ∷ T) × Mem b (f l)
    first i =
        let (c, j, e) = of_map {B = TaskPath × B} (λ c. (x.0, c)) (f x.1) i in
        (x.1, here (ap {B = Named} (λ (z : TaskPath × B). (z.0, x.1)) (sym e)), in-cast (ap (λ (z : TaskPath × B). z.1) (sym e)) j)

given_into : {B : Type 0} (f : NodeLine → List B) (T : List Named) (q : TaskPath) (l : NodeLine) (b : B) → Mem (q, l) T → Mem b (f l) → Mem (q, b) (given f T)
given_into f [] q l b h i = absurd (not-nil h)
given_into {B} f (x ∷ T) q l b (here e) i =
    in_left (given f T) (subst (λ (z : Named). Mem {A = TaskPath × B} (q, b) (map (λ c. (z.0, c)) (f z.1))) e (in_map {B = TaskPath × B} (λ c. (q, c)) i))
given_into f (x ∷ T) q l b (there h) i = in_right (map (λ c. (x.0, c)) (f x.1)) (given_into f T q l b h i)

places_given : (T : List Named) → places_of T ≡ given place_of T
unfolding places_of
places_given [] = refl
places_given (x ∷ T) = ap (λ l. map (λ p. (x.0, p)) (place_of x.1) ++ l) (places_given T)

-- ---- The claimed places

pub line_place : (T : List Named) (q : TaskPath) (l : NodeLine) (p : Place) → Mem (q, l) T → Mem p (place_of l) → Mem (q, p) (places_of T)
line_place T q l p h i = rw (places_given T) (given_into place_of T q l p h i)

abbrev IsCue : Place → Type 0
IsCue (cue i) = Unit {0}
IsCue (gap g) = ⊥

cue_leaf : (l : NodeLine) (i : ℕ) → Mem (cue i) (place_of l) → (a : ℕ) × (l ≡ L a i)
unfolding place_of
cue_leaf (D m) i h = absurd (not-nil h)
cue_leaf (E m g) i h = absurd (subst IsCue (in-single h) tt)
cue_leaf (L a j) i h = let e : cue i ≡ cue j = in-single h in (a, cc)

cue_line_lem : (T : List Named) (q : TaskPath) (i : ℕ) → Mem (q, cue i) (places_of T) → (a : ℕ) × Mem (q, L a i) T
cue_line_lem T q i h = let (l, j, w) = given_from place_of T q (cue i) (rw (places_given T) at h) in let (a, e) = cue_leaf l i w in (a, in-cast (ap {B = Named} (λ x. (q, x)) (sym e)) j)

line_cue : (T : List Named) (q : TaskPath) (a i : ℕ) → Mem (q, L a i) T → Mem (q, cue i) (places_of T)
unfolding place_of
line_cue T q a i h = line_place T q (L a i) (cue i) h (here refl)

-- ---- The leaves that claim a position

abbrev line_of : Named → NodeLine
line_of x = x.1

abbrev task_of : Occurrence → ℕ
task_of o = o.1

-- With their paths.
abbrev leaves_at : ℕ → List Named → List Occurrence
leaves_at i T = given (claim_of i) T

leaves_claimants : (i : ℕ) (T : List Named) → map task_of (leaves_at i T) ≡ claimants i (map line_of T)
unfolding claimants
leaves_claimants i [] = refl
leaves_claimants i (x ∷ T) = rw (map-append task_of, map-map, map-id, leaves_claimants i T)

claim_line : (i : ℕ) (l : NodeLine) (a : ℕ) → Mem a (claim_of i l) ↔ (l ≡ L a i)
unfolding claim_of
claim_line i l a = (from l, λ e. subst (λ z. Mem a (claim_of i z)) (sym e) (subst (λ b. Mem a (cond b (a ∷ []) [])) (sym (sure_reflects (eqb_reflects i i) refl)) (here refl)))
  where
    from : (l : NodeLine) → Mem a (claim_of i l) → l ≡ L a i
    from (D m) h = absurd (not-nil h)
    from (E m g) h = absurd (not-nil h)
    from (L b j) h = let (w, e) = mem_cond (eqb i j) h in let e' : i ≡ j = reflects_sure (eqb_reflects i j) w in cc

leaves_iff : (i : ℕ) (T : List Named) (o : Occurrence) → Mem o (leaves_at i T) ↔ Mem (o.0, L o.1 i) T
leaves_iff i T o = (
  λ h. let (l, j, w) = given_from (claim_of i) T o.0 o.1 h in in-cast (ap {B = Named} (λ x. (o.0, x)) (sym ((claim_line i l o.1).0 w))) j,
  λ h. given_into (claim_of i) T o.0 (L o.1 i) o.1 h ((claim_line i (L o.1 i) o.1).1 refl),
)

distinct_leaves : (i : ℕ) (T : List Named) → Distinct T → Distinct (leaves_at i T)
unfolding claim_of
distinct_leaves i [] d = tt
distinct_leaves i (x ∷ T) d = distinct_append (map (λ a. (x.0, a)) (claim_of i x.1)) (leaves_at i T) (first x.1) (distinct_leaves i T d.1) other
  where
    few : (b : Bool) (a : ℕ) → Distinct {A = ℕ} (map (λ c. (x.0, c)) (cond b (a ∷ []) []))
    few true a = (λ y h. absurd (not-nil h), tt)
    few false a = tt

    first : (l : NodeLine) → Distinct {A = ℕ} (map (λ a. (x.0, a)) (claim_of i l))
    first (D m) = tt
    first (E m g) = tt
    first (L a j) = few (eqb i j) a

    other : (o p : Occurrence) → Mem o (map (λ a. (x.0, a)) (claim_of i x.1)) → Mem p (leaves_at i T) → p.0 ≡ o.0 → ⊥
    other o p h h' e =
        let (a, _, e') = of_map {B = Occurrence} (λ a. (x.0, a)) (claim_of i x.1) h in
        d.0 (p.0, L p.1 i) ((leaves_iff i T p).0 h') (e ∙ ap (λ (z : Occurrence). z.0) (sym e'))

-- ---- One leaf

only_one : {A : Type 0} (l : List (TaskPath × A)) (x : TaskPath × A) → Distinct l → Mem x l → ((y : TaskPath × A) → Mem y l → y ≡ x) → l ≡ x ∷ []
only_one [] x d h f = absurd (not-nil h)
only_one (y ∷ []) x d h f = ap (λ z. z ∷ []) (f y (here refl))
only_one {A} (y ∷ z ∷ l) x d h f = absurd (d.0 z (here refl) (ap (λ (w : TaskPath × A). w.0) (f z (there (here refl)) ∙ sym (f y (here refl)))))

map_one : {A B : Type 0} (f : A → B) (l : List A) (c : B) (x y : A) → map f l ≡ c ∷ [] → Mem x l → Mem y l → x ≡ y
map_one f [] c x y e h h' = absurd (not-nil h)
map_one f (z ∷ []) c x y e h h' = in-single h ∙ sym (in-single h')
map_one f (z ∷ w ∷ l) c x y e h h' = absurd (cons≢nil (tail-eq_of_cons-eq e))

-- "Each position 1 to k is claimed by just one leaf, and that leaf's action is the cue there."
abbrev pub Claimed : Case → Type 0
Claimed k = (i : ℕ) → i < k.head.cues → claimants (i + 1) k.nodes ≡ get_or k.plan i 0 ∷ []

module _ (k : Case) (placed : Placed k) (d : Distinct (claimed_names k)) (lines : map line_of (claimed_names k) ≡ k.nodes) (n : Network) (are : LeftAre (claimed_names k) n.occurrences) where
  abbrev T : List Named
  T = claimed_names k

  one_leaf : (q : TaskPath) (a b i j : ℕ) → Mem (q, L a i) T → Mem (q, L b j) T → (a ≡ b) × (i ≡ j)
  one_leaf q a b i j h h' =
      let e : L a i ≡ L b j = ap line_of (distinct_eq T (q, L a i) (q, L b j) d h h' refl) in
      (cc, cc)

  leaf_at : (o : Occurrence) (i : ℕ) → Mem o n.occurrences → Mem (o.0, cue i) (places_of (claimed_names k)) → Mem o (leaves_at i T)
  unfolding places_of
  leaf_at o i h c =
      let (j, u) = (are o.0 o.1).0 h in
      let (b, v) = cue_line_lem T o.0 i c in
      (leaves_iff i T o).1 (subst (λ a. Mem (o.0, L a i) T) (sym (one_leaf o.0 o.1 b j i u v).0) v)

  at_leaf : (o : Occurrence) (i : ℕ) → Mem o (leaves_at i T) → Mem o n.occurrences × Mem (o.0, cue i) (places_of (claimed_names k))
  unfolding places_of
  at_leaf o i h = let u = (leaves_iff i T o).0 h in ((are o.0 o.1).1 (i, u), line_cue T o.0 o.1 i u)

  pub claims_perform : Claimed k → PerformsPlan k (places_of T) n
  claims_perform c = record { placed = stands; every = every; once = once }
    where
      in_plan_lem : (o : Occurrence) (i : ℕ) → Mem o (leaves_at i T) → (1 ≤ i) × (i ≤ k.head.cues)
      in_plan_lem o i h = placed.positions o.1 i (subst (λ l. Mem (L o.1 i) l) lines (in_map line_of ((leaves_iff i T o).0 h)))

      tasks_at : (i : ℕ) → i < k.head.cues → map task_of (leaves_at (i + 1) T) ≡ get_or k.plan i 0 ∷ []
      tasks_at i b = leaves_claimants (i + 1) T ∙ ap (claimants (i + 1)) lines ∙ c i b

      -- The position of a leaf is one more than a place in the plan.
      position : (o : Occurrence) (i : ℕ) → Mem o (leaves_at i T) → (j : ℕ) × (i ≡ j + 1) × (j < k.head.cues)
      position o i h = let b = in_plan_lem o i h in (i - 1, omega arith, omega arith)

      stands : (o : Occurrence) → Mem o n.occurrences → (i : ℕ) × (i < length k.plan) × (get_or k.plan i 0 ≡ o.1) × Mem (o.0, cue (i + 1)) (places_of (claimed_names k))
      stands o h =
          let (i, u) = (are o.0 o.1).0 h in
          let l = (leaves_iff i T o).1 u in
          let (j, e, b) = position o i l in
          let l' : Mem o (leaves_at (j + 1) T) = subst (λ m. Mem o (leaves_at m T)) e l in
          (j, omega (arith, placed.planned), sym (in-single (subst (λ z. Mem o.1 z) (tasks_at j b) (in_map task_of l'))), (at_leaf o (j + 1) l').1)

      every : (i : ℕ) → i < length k.plan → (o : Occurrence) × Mem o n.occurrences × Mem (o.0, cue (i + 1)) (places_of (claimed_names k))
      every i b =
          let e = tasks_at i (omega (arith, placed.planned)) in
          let (o, h, _) = of_map task_of (leaves_at (i + 1) T) (subst (λ z. Mem (get_or k.plan i 0) z) (sym e) (here refl)) in
          let w = at_leaf o (i + 1) h in
          (o, w.0, w.1)

      once : (i : ℕ) (o o' : Occurrence) → Mem o n.occurrences → Mem o' n.occurrences → Mem (o.0, cue i) (places_of (claimed_names k)) → Mem (o'.0, cue i) (places_of (claimed_names k)) → o ≡ o'
      once i o o' h h' p p' =
          let u = leaf_at o i h p in
          let (j, e, b) = position o i u in
          map_one task_of (leaves_at i T) (get_or k.plan j 0) o o' (ap (λ m. map task_of (leaves_at m T)) e ∙ tasks_at j b) u (leaf_at o' i h' p')

  pub performs_claim : PerformsPlan k (places_of T) n → Claimed k
  performs_claim p i b =
      let (o, h, c) = p.every i (omega (arith, placed.planned)) in
      let u = leaf_at o (i + 1) h c in
      let (j, b', e, c') = p.placed o h in
      let w : i + 1 ≡ j + 1 = (one_leaf o.0 o.1 o.1 (i + 1) (j + 1) ((leaves_iff (i + 1) T o).0 u) ((leaves_iff (j + 1) T o).0 (leaf_at o (j + 1) h c'))).1 in
      let v : i ≡ j = omega arith in
      sym (leaves_claimants (i + 1) T ∙ ap (claimants (i + 1)) lines)
      ∙ ap (map task_of) (only_one (leaves_at (i + 1) T) o (distinct_leaves (i + 1) T d) u (λ y g. let w = at_leaf y (i + 1) g in p.once (i + 1) y o w.0 h w.1 c))
      ∙ ap (λ a. a ∷ []) (sym e ∙ ap (λ m. get_or k.plan m 0) (sym v))
