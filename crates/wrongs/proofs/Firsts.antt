-- The first line that defines an id is the one that the id's link names, and the twins lead from it to the others. Assumes nothing.
use mathlib.Core.Path.{◌≡◌, refl, sym, ap, ◌∙◌, subst}
use mathlib.Core.Bool.{Bool, true, false, ◌||◌}
use mathlib.Core.List.{List, [], ◌∷◌, map}
use mathlib.Core.Logic.{◌⊎◌, inl, inr, ⊎_elim}
use Prim.Native.Nat.{ℕ, zero, suc, ◌+◌, ◌≤◌, ◌<◌}
use native.Mathlib.Omega.{arith}
use lib.Dec.{eqb, ltb}
use lib.ListN.{length, get_or}
use borrow.Author.Tests.{eqb-true, eqb-false, ltb-true, ltb-false, lt-ltb}
use Rattle.rules.specs.Tree.{is_in}
use Rattle.rules.specs.Form.{FormLine, defines, all_defined}
use Rattle.links.specs.Links.{line_at, link_from, link, Twins}

pub same_or_not : (a b : ℕ) → (a ≡ b) ⊎ (a ≡ b → ⊥)
same_or_not a b = go (eqb a b) refl
  where
    go : (t : Bool) → eqb a b ≡ t → (a ≡ b) ⊎ (a ≡ b → ⊥)
    go true e = inl (eqb-true a b e)
    go false e = inr (eqb-false a b e)

pub less_or_not : (a b : ℕ) → (a < b) ⊎ (b ≤ a)
less_or_not a b = go (ltb a b) refl
  where
    go : (t : Bool) → ltb a b ≡ t → (a < b) ⊎ (b ≤ a)
    go true e = inl (ltb-true a b e)
    go false e = inr (ltb-false a b e)

-- ---- Links

-- The line k is the first that defines the id.
pub record FirstOf (es : List FormLine) (id k : ℕ) : Type 0 where
  pub low : k < length es
  pub same : defines (line_at es k) ≡ id
  pub least : (j : ℕ) → j < k → defines (line_at es j) ≡ id → ⊥

first_here : (e : FormLine) (es : List FormLine) (id : ℕ) → defines e ≡ id → FirstOf (e ∷ es) id 0
unfolding line_at
first_here e es id s = record { low = omega arith; same = s; least = λ j h. absurd (omega arith) }

first_there : (e : FormLine) (es : List FormLine) (id k : ℕ) → (defines e ≡ id → ⊥) → FirstOf es id k → FirstOf (e ∷ es) id (suc k)
unfolding line_at
first_there e es id k o f = record { low = omega (arith, f.low); same = f.same; least = least }
  where
    least : (j : ℕ) → j < suc k → defines (line_at (e ∷ es) j) ≡ id → ⊥
    least zero h = o
    least (suc j) h = f.least j (omega arith)

linked_first : (i : ℕ) (es : List FormLine) (id d : ℕ) → link_from i es id ≡ suc d → (k : ℕ) × (d ≡ i + k) × FirstOf es id k
linked_first i [] id d l = absurd (omega arith)
linked_first i (e ∷ es) id d l = go (eqb (defines e) id) refl l (linked_first (suc i) es id d)
  where
    go : (b : Bool) → eqb (defines e) id ≡ b → elim b [ true ↦ suc i | false ↦ link_from (suc i) es id ] ≡ suc d
        → (link_from (suc i) es id ≡ suc d → (k : ℕ) × (d ≡ suc i + k) × FirstOf es id k)
        → (k : ℕ) × (d ≡ i + k) × FirstOf (e ∷ es) id k
    go true q l later = (0, omega arith, first_here e es id (eqb-true (defines e) id q))
    go false q l later =
        let (k, s, f) = later l in
        (suc k, omega arith, first_there e es id k (eqb-false (defines e) id q) f)

-- A link names the first line.
pub link_first : (es : List FormLine) (id d : ℕ) → link es id ≡ suc d → FirstOf es id d
unfolding link
link_first es id d l =
    let (k, s, f) = linked_first 0 es id d l in
    let same : k ≡ d = omega arith in
    subst (FirstOf es id) same f

unlinked : (i : ℕ) (es : List FormLine) (id : ℕ) → link_from i es id ≡ 0 → (k : ℕ) → k < length es → defines (line_at es k) ≡ id → ⊥
unfolding line_at
unlinked i [] id l k h s = absurd (omega arith)
unlinked i (e ∷ es) id l zero h s = go (eqb (defines e) id) refl l
  where
    go : (b : Bool) → eqb (defines e) id ≡ b → ◌≡◌ {A = ℕ} (elim b [ true ↦ suc i | false ↦ link_from (suc i) es id ]) 0 → ⊥
    go true q l = omega arith
    go false q l = eqb-false (defines e) id q s
unlinked i (e ∷ es) id l (suc k) h s = go (eqb (defines e) id) l (λ m. unlinked (suc i) es id m k (omega arith) s)
  where
    go : (b : Bool) → ◌≡◌ {A = ℕ} (elim b [ true ↦ suc i | false ↦ link_from (suc i) es id ]) 0 → (link_from (suc i) es id ≡ 0 → ⊥) → ⊥
    go true l later = omega arith
    go false l later = later l

-- The link 0: no line defines the id.
pub link_none : (es : List FormLine) (id : ℕ) → link es id ≡ 0 → (k : ℕ) → k < length es → defines (line_at es k) ≡ id → ⊥
unfolding link
link_none es id l = unlinked 0 es id l

defined_from : (i : ℕ) (es : List FormLine) (id : ℕ) → is_in id (map defines es) ≡ ltb 0 (link_from i es id)
unfolding is_in
defined_from i [] id = refl
defined_from i (e ∷ es) id = go (eqb (defines e) id) (defined_from (suc i) es id)
  where
    go : (b : Bool) → is_in id (map defines es) ≡ ltb 0 (link_from (suc i) es id)
        → (b || is_in id (map defines es)) ≡ ltb 0 (elim b [ true ↦ suc i | false ↦ link_from (suc i) es id ])
    go true later = sym (lt-ltb 0 (suc i) (omega arith))
    go false later = later

-- An id is defined if its link isn't 0.
pub defined_link : (es : List FormLine) (id : ℕ) → is_in id (all_defined es) ≡ ltb 0 (link es id)
unfolding link all_defined
defined_link es id = defined_from 0 es id

-- ---- Twins

-- The line e is the first that defines its id.
abbrev pub First : List FormLine → ℕ → Type 0
First es e = link es (defines (line_at es e)) ≡ suc e

-- No line before the first with an id has that id.
pub first_least : (es : List FormLine) (e d : ℕ) → First es e → defines (line_at es d) ≡ defines (line_at es e) → e ≤ d
first_least es e d f s = ⊎_elim (λ l. absurd ((link_first es _ e f).least d l s)) (λ l. l) (less_or_not d e)

-- The first line with its id has a twin if any other line has the same id: down the twins from that one.
pub has_twin : {es : List FormLine} {twin : List ℕ} → Twins es twin → (bound e d : ℕ) → d < bound → First es e → e < d → d < length es
    → defines (line_at es d) ≡ defines (line_at es e) → 0 < get_or twin e 0
has_twin t zero e d b f l h s = absurd (omega arith)
has_twin {es} {twin} t (suc bound) e d b f l h s = ⊎_elim
    (λ first. absurd ((link_first es _ d first).least e l (sym s)))
    (λ (k, m, w). earlier k m w (t.later k d (omega arith) w).2 (λ g. has_twin t bound e k (omega arith) f g (omega arith)))
    (t.chained d h)
  where
    earlier : (k : ℕ) → k < d → get_or twin k 0 ≡ suc d → defines (line_at es d) ≡ defines (line_at es k)
        → (e < k → defines (line_at es k) ≡ defines (line_at es e) → 0 < get_or twin e 0) → 0 < get_or twin e 0
    earlier k m w q again =
        let o = first_least es e k f (sym q ∙ s) in
        ⊎_elim
        (λ same. omega (arith, ap (λ (x : ℕ). get_or twin x 0) same))
        (λ other. again (omega arith) (sym q ∙ s))
        (same_or_not k e)
