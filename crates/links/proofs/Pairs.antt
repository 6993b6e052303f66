-- Line by line the twins stay right, and when all lines have come they are the form's. Assumes nothing.
use mathlib.Core.Path.{◌≡◌, refl, sym, ap, subst, ◌∙◌}
use mathlib.Core.Bool.{Bool, true, false}
use mathlib.Core.List.{List}
use mathlib.Core.Logic.{◌⊎◌, inl, inr, ⊎_elim}
use Prim.Native.Nat.{ℕ, zero, suc, ◌≤◌, ◌<◌}
use native.Mathlib.Omega.{arith}
use borrow.Author.Tests.{eq-eqb, eqb-true, eqb-false}
use lib.Dec.{eqb}
use lib.ListN.{length, get_or, set}
use lib.Seq.{get_or-set_same, get_or-set_other}
use Rattle.std.specs.Prelude.{None, Some}
use Rattle.rules.specs.Form.{FormLine, defines}
use Rattle.probing.specs.Probing.{first}
use Rattle.probing.proofs.First.{below, first_at, first_none}
use Rattle.ids.specs.Ids.{same_id}
use Rattle.links.specs.Links.{line_at, link, Defined, Twins}
use Rattle.links.specs.Steps.{Opens, Paired}
use Rattle.links.proofs.Lookups.{link_here}

pub same_or_not : (a b : ℕ) → (a ≡ b) ⊎ (a ≡ b → ⊥)
same_or_not a b = go (eqb a b) refl
  where
    go : (t : Bool) → eqb a b ≡ t → (a ≡ b) ⊎ (a ≡ b → ⊥)
    go true e = inl (eqb-true a b e)
    go false e = inr (eqb-false a b e)

apart : {A : Type 0} → ◌≡◌ {A = ℕ} 0 1 → A
apart z = absurd (omega arith)

-- Two lines with one id are the same, if both are the first that has it.
opens_once : (ids : List ℕ) (a b : ℕ) → Opens ids a → Opens ids b → get_or ids a 0 ≡ get_or ids b 0 → a ≡ b
opens_once ids a b p q same = ⊎_elim (λ h. never b a q h same) (λ h. ⊎_elim (λ k. never a b p k (sym same)) (λ k. omega arith) (below b a)) (below a b)
  where
    never : (x y : ℕ) → Opens ids x → y < x → get_or ids y 0 ≡ get_or ids x 0 → a ≡ b
    never x y o h s = let z : ◌≡◌ {A = Bool} true false = sym (eq-eqb (get_or ids y 0) (get_or ids x 0) s) ∙ o y h in apart (cc)

-- ---- No line yet

pub paired_none : (ids twin last : List ℕ) → ((e : ℕ) → get_or twin e 0 ≡ 0) → Paired ids 0 twin last
paired_none ids twin last none =
    record {
      later = λ e d q. let z : 0 ≡ suc d = sym (none e) ∙ q in absurd (omega arith);
      chained = λ d h. absurd (omega arith);
      ends = λ f h o. absurd (omega arith);
    }

-- ---- One line more

module _ {ids : List ℕ} {n : ℕ} {twin last : List ℕ} (paired : Paired ids n twin last) where
  -- The line n has no twin yet.
  free : get_or twin n 0 ≡ 0
  free = go (get_or twin n 0) refl
    where
      go : (v : ℕ) → get_or twin n 0 ≡ v → v ≡ 0
      go zero q = refl
      go (suc d) q = let l = paired.later n d q in absurd (omega arith)

  -- Its id is new.
  pub paired_new : None ≡ first (same_id ids (get_or ids n 0)) n → n < length last → Paired ids (suc n) twin (set last n n)
  paired_new w inside =
      record {
        later = λ e d q. let l = paired.later e d q in (l.0, omega arith, l.2);
        chained = λ d h. ⊎_elim (paired.chained d) (λ k. let s : n ≡ d = omega arith in inl (subst (Opens ids) s opens)) (below d n);
        ends = λ f h o. ⊎_elim (kept f o) (λ k. let s : n ≡ f = omega arith in subst Ends s itself) (below f n);
      }
    where
      Ends : ℕ → Type 0
      Ends f =
          (get_or (set last n n) f 0 < suc n)
          × (get_or ids (get_or (set last n n) f 0) 0 ≡ get_or ids f 0)
          × (get_or twin (get_or (set last n n) f 0) 0 ≡ 0)

      opens : Opens ids n
      opens = first_none (same_id ids (get_or ids n 0)) n (sym w)

      End : ℕ → ℕ → Type 0
      End f g = (g < suc n) × (get_or ids g 0 ≡ get_or ids f 0) × (get_or twin g 0 ≡ 0)

      itself : Ends n
      itself = subst (End n) (sym (get_or-set_same last n n 0 inside)) (omega arith, refl, free)

      kept : (f : ℕ) → Opens ids f → f < n → Ends f
      kept f o k =
          let l = paired.ends f k o in
          subst (End f) (sym (get_or-set_other last n f n 0 (λ s. omega arith))) (omega arith, l.1, l.2)

  -- An earlier line f is the first with its id.
  module _ (f : ℕ) (w : Some f ≡ first (same_id ids (get_or ids n 0)) n) where
    found : (f < n) × (same_id ids (get_or ids n 0) f ≡ true) × ((d : ℕ) → d < f → same_id ids (get_or ids n 0) d ≡ false)
    found = first_at (same_id ids (get_or ids n 0)) n f (sym w)

    same : get_or ids f 0 ≡ get_or ids n 0
    same = eqb-true (get_or ids f 0) (get_or ids n 0) found.1

    opens : Opens ids f
    opens c h = ap (eqb (get_or ids c 0)) same ∙ found.2 c h

    pub first_before : f < n
    first_before = found.0

    pub last_before : get_or last f 0 < n
    last_before = (paired.ends f found.0 opens).0

    pub paired_known : (v : ℕ) → v ≡ suc n → n < length twin → n < length last → Paired ids (suc n) (set twin (get_or last f 0) v) (set last f n)
    paired_known v e inside within =
        record {
          later = λ x d q. ⊎_elim (stored x d q) (other x d q) (same_or_not x (get_or last f 0));
          chained = λ d h. ⊎_elim (λ k. ⊎_elim inl (carried d) (paired.chained d k)) (λ k. new d (omega arith)) (below d n);
          ends = λ g h o. ⊎_elim (λ s. subst Ends s itself) (kept g h o) (same_or_not f g);
        }
      where
        at : ℕ
        at = get_or last f 0

        end : (at < n) × (get_or ids at 0 ≡ get_or ids f 0) × (get_or twin at 0 ≡ 0)
        end = paired.ends f found.0 opens

        twin' : List ℕ
        twin' = set twin at v

        last' : List ℕ
        last' = set last f n

        there : get_or twin' at 0 ≡ suc n
        there = let l = end.0 in get_or-set_same twin at v 0 (omega arith) ∙ e

        Later : ℕ → ℕ → Type 0
        Later x d = (x < d) × (d < suc n) × (get_or ids d 0 ≡ get_or ids x 0)

        stored : (x d : ℕ) → get_or twin' x 0 ≡ suc d → x ≡ at → Later x d
        stored x d q s =
            let l = end.0 in
            let z : suc d ≡ suc n = sym q ∙ ap (λ (y : ℕ). get_or twin' y 0) s ∙ there in
            let m : d ≡ n = omega arith in
            (omega arith, omega arith, ap (λ (y : ℕ). get_or ids y 0) m ∙ sym same ∙ sym end.1 ∙ ap (λ (y : ℕ). get_or ids y 0) (sym s))

        other : (x d : ℕ) → get_or twin' x 0 ≡ suc d → (x ≡ at → ⊥) → Later x d
        other x d q s = let l = paired.later x d (sym (get_or-set_other twin at x v 0 s) ∙ q) in (l.0, omega arith, l.2)

        new : (d : ℕ) → d ≡ n → Opens ids d ⊎ ((x : ℕ) × (get_or twin' x 0 ≡ suc d))
        new d s = inr (at, there ∙ ap suc (sym s))

        carried : (d : ℕ) → ((x : ℕ) × (get_or twin x 0 ≡ suc d)) → Opens ids d ⊎ ((x : ℕ) × (get_or twin' x 0 ≡ suc d))
        carried d (x, q) =
            inr
            (x, get_or-set_other twin at x v 0 (λ s. let z : 0 ≡ suc d = sym end.2 ∙ ap (λ (y : ℕ). get_or twin y 0) (sym s) ∙ q in omega arith) ∙ q)

        End : ℕ → ℕ → Type 0
        End g l = (l < suc n) × (get_or ids l 0 ≡ get_or ids g 0) × (get_or twin' l 0 ≡ 0)

        Ends : ℕ → Type 0
        Ends g = End g (get_or last' g 0)

        itself : Ends f
        itself =
            let l = end.0 in
            let k = first_before in
            subst (End f) (sym (get_or-set_same last f n 0 (omega arith)))
            (omega arith, sym same, get_or-set_other twin at n v 0 (λ s. omega arith) ∙ free)

        -- Another first line's last one has another id, so it is not the one stored to; and g is not n, whose id is f's.
        kept : (g : ℕ) → g < suc n → Opens ids g → (f ≡ g → ⊥) → Ends g
        kept g h o s = go (below g n)
          where
            go : (g < n) ⊎ (n ≤ g) → Ends g
            go (inl k) =
                let l = paired.ends g k o in
                subst (End g) (sym (get_or-set_other last f g n 0 (λ q. s (sym q)))) (
                  omega (arith, l.0),
                  l.1,
                  get_or-set_other twin at (get_or last g 0) v 0
                      (λ q. s (opens_once ids f g opens o (sym end.1 ∙ ap (λ (y : ℕ). get_or ids y 0) (sym q) ∙ l.1))) ∙ l.2,
                )
            go (inr k) =
                let m : n ≡ g = omega arith in
                absurd (s (opens_once ids f g opens o (same ∙ ap (λ (y : ℕ). get_or ids y 0) m)))

-- ---- All lines

module _ {ids : List ℕ} {n : ℕ} {twin last : List ℕ} (paired : Paired ids n twin last) where
  pub twin_low : (e : ℕ) → get_or twin e 0 ≤ n
  twin_low e = go (get_or twin e 0) refl
    where
      go : (v : ℕ) → get_or twin e 0 ≡ v → v ≤ n
      go zero q = omega arith
      go (suc d) q = let l = paired.later e d q in omega arith

  pub twins : (es : List FormLine) → length es ≡ n → Defined es ids → Twins es twin
  twins es size defined =
      record {
        later = λ e d h q. let l = paired.later e d q in
            (l.0, omega arith, defined d (omega arith) ∙ l.2 ∙ sym (defined e h));
        chained = λ d h. ⊎_elim (opening d h) (λ x. inr (x.0, (paired.later x.0 d x.1).0, x.1)) (paired.chained d (omega arith));
      }
    where
      opening : (d : ℕ) → d < length es → Opens ids d
          → (link es (defines (line_at es d)) ≡ suc d) ⊎ ((e : ℕ) × (e < d) × (get_or twin e 0 ≡ suc d))
      opening d h o =
          inl
          (ap (link es) (defined d h)
          ∙ link_here es ids defined (get_or ids d 0) d h (eq-eqb (get_or ids d 0) (get_or ids d 0) refl) o)
