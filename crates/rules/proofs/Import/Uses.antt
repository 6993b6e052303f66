-- The names on a form's lines as statements (02, Card 6, number 18): as no two names are the same, a name's place among those listed is the one
-- number that it is listed for, and it serves just where that number does. Assumes nothing.
use mathlib.Core.Path.{◌≡◌, refl, sym, ◌∙◌, subst}
use mathlib.Core.Bool.{Bool, true, false, false≢true}
use mathlib.Core.List.{List, [], ◌∷◌}
use mathlib.Core.Logic.{◌↔◌}
use mathlib.Core.Option.{Option, none, some}
use Prim.Native.Nat.{ℕ, zero, suc, ◌+◌, ◌≤◌}
use native.Mathlib.Omega.{arith}
use lib.Dec.{eqb, leb, ltb}
use lib.ListN.{length}
use borrow.Author.Tests.{eqb-true, eq-eqb, ltb-true, lt-ltb, leb-true, le-leb}
use Rattle.rules.specs.declared.Answer.{Answer}
use Rattle.rules.specs.declared.Answer.TheVariants.{WrongName}
use Rattle.rules.specs.Result.{found, refused}
use Rattle.rules.specs.Case.{method_at, Case}
use Rattle.rules.specs.Tokens.{same_bytes}
use Rattle.rules.specs.Naming.{Names, listed_from, listed_at}
use Rattle.rules.specs.Form.{used_as, action_named, compound_named, suits, method_named, both_named}
use Rattle.rules.specs.FormFaults.{Listed, NamesAction, NamesMethod}
use Rattle.rules.proofs.Tables.{and_both}
use Rattle.rules.proofs.Judgement.Each.{both_true}
use Rattle.rules.proofs.Import.Says.{Says, says_bind, refusal_weaken, Distinct, same_bytes_lem}
use Rattle.rules.proofs.Import.Shapes.{JustWhere}

-- ---- The place of a name

-- The place, counted from i, of a name that is listed.
abbrev ListedFrom : ℕ → List (List ℕ) → List ℕ → ℕ → Type 0
ListedFrom i names name m = (j : ℕ) × (m ≡ i + j) × Listed names name j

listed_from_lem : (i : ℕ) (xs : List (List ℕ)) (name : List ℕ) → JustWhere (ListedFrom i xs name) (listed_from i xs name)
listed_from_lem i [] name = λ m (j, p, h). omega (arith, h.below)
listed_from_lem i (x ∷ xs) name = go (same_bytes x name) refl (listed_from (suc i) xs name) (listed_from_lem (suc i) xs name)
  where
    further : {m : ℕ} → ListedFrom (suc i) xs name m → ListedFrom i (x ∷ xs) name m
    further (j, p, h) = (suc j, omega arith, record { below = omega (arith, h.below); is = h.is })

    back : {m : ℕ} → same_bytes x name ≡ false → ListedFrom i (x ∷ xs) name m → ListedFrom (suc i) xs name m
    back q (zero, p, h) = absurd (false≢true (sym q ∙ (same_bytes_lem x name).1 h.is))
    back q (suc j, p, h) = (j, omega arith, record { below = omega (arith, h.below); is = h.is })

    go : (b : Bool) → same_bytes x name ≡ b → (o : Option ℕ) → JustWhere (ListedFrom (suc i) xs name) o
        → JustWhere (ListedFrom i (x ∷ xs) name) (elim b [ true ↦ some i | false ↦ o ])
    go true q o f = (0, omega arith, record { below = omega arith; is = (same_bytes_lem x name).0 q })
    go false q none f = λ m h. f m (back q h)
    go false q (some m) f = further f

listed_at_lem : (names : List (List ℕ)) (name : List ℕ) → JustWhere (Listed names name) (listed_at names name)
unfolding listed_at
listed_at_lem names name = go (listed_from 0 names name) (listed_from_lem 0 names name)
  where
    go : (o : Option ℕ) → JustWhere (ListedFrom 0 names name) o → JustWhere (Listed names name) o
    go none f = λ i h. f i (i, omega arith, h)
    go (some m) (j, p, h) = let q : j ≡ m = omega arith in subst (Listed names name) q h

-- ---- A name that serves

-- The answer where no number serves.
abbrev pub NoName : (ℕ → Type 0) → ℕ → Answer → Type 0
NoName P n a = (a ≡ WrongName n 0) × ((i : ℕ) → P i → ⊥)

module _ (names : List (List ℕ)) (distinct : Distinct names) (name : List ℕ) where
  one_place : {i j : ℕ} → Listed names name i → Listed names name j → i ≡ j
  one_place {i} {j} a b = distinct i j a.below b.below (a.is ∙ sym b.is)

  -- What a test of the number says.
  used_says : (P : ℕ → Type 0) (serves : ℕ → Bool) (n : ℕ) → ((i : ℕ) → Listed names name i → (serves i ≡ true) ↔ P i)
      → ((i : ℕ) → P i → Listed names name i) → Says P (NoName P n) (used_as serves n (listed_at names name))
  used_says P serves n same listed = go (listed_at names name) (listed_at_lem names name)
    where
      test : (i : ℕ) → Listed names name i → (b : Bool) → serves i ≡ b
          → Says P (NoName P n) (elim b [ true ↦ found i | false ↦ refused (WrongName n 0) ])
      test i h true q = (same i h).0 q
      test i h false q =
          (refl, λ j p. false≢true (sym q ∙ (same i h).1 (subst P (one_place (listed j p) h) p)))

      go : (o : Option ℕ) → JustWhere (Listed names name) o → Says P (NoName P n) (used_as serves n o)
      go none f = (refl, λ i p. f i (listed i p))
      go (some i) h = test i h (serves i) refl

-- ---- Actions, compound tasks and methods

module _ (k : Case) (ns : Names) (tasks : Distinct ns.tasks) where
  pub action_says : (n : ℕ) (name : List ℕ) → Says (NamesAction k ns name) (NoName (NamesAction k ns name) n) (action_named k ns n name)
  unfolding action_named
  action_says n name =
      used_says ns.tasks tasks name (NamesAction k ns name) (λ t. ltb t k.head.actions) n
      (λ i h. (λ q. (h, ltb-true i k.head.actions q), λ p. lt-ltb i k.head.actions p.1)) (λ i p. p.0)

  -- A compound task is listed under this name.
  abbrev NamesCompound : List ℕ → ℕ → Type 0
  NamesCompound name t = Listed ns.tasks name t × (k.head.actions ≤ t)

  compound_says : (n : ℕ) (name : List ℕ) → Says (NamesCompound name) (NoName (NamesCompound name) n) (compound_named k ns n name)
  unfolding compound_named
  compound_says n name =
      used_says ns.tasks tasks name (NamesCompound name) (λ t. leb k.head.actions t) n
      (λ i h. (λ q. (h, leb-true k.head.actions i q), λ p. le-leb k.head.actions i p.1)) (λ i p. p.0)

  module _ (methods : Distinct ns.methods) (n : ℕ) (name method subtasks : List ℕ) where
    abbrev NamesBoth : ℕ → Type 0
    NamesBoth m = NamesMethod k ns name method (length subtasks) m

    method_says : (t : ℕ) → NamesCompound name t → Says NamesBoth (NoName NamesBoth n) (method_named k ns n t method subtasks)
    unfolding method_named suits
    method_says t (h, c) =
        used_says ns.methods methods method NamesBoth (λ m. suits (method_at k.methods m) t (length subtasks)) n
        (λ m g. (
          λ q. let (a, b) = both_true (eqb (method_at k.methods m).task t) (eqb (length (method_at k.methods m).subtasks) (length subtasks)) q in
              record {
                task = t;
                compound = h;
                not_action = c;
                listed = g;
                tasks = eqb-true (method_at k.methods m).task t a;
                counted = eqb-true (length (method_at k.methods m).subtasks) (length subtasks) b;
              },
          λ p. and_both (eq-eqb (method_at k.methods m).task t (p.tasks ∙ one_place ns.tasks tasks name p.compound h))
              (eq-eqb (length (method_at k.methods m).subtasks) (length subtasks) p.counted),
        ))
        (λ m p. p.listed)

    pub both_says : Says NamesBoth (NoName NamesBoth n) (both_named k ns n name method subtasks)
    unfolding both_named
    both_says =
        says_bind (NamesCompound name) NamesBoth (NoName NamesBoth n) (compound_named k ns n name) _
        (refusal_weaken _ _ (NoName NamesBoth n) (compound_named k ns n name)
        (λ a (e, f). (e, λ m p. f p.task (p.compound, p.not_action))) (compound_says n name))
        method_says
