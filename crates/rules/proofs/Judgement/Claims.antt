-- Each position is claimed by just one leaf, its cue's, exactly if every claim passes and none is left: a claim passes if its action is the
-- cue there and nobody claimed it before, so from any line on a position has its claimant to come unless it has been claimed.
use mathlib.Core.Path.{◌≡◌, refl, sym, ◌∙◌, ap}
use mathlib.Core.Bool.{Bool, true, false, cond, ◌||◌, not, false≢true}
use mathlib.Core.Logic.{◌≢◌, ◌⊎◌, inl, inr, ⊎_elim}
use mathlib.Core.List.Memᴰ.{head as here}
use mathlib.Core.List.Memᴰ.{tail as there}
use mathlib.Core.List.{List, [], ◌∷◌, ◌++◌, head-eq_of_cons-eq, tail-eq_of_cons-eq, nil≢cons, cons≢nil, Memᴰ as Mem}
use mathlib.Core.Option.{Option, none, some}
use Prim.Native.Nat.{ℕ, zero, suc, ◌+◌, ◌-◌, ◌≤◌, ◌<◌}
use native.Mathlib.Omega.{arith}
use lib.Dec.{eqb}
use lib.ListN.{get_or}
use borrow.Author.Tests.{eqb-true, eqb-false, eq-eqb, ne_eqb, not-true}
use Rattle.rules.specs.declared.Header.{Header}
use Rattle.rules.specs.Case.{NodeLine, D, E, L}
use Rattle.rules.specs.Tree.{is_in, may_claim, least_unclaimed}
use Rattle.rules.specs.Rules.{claim_of, claimants}
use Rattle.rules.proofs.Judgement.Each.{Each, each_tail, both_true}
use Rattle.rules.proofs.Judgement.Sound.{GoodNode}
use Rattle.rules.proofs.Judgement.Preorder.{claimed_by, ClaimsPass}

-- The claimants that position j is still to have: its cue, unless it has been claimed.
abbrev pub to_come : List ℕ → ℕ → Bool → List ℕ
to_come plan j claimed? = cond claimed? [] (get_or plan (j - 1) 0 ∷ [])

pub may_claim_lem : (plan : List ℕ) (a i : ℕ) (c : List ℕ) → may_claim plan a i c ≡ true → (get_or plan (i - 1) 0 ≡ a) × (is_in i c ≡ false)
unfolding may_claim
may_claim_lem plan a i c e =
    let w = both_true (eqb (get_or plan (i - 1) 0) a) (not (is_in i c)) e in
    (eqb-true (get_or plan (i - 1) 0) a w.0, not-true (is_in i c) w.1)

pub may_claim_of : (plan : List ℕ) (a i : ℕ) (c : List ℕ) → get_or plan (i - 1) 0 ≡ a → is_in i c ≡ false → may_claim plan a i c ≡ true
unfolding may_claim
may_claim_of plan a i c p q = rw (eq-eqb (get_or plan (i - 1) 0) a p, q)

is_in_same : (i j : ℕ) (c : List ℕ) → j ≡ i → is_in j (i ∷ c) ≡ true
unfolding is_in
is_in_same i j c e = ap (λ (b : Bool). b || is_in j c) (eq-eqb i j (sym e))

is_in_other : (i j : ℕ) (c : List ℕ) → (j ≡ i → ⊥) → is_in j (i ∷ c) ≡ is_in j c
unfolding is_in
is_in_other i j c n = ap (λ (b : Bool). b || is_in j c) (ne_eqb i j (λ e. n (sym e)))

claimants_same : (a i j : ℕ) (ls : List NodeLine) → j ≡ i → claimants j (L a i ∷ ls) ≡ a ∷ claimants j ls
unfolding claimants claim_of
claimants_same a i j ls e = ap (λ (b : Bool). cond b (a ∷ []) [] ++ claimants j ls) (eq-eqb j i e)

claimants_other : (a i j : ℕ) (ls : List NodeLine) → (j ≡ i → ⊥) → claimants j (L a i ∷ ls) ≡ claimants j ls
unfolding claimants claim_of
claimants_other a i j ls n = ap (λ (b : Bool). cond b (a ∷ []) [] ++ claimants j ls) (ne_eqb j i n)

-- ---- Claims that pass, and none left

pub claimants_passed : (plan : List ℕ) (j : ℕ) (ls : List NodeLine) (c : List ℕ) → ClaimsPass (may_claim plan) ls c → is_in j (claimed_by ls c) ≡ true
    → claimants j ls ≡ to_come plan j (is_in j c)
unfolding claimants claim_of
claimants_passed plan j [] c p h = ap (λ (b : Bool). to_come plan j b) (sym h)
claimants_passed plan j (D m ∷ ls) c p h = claimants_passed plan j ls c p.1 h
claimants_passed plan j (E m g ∷ ls) c p h = claimants_passed plan j ls c p.1 h
claimants_passed plan j (L a i ∷ ls) c p h = go (eqb j i) refl (claimants_passed plan j ls (i ∷ c) p.1 h) (may_claim_lem plan a i c p.0)
  where
    go : (b : Bool) → eqb j i ≡ b → claimants j ls ≡ to_come plan j (is_in j (i ∷ c)) → (get_or plan (i - 1) 0 ≡ a) × (is_in i c ≡ false)
        → claimants j (L a i ∷ ls) ≡ to_come plan j (is_in j c)
    go true q ih w =
        let e = eqb-true j i q in
        claimants_same a i j ls e
        ∙ ap (λ (l : List ℕ). a ∷ l) (ih ∙ ap (λ (b : Bool). to_come plan j b) (is_in_same i j c e))
        ∙ ap (λ (x : ℕ). x ∷ []) (sym w.0 ∙ ap (λ (n : ℕ). get_or plan (n - 1) 0) (sym e))
        ∙ ap (λ (b : Bool). to_come plan j b) (sym (ap (λ (n : ℕ). is_in n c) e ∙ w.1))
    go false q ih w =
        let n = eqb-false j i q in
        claimants_other a i j ls n ∙ ih ∙ ap (λ (b : Bool). to_come plan j b) (is_in_other i j c n)

none_to_come : (plan : List ℕ) (j : ℕ) (b : Bool) → [] ≡ to_come plan j b → b ≡ true
none_to_come plan j true e = refl
none_to_come plan j false e = absurd (nil≢cons e)

one_to_come : (plan : List ℕ) (j a : ℕ) (l : List ℕ) (b : Bool) → a ∷ l ≡ to_come plan j b → (get_or plan (j - 1) 0 ≡ a) × (b ≡ false) × (l ≡ [])
one_to_come plan j a l true e = absurd (cons≢nil e)
one_to_come plan j a l false e = (sym (head-eq_of_cons-eq e), refl, tail-eq_of_cons-eq e)

-- Of each of the model's positions, the claimants from here on are those to come.
abbrev Ahead : Header → List ℕ → List NodeLine → List ℕ → Type 0
Ahead h plan ls c = (j : ℕ) → 1 ≤ j → j ≤ h.cues → claimants j ls ≡ to_come plan j (is_in j c)

pub claims_ahead : (h : Header) (plan : List ℕ) (ls : List NodeLine) (c : List ℕ) → Each (GoodNode h) ls → Ahead h plan ls c
    → ClaimsPass (may_claim plan) ls c × ((j : ℕ) → 1 ≤ j → j ≤ h.cues → is_in j (claimed_by ls c) ≡ true)
unfolding claimants claim_of
claims_ahead h plan [] c good f = (tt, λ j lo hi. none_to_come plan j (is_in j c) (f j lo hi))
claims_ahead h plan (D m ∷ ls) c good f = let w = claims_ahead h plan ls c (each_tail (GoodNode h) (D m) ls good) f in ((tt, w.0), w.1)
claims_ahead h plan (E m g ∷ ls) c good f = let w = claims_ahead h plan ls c (each_tail (GoodNode h) (E m g) ls good) f in ((tt, w.0), w.1)
claims_ahead h plan (L a i ∷ ls) c good f =
    let range = good (L a i) (here refl) in
    let now = one_to_come plan i a (claimants i ls) (is_in i c) (sym (claimants_same a i i ls refl) ∙ f i range.1 range.2) in
    let w = claims_ahead h plan ls (i ∷ c) (each_tail (GoodNode h) (L a i) ls good) (λ j lo hi. go j (f j lo hi) now.2 (eqb j i) refl) in
    ((may_claim_of plan a i c now.0 now.1, w.0), w.1)
  where
    go : (j : ℕ) → claimants j (L a i ∷ ls) ≡ to_come plan j (is_in j c) → claimants i ls ≡ [] → (b : Bool) → eqb j i ≡ b
        → claimants j ls ≡ to_come plan j (is_in j (i ∷ c))
    go j e none_left_lem true q =
        let s = eqb-true j i q in
        ap (λ (n : ℕ). claimants n ls) s ∙ none_left_lem ∙ ap (λ (b : Bool). to_come plan j b) (sym (is_in_same i j c s))
    go j e none_left_lem false q =
        let n = eqb-false j i q in
        sym (claimants_other a i j ls n) ∙ e ∙ ap (λ (b : Bool). to_come plan j b) (sym (is_in_other i j c n))

-- ---- The least position unclaimed

abbrev pub LeastSays : List ℕ → ℕ → ℕ → Option ℕ → Type 0
LeastSays c n i none = (j : ℕ) → i ≤ j → j < i + n → is_in j c ≡ true
LeastSays c n i (some p) = (i ≤ p) × (p < i + n) × (is_in p c ≡ false) × ((j : ℕ) → i ≤ j → j < p → is_in j c ≡ true)

pub least_says : (c : List ℕ) (n i : ℕ) → LeastSays c n i (least_unclaimed c n i)
least_says c zero i = λ j lo hi. absurd (omega arith)
least_says c (suc n) i = go (is_in i c) refl (least_unclaimed c n (i + 1)) (least_says c n (i + 1))
  where
    first : is_in i c ≡ true → (j : ℕ) → i ≤ j → (i + 1 ≤ j → is_in j c ≡ true) → (b : Bool) → eqb j i ≡ b → is_in j c ≡ true
    first e j lo f true q = ap (λ (m : ℕ). is_in m c) (eqb-true j i q) ∙ e
    first e j lo f false q = let d : j ≢ i = eqb-false j i q in f (omega arith)

    later : is_in i c ≡ true → (o : Option ℕ) → LeastSays c n (i + 1) o → LeastSays c (suc n) i o
    later e none f = λ j lo hi. first e j lo (λ lo'. f j lo' (omega arith)) (eqb j i) refl
    later e (some p) w = (omega arith, omega arith, w.2, λ j lo hi. first e j lo (λ lo'. w.3 j lo' hi) (eqb j i) refl)

    go : (b : Bool) → is_in i c ≡ b → (o : Option ℕ) → LeastSays c n (i + 1) o → LeastSays c (suc n) i (elim b [ true ↦ o | false ↦ some i ])
    go true e o f = later e o f
    go false e o f = (omega arith, omega arith, e, λ j lo hi. absurd (omega arith))

pub all_claimed_lem : (c : List ℕ) (n i : ℕ) → ((j : ℕ) → i ≤ j → j < i + n → is_in j c ≡ true) → least_unclaimed c n i ≡ none
all_claimed_lem c n i f = go (least_unclaimed c n i) (least_says c n i)
  where
    go : (o : Option ℕ) → LeastSays c n i o → o ≡ none
    go none w = refl
    go (some p) w = absurd (false≢true (sym w.2 ∙ f p w.0 w.1))

-- ---- A position that no leaf claims, and a claim that doesn't pass

stays_in : (j : ℕ) (ls : List NodeLine) (c : List ℕ) → is_in j c ≡ true → is_in j (claimed_by ls c) ≡ true
stays_in j [] c h = h
stays_in j (D m ∷ ls) c h = stays_in j ls c h
stays_in j (E m g ∷ ls) c h = stays_in j ls c h
stays_in j (L a i ∷ ls) c h = stays_in j ls (i ∷ c) (go (eqb j i) refl)
  where
    go : (b : Bool) → eqb j i ≡ b → is_in j (i ∷ c) ≡ true
    go true q = is_in_same i j c (eqb-true j i q)
    go false q = is_in_other i j c (eqb-false j i q) ∙ h

pub claimants_none : (j : ℕ) (ls : List NodeLine) (c : List ℕ) → is_in j (claimed_by ls c) ≡ false → claimants j ls ≡ []
unfolding claimants claim_of
claimants_none j [] c h = refl
claimants_none j (D m ∷ ls) c h = claimants_none j ls c h
claimants_none j (E m g ∷ ls) c h = claimants_none j ls c h
claimants_none j (L a i ∷ ls) c h = go (eqb j i) refl (claimants_none j ls (i ∷ c) h)
  where
    go : (b : Bool) → eqb j i ≡ b → claimants j ls ≡ [] → claimants j (L a i ∷ ls) ≡ []
    go true q ih = absurd (false≢true (sym h ∙ stays_in j ls (i ∷ c) (is_in_same i j c (eqb-true j i q))))
    go false q ih = claimants_other a i j ls (eqb-false j i q) ∙ ih

pub claimed_by_lem : (j : ℕ) (ls : List NodeLine) (c : List ℕ) → is_in j (claimed_by ls c) ≡ true → ((a : ℕ) × Mem (L a j) ls) ⊎ (is_in j c ≡ true)
claimed_by_lem j [] c h = inr h
claimed_by_lem j (D m ∷ ls) c h = ⊎_elim (λ w. inl (w.0, there w.1)) (λ w. inr w) (claimed_by_lem j ls c h)
claimed_by_lem j (E m g ∷ ls) c h = ⊎_elim (λ w. inl (w.0, there w.1)) (λ w. inr w) (claimed_by_lem j ls c h)
claimed_by_lem j (L a i ∷ ls) c h = ⊎_elim (λ w. inl (w.0, there w.1)) (λ w. go (eqb j i) refl w) (claimed_by_lem j ls (i ∷ c) h)
  where
    go : (b : Bool) → eqb j i ≡ b → is_in j (i ∷ c) ≡ true → ((x : ℕ) × Mem (L x j) (L a i ∷ ls)) ⊎ (is_in j c ≡ true)
    go true q w = inl (a, here (ap (λ (n : ℕ). L a n) (eqb-true j i q)))
    go false q w = inr (sym (is_in_other i j c (eqb-false j i q)) ∙ w)

-- A position that a leaf claims is claimed.
pub not_claimed : (i b : ℕ) (ls : List NodeLine) (c : List ℕ) → Mem (L b i) ls → is_in i (claimed_by ls c) ≡ false → ⊥
not_claimed i b [] c w h = elim w [ ]
not_claimed i b (y ∷ ls) c (here e) h =
    let s = stays_in i ls (i ∷ c) (is_in_same i i c refl) in
    false≢true (sym h ∙ ap (λ (z : NodeLine). is_in i (claimed_by (z ∷ ls) c)) (sym e) ∙ s)
not_claimed i b (D m ∷ ls) c (there w) h = not_claimed i b ls c w h
not_claimed i b (E m g ∷ ls) c (there w) h = not_claimed i b ls c w h
not_claimed i b (L a j ∷ ls) c (there w) h = not_claimed i b ls (j ∷ c) w h
