-- The numbers of a range of which a test holds, for any test: by induction on the range's length, with the test's answer at its first
-- number. Assumes nothing.
use mathlib.Core.Path.{◌≡◌, refl, sym, ap, ap₂, ◌∙◌, subst}
use mathlib.Core.Logic.{◌≢◌, ◌⊎◌, inl, inr, ⊎_elim}
use mathlib.Core.Bool.{Bool, true, false, cond, true≢false}
use mathlib.Core.List.Memᴰ
use mathlib.Core.List.{List, [], ◌∷◌, ◌++◌, map, head_d, tail, Memᴰ}
use Prim.Native.Nat.{ℕ, zero, suc, ◌+◌, ◌≤◌, ◌<◌}
use native.Mathlib.Nat.{not-suc-le-zero, le_of_suc-le-suc, zero-lt-suc, eq-or-lt_of_le}
use native.Mathlib.Decide.{ℕ_discrete}
use native.Mathlib.Omega.{arith}
use lib.ListN.{length, get_or}
use Rattle.rules.specs.Index.{Span, pick}
use Rattle.subsets.specs.Members.{chosen}

yes_or_no : (b : Bool) → (b ≡ true) ⊎ (b ≡ false)
yes_or_no true = inl refl
yes_or_no false = inr refl

-- The induction: the range is empty, or its first number is chosen, or it is not.
module _ (in? : ℕ → Bool) (P : ℕ → ℕ → List ℕ → Type 0) (none : (j : ℕ) → P zero j [])
    (taken : (n j : ℕ) → in? j ≡ true → P n (suc j) (chosen in? n (suc j)) → P (suc n) j (j ∷ chosen in? n (suc j)))
    (left : (n j : ℕ) → in? j ≡ false → P n (suc j) (chosen in? n (suc j)) → P (suc n) j (chosen in? n (suc j))) where
  pub chosen_ind : (n j : ℕ) → P n j (chosen in? n j)
  unfolding chosen
  chosen_ind zero j = none j
  chosen_ind (suc n) j =
      let here : Bool → Type 0 = λ b. P (suc n) j (cond b (j ∷ []) [] ++ chosen in? n (suc j)) in
      ⊎_elim (λ e. subst here (sym e) (taken n j e (chosen_ind n (suc j)))) (λ e. subst here (sym e) (left n j e (chosen_ind n (suc j))))
      (yes_or_no (in? j))

-- ---- which numbers are chosen

-- k is one of the n numbers from j on, and the test holds of it.
abbrev pub Within : (ℕ → Bool) → ℕ → ℕ → ℕ → Type 0
Within in? n j k = (j ≤ k) × (k < j + n) × (in? k ≡ true)

pub chosen_has : (in? : ℕ → Bool) (n j k : ℕ) → Memᴰ k (chosen in? n j) → Within in? n j k
chosen_has in? n j k =
    chosen_ind in? (λ n j l. Memᴰ k l → Within in? n j k) (λ j m. absurd (Memᴰ.not-nil m))
    (λ n j e on m. ⊎_elim (λ q. (omega arith, omega arith, ap in? q ∙ e)) (λ r. wider n j (on r)) (Memᴰ.cases_cons m))
    (λ n j e on m. wider n j (on m)) n j
  where
    wider : (n j : ℕ) → Within in? n (suc j) k → Within in? (suc n) j k
    wider n j w = (omega arith, omega arith, w.2)

pub has_chosen : (in? : ℕ → Bool) (n j k : ℕ) → Within in? n j k → Memᴰ k (chosen in? n j)
has_chosen in? n j k =
    chosen_ind in? (λ n j l. Within in? n j k → Memᴰ k l) (λ j w. let z : ⊥ = omega arith in absurd z)
    (λ n j e on w. ⊎_elim (λ q. Memᴰ.head (sym q)) (λ b. Memᴰ.tail (on (omega arith, omega arith, w.2))) (eq-or-lt_of_le w.0))
    (λ n j e on w.
    ⊎_elim (λ q. absurd (true≢false (sym w.2 ∙ ap in? (sym q) ∙ e))) (λ b. on (omega arith, omega arith, w.2)) (eq-or-lt_of_le w.0))
    n j

-- ---- two tests, two ranges

-- Tests that agree on the range choose the same numbers.
pub chosen_same : (in? other? : ℕ → Bool) (n j : ℕ) → ((k : ℕ) → j ≤ k → in? k ≡ other? k) → chosen in? n j ≡ chosen other? n j
unfolding chosen
chosen_same in? other? zero j h = refl
chosen_same in? other? (suc n) j h =
    ap₂ (λ (b : Bool) (l : List ℕ). cond b (j ∷ []) [] ++ l) (h j (omega arith)) (chosen_same in? other? n (suc j) (λ k l. h k (omega arith)))

-- Of numbers of which the test fails none is chosen.
pub chosen_none : (in? : ℕ → Bool) (n j : ℕ) → ((k : ℕ) → j ≤ k → in? k ≡ false) → chosen in? n j ≡ []
unfolding chosen
chosen_none in? zero j h = refl
chosen_none in? (suc n) j h =
    ap₂ (λ (b : Bool) (l : List ℕ). cond b (j ∷ []) [] ++ l) (h j (omega arith)) (chosen_none in? n (suc j) (λ k l. h k (omega arith)))

-- A longer range chooses the same numbers if the test fails past the shorter one.
pub chosen_longer : (in? : ℕ → Bool) (m n j : ℕ) → m ≤ n → ((k : ℕ) → j + m ≤ k → in? k ≡ false) → chosen in? m j ≡ chosen in? n j
unfolding chosen
chosen_longer in? zero n j l h = sym (chosen_none in? n j (λ k b. h k (omega arith)))
chosen_longer in? (suc m) zero j l h = absurd (not-suc-le-zero l)
chosen_longer in? (suc m) (suc n) j l h =
    ap (λ (r : List ℕ). cond (in? j) (j ∷ []) [] ++ r) (chosen_longer in? m n (suc j) (le_of_suc-le-suc l) (λ k b. h k (omega arith)))

-- ---- the first of them, and the rest

-- A list with a member is its first and its rest.
pub head_tail : (l : List ℕ) (d : ℕ) → l ≢ [] → l ≡ head_d l d ∷ tail l
unfolding head_d
head_tail [] d h = absurd (h refl)
head_tail (x ∷ l) d h = refl

-- The test that fails at the first chosen number, and is the same elsewhere, chooses the rest.
pub chosen_rest : (in? other? : ℕ → Bool) (d n j : ℕ) → ((k : ℕ) → k ≢ head_d (chosen in? n j) d → in? k ≡ other? k)
    → other? (head_d (chosen in? n j) d) ≡ false → chosen other? n j ≡ tail (chosen in? n j)
unfolding chosen head_d
chosen_rest in? other? d =
    chosen_ind in?
    (λ n j l. ((k : ℕ) → k ≢ head_d l d → in? k ≡ other? k) → other? (head_d l d) ≡ false → chosen other? n j ≡ tail l)
    (λ j h e. refl)
    (λ n j t on h e.
    ap (λ (b : Bool). cond b (j ∷ []) [] ++ chosen other? n (suc j)) e ∙ sym (chosen_same in? other? n (suc j) (λ k l. h k (λ q. omega arith))))
    (λ n j t on h e.
    let first : ℕ = head_d (chosen in? n (suc j)) d in
    let out : other? j ≡ false = fails j first t h e (ℕ_discrete j first) in
    ap (λ (b : Bool). cond b (j ∷ []) [] ++ chosen other? n (suc j)) out ∙ on h e)
  where
    fails : (j first : ℕ) → in? j ≡ false → ((k : ℕ) → k ≢ first → in? k ≡ other? k) → other? first ≡ false → Dec (j ≡ first) → other? j ≡ false
    fails j first t h e (yes q) = ap other? q ∙ e
    fails j first t h e (no q) = sym (h j q) ∙ t

-- ---- a part's spans

-- What `pick` takes of a list are the list's members at the chosen numbers; g gives a number's span.
pub pick_chosen : (in? : ℕ → Bool) (g : ℕ → Span) (d : Span) (j : ℕ) (l : List Span) → ((i : ℕ) → i < length l → g (j + i) ≡ get_or l i d)
    → pick in? j l ≡ map g (chosen in? (length l) j)
unfolding chosen pick
pick_chosen in? g d j [] h = refl
pick_chosen in? g d j (s ∷ l) h =
    one (in? j) (pick in? (suc j) l) (chosen in? (length l) (suc j)) (ap g (omega arith) ∙ h 0 (zero-lt-suc (length l)))
    (pick_chosen in? g d (suc j) l (λ i b. let same : suc j + i ≡ j + suc i = omega arith in ap g same ∙ h (suc i) (omega arith)))
  where
    one : (b : Bool) (picked : List Span) (rest : List ℕ) → g j ≡ s → picked ≡ map g rest
        → cond b (s ∷ []) [] ++ picked ≡ map g (cond b (j ∷ []) [] ++ rest)
    one true picked rest e q = ap₂ (λ (x : Span) (r : List Span). x ∷ r) (sym e) q
    one false picked rest e q = q
