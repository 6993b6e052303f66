-- The node lines in preorder. Lines that fit what waits for them are a rewriting, step by step in place; and lines that are neither over nor
-- lacking fit if each fits the occurrence at its path.
use mathlib.Core.Path.{◌≡◌, refl, sym, ◌∙◌, ap, subst}
use mathlib.Core.List.{List, [], ◌∷◌, ◌++◌, append_assoc}
use mathlib.Core.List.Memᴰ.{append_cases as in-cases}
use mathlib.Core.List.Memᴰ.{append_right as in_right}
use mathlib.Core.List.Memᴰ.{head as here}
use mathlib.Core.List.Memᴰ.{tail as there}
use mathlib.Core.List.{Memᴰ as Mem}
use mathlib.Core.Logic.{⊎_elim}
use mathlib.Core.Bool.{true}
use Prim.Native.Nat.{ℕ}
use Rattle.rules.specs.Case.{method_at, NodeLine, D, E, L, Case}
use Rattle.rules.specs.Rules.{MethodOf, Fits}
use Rattle.rules.specs.Rewriting.{Occurrence, subtasks_of, Network, Step, CanTake, rewritten, Steps, rewritten_by, subtasks_after, right_kind, entry_of}
use Rattle.rules.proofs.Statements.{none_iff, some_iff}
use Rattle.rules.proofs.Rewritings.Statement.{line_names, Exact}
use Rattle.rules.proofs.Rewritings.Paths.{Spread}
use Rattle.rules.proofs.Rewritings.Records.{used_in, left_in, entries}
use Rattle.rules.proofs.Rewritings.Steps.{take_in_place, step_spread}

module _ (k : Case) where
  -- ---- Lines that fit

  -- What waits after a line for the first occurrence.
  abbrev pub waiting : NodeLine → Occurrence → List Occurrence → List Occurrence
  waiting x o os = subtasks_of o.0 0 (subtasks_after k x) ++ os

  -- Each line fits the occurrence that waits for it, and no line is over or lacking.
  abbrev pub FitLines : List NodeLine → List Occurrence → Type 0
  FitLines [] [] = Unit {0}
  FitLines [] (o ∷ os) = ⊥
  FitLines (x ∷ xs) [] = ⊥
  FitLines (x ∷ xs) (o ∷ os) = Fits k x o.1 × FitLines xs (waiting x o os)

  fits_kind : (x : NodeLine) (t : ℕ) → Fits k x t → right_kind k x ≡ true
  unfolding right_kind Fits
  fits_kind (D m) t f = (some_iff (method_at k.methods m)).1 f.1
  fits_kind (E m g) t f = (none_iff (method_at k.methods m)).1 f.1
  fits_kind (L a i) t f = refl

  pub fit_exact : (xs : List NodeLine) (os : List Occurrence) → FitLines xs os → Exact k xs os
  unfolding Exact
  fit_exact [] [] f = tt
  fit_exact [] (o ∷ os) f = absurd f
  fit_exact (x ∷ xs) [] f = absurd f
  fit_exact (x ∷ xs) (o ∷ os) f = (fits_kind x o.1 f.0, fit_exact xs (waiting x o os) f.1)

  -- Where each line at the path of a good occurrence fits it, and the subtasks of a good one are good.
  pub exact_fit : (Good : Occurrence → Type 0) (xs : List NodeLine) (os : List Occurrence)
      → ((o : Occurrence) (x : NodeLine) → Good o → right_kind k x ≡ true → Mem (o.0, x) (line_names k xs os)
      → Fits k x o.1 × ((p : Occurrence) → Mem p (subtasks_of o.0 0 (subtasks_after k x)) → Good p))
      → Exact k xs os → ((o : Occurrence) → Mem o os → Good o) → FitLines xs os
  unfolding Exact line_names
  exact_fit Good [] [] step w good = tt
  exact_fit Good [] (o ∷ os) step w good = absurd w
  exact_fit Good (x ∷ xs) [] step w good = absurd w
  exact_fit Good (x ∷ xs) (o ∷ os) step w good =
      let r = step o x (good o (here refl)) w.0 (here refl) in (
        r.0,
        exact_fit Good xs (waiting x o os) (λ p y g e h. step p y g e (there h)) w.1
            (λ p h. ⊎_elim (r.1 p) (λ i. good p (there i)) (in-cases (subtasks_of o.0 0 (subtasks_after k x)) h)),
      )

  -- ---- Lines that fit are a rewriting

  -- The steps of the lines, in preorder, and the occurrences that they leave.
  abbrev pub steps_of : List NodeLine → List Occurrence → List Step
  steps_of ls os = used_in (entries (line_names k ls os))

  abbrev pub leaves_of : List NodeLine → List Occurrence → List Occurrence
  leaves_of ls os = left_in (entries (line_names k ls os))

  -- The steps ss lead from n to the occurrences r.
  abbrev Leads : Network → List Step → List Occurrence → Type 0
  Leads n ss r = Steps k n ss × ((rewritten_by k n ss).occurrences ≡ r)

  lead_step : (n : Network) (m : ℕ) (xs : List Occurrence) (o : Occurrence) (os : List Occurrence) (ss : List Step) (r : List Occurrence)
      → Spread n.occurrences → n.occurrences ≡ xs ++ (o ∷ os) → MethodOf k m o.1
      → ((n' : Network) → Spread n'.occurrences → n'.occurrences ≡ xs ++ (subtasks_of o.0 0 (method_at k.methods m).subtasks ++ os) → Leads n' ss r)
      → Leads n ((o.0, m) ∷ ss) r
  unfolding Steps rewritten_by CanTake
  lead_step n m xs o os ss r sp e own f =
      let s : Step = (o.0, m) in
      let c : CanTake k n s = (o.1, subst (λ l. Mem o l) (sym e) (in_right xs (here refl)), own) in
      let b = f (rewritten k n s) (step_spread k n s sp c) (take_in_place k n s o.1 xs os sp e) in
      ((c, b.0), b.1)

  pub fit_leads : (ls : List NodeLine) (os xs : List Occurrence) (n : Network) → FitLines ls os → Spread n.occurrences → n.occurrences ≡ xs ++ os
      → Leads n (steps_of ls os) (xs ++ leaves_of ls os)
  unfolding line_names entry_of subtasks_after subtasks_of Steps rewritten_by Fits
  fit_leads [] [] xs n f sp e = (tt, e)
  fit_leads [] (o ∷ os) xs n f sp e = absurd f
  fit_leads (l ∷ ls) [] xs n f sp e = absurd f
  fit_leads (D m ∷ ls) (o ∷ os) xs n f sp e =
      let os' = waiting (D m) o os in
      lead_step n m xs o os (steps_of ls os') (xs ++ leaves_of ls os') sp e f.0.0 (λ n' sp' e'. fit_leads ls os' xs n' f.1 sp' e')
  fit_leads (E m g ∷ ls) (o ∷ os) xs n f sp e =
      let (own, none) = f.0 in
      lead_step n m xs o os (steps_of ls os) (xs ++ leaves_of ls os) sp e own
      (λ n' sp' e'. fit_leads ls os xs n' f.1 sp' (e' ∙ ap (λ ts. xs ++ (subtasks_of o.0 0 ts ++ os)) none))
  fit_leads (L a i ∷ ls) (o ∷ os) xs n f sp e =
      let b = fit_leads ls os (xs ++ (o ∷ [])) n f.1 sp (e ∙ sym (append_assoc xs (o ∷ []) os)) in
      (b.0, b.1 ∙ append_assoc xs (o ∷ []) (leaves_of ls os) ∙ ap (λ t. xs ++ ((o.0, t) ∷ leaves_of ls os)) (sym f.0.1))
