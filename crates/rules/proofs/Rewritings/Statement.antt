-- What reading guarantees of a case and the theorem needs: positions are those of the plan. And the claimed lines with their paths as a list,
-- apart from whether the tree has a record: `named-iff` joins the two.
use mathlib.Core.Path.{◌≡◌, refl, ◌∙◌, ap}
use mathlib.Core.Bool.{Bool, true, false, false≢true}
use mathlib.Core.List.{List, [], ◌∷◌, ◌++◌, Memᴰ as Mem}
use mathlib.Core.Option.{Option, none, some}
use Prim.Native.Nat.{ℕ, ◌≤◌}
use lib.ListN.{length}
use Rattle.rules.specs.Case.{NodeLine, L, Case}
use Rattle.rules.specs.Rewriting.{TaskPath, Occurrence, subtasks_of, subtasks_after, right_kind, with_line, named}

pub record Placed (k : Case) : Type 0 where
  pub planned : length k.plan ≡ k.head.cues
  pub positions : (a i : ℕ) → Mem (L a i) k.nodes → (1 ≤ i) × (i ≤ k.head.cues)

-- Each line with the path of the occurrence that it takes, as far as there are both.
unfoldable pub line_names : Case → List NodeLine → List Occurrence → List (TaskPath × NodeLine)
line_names k [] waiting = []
line_names k (x ∷ xs) [] = []
line_names k (x ∷ xs) (o ∷ waiting) = (o.0, x) ∷ line_names k xs (subtasks_of o.0 0 (subtasks_after k x) ++ waiting)

unfoldable pub claimed_names : Case → List (TaskPath × NodeLine)
claimed_names k = line_names k k.nodes (([], k.head.goal) ∷ [])

-- The lines are neither over nor lacking, and each is of the right kind.
unfoldable pub Exact : Case → List NodeLine → List Occurrence → Type 0
Exact k [] [] = Unit {0}
Exact k [] (o ∷ waiting) = ⊥
Exact k (x ∷ xs) [] = ⊥
Exact k (x ∷ xs) (o ∷ waiting) = (right_kind k x ≡ true) × Exact k xs (subtasks_of o.0 0 (subtasks_after k x) ++ waiting)

pub exact_named : (k : Case) (xs : List NodeLine) (os : List Occurrence) → Exact k xs os → named k xs os ≡ some (line_names k xs os)
unfolding named Exact line_names
exact_named k [] [] e = refl
exact_named k [] (o ∷ os) e = absurd e
exact_named k (x ∷ xs) [] e = absurd e
exact_named k (x ∷ xs) (o ∷ os) e =
    let later = exact_named k xs (subtasks_of o.0 0 (subtasks_after k x) ++ os) e.1 in
    ap (λ (b : Bool). elim b as (λ b. Option (List (TaskPath × NodeLine))) [ true ↦ with_line (o.0, x) (named k xs (subtasks_of o.0 0 (subtasks_after k x) ++ os)) | false ↦ none ]) e.0
    ∙ ap (λ (m : Option (List (TaskPath × NodeLine))). with_line (o.0, x) m) later

pub named_exact : (k : Case) (xs : List NodeLine) (os : List Occurrence) (l : List (TaskPath × NodeLine)) → named k xs os ≡ some l
    → Exact k xs os × (l ≡ line_names k xs os)
unfolding named Exact line_names
named_exact k [] [] l e = (tt, cc)
named_exact k [] (o ∷ os) l e = absurd (none_some e)
  where
    none_some : {l : List (TaskPath × NodeLine)} → none ≡ some l → ⊥
    none_some q = let z : ◌≡◌ {A = Bool} false true = cc in false≢true z
named_exact k (x ∷ xs) [] l e = absurd (none_some e)
  where
    none_some : {l : List (TaskPath × NodeLine)} → none ≡ some l → ⊥
    none_some q = let z : ◌≡◌ {A = Bool} false true = cc in false≢true z
named_exact k (x ∷ xs) (o ∷ os) l e =
    go (right_kind k x) refl (named k xs (subtasks_of o.0 0 (subtasks_after k x) ++ os)) (named_exact k xs (subtasks_of o.0 0 (subtasks_after k x) ++ os)) e
  where
    none_some : none ≡ some l → ⊥
    none_some q = let z : ◌≡◌ {A = Bool} false true = cc in false≢true z

    go : (b : Bool) → right_kind k x ≡ b → (m : Option (List (TaskPath × NodeLine)))
        → ((ls : List (TaskPath × NodeLine)) → m ≡ some ls → Exact k xs (subtasks_of o.0 0 (subtasks_after k x) ++ os) × (ls ≡ line_names k xs (subtasks_of o.0 0 (subtasks_after k x) ++ os)))
        → (elim b as (λ b. Option (List (TaskPath × NodeLine))) [ true ↦ with_line (o.0, x) m | false ↦ none ]) ≡ some l
        → ((right_kind k x ≡ true) × Exact k xs (subtasks_of o.0 0 (subtasks_after k x) ++ os))
        × (l ≡ (o.0, x) ∷ line_names k xs (subtasks_of o.0 0 (subtasks_after k x) ++ os))
    go true q none f p = absurd (none_some p)
    go true q (some ls) f p = let w = f ls refl in ((q, w.0), let z : l ≡ (o.0, x) ∷ ls = cc in z ∙ ap (λ m. (o.0, x) ∷ m) w.1)
    go false q m f p = absurd (none_some p)
