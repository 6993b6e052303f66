-- The first line that defines an id, as the table finds it, is the id's link. Assumes nothing.
use mathlib.Core.Path.{◌≡◌, refl, sym, ap, ◌∙◌}
use mathlib.Core.Bool.{Bool, true, false}
use mathlib.Core.List.{List, [], ◌∷◌}
use Prim.Native.Nat.{ℕ, zero, suc, ◌+◌, ◌<◌}
use native.Mathlib.Omega.{arith}
use lib.Dec.{eqb}
use lib.ListN.{length}
use Rattle.std.specs.Prelude.{Option, None, Some}
use Rattle.rules.specs.Form.{FormLine, defines}
use Rattle.probing.specs.Probing.{first}
use Rattle.probing.proofs.First.{first_at, first_none}
use Rattle.ids.specs.Ids.{same_id}
use Rattle.links.specs.Links.{line_at, link_from, link, Defined}
use Rattle.links.specs.Steps.{link_to, link_in}

-- ---- The link by the lines' numbers

here_by : (i : ℕ) (e : FormLine) (es : List FormLine) (id : ℕ) (b : Bool) → eqb (defines e) id ≡ b
    → link_from i (e ∷ es) id ≡ elim b [ true ↦ suc i | false ↦ link_from (suc i) es id ]
here_by i e es id b q = ap (λ (y : Bool). elim y as (λ z. ℕ) [ true ↦ suc i | false ↦ link_from (suc i) es id ]) q

link_is : (i : ℕ) (es : List FormLine) (id e : ℕ) → e < length es → eqb (defines (line_at es e)) id ≡ true
    → ((d : ℕ) → d < e → eqb (defines (line_at es d)) id ≡ false) → link_from i es id ≡ suc (i + e)
unfolding line_at
link_is i [] id e h t none = absurd (omega arith)
link_is i (x ∷ es) id zero h t none = here_by i x es id true t ∙ omega arith
link_is i (x ∷ es) id (suc e) h t none =
    here_by i x es id false (none 0 (omega arith))
    ∙ link_is (suc i) es id e (omega arith) t (λ d k. none (suc d) (omega arith))
    ∙ omega arith

link_none : (i : ℕ) (es : List FormLine) (id : ℕ) → ((d : ℕ) → d < length es → eqb (defines (line_at es d)) id ≡ false) → link_from i es id ≡ 0
unfolding line_at
link_none i [] id none = refl
link_none i (x ∷ es) id none =
    here_by i x es id false (none 0 (omega arith)) ∙ link_none (suc i) es id (λ d k. none (suc d) (omega arith))

-- ---- By the list of ids

module _ (es : List FormLine) (ids : List ℕ) (defined : Defined es ids) (id : ℕ) where
  tested : (e : ℕ) → e < length es → eqb (defines (line_at es e)) id ≡ same_id ids id e
  tested e h = ap (λ (k : ℕ). eqb k id) (defined e h)

  -- An entry that has the id, and no earlier one has it, is linked to.
  pub link_here : (e : ℕ) → e < length es → same_id ids id e ≡ true → ((d : ℕ) → d < e → same_id ids id d ≡ false) → link es id ≡ suc e
  unfolding link
  link_here e h t none =
      link_is 0 es id e h (tested e h ∙ t) (λ d k. tested d (omega arith) ∙ none d k) ∙ omega arith

  -- The table's answer, as a link.
  pub link_found : (r : Option ℕ) → r ≡ first (same_id ids id) (length es) → link es id ≡ link_to r
  unfolding link
  link_found (Some e) q =
      let f = first_at (same_id ids id) (length es) e (sym q) in
      link_here e f.0 f.1 f.2
  link_found None q = link_none 0 es id (λ d h. tested d h ∙ first_none (same_id ids id) (length es) (sym q) d h)

  pub link_in_lem : (count : ℕ) → length es ≡ count → link es id ≡ link_in ids count id
  link_in_lem count size = link_found (first (same_id ids id) (length es)) refl ∙ ap (λ (n : ℕ). link_in ids n id) size

  -- Some e is the line e; None is none.
  pub link_at : (count : ℕ) → length es ≡ count → (e : ℕ) → Some e ≡ first (same_id ids id) count → link es id ≡ suc e
  link_at count size e q = link_in_lem count size ∙ ap link_to (sym q)

  pub link_nothing : (count : ℕ) → length es ≡ count → None ≡ first (same_id ids id) count → link es id ≡ 0
  link_nothing count size q = link_in_lem count size ∙ ap link_to (sym q)
