-- The ids that the first lines use, one line more at a time; an id has no link exactly if no line defines it. Assumes nothing.
use mathlib.Core.Path.{◌≡◌, refl, sym, ap, ◌∙◌}
use mathlib.Core.Bool.{Bool, true, false, ◌||◌, not}
use mathlib.Core.List.{List, [], ◌∷◌, ◌++◌, map, flatten, append-nil, append_assoc}
use Prim.Native.Nat.{ℕ, zero, suc, ◌*◌, ◌≤◌, ◌<◌}
use native.Mathlib.Omega.{arith}
use borrow.Author.Tests.{ne_eqb}
use lib.Dec.{eqb}
use lib.ListN.{length, take, drop, length-append, take-append-drop}
use lib.Seq.{take-suc, take-take, take-length}
use Rattle.rules.specs.Form.{FormLine, defines, uses, all_defined, all_used, any_missing}
use Rattle.rules.specs.Tree.{is_in}
use Rattle.links.specs.Links.{no_line, line_at, link_from, link}
use Rattle.links.specs.Steps.{any_none}

-- ---- The first lines

abbrev pub used_by : List FormLine → ℕ → List ℕ
used_by es e = all_used (take e es)

used_append : (ds es : List FormLine) → all_used (ds ++ es) ≡ all_used ds ++ all_used es
unfolding all_used flatten
used_append [] es = refl
used_append (d ∷ ds) es =
    ap (λ (l : List ℕ). uses d ++ l) (used_append ds es) ∙ sym (append_assoc (uses d) (all_used ds) (all_used es))

used_one : (d : FormLine) → all_used (d ∷ []) ≡ uses d
unfolding all_used flatten
used_one d = append-nil (uses d)

pub used_zero : (es : List FormLine) → used_by es 0 ≡ []
unfolding all_used flatten
used_zero es = refl

module _ (es : List FormLine) where
  pub used_next : (e : ℕ) → e < length es → used_by es (suc e) ≡ used_by es e ++ uses (line_at es e)
  unfolding line_at
  used_next e h =
      ap all_used (take-suc es e no_line h)
      ∙ used_append (take e es) (line_at es e ∷ [])
      ∙ ap (λ (l : List ℕ). used_by es e ++ l) (used_one (line_at es e))

  pub used_split : (d m : ℕ) → d ≤ m → used_by es m ≡ used_by es d ++ all_used (drop d (take m es))
  used_split d m h =
      ap all_used (sym (take-append-drop d (take m es)))
      ∙ used_append (take d (take m es)) (drop d (take m es))
      ∙ ap (λ (l : List FormLine). all_used l ++ all_used (drop d (take m es))) (take-take d m es h)

  pub used_all : used_by es (length es) ≡ all_used es
  used_all = ap all_used (take-length es)

  -- Lines that use none.
  pub used_none : (e : ℕ) → e ≤ length es → ((d : ℕ) → d < e → uses (line_at es d) ≡ []) → used_by es e ≡ []
  used_none zero h none = used_zero es
  used_none (suc e) h none =
      used_next e h
      ∙ ap (λ (l : List ℕ). l ++ uses (line_at es e)) (used_none e (omega arith) (λ d k. none d (omega arith)))
      ∙ none e (omega arith)

  -- Lines that use few.
  pub used_few : ((d : ℕ) → d < length es → length (uses (line_at es d)) ≤ 32) → (e : ℕ) → e ≤ length es → length (used_by es e) ≤ 32 * e
  used_few few zero h = omega (arith, ap length (used_zero es))
  used_few few (suc e) h =
      omega (arith, ap length (used_next e h), length-append (used_by es e) (uses (line_at es e)), used_few few e (omega arith), few e h)

-- ---- Ids that no line defines

none_by : (i : ℕ) (es : List FormLine) (id : ℕ) → eqb (link_from i es id) 0 ≡ not (is_in id (map defines es))
unfolding is_in
none_by i [] id = refl
none_by i (e ∷ es) id = go (eqb (defines e) id) (none_by (suc i) es id)
  where
    go : (b : Bool) → eqb (link_from (suc i) es id) 0 ≡ not (is_in id (map defines es))
        → eqb (elim b as (λ z. ℕ) [ true ↦ suc i | false ↦ link_from (suc i) es id ]) 0 ≡ not (b || is_in id (map defines es))
    go true q = ne_eqb (suc i) 0 (λ z. omega arith)
    go false q = q

pub none_missing : (es : List FormLine) (ids : List ℕ) → any_none (map (link es) ids) ≡ any_missing (all_defined es) ids
unfolding link all_defined
none_missing es [] = refl
none_missing es (id ∷ ids) =
    ap (λ (b : Bool). b || any_none (map (link es) ids)) (none_by 0 es id)
    ∙ ap (λ (b : Bool). not (is_in id (all_defined es)) || b) (none_missing es ids)
