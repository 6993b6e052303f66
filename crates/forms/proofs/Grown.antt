-- The lines of a form with one more, as the lists hold them: an action line or a compound line. Assumes nothing.
use mathlib.Core.Path.{◌≡◌, sym, ap, ap₂, subst, ◌∙◌}
use mathlib.Core.List.{List, [], ◌∷◌, ◌++◌}
use mathlib.Core.Logic.{⊎_elim}
use Prim.Native.Nat.{ℕ, ◌+◌, ◌≤◌, ◌<◌}
use native.Mathlib.Omega.{arith}
use lib.ListN.{length, get_or, set, length-append, get_or-append}
use lib.Seq.{get_or_at, get_or-set_same, get_or-set_other}
use Rattle.rules.specs.Form.{FormLine, cue_line, task_line, uses}
use Rattle.tokens.specs.Pieces.{Spells}
use Rattle.probing.proofs.First.{below}
use Rattle.links.specs.Links.{no_line, line_at, Lines, Spelled}

set_old : (l : List ℕ) (e d v : ℕ) → d < e → get_or (set l e v) d 0 ≡ get_or l d 0
set_old l e d v h = get_or-set_other l e d v 0 (λ q. omega arith)

set_new : (l : List ℕ) (e d v : ℕ) → length l ≡ 3000 → e < 3000 → d ≡ e → get_or (set l e v) d 0 ≡ v
set_new l e d v long h q = ap (λ (j : ℕ). get_or (set l e v) j 0) q ∙ get_or-set_same l e v 0 (omega arith)

module _ (es : List FormLine) (x : FormLine) (e : ℕ) (size : length es ≡ e) where
  pub one_more : length (es ++ (x ∷ [])) ≡ e + 1
  one_more = length-append es (x ∷ []) ∙ omega arith

  line_old : (d : ℕ) → d < e → line_at (es ++ (x ∷ [])) d ≡ line_at es d
  unfolding line_at
  line_old d h = get_or-append es (x ∷ []) no_line d (omega arith)

  line_new : (d : ℕ) → d ≡ e → line_at (es ++ (x ∷ [])) d ≡ x
  unfolding line_at
  line_new d q = get_or_at es x [] no_line d (size ∙ sym q)

module _ (es : List FormLine) (cues e : ℕ) (ids labels : List ℕ) (size : length es ≡ e) (few : e < 3000) (id a : ℕ) where
  -- What the first lines say, after the next is stored.
  cue_old : (x : FormLine) (d : ℕ) → d < e → line_at es d ≡ cue_line (d + 2) (get_or ids d 0) (get_or labels d 0) (d + 1)
      → line_at (es ++ (x ∷ [])) d ≡ cue_line (d + 2) (get_or (set ids e id) d 0) (get_or (set labels e a) d 0) (d + 1)
  cue_old x d h q =
      line_old es x e size d h
      ∙ (q ∙ ap₂ (λ (i l : ℕ). cue_line (d + 2) i l (d + 1)) (sym (set_old ids e d id h)) (sym (set_old labels e d a h)))

  task_old : (x : FormLine) (subtasks : List ℕ) (d : ℕ) → d < e → line_at es d ≡ task_line (d + 3) (get_or ids d 0) (get_or labels d 0) subtasks
      → line_at (es ++ (x ∷ [])) d ≡ task_line (d + 3) (get_or (set ids e id) d 0) (get_or (set labels e a) d 0) subtasks
  task_old x subtasks d h q =
      line_old es x e size d h
      ∙ (q ∙ ap₂ (λ (i l : ℕ). task_line (d + 3) i l subtasks) (sym (set_old ids e d id h)) (sym (set_old labels e d a h)))

  module _ (ids_long : length ids ≡ 3000) (labels_long : length labels ≡ 3000) where
    pub lines_cue : Lines es e ids labels → Lines (es ++ (cue_line (e + 2) id a (e + 1) ∷ [])) (e + 1) (set ids e id) (set labels e a)
    lines_cue lines =
        record {
          few = omega (arith, one_more es x e size);
          most = omega (arith, one_more es x e size);
          cue_here = λ d h. ⊎_elim (λ k. cue_old x d k (lines.cue_here d k)) (λ k. here d (omega arith)) (below d e);
          task_here = λ d k h. absurd (omega (arith, one_more es x e size));
        }
      where
        x : FormLine
        x = cue_line (e + 2) id a (e + 1)

        here : (d : ℕ) → d ≡ e → line_at (es ++ (x ∷ [])) d ≡ cue_line (d + 2) (get_or (set ids e id) d 0) (get_or (set labels e a) d 0) (d + 1)
        here d q =
            line_new es x e size d q
            ∙ (ap (λ (j : ℕ). cue_line (j + 2) id a (j + 1)) (sym q)
            ∙ ap₂ (λ (i l : ℕ). cue_line (d + 2) i l (d + 1)) (sym (set_new ids e d id ids_long few q)) (sym (set_new labels e d a labels_long few q)))

    module _ (subtasks : List ℕ) where
      abbrev next : FormLine
      next = task_line (e + 3) id a subtasks

      pub lines_task : length subtasks ≤ 32 → Lines es cues ids labels → Lines (es ++ (next ∷ [])) cues (set ids e id) (set labels e a)
      lines_task short lines =
          record {
            few = omega (arith, one_more es next e size, lines.few);
            most = omega (arith, one_more es next e size);
            cue_here = λ d h. cue_old next d (omega (arith, lines.few)) (lines.cue_here d h);
            task_here = λ d k h. ⊎_elim (λ l. let t = lines.task_here d k (omega arith) in (t.0, task_old next t.0 d l t.1, t.2))
                (λ l. (subtasks, here d (omega (arith, one_more es next e size)), short)) (below d e);
          }
        where
          here : (d : ℕ) → d ≡ e → line_at (es ++ (next ∷ [])) d ≡ task_line (d + 3) (get_or (set ids e id) d 0) (get_or (set labels e a) d 0) subtasks
          here d q =
              line_new es next e size d q
              ∙ (ap (λ (j : ℕ). task_line (j + 3) id a subtasks) (sym q)
              ∙ ap₂ (λ (i l : ℕ). task_line (d + 3) i l subtasks) (sym (set_new ids e d id ids_long few q)) (sym (set_new labels e d a labels_long few q)))

module _ (es : List FormLine) (cues e : ℕ) (text places : List ℕ) (size : length es ≡ e) (few : e < 3000) (places_long : length places ≡ 3000) where
  pub spelled_task : (id a end : ℕ) (subtasks : List ℕ) → Spells text end subtasks → Spelled text places es cues
      → Spelled text (set places e end) (es ++ (task_line (e + 3) id a subtasks ∷ [])) cues
  spelled_task id a end subtasks s spelled d k h = ⊎_elim old (λ l. new (omega (arith, one_more es x e size))) (below d e)
    where
      x : FormLine
      x = task_line (e + 3) id a subtasks

      old : d < e → Spells text (get_or (set places e end) d 0) (uses (line_at (es ++ (x ∷ [])) d))
      old l =
          subst (λ (p : ℕ). Spells text p (uses (line_at (es ++ (x ∷ [])) d))) (sym (set_old places e d end l))
          (subst (λ (y : FormLine). Spells text (get_or places d 0) (uses y)) (sym (line_old es x e size d l)) (spelled d k (omega arith)))

      new : d ≡ e → Spells text (get_or (set places e end) d 0) (uses (line_at (es ++ (x ∷ [])) d))
      new q =
          subst (λ (p : ℕ). Spells text p (uses (line_at (es ++ (x ∷ [])) d))) (sym (set_new places e d end places_long few q))
          (subst (λ (y : FormLine). Spells text end (uses y)) (sym (line_new es x e size d q)) s)
