-- The loop over the lines up to the root line: the action lines so far, put ahead of what the lines from here on give, are what all lines give.
-- Assumes nothing.
use mathlib.Core.Path.{◌≡◌, refl, sym, ap, subst, ◌∙◌}
use mathlib.Core.List.{List, [], ◌∷◌, ◌++◌, append-nil, append_assoc}
use Prim.Native.Nat.{ℕ, suc, ◌+◌, ◌-◌, ◌≤◌, ◌<◌}
use native.Mathlib.Omega.{arith}
use lib.ListN.{length, set, length-set}
use Rattle.std.specs.Prelude.{Ok, Err}
use Rattle.rules.specs.declared.Answer.{Answer}
use Rattle.rules.specs.Result.{Result, found, refused}
use Rattle.rules.specs.Case.{Case}
use Rattle.rules.specs.Naming.{Names}
use Rattle.rules.specs.Form.{FormLine, cue_line, Fronts, with_cue, front_lines}
use Rattle.links.specs.Links.{Lines}
use Rattle.forms.specs.declared.fronts.Ahead.{Ahead}
use Rattle.forms.specs.declared.fronts.Ahead.TheVariants.{Taken, Root}
use Rattle.forms.specs.Held.{AheadIs, FrontsAre}
use Rattle.forms.proofs.Grown.{one_more, lines_cue}

-- Lines put ahead of others.
abbrev ahead : List FormLine → Result Fronts → Result Fronts
ahead es (found f) = found (record { cues = es ++ f.cues; root = f.root; left = f.left; next = f.next; place = f.place })
ahead es (refused a) = refused a

ahead_none : (r : Result Fronts) → r ≡ ahead [] r
ahead_none (found f) = refl
ahead_none (refused a) = refl

ahead_one : (es : List FormLine) (x : FormLine) (r : Result Fronts) → ahead es (with_cue x r) ≡ ahead (es ++ (x ∷ [])) r
ahead_one es x (found f) =
    ap (λ (cs : List FormLine). found (record { cues = cs; root = f.root; left = f.left; next = f.next; place = f.place }))
    (sym (append_assoc es (x ∷ []) f.cues))
ahead_one es x (refused a) = refl

-- The lines so far, for one case.
pub record SoFar (k : Case) (ns : Names) (form : List ℕ) (from : ℕ) (ids labels : List ℕ) (at e : ℕ) : Type 0 where
  pub cues : List FormLine
  pub size : length cues ≡ e
  pub lines : Lines cues e ids labels
  pub same : front_lines k ns form 3000 1 2 from ≡ ahead cues (front_lines k ns form (3000 - e) (e + 1) (e + 2) at)

module _ (k : Case) (ns : Names) (form : List ℕ) (from : ℕ) where
  abbrev all : Result Fronts
  all = front_lines k ns form 3000 1 2 from

  moved : (l m i j n o at : ℕ) → l ≡ m → i ≡ j → n ≡ o → front_lines k ns form l i n at ≡ front_lines k ns form m j o at
  moved l m i j n o at p q r =
      ap (λ (x : ℕ). front_lines k ns form x i n at) p
      ∙ (ap (λ (x : ℕ). front_lines k ns form m x n at) q ∙ ap (λ (x : ℕ). front_lines k ns form m j x at) r)

  so_far_none : (ids labels : List ℕ) → SoFar k ns form from ids labels from 0
  so_far_none ids labels =
      record {
        cues = [];
        size = refl;
        lines = record {
          few = omega arith;
          most = omega arith;
          cue_here = λ d h. absurd (omega arith);
          task_here = λ d l h. absurd (omega arith);
        };
        same = ahead_none all ∙ ap (ahead []) (moved 3000 (3000 - 0) 1 (0 + 1) 2 (0 + 2) from (omega arith) (omega arith) (omega arith));
      }

  module _ (ids labels : List ℕ) (at e : ℕ) (p : SoFar k ns form from ids labels at e) (ids' labels' : List ℕ) where
    so_far_more : length ids ≡ 3000 → length labels ≡ 3000 → (next : ℕ) → AheadIs k ns form e at ids labels (Ok (Taken next)) ids' labels'
        → SoFar k ns form from ids' labels' next (e + 1)
    so_far_more ids_long labels_long next (id, a, is, ls, few, step) =
        record {
          cues = p.cues ++ (x ∷ []);
          size = one_more p.cues x e p.size;
          lines = subst (λ (l : List ℕ). Lines (p.cues ++ (x ∷ [])) (e + 1) ids' l) (sym ls)
              (subst (λ (l : List ℕ). Lines (p.cues ++ (x ∷ [])) (e + 1) l (set labels e a)) (sym is)
              (lines_cue p.cues e e ids labels p.size few id a ids_long labels_long p.lines));
          same = p.same ∙ (ap (ahead p.cues) (moved (3000 - e) (suc (3000 - (e + 1))) (e + 1) (e + 1) (e + 2) (e + 2) at (omega arith) refl refl ∙ step (3000 - (e + 1)))
              ∙ (ahead_one p.cues x (front_lines k ns form (3000 - (e + 1)) (suc (e + 1)) (e + 2 + 1) next)
              ∙ ap (ahead (p.cues ++ (x ∷ [])))
              (moved (3000 - (e + 1)) (3000 - (e + 1)) (suc (e + 1)) (e + 1 + 1) (e + 2 + 1) (e + 1 + 2) next refl (omega arith) (omega arith))));
        }
      where
        x : FormLine
        x = cue_line (e + 2) id a (e + 1)

    so_far_root : e ≤ 3000 → length ids ≡ 3000 → length labels ≡ 3000 → (root next : ℕ) → AheadIs k ns form e at ids labels (Ok (Root root next)) ids' labels'
        → FrontsAre k ns form from (Ok (record { cues = e; root = root; next = next })) ids' labels'
    so_far_root most ids_long labels_long root next (is, ls, step) = (
      p.cues,
      p.size,
      subst (λ (l : List ℕ). Lines p.cues e ids' l) (sym ls) (subst (λ (l : List ℕ). Lines p.cues e l labels) (sym is) p.lines),
      most,
      ap length is ∙ ids_long,
      ap length ls ∙ labels_long,
      p.same
          ∙ (ap (ahead p.cues) (step (3000 - e))
          ∙ (ap (λ (cs : List FormLine). found (record { cues = cs; root = root; left = 3000 - e; next = e + 2 + 1; place = next })) (append-nil p.cues)
          ∙ ap (λ (n : ℕ). found (record { cues = p.cues; root = root; left = 3000 - e; next = n; place = next })) third)),
    )
      where
        third : e + 2 + 1 ≡ e + 3
        third = omega arith

    so_far_refused : (answer : Answer) → AheadIs k ns form e at ids labels (Err answer) ids' labels' → all ≡ refused answer
    so_far_refused answer h = p.same ∙ ap (ahead p.cues) h

-- ---- For every case that the names fit

pub record Fronting (Fits : Case → Names → Type 0) (form : List ℕ) (from : ℕ) (ids labels : List ℕ) (at e : ℕ) : Type 0 where
  pub most : e ≤ 3000
  pub ids_long : length ids ≡ 3000
  pub labels_long : length labels ≡ 3000
  pub so_far : (k : Case) (ns : Names) → Fits k ns → SoFar k ns form from ids labels at e

module _ (Fits : Case → Names → Type 0) (form : List ℕ) (from : ℕ) where
  pub fronting_starts : (ids labels : List ℕ) → length ids ≡ 3000 → length labels ≡ 3000 → Fronting Fits form from ids labels from 0
  fronting_starts ids labels i l =
      record { most = omega arith; ids_long = i; labels_long = l; so_far = λ k ns t. so_far_none k ns form from ids labels }

  module _ (ids labels : List ℕ) (at e : ℕ) (p : Fronting Fits form from ids labels at e) (ids' labels' : List ℕ) where
    module _ (r : Ahead) (h : (k : Case) (ns : Names) → Fits k ns → AheadIs k ns form e at ids labels (Ok r) ids' labels') where
      told : (s : Ahead) → r ≡ s → (k : Case) (ns : Names) → Fits k ns → AheadIs k ns form e at ids labels (Ok s) ids' labels'
      told s q k ns t = subst (λ (x : Ahead). AheadIs k ns form e at ids labels (Ok x) ids' labels') q (h k ns t)

      pub fronting_few : ((k : Case) × (ns : Names) × Fits k ns) → (next : ℕ) → r ≡ Taken next → e < 3000
      fronting_few (k, ns, t) next q = (told (Taken next) q k ns t).4

      pub fronting_more : ((k : Case) × (ns : Names) × Fits k ns) → (next : ℕ) → r ≡ Taken next → Fronting Fits form from ids' labels' next (e + 1)
      fronting_more (k, ns, t) next q =
          let w = told (Taken next) q k ns t in
          let few = w.4 in
          record {
            most = omega arith;
            ids_long = ap length w.2 ∙ (length-set ids e w.0 ∙ p.ids_long);
            labels_long = ap length w.3 ∙ (length-set labels e w.1 ∙ p.labels_long);
            so_far = λ k ns t. so_far_more k ns form from ids labels at e (p.so_far k ns t) ids' labels' p.ids_long p.labels_long next (told (Taken next) q k ns t);
          }

      pub fronting_root : (k : Case) (ns : Names) → Fits k ns → (root next : ℕ) → r ≡ Root root next
          → FrontsAre k ns form from (Ok (record { cues = e; root = root; next = next })) ids' labels'
      fronting_root k ns t root next q =
          so_far_root k ns form from ids labels at e (p.so_far k ns t) ids' labels' p.most p.ids_long p.labels_long root next (told (Root root next) q k ns t)

    pub fronting_refused : (k : Case) (ns : Names) → Fits k ns → (answer : Answer) → AheadIs k ns form e at ids labels (Err answer) ids' labels'
        → FrontsAre k ns form from (Err answer) ids' labels'
    fronting_refused k ns t answer h = so_far_refused k ns form from ids labels at e (p.so_far k ns t) ids' labels' answer h
