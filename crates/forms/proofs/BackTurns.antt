-- The loop over the lines after the root line: the compound lines so far, put ahead of what the lines from here on give, are what all lines
-- give. Assumes nothing.
use mathlib.Core.Path.{◌≡◌, refl, sym, ap, ap₂, subst, ◌∙◌}
use mathlib.Core.List.{List, [], ◌∷◌, ◌++◌, append-nil, append_assoc}
use Prim.Native.Nat.{ℕ, suc, ◌+◌, ◌-◌, ◌≤◌, ◌<◌}
use native.Mathlib.Omega.{arith}
use lib.ListN.{length, set, length-set}
use Rattle.std.specs.Prelude.{Ok, Err}
use Rattle.rules.specs.declared.Answer.{Answer}
use Rattle.rules.specs.Result.{found, refused}
use Rattle.rules.specs.Case.{Case, Read}
use Rattle.rules.specs.Naming.{Names}
use Rattle.rules.specs.Form.{FormLine, task_line, with_task, back_lines}
use Rattle.links.specs.Links.{Lines, Spelled}
use Rattle.forms.specs.declared.backs.After.{After}
use Rattle.forms.specs.declared.backs.After.TheVariants.{Taken, End}
use Rattle.forms.specs.Held.{AfterIs, BacksAre}
use Rattle.forms.proofs.Grown.{one_more, lines_task, spelled_task}

-- Lines put ahead of others.
abbrev ahead : List FormLine → Read (List FormLine) → Read (List FormLine)
ahead ts (found (es, n, place)) = found (ts ++ es, n, place)
ahead ts (refused a) = refused a

ahead_none : (r : Read (List FormLine)) → r ≡ ahead [] r
ahead_none (found (es, n, place)) = refl
ahead_none (refused a) = refl

ahead_one : (ts : List FormLine) (x : FormLine) (r : Read (List FormLine)) → ahead ts (with_task x r) ≡ ahead (ts ++ (x ∷ [])) r
ahead_one ts x (found (es, n, place)) = ap (λ (l : List FormLine). found (l, n, place)) (sym (append_assoc ts (x ∷ []) es))
ahead_one ts x (refused a) = refl

-- The lines so far after the action lines cs, for one case.
pub record SoFar (k : Case) (ns : Names) (form : List ℕ) (cues from : ℕ) (cs : List FormLine) (ids labels places : List ℕ) (at e : ℕ) : Type 0 where
  pub tasks : List FormLine
  pub size : length (cs ++ tasks) ≡ e
  pub lines : Lines (cs ++ tasks) cues ids labels
  pub spelled : Spelled form places (cs ++ tasks) cues
  pub same : back_lines k ns form (3000 - cues) (cues + 3) from ≡ ahead tasks (back_lines k ns form (3000 - e) (e + 3) at)

module _ (k : Case) (ns : Names) (form : List ℕ) (cues from : ℕ) (cs : List FormLine) where
  abbrev all : Read (List FormLine)
  all = back_lines k ns form (3000 - cues) (cues + 3) from

  moved : (l m n o at : ℕ) → l ≡ m → n ≡ o → back_lines k ns form l n at ≡ back_lines k ns form m o at
  moved l m n o at p q = ap (λ (x : ℕ). back_lines k ns form x n at) p ∙ ap (λ (x : ℕ). back_lines k ns form m x at) q

  so_far_none : (ids labels places : List ℕ) → length cs ≡ cues → Lines cs cues ids labels → SoFar k ns form cues from cs ids labels places from cues
  so_far_none ids labels places size lines =
      record {
        tasks = [];
        size = ap length (append-nil cs) ∙ size;
        lines = subst (λ (l : List FormLine). Lines l cues ids labels) (sym (append-nil cs)) lines;
        spelled = λ d h l. absurd (omega (arith, ap length (append-nil cs)));
        same = ahead_none all;
      }

  module _ (ids labels places : List ℕ) (at e : ℕ) (p : SoFar k ns form cues from cs ids labels places at e) (ids' labels' places' : List ℕ) where
    so_far_more : length ids ≡ 3000 → length labels ≡ 3000 → length places ≡ 3000 → (next : ℕ)
        → AfterIs k ns form e at ids labels places (Ok (Taken next)) ids' labels' places'
        → SoFar k ns form cues from cs ids' labels' places' next (e + 1)
    so_far_more ids_long labels_long places_long next (id, m, end, subtasks, is, ls, ps, few, spells, short, step) =
        record {
          tasks = p.tasks ++ (x ∷ []);
          size = ap length (sym regrouped) ∙ one_more (cs ++ p.tasks) x e p.size;
          lines = subst (λ (l : List FormLine). Lines l cues ids' labels') regrouped
              (subst (λ (l : List ℕ). Lines (cs ++ p.tasks ++ (x ∷ [])) cues ids' l) (sym ls)
              (subst (λ (l : List ℕ). Lines (cs ++ p.tasks ++ (x ∷ [])) cues l (set labels e m)) (sym is)
              (lines_task (cs ++ p.tasks) cues e ids labels p.size few id m ids_long labels_long subtasks short p.lines)));
          spelled = subst (λ (l : List FormLine). Spelled form places' l cues) regrouped
              (subst (λ (l : List ℕ). Spelled form l (cs ++ p.tasks ++ (x ∷ [])) cues) (sym ps)
              (spelled_task (cs ++ p.tasks) cues e form places p.size few places_long id m end subtasks spells p.spelled));
          same = p.same ∙ (ap (ahead p.tasks) (moved (3000 - e) (suc (3000 - (e + 1))) (e + 3) (e + 3) at (omega arith) refl ∙ step (3000 - (e + 1)))
              ∙ (ahead_one p.tasks x (back_lines k ns form (3000 - (e + 1)) (e + 3 + 1) next)
              ∙ ap (ahead (p.tasks ++ (x ∷ []))) (moved (3000 - (e + 1)) (3000 - (e + 1)) (e + 3 + 1) (e + 1 + 3) next refl (omega arith))));
        }
      where
        x : FormLine
        x = task_line (e + 3) id m subtasks

        regrouped : cs ++ p.tasks ++ (x ∷ []) ≡ cs ++ (p.tasks ++ (x ∷ []))
        regrouped = append_assoc cs p.tasks (x ∷ [])

    so_far_end : e ≤ 3000 → (next : ℕ) → AfterIs k ns form e at ids labels places (Ok (End next)) ids' labels' places'
        → BacksAre k ns form cues from cs (Ok (record { count = e; next = next })) ids' labels' places'
    so_far_end most next (is, ls, ps, step) = (
      p.tasks,
      p.size,
      subst (λ (l : List ℕ). Lines (cs ++ p.tasks) cues ids' l) (sym ls) (subst (λ (l : List ℕ). Lines (cs ++ p.tasks) cues l labels) (sym is) p.lines),
      subst (λ (l : List ℕ). Spelled form l (cs ++ p.tasks) cues) (sym ps) p.spelled,
      most,
      p.same
          ∙ (ap (ahead p.tasks) (step (3000 - e))
          ∙ ap₂ (λ (l : List FormLine) (n : ℕ). found (l, n, next)) (append-nil p.tasks) fourth),
    )
      where
        fourth : e + 3 + 1 ≡ e + 4
        fourth = omega arith

    so_far_refused : (answer : Answer) → AfterIs k ns form e at ids labels places (Err answer) ids' labels' places' → all ≡ refused answer
    so_far_refused answer h = p.same ∙ ap (ahead p.tasks) h

-- ---- For every case that the names and the methods fit

pub record Backing (Fits : Case → Names → Type 0) (form : List ℕ) (cues from : ℕ) (ids₀ labels₀ ids labels places : List ℕ) (at e : ℕ) : Type 0 where
  pub most : e ≤ 3000
  pub ids_long : length ids ≡ 3000
  pub labels_long : length labels ≡ 3000
  pub places_long : length places ≡ 3000
  pub so_far : (k : Case) (ns : Names) → Fits k ns → (cs : List FormLine) → length cs ≡ cues → Lines cs cues ids₀ labels₀
      → SoFar k ns form cues from cs ids labels places at e

module _ (Fits : Case → Names → Type 0) (form : List ℕ) (cues from : ℕ) (ids₀ labels₀ : List ℕ) where
  pub backing_starts : (places : List ℕ) → cues ≤ 3000 → length ids₀ ≡ 3000 → length labels₀ ≡ 3000 → length places ≡ 3000
      → Backing Fits form cues from ids₀ labels₀ ids₀ labels₀ places from cues
  backing_starts places most i l p =
      record {
        most = most;
        ids_long = i;
        labels_long = l;
        places_long = p;
        so_far = λ k ns t cs size lines. so_far_none k ns form cues from cs ids₀ labels₀ places size lines;
      }

  module _ (ids labels places : List ℕ) (at e : ℕ) (p : Backing Fits form cues from ids₀ labels₀ ids labels places at e) (ids' labels' places' : List ℕ) where
    module _ (r : After) (h : (k : Case) (ns : Names) → Fits k ns → AfterIs k ns form e at ids labels places (Ok r) ids' labels' places') where
      told : (s : After) → r ≡ s → (k : Case) (ns : Names) → Fits k ns → AfterIs k ns form e at ids labels places (Ok s) ids' labels' places'
      told s q k ns t = subst (λ (x : After). AfterIs k ns form e at ids labels places (Ok x) ids' labels' places') q (h k ns t)

      pub backing_few : ((k : Case) × (ns : Names) × Fits k ns) → (next : ℕ) → r ≡ Taken next → e < 3000
      backing_few (k, ns, t) next q = (told (Taken next) q k ns t).7

      pub backing_more : ((k : Case) × (ns : Names) × Fits k ns) → (next : ℕ) → r ≡ Taken next
          → Backing Fits form cues from ids₀ labels₀ ids' labels' places' next (e + 1)
      backing_more (k, ns, t) next q =
          let w = told (Taken next) q k ns t in
          let few = w.7 in
          record {
            most = omega arith;
            ids_long = ap length w.4 ∙ (length-set ids e w.0 ∙ p.ids_long);
            labels_long = ap length w.5 ∙ (length-set labels e w.1 ∙ p.labels_long);
            places_long = ap length w.6 ∙ (length-set places e w.2 ∙ p.places_long);
            so_far = λ k ns t cs size lines. so_far_more k ns form cues from cs ids labels places at e (p.so_far k ns t cs size lines) ids' labels' places'
                p.ids_long p.labels_long p.places_long next (told (Taken next) q k ns t);
          }

      pub backing_end : (k : Case) (ns : Names) → Fits k ns → (cs : List FormLine) → length cs ≡ cues → Lines cs cues ids₀ labels₀ → (next : ℕ) → r ≡ End next
          → BacksAre k ns form cues from cs (Ok (record { count = e; next = next })) ids' labels' places'
      backing_end k ns t cs size lines next q =
          so_far_end k ns form cues from cs ids labels places at e (p.so_far k ns t cs size lines) ids' labels' places' p.most next (told (End next) q k ns t)

    pub backing_refused : (k : Case) (ns : Names) → Fits k ns → (cs : List FormLine) → length cs ≡ cues → Lines cs cues ids₀ labels₀ → (answer : Answer)
        → AfterIs k ns form e at ids labels places (Err answer) ids' labels' places' → BacksAre k ns form cues from cs (Err answer) ids' labels' places'
    backing_refused k ns t cs size lines answer h =
        so_far_refused k ns form cues from cs ids labels places at e (p.so_far k ns t cs size lines) ids' labels' places' answer h
