-- Numbers 17 and 18 on the action lines and the root line of a form (02, Card 6): by induction on the lines that may still come, what is due after
-- those read is what reading looks for. Assumes nothing.
use mathlib.Core.Path.{◌≡◌, refl, sym, subst}
use mathlib.Core.List.{List, [], ◌∷◌, ◌++◌, append-nil}
use mathlib.Core.Logic.{inl, inr}
use Prim.Native.Nat.{ℕ, zero, suc, ◌+◌}
use native.Mathlib.Omega.{arith}
use lib.ListN.{length, length-append}
use lib.Seq.{append_snoc}
use Rattle.rules.specs.declared.Answer.{Answer}
use Rattle.rules.specs.declared.Answer.TheVariants.{WrongShape}
use Rattle.rules.specs.Result.{Result, found, refused, ◌>>=◌}
use Rattle.rules.specs.Case.{Case}
use Rattle.rules.specs.Naming.{Names}
use Rattle.rules.specs.Form.{Front, an_action, the_root, action_named, FormLine, cue_line, form_line_most, Fronts, root_only, with_cue, front_line, on_front, front_lines}
use Rattle.rules.specs.FormFaults.{NamesAction, Stage, opening, front, back, over, rooted_at, MayCome, Due, HasShape, FormFault}
use Rattle.rules.proofs.Faults.Line.{Starts}
use Rattle.rules.proofs.Import.Says.{Says, says_bind, refusal_weaken, Distinct}
use Rattle.rules.proofs.Import.Shapes.{FrontAt}
use Rattle.rules.proofs.Import.DueShapes.{Shaped, NoShape, front_says}
use Rattle.rules.proofs.Import.Uses.{action_says}

module _ (k : Case) (ns : Names) (text : List ℕ) where
  -- The line after so many action lines.
  abbrev AtLine : ℕ → Stage → Type 0
  AtLine l opening = Unit {0}
  AtLine l (front cues) = l ≡ 2 + length cues
  AtLine l (back f) = Unit {0}
  AtLine l (over f) = Unit {0}

  due_line_lem : {l : ℕ} {s : Stage} → Due k ns text l s → AtLine l s
  due_line_lem Due.start = tt
  due_line_lem (Due.opened h) = refl
  due_line_lem (Due.action d m h w) = simp length-append (omega (arith, due_line_lem d))
  due_line_lem (Due.rooted d h) = tt
  due_line_lem (Due.compound d m h w) = tt
  due_line_lem (Due.closed d h) = tt

  -- The same for the same line.
  pub due_same : {n l : ℕ} {s : Stage} → n ≡ l → Due k ns text l s → Due k ns text n s
  due_same {s = s} e d = subst (λ (m : ℕ). Due k ns text m s) (sym e) d

  abbrev pub Fault : Answer → Type 0
  Fault = FormFault k ns text

  -- A line that has no shape that is due.
  pub other_shape : {l : ℕ} {s : Stage} {A : Type 0} (P : A → Type 0) → Due k ns text l s → (HasShape text l s → (x : A) × P x) → (a : Answer)
      → NoShape P l a → Fault a
  other_shape P d f a (e, n) = subst Fault (sym e) (FormFault.other d (λ h. let (x, p) = f h in n x p))

  -- ---- Action lines and the root line

  front_has : (l : ℕ) (cues : List FormLine) → HasShape text l (front cues) → (x : Front) × FrontAt text l x
  front_has l cues (inl (id, name, h)) = (an_action id name, h)
  front_has l cues (inr (id, h)) = (the_root id, h)

  -- After these action lines and the root line compound lines are due, and so many may come.
  abbrev pub FrontsDue : List FormLine → Fronts → Type 0
  FrontsDue cues f =
      Due k ns text f.next (back (rooted_at cues (2 + length cues) f.root)) × Starts text f.next f.place
      × (length cues + f.left ≡ form_line_most)

  -- The action lines before, and those found.
  abbrev pub FrontsAfter : List FormLine → Fronts → Type 0
  FrontsAfter cues f = FrontsDue (cues ++ f.cues) f

  cue_says : (cues : List FormLine) (e : FormLine) (o : Result Fronts) → Says (FrontsAfter (cues ++ e ∷ [])) Fault o
      → Says (FrontsAfter cues) Fault (with_cue e o)
  cue_says cues e (found f) w = subst (λ (all : List FormLine). FrontsDue all f) (append_snoc cues e f.cues) w
  cue_says cues e (refused r) w = w

  -- What is due, from a line on, after these action lines.
  pub record FrontDue (l i left place : ℕ) (cues : List FormLine) : Type 0 where
    pub due : Due k ns text l (front cues)
    pub counted : length cues + left ≡ form_line_most
    pub position : i ≡ length cues + 1
    pub starts : Starts text l place

  front_due : {l i left place : ℕ} {cues : List FormLine} → FrontDue l i left place cues
      → Says (Shaped (FrontAt text l) text l) Fault (front_line text l place)
  front_due {l} {place = place} {cues} w =
      refusal_weaken _ _ Fault (front_line text l place) (other_shape (FrontAt text l) w.due (front_has l cues)) (front_says text l place w.starts)

  root_on : {l i left place : ℕ} {cues : List FormLine} → FrontDue l i left place cues → (id n next : ℕ)
      → Shaped (FrontAt text l) text l (the_root id, n, next) → FrontsAfter cues (root_only id left n next)
  root_on {l} {cues = cues} w id n next (h, e, s) =
      rw append-nil (
        due_same e (subst (λ (m : ℕ). Due k ns text (l + 1) (back (rooted_at cues m id))) (due_line_lem w.due) (Due.rooted w.due h)),
        s,
        w.counted,
      )

  -- An action line, and those after it.
  action_on : Distinct ns.tasks → {l i left place : ℕ} {cues : List FormLine} → FrontDue l i (suc left) place cues
      → (id : ℕ) (name : List ℕ) (n next : ℕ) → Shaped (FrontAt text l) text l (an_action id name, n, next) → (later : Result Fronts)
      → ((all : List FormLine) → FrontDue n (suc i) left next all → Says (FrontsAfter all) Fault later)
      → Says (FrontsAfter cues) Fault (action_named k ns l name >>= λ a. with_cue (cue_line l id a i) later)
  action_on tasks {l} {i} {left} {place} {cues} w id name n next (h, e, s) later f =
      says_bind (NamesAction k ns name) (FrontsAfter cues) Fault (action_named k ns l name) _
      (refusal_weaken _ _ Fault (action_named k ns l name)
      (λ a (q, none). subst Fault (sym q) (FormFault.action w.due may h none)) (action_says k ns tasks l name))
      (λ a p. cue_says cues (cue_line l id a i) later (f (cues ++ cue_line l id a i ∷ []) record {
        due =
            due_same e (subst (λ (j : ℕ). Due k ns text (l + 1) (front (cues ++ cue_line l id a j ∷ []))) (sym w.position)
            (Due.action w.due may h p));
        counted = simp length-append (omega (arith, w.counted));
        position = simp length-append (omega (arith, w.position));
        starts = s;
      }))
    where
      may : MayCome (front cues)
      may = omega (arith, w.counted)

  module _ (tasks : Distinct ns.tasks) where
    pub fronts_say : (left i l place : ℕ) (cues : List FormLine) → FrontDue l i left place cues
        → Says (FrontsAfter cues) Fault (front_lines k ns text left i l place)
    fronts_say zero i l place cues w = says_bind (Shaped (FrontAt text l) text l) (FrontsAfter cues) Fault (front_line text l place) _ (front_due w) go
      where
        go : (x : Front × ℕ × ℕ) → Shaped (FrontAt text l) text l x
            → Says (FrontsAfter cues) Fault (on_front x.0 (λ id name. refused (WrongShape l 0)) (λ id. found (root_only id zero x.1 x.2)))
        go (an_action id name, n, next) (h, e, s) = FormFault.many w.due (omega (arith, w.counted)) (id, name, h)
        go (the_root id, n, next) h = root_on w id n next h
    fronts_say (suc left) i l place cues w =
        says_bind (Shaped (FrontAt text l) text l) (FrontsAfter cues) Fault (front_line text l place) _ (front_due w) (go (fronts_say left (suc i)))
      where
        go : ((n next : ℕ) (all : List FormLine) → FrontDue n (suc i) left next all
            → Says (FrontsAfter all) Fault (front_lines k ns text left (suc i) n next))
            → (x : Front × ℕ × ℕ) → Shaped (FrontAt text l) text l x
            → Says (FrontsAfter cues) Fault (on_front x.0
            (λ id name. action_named k ns l name >>= λ a. with_cue (cue_line l id a i) (front_lines k ns text left (suc i) x.1 x.2))
            (λ id. found (root_only id (suc left) x.1 x.2)))
        go later (an_action id name, n, next) h = action_on tasks w id name n next h (front_lines k ns text left (suc i) n next) (later n next)
        go later (the_root id, n, next) h = root_on w id n next h
