-- Numbers 17 and 18 on the lines of a form (02, Card 6): reading goes line by line through what is due, and where it refuses, the line is not what
-- is due or has a name that is not listed for it. Assumes nothing.
use mathlib.Core.Path.{◌≡◌, sym, subst}
use mathlib.Core.List.{List, [], ◌++◌, append-nil}
use mathlib.Core.Logic.{inl, inr}
use Prim.Native.Nat.{ℕ, zero, suc, ◌+◌}
use native.Mathlib.Omega.{arith}
use lib.ListN.{length, length-append}
use lib.Seq.{append_snoc}
use Rattle.rules.specs.declared.Answer.{Answer}
use Rattle.rules.specs.declared.Answer.TheVariants.{WrongShape}
use Rattle.rules.specs.Result.{found, refused, ◌>>=◌}
use Rattle.rules.specs.Case.{Case, Read}
use Rattle.rules.specs.Tokens.{no_more}
use Rattle.rules.specs.Naming.{Names}
use Rattle.rules.specs.Form.{Back, a_compound, the_end, FormLine, task_line, form_line_most, front_lines, back_line, on_back, with_task, both_named, back_lines, Form, read_form, form_lines}
use Rattle.rules.specs.FormFaults.{Stands, NamesMethod, back, over, rooted_at, and_task, MayCome, Due, HasShape, FormFault, FormIs}
use Rattle.rules.proofs.Faults.Line.{Starts, starts_first}
use Rattle.rules.proofs.Import.Says.{Says, says_bind, says_then, refusal_weaken, more_says, Distinct}
use Rattle.rules.proofs.Import.Shapes.{Opens, BackAt}
use Rattle.rules.proofs.Import.DueShapes.{Shaped, opening_says, back_says}
use Rattle.rules.proofs.Import.Uses.{both_says}
use Rattle.rules.proofs.Import.FrontsShow.{due_same, other_shape, FrontsAfter, fronts_say}

module _ (k : Case) (ns : Names) (text : List ℕ) where
  abbrev Fault : Answer → Type 0
  Fault = FormFault k ns text

  -- ---- Compound lines and the last line

  back_has : (l : ℕ) (f : Form) → HasShape text l (back f) → (x : Back) × BackAt text l x
  back_has l f (inl (id, name, method, subtasks, h)) = (a_compound id name method subtasks, h)
  back_has l f (inr h) = (the_end, h)

  -- With these compound lines too.
  abbrev and_tasks : Form → List FormLine → Form
  and_tasks f es = record { cues = f.cues; root_line = f.root_line; root = f.root; tasks = f.tasks ++ es }

  -- After these compound lines and the last line nothing is due.
  abbrev TasksAfter : Form → List FormLine × ℕ × ℕ → Type 0
  TasksAfter f (es, n, next) = Due k ns text n (over (and_tasks f es)) × Starts text n next

  task_says : (f : Form) (e : FormLine) (o : Read (List FormLine)) → Says (TasksAfter (and_task f e)) Fault o → Says (TasksAfter f) Fault (with_task e o)
  task_says f e (found (es, n, next)) (d, s) = (
    subst (λ (ts : List FormLine). Due k ns text n (over (record { cues = f.cues; root_line = f.root_line; root = f.root; tasks = ts })))
        (append_snoc f.tasks e es) d,
    s,
  )
  task_says f e (refused r) w = w

  -- What is due, from a line on, after these lines.
  record BackDue (l left place : ℕ) (f : Form) : Type 0 where
    due : Due k ns text l (back f)
    counted : length (form_lines f) + left ≡ form_line_most
    starts : Starts text l place

  back_due : {l left place : ℕ} {f : Form} → BackDue l left place f → Says (Shaped (BackAt text l) text l) Fault (back_line text l place)
  back_due {l} {place = place} {f} w =
      refusal_weaken _ _ Fault (back_line text l place) (other_shape k ns text (BackAt text l) w.due (back_has l f)) (back_says text l place w.starts)

  end_on : {l left place : ℕ} {f : Form} → BackDue l left place f → (n next : ℕ) → Shaped (BackAt text l) text l (the_end, n, next)
      → TasksAfter f ([], n, next)
  end_on w n next (h, e, s) = rw append-nil (due_same k ns text e (Due.closed w.due h), s)

  one_more : (f : Form) (e : FormLine) → length (form_lines (and_task f e)) ≡ length (form_lines f) + 1
  unfolding form_lines
  one_more f e = simp length-append (omega arith)

  -- A compound line, and those after it.
  compound_on : Distinct ns.tasks → Distinct ns.methods → {l left place : ℕ} {f : Form} → BackDue l (suc left) place f
      → (id : ℕ) (name method subtasks : List ℕ) (n next : ℕ) → Shaped (BackAt text l) text l (a_compound id name method subtasks, n, next)
      → (later : Read (List FormLine)) → ((g : Form) → BackDue n left next g → Says (TasksAfter g) Fault later)
      → Says (TasksAfter f) Fault (both_named k ns l name method subtasks >>= λ m. with_task (task_line l id m subtasks) later)
  compound_on tasks methods {l} {left} {place} {f} w id name method subtasks n next (h, e, s) later g =
      let Named : ℕ → Type 0 = NamesMethod k ns name method (length subtasks) in
      says_bind Named (TasksAfter f) Fault (both_named k ns l name method subtasks) _
      (refusal_weaken _ _ Fault (both_named k ns l name method subtasks)
      (λ a (q, none). subst Fault (sym q) (FormFault.compound w.due may h none)) (both_says k ns tasks methods l name method subtasks))
      (λ m p. task_says f (task_line l id m subtasks) later (g (and_task f (task_line l id m subtasks)) record {
        due = due_same k ns text e (Due.compound w.due may h p);
        counted = omega (arith, w.counted, one_more f (task_line l id m subtasks));
        starts = s;
      }))
    where
      may : MayCome (back f)
      may = omega (arith, w.counted)

  module _ (tasks : Distinct ns.tasks) (methods : Distinct ns.methods) where
    tasks_say : (left l place : ℕ) (f : Form) → BackDue l left place f → Says (TasksAfter f) Fault (back_lines k ns text left l place)
    tasks_say zero l place f w = says_bind (Shaped (BackAt text l) text l) (TasksAfter f) Fault (back_line text l place) _ (back_due w) go
      where
        go : (x : Back × ℕ × ℕ) → Shaped (BackAt text l) text l x
            → Says (TasksAfter f) Fault (on_back x.0 (λ id name method subtasks. refused (WrongShape l 0)) (found ([], x.1, x.2)))
        go (a_compound id name method subtasks, n, next) (h, e, s) =
            FormFault.many w.due (omega (arith, w.counted)) (id, name, method, subtasks, h)
        go (the_end, n, next) h = end_on w n next h
    tasks_say (suc left) l place f w =
        says_bind (Shaped (BackAt text l) text l) (TasksAfter f) Fault (back_line text l place) _ (back_due w) (go (tasks_say left))
      where
        go : ((n next : ℕ) (g : Form) → BackDue n left next g → Says (TasksAfter g) Fault (back_lines k ns text left n next))
            → (x : Back × ℕ × ℕ) → Shaped (BackAt text l) text l x
            → Says (TasksAfter f) Fault (on_back x.0
            (λ id name method subtasks.
            both_named k ns l name method subtasks >>= λ m. with_task (task_line l id m subtasks) (back_lines k ns text left x.1 x.2))
            (found ([], x.1, x.2)))
        go later (a_compound id name method subtasks, n, next) h =
            compound_on tasks methods w id name method subtasks n next h (back_lines k ns text left n next) (later n next)
        go later (the_end, n, next) h = end_on w n next h

-- ---- The whole form

pub lines_say : (k : Case) (ns : Names) (text : List ℕ) → Distinct ns.tasks → Distinct ns.methods
    → Says (FormIs k ns text) (FormFault k ns text) (read_form k ns text)
unfolding read_form form_lines
lines_say k ns text tasks methods =
    let Q = FormIs k ns text in
    let R = FormFault k ns text in
    opening_says text 1 0 (starts_first text) Q R _ (other_shape k ns text (Opens text 1) Due.start (λ h. (tt, h)))
    (λ n place (h, e, s).
    says_bind (FrontsAfter k ns text []) Q R (front_lines k ns text form_line_most 1 n place) _
    (fronts_say k ns text tasks form_line_most 1 n place []
    record { due = due_same k ns text e (Due.opened h); counted = omega arith; position = omega arith; starts = s })
    (λ f (d, t, c).
    let g = rooted_at f.cues (2 + length f.cues) f.root in
    says_bind (TasksAfter k ns text g) Q R (back_lines k ns text f.left f.next f.place) _
    (tasks_say k ns text tasks methods f.left f.next f.place g record { due = d; counted = rw append-nil c; starts = t })
    (λ (es, n', place') (d', t').
    says_then (λ u. Stands text n' → ⊥) Q R (no_more text 0 n' place') _
    (refusal_weaken _ _ R (no_more text 0 n' place')
    (λ a (q, more). subst R (sym q) (FormFault.surplus d' more)) (more_says text 0 n' place' t'))
    (λ u none. record { past = n'; due = d'; ended = none }))))
