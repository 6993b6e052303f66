-- The name list and the form beside a case that was read: what their readers ask for, what both answer together, and the form as the lists hold
-- it. Assumes nothing.
use mathlib.Core.Path.{◌≡◌, refl, sym, ap, subst, ◌∙◌}
use mathlib.Core.List.{List}
use Prim.Native.Nat.{ℕ, ◌+◌, ◌*◌, ◌≤◌}
use native.Mathlib.Omega.{arith}
use lib.ListN.{length, replicate, length-replicate}
use Rattle.std.specs.Prelude.{Ok, Err, Result as Returned}
use Rattle.rules.specs.declared.Answer.{Answer}
use Rattle.rules.specs.declared.Header.{Header}
use Rattle.rules.specs.Result.{Result, found, refused, ◌>>=◌}
use Rattle.rules.specs.Case.{Case, read_case}
use Rattle.rules.specs.Fields.{fields_of}
use Rattle.rules.specs.Ranges.{GoodHeader}
use Rattle.rules.specs.Verdict.{text_most}
use Rattle.rules.specs.Naming.{Names, read_names}
use Rattle.rules.specs.Form.{Form, form_lines, read_form}
use Rattle.rules.proofs.Judgement.Sound.{sound}
use Rattle.rules.proofs.Printing.{canonical}
use Rattle.fields.specs.Directory.{IsRead}
use Rattle.output.proofs.Cases.{case_least, print_short}
use Rattle.naming.specs.Listing.{Blank, NamesLeft}
use Rattle.naming.proofs.Outcomes.{names_read, names_refused, names_counted}
use Rattle.links.specs.Links.{Lines, Spelled}
use Rattle.forms.specs.declared.FormRead.{FormRead}
use Rattle.forms.specs.Held.{MethodsHere, Tasks, Methods, FormIs}
use Rattle.making.specs.Making.{PlanLast}
use Rattle.importer.proofs.Putting.{zero_at}
use Rattle.importer.specs.Importing.{ModelHere, BothAre, CaseHere, FormHeld, made_of, made_beside, MadeIs}

apart : {A : Type 0} → ◌≡◌ {A = ℕ} 0 1 → A
apart z = absurd (omega arith)

-- ---- What the readers ask for

-- New lists hold no names.
pub zeros_blank : (n m : ℕ) → n ≡ 2048 → m ≡ 4096 → Blank (replicate n 0) (replicate n 0) (replicate m 0)
zeros_blank n m e f = record {
  starts_length = length-replicate {A = ℕ} n 0 ∙ e;
  ends_length = length-replicate {A = ℕ} n 0 ∙ e;
  slots_length = length-replicate {A = ℕ} m 0 ∙ f;
  starts_zero = zero_at n;
  ends_zero = zero_at n;
}

module _ {k : Case} {h : Header} {fields directory : List ℕ} (m : ModelHere k h fields directory) where
  header_good : GoodHeader h
  header_good = subst GoodHeader m.head (sound m.read.text k m.read.reads).head_good

  pub header_few : (h.actions + h.compounds ≤ 2048) × (h.methods ≤ 2048)
  header_few = let g = header_good in (omega (arith, g.few_actions, g.few_compounds), g.few_methods)

  -- ---- Both readers

  module _ (names : List ℕ) (ts te tl ms me ml : List ℕ) where
    -- The names by which the form is read.
    pub names_held : NamesLeft names (read_names h names) (Ok tt) ts te tl ms me ml
        → (ns : Names) × (read_names h names ≡ found ns) × Tasks k ns h names ts te tl × Methods k ns h names ms me ml
    names_held left =
        let w = names_read names (read_names h names) ts te tl ms me ml left in
        let n = names_counted h names w.0 w.1 in
        let g = header_good in (
          w.0,
          w.1,
          record { head = m.head; listed = w.2; count = n.0; small = (g.few_actions, g.few_compounds) },
          record { head = m.head; listed = w.3; count = n.1 },
        )

    module _ (form : List ℕ) (ids labels places : List ℕ) where
      both : (y : Result Names) → read_names h names ≡ y → (x : Returned FormRead Answer)
          → FormIs form (y >>= λ ns. read_form k ns form) x ids labels places → BothAre k names form x ids labels places
      both y e x is =
          subst (λ (z : Result Names). FormIs form (z >>= λ ns. read_form k ns form) x ids labels places)
          (sym (ap (λ (x : Header). read_names x names) m.head ∙ e)) is

      -- The form is read by the names.
      pub both_read : (x : Returned FormRead Answer) → NamesLeft names (read_names h names) (Ok tt) ts te tl ms me ml
          → ((k : Case) (ns : Names) → Tasks k ns h names ts te tl → Methods k ns h names ms me ml → MethodsHere k fields directory
          → FormIs form (read_form k ns form) x ids labels places)
          → BothAre k names form x ids labels places
      both_read x left is = let w = names_held left in both (found w.0) w.1 x (is k w.0 w.2 w.3 m.methods)

      -- The name list is refused.
      pub both_refused : (a : Answer) → NamesLeft names (read_names h names) (Err a) ts te tl ms me ml → BothAre k names form (Err a) ids labels places
      both_refused a left = both (refused a) (names_refused names (read_names h names) ts te tl ms me ml a left) (Err a) refl

-- ---- How many fields there are

few_fields : (k : Case) → IsRead k → length (fields_of k) ≤ 32767
unfolding text_most
few_fields k r = omega (arith, print_short k r, case_least k)

pub plan_few : (k : Case) → IsRead k → (plan : ℕ) → PlanLast k plan → plan ≤ 32767
plan_few k r plan last = omega (arith, few_fields k r)

pub plan_room : (k : Case) (plan : ℕ) → PlanLast k plan → (size : ℕ) → length (fields_of k) + 12001 ≤ size → plan + 12001 ≤ size
plan_room k plan last size room = omega arith

-- The fields of a case are at most half as many as the bytes of a text that reads as it.
pub half_fields : (text : List ℕ) (k : Case) → read_case text ≡ found k → 2 * length (fields_of k) ≤ length text
half_fields text k e = omega (arith, case_least k, ap length (canonical text k e))

-- ---- The form that was read

module _ {k : Case} {h : Header} {nodes : ℕ} {fields directory : List ℕ} (x : CaseHere k h nodes fields directory) where
  pub cues_are : k.head.cues ≡ h.cues
  cues_are = ap (λ (g : Header). g.cues) x.model.head

  module _ (text : List ℕ) (y : Result Form) (ids labels places : List ℕ) where
    form_held : (r : FormRead) → FormIs text y (Ok r) ids labels places → (plan : ℕ) → PlanLast k plan
        → (f : Form) × (y ≡ found f) × FormHeld k f text places ids labels r.cues r.count r.root fields plan
    form_held r is plan last = go y refl is
      where
        go : (z : Result Form) → y ≡ z → FormIs text z (Ok r) ids labels places
            → (f : Form) × (y ≡ found f) × FormHeld k f text places ids labels r.cues r.count r.root fields plan
        go (found f) e is =
            let all : FormRead = record { cues = length f.cues; count = length (form_lines f); root = f.root } in
            let s : Ok r ≡ Ok all = is.0 in
            let same : r ≡ all = cc in
            let cued : length f.cues ≡ r.cues = sym (ap (λ (x : FormRead). x.cues) same) in (
              f,
              e,
              record {
                read = x.model.read;
                stands = x.stands;
                planned = last;
                lines = subst (λ (n : ℕ). Lines (form_lines f) n ids labels) cued is.1;
                spelled = subst (λ (n : ℕ). Spelled text places (form_lines f) n) cued is.2;
                cued = cued;
                counted = sym (ap (λ (x : FormRead). x.count) same);
                rooted = sym (ap (λ (x : FormRead). x.root) same);
                root_at = is.3 ∙ ap (λ (n : ℕ). 2 + n) cued;
              },
            )
        go (refused a) e is = let s : Ok r ≡ Err a = is in apart (cc)

    form_refused : (a : Answer) → FormIs text y (Err a) ids labels places → y ≡ refused a
    form_refused a is = go y refl is
      where
        go : (z : Result Form) → y ≡ z → FormIs text z (Err a) ids labels places → y ≡ refused a
        go (found f) e is =
            let s : Err a ≡ Ok (record { cues = length f.cues; count = length (form_lines f); root = f.root }) = is.0 in apart (cc)
        go (refused b) e is = let same : a ≡ b = cc in e ∙ ap refused (sym same)

  -- ---- What is made of it

  module _ (names text : List ℕ) (ids labels places : List ℕ) (size : ℕ) where
    abbrev form_read : Result Form
    form_read = read_names k.head names >>= λ ns. read_form k ns text

    made : (y : Result Form) → form_read ≡ y → (a : Returned ℕ Answer) (output : List ℕ) → MadeIs (y >>= λ f. made_of size k f) size a output
        → MadeIs (made_beside size k names text) size a output
    unfolding made_beside
    made y e a output w = subst (λ (z : Result Form). MadeIs (z >>= λ f. made_of size k f) size a output) (sym e) w

    pub both_held : (r : FormRead) → BothAre k names text (Ok r) ids labels places → (plan : ℕ) → PlanLast k plan
        → (f : Form) × (form_read ≡ found f) × FormHeld k f text places ids labels r.cues r.count r.root fields plan
    both_held = form_held text form_read ids labels places

    pub made_read : (r : FormRead) → BothAre k names text (Ok r) ids labels places → (plan : ℕ) → PlanLast k plan → (a : Returned ℕ Answer) (output : List ℕ)
        → ((k : Case) (f : Form) → FormHeld k f text places ids labels r.cues r.count r.root fields plan → MadeIs (made_of size k f) size a output)
        → MadeIs (made_beside size k names text) size a output
    made_read r is plan last a output w =
        let f = both_held r is plan last in
        made (found f.0) f.1 a output (w k f.0 f.2)

    pub made_refused : (a : Answer) → BothAre k names text (Err a) ids labels places → (output : List ℕ)
        → MadeIs (made_beside size k names text) size (Err a) output
    made_refused a is output = made (refused a) (form_refused text form_read ids labels places a is) (Err a) output refl
