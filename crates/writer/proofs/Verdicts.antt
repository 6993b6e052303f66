-- The verdict of the write call by what the check answered and what became of the tidy text. Assumes nothing.
use mathlib.Core.Path.{◌≡◌, refl, sym, ap, ◌∙◌, subst}
use mathlib.Core.List.{List}
use Prim.Native.Nat.{ℕ}
use native.Mathlib.Omega.{arith}
use Rattle.std.specs.Prelude.{Ok, Err}
use lib.ListN.{replicate}
use Rattle.rules.specs.declared.Answer.{Answer}
use Rattle.rules.specs.declared.Answer.TheVariants.{Accepted}
use Rattle.rules.specs.Result.{Result, found, refused, ◌>>◌}
use Rattle.rules.specs.Case.{Case}
use Rattle.rules.specs.Fields.{fields_of}
use Rattle.rules.specs.Print.{printed}
use Rattle.rules.specs.Tree.{Tree}
use Rattle.rules.specs.Verdict.{Lent, Found, state_need, node_need, work_need, check_lists, check, reported, answer_of, states_after}
use Rattle.rules.specs.Writing.{written, output_long, write, output_after, length_after}
use Rattle.rules.proofs.Judgement.Rows.{from_text, from_tree}
use Rattle.rules.proofs.Judgement.Refusals.{CheckSays, check_says}
use Rattle.rules.proofs.Judgement.Theorem.{accepts_rules, shows_not_zero}
use Rattle.rules.proofs.Printing.{canonical}
use Rattle.rules.proofs.Writing.Answers.{output_fits, output_short}
use Rattle.fields.specs.Standing.{Stands}
use Rattle.fields.specs.Directory.{IsRead}
use Rattle.records.specs.Records.{RecordsHeld}
use Rattle.judge.specs.Phases.{Answers, FieldsHeld}
use Rattle.judge.proofs.Verdicts.{long_lists}
use Rattle.writer.specs.declared.Wrote.{Wrote}
use Rattle.writer.specs.Writes.{Writes, PutAs, then_output}

-- ---- What the check answered

abbrev asked : List Lent
asked = check_lists state_need node_need work_need

-- With lists as long as asked the rest of the rows decide.
as_asked_lem : (text : List ℕ) → check asked text ≡ from_text from_tree text
as_asked_lem text = long_lists state_need node_need work_need text (omega arith) (omega arith) (omega arith)

-- No refusal is an acceptance.
no_refusal : (text : List ℕ) (cues nodes : ℕ) → from_text from_tree text ≡ refused (Accepted cues nodes) → ⊥
unfolding reported
no_refusal text cues nodes e =
    shows_not_zero (subst (CheckSays asked text) (as_asked_lem text ∙ e) (check_says asked text)) refl

-- An answer that is no acceptance refuses the text.
pub answer_refuses : (f : Found Tree) (r : Answer) → r ≡ answer_of f → ((cues nodes : ℕ) → r ≡ Accepted cues nodes → ⊥) → f ≡ refused r
answer_refuses (found (k, t)) r e not = absurd (not k.head.cues k.head.nodes e)
answer_refuses (refused a) r e not = ap (λ (x : Answer). refused x) (sym e)

-- An acceptance has found a case, whose fields are held.
pub answer_finds : (text : List ℕ) (r : Answer) (cues nodes : ℕ) (fields : List ℕ) → r ≡ answer_of (from_text from_tree text) → r ≡ Accepted cues nodes
    → FieldsHeld (from_text from_tree text) fields
    → (k : Case) × (t : Tree) × (from_text from_tree text ≡ found (k, t)) × IsRead k × (text ≡ printed k) × Stands fields 0 (fields_of k)
unfolding FieldsHeld
answer_finds text r cues nodes fields e a held = go (from_text from_tree text) refl e held
  where
    go : (f : Found Tree) → from_text from_tree text ≡ f → r ≡ answer_of f → FieldsHeld f fields
        → (k : Case) × (t : Tree) × (from_text from_tree text ≡ found (k, t)) × IsRead k × (text ≡ printed k) × Stands fields 0 (fields_of k)
    go (found (k, t)) q x (read, stands) = (k, t, q, read, canonical text k (accepts_rules asked text k t (as_asked_lem text ∙ q)).0, stands)
    go (refused b) q x h = absurd (no_refusal text cues nodes (q ∙ ap (λ (y : Answer). refused y) (sym x ∙ a)))

-- ---- What the call answers and leaves

module _ (m : ℕ) {f : Found Tree} {n : ℕ} {r : Answer} {states work : List ℕ} (told : Answers f n r states work) where
  -- A refusal of the check is the call's.
  pub refused_writes : f ≡ refused r → {w : Wrote} {output : List ℕ} → w.answer ≡ r → w.length ≡ 0 → output ≡ replicate m 0
      → Writes (then_output m f) n m w states work output
  unfolding length_after output_after states_after RecordsHeld
  refused_writes e x y z =
      let same : then_output m f ≡ refused r = ap (then_output m) e in
      record {
        answer = x ∙ sym (ap answer_of same);
        answered = y ∙ sym (ap length_after same);
        states_held = told.states_held ∙ ap (states_after n) (e ∙ sym same);
        records_held = subst (λ (g : Found Tree). RecordsHeld g work) (e ∙ sym same) told.records_held;
        put = z ∙ sym (ap (output_after m) same);
      }

  module _ {k : Case} {t : Tree} (e : f ≡ found (k, t)) where
    output_then : (o : Result (Unit {0})) → output_long m k ≡ o → then_output m f ≡ (o >> found (k, t))
    output_then o q = ap (then_output m) e ∙ ap (λ (x : Result (Unit {0})). ◌>>◌ {B = Case × Tree} x (found (k, t))) q

    -- The text is put out.
    pub put_writes : {output : List ℕ} (bytes : ℕ) → PutAs (written k) m (Ok bytes) output → Writes (then_output m f) n m (record { answer = r; length = bytes }) states work output
    unfolding length_after output_after
    put_writes bytes (long, count, stands) =
        let same : then_output m f ≡ found (k, t) = output_then (found tt) (output_fits m k long) in
        let back : f ≡ then_output m f = e ∙ sym same in
        record {
          answer = told.answer ∙ ap answer_of back;
          answered = count ∙ sym (ap length_after same);
          states_held = told.states_held ∙ ap (states_after n) back;
          records_held = subst (λ (g : Found Tree). RecordsHeld g work) back told.records_held;
          put = stands ∙ sym (ap (output_after m) same);
        }

    -- The output is too short: all lists are zero.
    pub short_writes : {states' output : List ℕ} (a : Answer) → PutAs (written k) m (Err a) output → states' ≡ replicate n 0
        → Writes (then_output m f) n m (record { answer = a; length = 0 }) states' work output
    unfolding length_after output_after states_after RecordsHeld
    short_writes a (short, all, zeros) cleared =
        let told = output_short m k short ∙ ap (λ (x : Answer). refused x) (sym all) in
        let same : then_output m f ≡ refused a = output_then (refused a) told in
        record {
          answer = sym (ap answer_of same);
          answered = sym (ap length_after same);
          states_held = cleared ∙ sym (ap (states_after n) same);
          records_held = subst (λ (g : Found Tree). RecordsHeld g work) (sym same) tt;
          put = zeros ∙ sym (ap (output_after m) same);
        }

-- The same of another verdict that is equal, with a state list of the same length.
pub writes_as : {f g : Found Tree} {n l m : ℕ} {w : Wrote} {states work output : List ℕ} → f ≡ g → n ≡ l → Writes f n m w states work output → Writes g l m w states work output
writes_as {f} {g} {n} {l} {m} {w} {states} {work} {output} e size x =
    record {
      answer = x.answer ∙ ap answer_of e;
      answered = x.answered ∙ ap length_after e;
      states_held = x.states_held ∙ ap (states_after n) e ∙ ap (λ (i : ℕ). states_after i g) size;
      records_held = subst (λ (h : Found Tree). RecordsHeld h work) e x.records_held;
      put = x.put ∙ ap (output_after m) e;
    }

-- The call's verdict is the check's, and then 14.
pub write_is : (lists-states lists-nodes lists-work size : ℕ) (text : List ℕ) (f : Found Tree) → check (check_lists lists-states lists-nodes lists-work) text ≡ f
    → then_output size f ≡ write (check_lists lists-states lists-nodes lists-work) size text
unfolding write
write_is s n w size text f e = sym (ap (then_output size) e)
