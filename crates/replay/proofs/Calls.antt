-- The rows of the table in their order, and what each answer leaves in the lent lists. Assumes nothing.
use mathlib.Core.Path.{◌≡◌, refl, sym, ap, subst, ◌∙◌}
use mathlib.Core.Bool.{Bool, true, false}
use mathlib.Core.List.{List}
use mathlib.Core.Option.{Option, none, some}
use Prim.Native.Nat.{ℕ, ◌*◌, ◌≤◌, ◌<◌}
use native.Mathlib.Omega.{arith}
use Rattle.std.specs.Prelude.{Result, Ok, Err}
use borrow.Author.Tests.{lt-ltb, le-ltb}
use lib.Dec.{ltb}
use lib.ListN.{length, replicate, length-replicate}
use Rattle.rules.specs.declared.Header.{Header}
use Rattle.rules.specs.declared.Answer.{Answer}
use Rattle.rules.specs.declared.Answer.TheVariants.{Accepted, ShortList, LongText, Inapplicable}
use Rattle.rules.specs.Result as R
use Rattle.rules.specs.Result.{found, refused, ◌>>=◌, ◌>>◌}
use Rattle.rules.specs.Case.{Case, read_case}
use Rattle.rules.specs.Verdict.{Found, state_need, work_need, text_most, replay_lists, states_of, unless, plan_runs, replay, answer_of, states_after}
use Rattle.rules.proofs.Judgement.Rows.{from_run, from_text}
use Rattle.rules.proofs.Judgement.Each.{Each}
use Rattle.rules.proofs.Worded.{Worded}
use Rattle.reading.specs.declared.CaseRead.{CaseRead}
use Rattle.reading.specs.Groups.{case_at}
use Rattle.fields.specs.Directory.{Finds, directory_size, Roomy}
use Rattle.reading.specs.Whole.{ReadsAs}
use Rattle.rows.specs.Rows.{put_rows}
use Rattle.rows.proofs.Written.{rows_fill}
use Rattle.running.specs.declared.Stopped.{Stopped}
use Rattle.running.specs.Running.{Left, stop_of, RanAs}
use Rattle.running.proofs.Outcome.{stopped_at, ran_all}
use Rattle.replay.specs.Running.{replay_run, replay_text, Replayed}

-- ---- Answers

-- A refusal: "Refused: both lists are zero throughout."
pub refuses : (size : ℕ) (f : Found (Unit {0})) (r : Answer) (states : List ℕ) → f ≡ refused r → states ≡ replicate size 0 → Replayed f size r states
unfolding states_after
refuses size f r states e zeros =
    record { answer = sym (ap answer_of e); filled = zeros ∙ sym (ap (λ (x : Found (Unit {0})). states_after size x) e) }

pub as_replayed : (f g : Found (Unit {0})) (size : ℕ) (r : Answer) (states : List ℕ) → f ≡ g → Replayed g size r states → Replayed f size r states
as_replayed f g size r states e x = subst (λ (y : Found (Unit {0})). Replayed y size r states) (sym e) x

-- ---- Row 5

module _ (k : Case) (r : Result (Unit {0}) Stopped) (before after : List ℕ) (ran : RanAs k r before after) where
  runs : (o : Option ℕ) → stop_of k ≡ o → replay_run k ≡ (unless (Inapplicable k.plan_line) o >> found (k, tt))
  unfolding replay_run from_run plan_runs
  runs o e = ap (λ (x : Option ℕ). ◌>>◌ {B = Case × Unit {0}} (unless (Inapplicable k.plan_line) x) (found (k, tt))) e

  pub run_stops : (s : Stopped) → r ≡ Err s → replay_run k ≡ refused (Inapplicable k.plan_line s.cue)
  run_stops s e = runs (some s.cue) (stopped_at (stop_of k) s (sym e ∙ ran.answer))

  -- "Accepted: k and the node count n come back; the state list holds states 0 to k [..]; the rest is zero."
  pub run_passes : (h : Header) (size : ℕ) → r ≡ Ok tt → h ≡ k.head → before ≡ replicate size 0 → Each Worded (states_of k)
      → Replayed (replay_run k) size (Accepted h.cues h.nodes) after
  unfolding states_after
  run_passes h size e q zeros worded =
      let passes = runs none (ran_all k r before after ran e).0 in
      record {
        answer = ap (λ (x : Header). Accepted x.cues x.nodes) q ∙ sym (ap answer_of passes);
        filled = (ran_all k r before after ran e).1 ∙ ap (λ (l : List ℕ). put_rows l 0 (states_of k)) zeros ∙ rows_fill size (states_of k) worded
            ∙ sym (ap (λ (x : Found (Unit {0})). states_after size x) passes);
      }

-- ---- Rows 2 to 4

abbrev then_run : R.Result Case → Found (Unit {0})
then_run r = r >>= λ k. from_run (λ c. found (c, tt)) k

-- A text that is not too long; or one that is.
text_is : (text : List ℕ) (b : Bool) → ltb text_most (length text) ≡ b
    → replay_text text ≡ ◌>>◌ {A = Unit {0}} (elim b [ true ↦ refused LongText | false ↦ found tt ]) (then_run (read_case text))
unfolding replay_text from_text
text_is text b e = ap (λ (x : Bool). ◌>>◌ {A = Unit {0}} (elim x [ true ↦ refused LongText | false ↦ found tt ]) (then_run (read_case text))) e

short_text : (text : List ℕ) → length text ≤ text_most → replay_text text ≡ then_run (read_case text)
short_text text h = text_is text false (le-ltb text_most (length text) h)

pub text_long : (text : List ℕ) → text_most < length text → replay_text text ≡ refused LongText
text_long text h = text_is text true (lt-ltb text_most (length text) h)

module _ (text fields directory : List ℕ) (r : Result CaseRead Answer) (as_read : ReadsAs (read_case text) r fields directory) (short : length text ≤ text_most) where
  pub text_refused : (a : Answer) → r ≡ Err a → replay_text text ≡ refused a
  text_refused a e = go (read_case text) refl as_read
    where
      go : (x : R.Result Case) → read_case text ≡ x → ReadsAs x r fields directory → replay_text text ≡ refused a
      go (found k) q w = absurd (cc (w.3, e))
      go (refused b) q w =
          let same : b ≡ a = cc in
          short_text text short ∙ ap then_run q ∙ ap (λ (x : Answer). refused x) same

  -- What reading left, of the case that was read.
  pub left_by : (c : CaseRead) → directory_size ≤ length directory → r ≡ Ok c
      → (k : Case) × Left k fields directory c.header c.initial c.plan × (c.plan_line ≡ k.plan_line) × (replay_text text ≡ replay_run k)
  unfolding replay_run
  left_by c long e = go (read_case text) refl as_read
    where
      go : (x : R.Result Case) → read_case text ≡ x → ReadsAs x r fields directory
          → (k : Case) × Left k fields directory c.header c.initial c.plan × (c.plan_line ≡ k.plan_line) × (replay_text text ≡ replay_run k)
      go (found k) q (initial, plan, nodes, answer, stands, finds, last) =
          let same : c ≡ case_at k.head k.plan_line initial plan nodes = cc in (
            k,
            record {
              nodes = c.nodes;
              head = ap (λ (x : CaseRead). x.header) same;
              long = long;
              read = record { text = text; short = short; reads = q };
              finds = subst (λ (x : CaseRead). Finds k fields directory x.initial x.plan x.nodes) (sym same) finds;
            },
            ap (λ (x : CaseRead). x.plan_line) same,
            short_text text short ∙ ap then_run q,
          )
      go (refused b) q w = absurd cc

-- ---- Row 1

module _ (text : List ℕ) (s w : ℕ) where
  -- Whether the state list is short, and whether the work space is.
  abbrev lists : Bool → Bool → R.Result (Unit {0})
  lists a b = elim a [ true ↦ refused (ShortList 1) | false ↦ elim b [ true ↦ refused (ShortList 3) | false ↦ found tt ] ]

  rows_one : (a b : Bool) → ltb s state_need ≡ a → ltb w work_need ≡ b → replay (replay_lists s w) text ≡ (lists a b >> replay_text text)
  unfolding replay replay_lists replay_text from_text from_run
  rows_one a b p q = λ j. lists (p j) (q j) >> replay_text text

  pub short_states : s < state_need → replay (replay_lists s w) text ≡ refused (ShortList 1)
  short_states h = rows_one true (ltb w work_need) (lt-ltb s state_need h) refl

  pub short_work : state_need ≤ s → w < work_need → replay (replay_lists s w) text ≡ refused (ShortList 3)
  short_work h g = rows_one false true (le-ltb s state_need h) (lt-ltb w work_need g)

  pub long_lists : state_need ≤ s → work_need ≤ w → replay (replay_lists s w) text ≡ replay_text text
  long_lists h g = rows_one false false (le-ltb s state_need h) (le-ltb w work_need g)

-- ---- Room

-- Over any length, so that nothing computes with a long list.
pub roomy_zeros : (text : List ℕ) (n : ℕ) → length text < 2 * n → Roomy text (replicate n 0)
roomy_zeros text n h = let e = length-replicate {A = ℕ} n 0 in omega arith
