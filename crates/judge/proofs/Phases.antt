-- From what one phase leaves to what the next asks. Assumes nothing.
use mathlib.Core.Path.{◌≡◌, refl, sym, ap, subst, ◌∙◌}
use mathlib.Core.List.{List, flatten}
use mathlib.Core.Option.{Option, none, some}
use Prim.Native.Nat.{ℕ, ◌≤◌}
use native.Mathlib.Omega.{arith}
use Rattle.std.specs.Prelude.{Result, Ok, Err, Option as Returned, Some, None}
use lib.ListN.{length, replicate}
use Rattle.rules.specs.declared.Header.{Header}
use Rattle.rules.specs.declared.Answer.{Answer}
use Rattle.rules.specs.Result as R
use Rattle.rules.specs.Result.{found, refused}
use Rattle.rules.specs.Case.{Case, read_case}
use Rattle.rules.specs.Tree.{Tree, may_claim, walk_tree, least_unclaimed}
use Rattle.rules.specs.Verdict.{Found, state_need, work_need, text_most, states_of, filled, states_after}
use Rattle.rules.proofs.Judgement.Sound.{Sound, sound}
use Rattle.fields.specs.Directory.{Finds, NodesLast, directory_size}
use Rattle.reading.specs.Whole.{ReadsAs}
use Rattle.reading.specs.declared.CaseRead.{CaseRead}
use Rattle.reading.specs.Groups.{case_at}
use Rattle.rows.specs.Rows.{put_rows}
use Rattle.rows.proofs.Written.{rows_fill}
use Rattle.running.specs.Running.{Left, stop_of, RanAs}
use Rattle.running.specs.declared.Stopped.{Stopped}
use Rattle.running.proofs.Outcome.{left_worded, stopped_at, ran_all}
use Rattle.tree.specs.Layout.{directory_of, marks_in}
use Rattle.tree.specs.Whole.{WalkReady, TreeTold}
use Rattle.tree.specs.Marks.{least_unmarked, as_unclaimed}
use Rattle.tree.proofs.Claimed.{least_unclaimed_lem}
use Rattle.records.specs.Records.{RecordsHeld}
use Rattle.judge.specs.declared.Opened.{Opened}
use Rattle.judge.specs.Phases as P
use Rattle.judge.specs.Phases.{Answers, Opens, HasRun}
use Rattle.tree.proofs.Directory.{finds_kept}
use Rattle.judge.proofs.Frames.{Unmarked}

-- ---- Answers

-- A refusal answers so, and leaves the state list zero, whatever the work space is.
pub refused_all : {f : Found Tree} {size : ℕ} {r : Answer} {states work : List ℕ} (a : Answer) → f ≡ refused a → r ≡ a → states ≡ replicate size 0
    → Answers f size r states work
unfolding states_after RecordsHeld
refused_all {size = size} {r = r} {states = states} {work = work} a e q zeros =
    subst (λ (x : Found Tree). Answers x size r states work) (sym e) (record { answer = q; states_held = zeros; records_held = tt })

-- The same of an equal verdict and a list as long.
pub answers_as : {f g : Found Tree} {m n : ℕ} {r : Answer} {states work : List ℕ} → f ≡ g → m ≡ n → Answers f m r states work → Answers g n r states work
answers_as {g = g} {m = m} {r = r} {states = states} {work = work} e size x =
    subst (λ (n : ℕ). Answers g n r states work) size (subst (λ (y : Found Tree). Answers y m r states work) e x)

-- ---- Reading

module _ (text fields work : List ℕ) {r : Result CaseRead Answer} (as_read : ReadsAs (read_case text) r fields work) where
  pub read_opens : (c : CaseRead) → r ≡ Ok c → length text ≤ text_most → work_need ≤ length work
      → (k : Case) × (read_case text ≡ found k) × Opens k fields (record { header = c.header; plan_line = c.plan_line; plan = c.plan; nodes = c.nodes }) c.initial work
  read_opens c e short room = go (read_case text) refl as_read
    where
      go : (x : R.Result Case) → read_case text ≡ x → ReadsAs x r fields work
          → (k : Case) × (read_case text ≡ found k) × Opens k fields (record { header = c.header; plan_line = c.plan_line; plan = c.plan; nodes = c.nodes }) c.initial work
      go (found k) q (initial, plan, nodes, answer, stands, finds, last) =
          let same : c ≡ case_at k.head k.plan_line initial plan nodes = cc in (
            k,
            q,
            record {
              head = ap (λ (x : CaseRead). x.header) same;
              planned = ap (λ (x : CaseRead). x.plan_line) same;
              read = record { text = text; short = short; reads = q };
              finds = subst (λ (x : CaseRead). Finds k fields work x.initial x.plan x.nodes) (sym same) finds;
              stands = stands;
              last = subst (λ (x : CaseRead). NodesLast k x.nodes) (sym same) last;
              work_room = room;
            },
          )
      go (refused b) q w = absurd cc

  pub read_refuses : (a : Answer) → r ≡ Err a → read_case text ≡ refused a
  read_refuses a e = go (read_case text) refl as_read
    where
      go : (x : R.Result Case) → read_case text ≡ x → ReadsAs x r fields work → read_case text ≡ refused a
      go (found k) q w = absurd (cc (w.3, e))
      go (refused b) q w = cc

-- ---- Running

module _ {k : Case} {fields : List ℕ} {o : Opened} {initial : ℕ} {work : List ℕ} (x : Opens k fields o initial work) where
  pub open_sound : Sound k
  open_sound = sound x.read.text k x.read.reads

  pub open_left : Left k fields work o.header initial o.plan
  unfolding directory_size work_need
  open_left =
      let room = x.work_room in
      record { nodes = o.nodes; head = x.head; long = omega arith; read = x.read; finds = x.finds }

  pub open_few : o.header.cues ≤ 1000
  open_few = subst (λ (h : Header). h.cues ≤ 1000) (sym x.head) open_sound.head_good.few_cues

  -- The same of a work space with the same directory.
  open_kept : (v : List ℕ) → length v ≡ length work → directory_of v ≡ directory_of work → Opens k fields o initial v
  open_kept v size e =
      let room = x.work_room in
      record {
        head = x.head;
        planned = x.planned;
        read = x.read;
        finds = finds_kept k fields work v initial o.plan o.nodes open_sound.head_good e x.finds;
        stands = x.stands;
        last = x.last;
        work_room = omega arith;
      }

  module _ {r : Result (Unit {0}) Stopped} {before after : List ℕ} (ran : RanAs k r before after) where
    pub run_stops : (s : Stopped) → r ≡ Err s → stop_of k ≡ some s.cue
    run_stops s e = stopped_at (stop_of k) s (sym e ∙ ran.answer)

    pub run_passes : r ≡ Ok tt → before ≡ replicate (length before) 0 → state_need ≤ length before → length after ≡ length before → HasRun k after
    run_passes e zeros room same =
        let held : after ≡ filled (length before) 0 (flatten (states_of k)) =
        (ran_all k r before after ran e).1 ∙ ap (λ (l : List ℕ). put_rows l 0 (states_of k)) zeros
        ∙ rows_fill (length before) (states_of k) (left_worded k fields work o.header initial o.plan open_left) in
        record {
          runs = (ran_all k r before after ran e).0;
          state_room = omega arith;
          states_held = held ∙ ap (λ (n : ℕ). filled n 0 (flatten (states_of k))) (sym same);
        }

  -- ---- Walking

  module _ {v : List ℕ} (clear : Unmarked k.head.cues work v) where
    pub walk_ready : WalkReady k fields o.header o.plan_line o.plan o.nodes v
    unfolding work_need
    walk_ready =
        let opens = open_kept v clear.size clear.directory in
        record {
          head = x.head;
          planned = x.planned;
          read = x.read;
          initial = initial;
          finds = opens.finds;
          room = opens.work_room;
          unmarked = clear.unmarked;
        }

    -- What the walk answered: the tree, its rows and its claims; or the refusal.
    module _ {r : Result (Unit {0}) Answer} (u : List ℕ) (told : TreeTold k v (walk_tree k (may_claim k.plan)) r u) where
      pub walk_refuses : (a : Answer) → r ≡ Err a → walk_tree k (may_claim k.plan) ≡ refused a
      walk_refuses a e = go (walk_tree k (may_claim k.plan)) refl told
        where
          go : (y : R.Result (Tree × List ℕ)) → walk_tree k (may_claim k.plan) ≡ y → TreeTold k v y r u → walk_tree k (may_claim k.plan) ≡ refused a
          go (found (t, claimed)) q w = absurd (cc (w.right, e))
          go (refused b) q w = cc

      pub walk_finds : (states : List ℕ) → r ≡ Ok tt → length u ≡ length v → HasRun k states → P.Walked k fields o states u
      walk_finds states e same run = go (walk_tree k (may_claim k.plan)) refl told
        where
          go : (y : R.Result (Tree × List ℕ)) → walk_tree k (may_claim k.plan) ≡ y → TreeTold k v y r u → P.Walked k fields o states u
          go (found (t, claimed)) q w =
              record {
                initial = initial;
                opens = open_kept u (same ∙ clear.size) (w.directory ∙ clear.directory);
                run = run;
                tree = t;
                claimed = claimed;
                walks = q;
                rowed = w.rowed;
                marked = w.marked;
              }
          go (refused b) q w = absurd (cc (w, e))

-- ---- Claims

module _ {k : Case} {fields : List ℕ} {o : Opened} {states work : List ℕ} (x : P.Walked k fields o states work) {r : Returned ℕ}
    (said : r ≡ as_unclaimed (least_unmarked 1 (marks_in o.header.cues work))) where
  told : r ≡ as_unclaimed (least_unclaimed x.claimed k.head.cues 1)
  told =
      said
      ∙ ap as_unclaimed (ap (λ (h : Header). least_unmarked 1 (marks_in h.cues work)) x.opens.head ∙ least_unclaimed_lem k.head.cues x.claimed work x.marked)

  pub claims_all : r ≡ None → least_unclaimed x.claimed k.head.cues 1 ≡ none
  claims_all e = go (least_unclaimed x.claimed k.head.cues 1) (sym e ∙ told)
    where
      go : (y : Option ℕ) → None ≡ as_unclaimed y → y ≡ none
      go none q = refl
      go (some i) q = cc

  pub claims_lack : (i : ℕ) → r ≡ Some i → least_unclaimed x.claimed k.head.cues 1 ≡ some i
  claims_lack i e = go (least_unclaimed x.claimed k.head.cues 1) (sym e ∙ told)
    where
      go : (y : Option ℕ) → Some i ≡ as_unclaimed y → y ≡ some i
      go none q = cc
      go (some j) q = cc
