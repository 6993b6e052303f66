-- Running the plan: the run from the start is the run from here, after the cues taken so far. Assumes nothing.
use mathlib.Core.Path.{◌≡◌, refl, sym, ap, ap₂, subst, ◌∙◌}
use mathlib.Core.Bool.{Bool, true, false, false≢true}
use mathlib.Core.List.{List, [], ◌∷◌, ◌++◌, append-nil}
use mathlib.Core.Option.{Option, none, some}
use Prim.Native.Nat.{ℕ, ◌+◌, ◌-◌, ◌*◌, ◌≤◌, ◌<◌}
use native.Mathlib.Numerals.{add-one}
use native.Mathlib.Omega.{arith}
use lib.ListN.{length, get_or, take, drop, take-append-drop, drop_of_length-le}
use lib.Seq.{drop-cons, drop-drop, take-append_seam}
use Rattle.rules.specs.declared.Header.{Header}
use Rattle.rules.specs.State.{proposition_most, Action, applies, next, step, no_action, action_at, states, first_stop}
use Rattle.rules.specs.Case.{Case}
use Rattle.rules.specs.Fields.{propositions_of, line_fields, action_line, cues_line}
use Rattle.rules.specs.Ranges.{SetBelow, ActionBelow, InRanges}
use Rattle.rules.specs.Verdict.{states_of}
use Rattle.rules.proofs.Judgement.Each.{Each, each_at, each_nil, each_cons, each_weaken}
use Rattle.rules.proofs.Judgement.Sound.{GoodAction, Sound, sound}
use Rattle.rules.proofs.Printing.{read_in_ranges}
use Rattle.fields.specs.Standing.{Stands}
use Rattle.fields.specs.Directory.{directory_size}
use Rattle.fields.proofs.Standing.{stands_rest, stands_inside, stands_as}
use Rattle.fields.proofs.Lines.{cues_fields}
use Rattle.rows.specs.Rows.{put_row, put_rows}
use Rattle.rows.proofs.Written.{put_next}
use Rattle.std.specs.Prelude.{Ok}
use Rattle.running.specs.Running.{Left, stopped, ran_of, stop_of, reached, RanAs}
use Rattle.running.specs.Sets.{Fits, sets_of}

-- ---- What reading left

-- A list's part of n fields.
abbrev pub cues_in : List ℕ → ℕ → ℕ → List ℕ
cues_in fields from n = take (from + n - from) (drop from fields)

module _ {k : Case} {fields directory : List ℕ} {h : Header} {initial plan : ℕ} (left : Left k fields directory h initial plan) where
  pub left_sound : Sound k
  left_sound = sound left.read.text k left.read.reads

  left_ranges : InRanges k
  left_ranges = read_in_ranges left.read.text k left.read.reads

  set_fits : (n : ℕ) → h.propositions ≤ 64 * n → (s : List ℕ) → SetBelow k.head s → Fits n s
  set_fits n enough s =
      let all : k.head.propositions ≤ 64 * n = subst (λ (x : Header). x.propositions ≤ 64 * n) left.head enough in
      each_weaken (λ p. p < k.head.propositions) (λ p. p < 64 * n) (propositions_of s) (λ p b. omega arith)

  pub few_propositions : h.propositions ≤ proposition_most
  few_propositions = subst (λ (x : Header). x.propositions ≤ proposition_most) (sym left.head) left_sound.head_good.few_propositions

  plan_long : length k.plan ≡ h.cues
  plan_long = left_sound.plan_length ∙ ap (λ (x : Header). x.cues) (sym left.head)

  -- The letter and the cues of the P line.
  plan_stands : Stands fields plan (80 ∷ k.plan)
  plan_stands = stands_as fields plan (line_fields (cues_line k.plan)) (80 ∷ k.plan) (cues_fields k.plan) left.finds.plan_here

  pub actions_listed : h.actions ≤ length directory
  unfolding directory_size
  actions_listed =
      let few = subst (λ (x : Header). x.actions ≤ 1024) (sym left.head) left_sound.head_good.few_actions in
      let long = left.long in
      omega arith

  module _ (a : ℕ) (known : a < h.actions) where
    known_here : a < k.head.actions
    known_here = subst (λ (x : Header). a < x.actions) left.head known

    pub action_stands : Stands fields (get_or directory a 0) (line_fields (action_line (action_at k.actions a)))
    action_stands = left.finds.action_here a known_here

    action_good : GoodAction (action_at k.actions a)
    unfolding action_at
    action_good =
        let known = known_here in
        let count = left_sound.actions_length in
        each_at GoodAction k.actions a no_action left_sound.actions_good (omega arith)

    -- Its sets lie in as many words as the model's propositions take.
    pub action_fits : (n : ℕ) → h.propositions ≤ 64 * n → Each (Fits n) (sets_of (action_at k.actions a))
    unfolding action_at
    action_fits n enough =
        let known = known_here in
        let count = left_sound.actions_length in
        let b = each_at (ActionBelow k.head) k.actions a no_action left_ranges.actions_below (omega arith) in
        let fits = set_fits n enough in
        each_cons (Fits n) _ _ (fits _ b.needed_below) (each_cons (Fits n) _ _ (fits _ b.forbidden_below)
        (each_cons (Fits n) _ _ (fits _ b.added_below) (each_cons (Fits n) _ _ (fits _ b.deleted_below) (each_nil (Fits n)))))

  -- The cues follow the letter.
  pub cues_inside : plan + 1 + h.cues ≤ length fields
  cues_inside =
      let all = stands_inside fields plan (80 ∷ k.plan) plan_stands (omega arith) in
      let long = plan_long in
      omega arith

  cues_are : cues_in fields (plan + 1) h.cues ≡ k.plan
  cues_are =
      let long = plan_long in
      let here = stands_rest fields plan 80 k.plan plan_stands in
      let count : plan + 1 + h.cues - (plan + 1) ≡ length k.plan = omega arith in
      ap₂ take count here.here ∙ take-append_seam k.plan here.rest

  pub cues_long : length (cues_in fields (plan + 1) h.cues) ≡ h.cues
  cues_long = ap length cues_are ∙ plan_long

  -- The action of the cue after i cues.
  pub cue_due : (i n : ℕ) → i ≡ n → n < length (cues_in fields (plan + 1) h.cues)
      → (i < h.cues) × (get_or (cues_in fields (plan + 1) h.cues) n 0 ≡ get_or k.plan i 0)
  cue_due i n e more =
      (omega (arith, cues_long), ap (λ (l : List ℕ). get_or l n 0) cues_are ∙ ap (λ (m : ℕ). get_or k.plan m 0) (sym e))

  pub cue_known : (i a : ℕ) → i < h.cues → a ≡ get_or k.plan i 0 → a < h.actions
  cue_known i a more e =
      let long = plan_long in
      let below : get_or k.plan i 0 < k.head.actions = each_at (λ x. x < k.head.actions) k.plan i 0 left_sound.plan_below (omega arith) in
      let same = ap (λ (x : Header). x.actions) left.head in
      omega arith

pub few_cues : (k : Case) (fields directory : List ℕ) (h : Header) (initial plan : ℕ) → Left k fields directory h initial plan → h.cues ≤ 1000
few_cues k fields directory h initial plan left = subst (λ (x : Header). x.cues ≤ 1000) (sym left.head) (left_sound left).head_good.few_cues

-- ---- One step

step_yes : (s : List ℕ) (a : Action) (ok : Bool) (t : List ℕ) → (ok, t) ≡ step s a → ok ≡ true → (applies s a ≡ true) × (t ≡ next s a)
unfolding step
step_yes s a ok t e good = go (applies s a) refl e
  where
    go : (b : Bool) → applies s a ≡ b → ◌≡◌ {A = Bool × List ℕ} (ok, t) (elim b as (λ x. Bool × List ℕ) [ true ↦ (true, next s a) | false ↦ (false, s) ])
        → (applies s a ≡ true) × (t ≡ next s a)
    go true q e = (q, ap (λ (p : Bool × List ℕ). p.1) e)
    go false q e = absurd (false≢true (sym (ap (λ (p : Bool × List ℕ). p.0) e) ∙ good))

step_no : (s : List ℕ) (a : Action) (ok : Bool) (t : List ℕ) → (ok, t) ≡ step s a → ok ≡ false → applies s a ≡ false
unfolding step
step_no s a ok t e bad = go (applies s a) refl e
  where
    go : (b : Bool) → applies s a ≡ b → ◌≡◌ {A = Bool × List ℕ} (ok, t) (elim b as (λ x. Bool × List ℕ) [ true ↦ (true, next s a) | false ↦ (false, s) ])
        → applies s a ≡ false
    go true q e = absurd (false≢true (sym bad ∙ ap (λ (p : Bool × List ℕ). p.0) e))
    go false q e = q

stop_next : (actions : List Action) (a : ℕ) (rest : List ℕ) (s t : List ℕ) (i : ℕ) → applies s (action_at actions a) ≡ true → t ≡ next s (action_at actions a)
    → first_stop actions (a ∷ rest) s i ≡ first_stop actions rest t (i + 1)
unfolding first_stop
stop_next actions a rest s t i e q =
    ap (λ (b : Bool). elim b as (λ x. Option ℕ) [ true ↦ first_stop actions rest (next s (action_at actions a)) (i + 1) | false ↦ some i ]) e
    ∙ ap (λ (x : List ℕ). first_stop actions rest x (i + 1)) (sym q)

stop_here : (actions : List Action) (a : ℕ) (rest : List ℕ) (s : List ℕ) (i : ℕ) → applies s (action_at actions a) ≡ false
    → first_stop actions (a ∷ rest) s i ≡ some i
unfolding first_stop
stop_here actions a rest s i e =
    ap (λ (b : Bool). elim b as (λ x. Option ℕ) [ true ↦ first_stop actions rest (next s (action_at actions a)) (i + 1) | false ↦ some i ]) e

-- Of a list whose members from i on are known: those after the first of them, and the whole where there is no other.
drop_next : (ss : List (List ℕ)) (i : ℕ) (s : List ℕ) (rest : List (List ℕ)) → drop i ss ≡ s ∷ rest → drop (i + 1) ss ≡ rest
drop_next ss i s rest e = sym (drop-drop 1 i ss) ∙ ap (drop 1) e

take_whole : (ss : List (List ℕ)) (n : ℕ) → drop n ss ≡ [] → take n ss ≡ ss
take_whole ss n e = sym (append-nil (take n ss)) ∙ ap (λ (x : List (List ℕ)). take n ss ++ x) (sym e) ∙ take-append-drop n ss

-- ---- The run so far

-- i cues are taken: s is state i, and the states before it are written.
pub record Reached (k : Case) (before s l : List ℕ) (i : ℕ) : Type 0 where
  pub stop : stop_of k ≡ first_stop k.actions (drop i k.plan) s (i + 1)
  pub later : drop i (states_of k) ≡ states k.actions (drop i k.plan) s
  pub rows : l ≡ put_rows before 0 (take i (states_of k))

pub reached_none : (k : Case) (l s : List ℕ) → s ≡ k.initial → Reached k l s l 0
unfolding states_of
reached_none k l s q = record {
  stop = ap (λ (x : List ℕ). first_stop k.actions k.plan x 1) (sym q);
  later = ap (λ (x : List ℕ). states k.actions k.plan x) (sym q);
  rows = refl;
}

-- One turn more: state i is written, which makes m of the list l.
module _ {k : Case} {fields directory : List ℕ} {h : Header} {initial plan : ℕ} (left : Left k fields directory h initial plan)
    {before s l : List ℕ} {i : ℕ} (w : Reached k before s l i) {m : List ℕ} (row : m ≡ put_row l i s) where
  written : (rest : List (List ℕ)) → drop i (states_of k) ≡ s ∷ rest → m ≡ put_rows before 0 (take (i + 1) (states_of k))
  written rest here =
      let none : i ≡ 0 + i = omega arith in
      row ∙ ap₂ (λ (x : List ℕ) (n : ℕ). put_row x n s) w.rows none ∙ put_next (states_of k) i s rest before 0 here
      ∙ ap (λ (n : ℕ). put_rows before 0 (take n (states_of k))) (sym (add-one i))

  -- A cue with action a is due, and its step is known.
  module _ (a : ℕ) (more : i < h.cues) (e : a ≡ get_or k.plan i 0) (ok : Bool) (t : List ℕ)
      (is : (x : Action) → GoodAction x → Stands fields (get_or directory a 0) (line_fields (action_line x)) → (ok, t) ≡ step s x) where
    steps : (ok, t) ≡ step s (action_at k.actions a)
    steps =
        let known = cue_known left i a more e in
        is (action_at k.actions a) (action_good left a known) (action_stands left a known)

    -- That cue, and those after it.
    due : drop i k.plan ≡ a ∷ drop (i + 1) k.plan
    due =
        let long = plan_long left in
        drop-cons k.plan i 0 (omega arith) ∙ ap₂ (λ (y m : ℕ). y ∷ drop m k.plan) (sym e) (sym (add-one i))

    -- State i and those after it.
    due_states : drop i (states_of k) ≡ s ∷ states k.actions (drop (i + 1) k.plan) (next s (action_at k.actions a))
    unfolding states
    due_states = w.later ∙ ap (λ (plan : List ℕ). states k.actions plan s) due

    pub reached_next : ok ≡ true → Reached k before t m (i + 1)
    reached_next good =
        let y = step_yes s (action_at k.actions a) ok t steps good in
        record {
          stop = w.stop ∙ ap (λ (plan : List ℕ). first_stop k.actions plan s (i + 1)) due
              ∙ stop_next k.actions a (drop (i + 1) k.plan) s (t) (i + 1) y.0 y.1;
          later = drop_next (states_of k) i s _ due_states ∙ ap (states k.actions (drop (i + 1) k.plan)) (sym y.1);
          rows = written _ due_states;
        }

    pub reached_stop : ok ≡ false → RanAs k (stopped (i + 1)) before m
    reached_stop fails =
        let stops : stop_of k ≡ some (i + 1) =
        w.stop ∙ ap (λ (plan : List ℕ). first_stop k.actions plan s (i + 1)) due
        ∙ stop_here k.actions a (drop (i + 1) k.plan) s (i + 1)
        (step_no s (action_at k.actions a) ok t steps fails) in
        record {
          answer = sym (ap ran_of stops);
          written = written _ due_states ∙ sym (ap (λ (o : Option ℕ). put_rows before 0 (reached o (states_of k))) stops);
        }

  -- No cue is due.
  pub reached_all : h.cues ≤ i → RanAs k (Ok tt) before m
  unfolding states first_stop
  reached_all over =
      let long = plan_long left in
      let none_left_lem : drop i k.plan ≡ [] = drop_of_length-le k.plan {i = i} (omega arith) in
      let runs : stop_of k ≡ none = w.stop ∙ ap (λ (plan : List ℕ). first_stop k.actions plan s (i + 1)) none_left_lem in
      let last : drop i (states_of k) ≡ s ∷ [] = w.later ∙ ap (λ (plan : List ℕ). states k.actions plan s) none_left_lem in
      let whole : take (i + 1) (states_of k) ≡ states_of k = take_whole (states_of k) (i + 1) (drop_next (states_of k) i s [] last) in
      record {
        answer = sym (ap ran_of runs);
        written = written [] last ∙ ap (put_rows before 0) whole ∙ sym (ap (λ (o : Option ℕ). put_rows before 0 (reached o (states_of k))) runs);
      }
