-- The check call accepts just the texts that are readable, inside the limits and keep the rules: what it finds passes every row, and a case
-- that keeps the rules is let pass by each row in turn.
use mathlib.Core.Path.{◌≡◌, refl, sym, ◌∙◌, ap, subst}
use mathlib.Core.Bool.{true, ◌&&◌, false≢true}
use mathlib.Core.List.{List, [], ◌∷◌}
use mathlib.Core.Logic.{◌↔◌}
use mathlib.Core.Option.{Option}
use Prim.Native.Nat.{ℕ, ◌+◌, ◌-◌, ◌≤◌, ◌<◌}
use native.Mathlib.Omega.{arith}
use lib.ListN.{length, get_or}
use Rattle.rules.specs.declared.Answer.{Answer}
use Rattle.rules.specs.declared.Answer.TheVariants.{Inapplicable, Unclaimed}
use Rattle.rules.specs.State.{State}
use Rattle.rules.specs.Result.{Result, found, refused, ◌>>=◌, ◌>>◌}
use Rattle.rules.specs.Case.{Constraint, O, B, F, W, Case, read_case}
use Rattle.rules.specs.Tree.{Tree, preorder, is_in, may_claim, level_count, walk_tree}
use Rattle.rules.specs.Verdict.{Found, Lent, reported, lists_long, text_most, text_short, unless, states_of, plan_runs, all_claimed, none_broken, check, answer_of, refused_not_by, readable, levels_fit, inside_limits}
use Rattle.rules.specs.Rules.{cue_action, CueApplies, claimants, Rules}
use Rattle.rules.specs.Refusals.{Each, LongEnough, Claimed, KeepsAll, broken_number, Shows, short, long, unread, outside, cue, other, letter, deep, claim, lacking, over, unclaimed, broken}
use Rattle.rules.specs.Demands.{IsAccepted, OfRead}
use Rattle.rules.proofs.Statements.{states_unique, are_states}
use Rattle.rules.proofs.Judgement.Each.{both_true, first_in}
use Rattle.rules.proofs.Judgement.Sound.{sound}
use Rattle.rules.proofs.Judgement.Preorder.{height, claimed_by, TreeOf}
use Rattle.rules.proofs.Judgement.WalkFinds.{walk_finds, any_claim, levels_within, within_levels}
use Rattle.rules.proofs.Judgement.Claims.{claims_ahead, all_claimed_lem}
use Rattle.rules.proofs.Judgement.Run.{no_stop}
use Rattle.rules.proofs.Judgement.Kept.{none_broken_lem}
use Rattle.rules.proofs.Judgement.Rows.{from_constraints, from_claims, from_tree, from_run}
use Rattle.rules.proofs.Judgement.Refusals.{Accepts, CheckSays, check_says, ListsSay, lists_say, TextSays, short_says}

-- ---- Rows that let pass

lists_pass : (lists : List Lent) → Each LongEnough lists → lists_long lists ≡ found tt
lists_pass lists l = go (lists_long lists) (lists_say lists)
  where
    go : (o : Result (Unit {0})) → ListsSay lists o → o ≡ found tt
    go (found u) f = refl
    go (refused r) (w, e) =
        let h = l w.it (first_in lists w) in
        let b = w.bad in
        absurd (omega arith)

text_passes : (text : List ℕ) → length text ≤ text_most → text_short text ≡ found tt
text_passes text h = go (text_short text) (short_says text)
  where
    go : (o : Result (Unit {0})) → TextSays text o → o ≡ found tt
    go (found u) f = refl
    go (refused r) (w, e) = absurd (omega arith)

accepted_rules : (lists : List Lent) (text : List ℕ) (k : Case) (t : Tree) → Accepts lists text k t → (rules : Rules k) × (rules.tree ≡ t)
accepted_rules lists text k t a =
    let w = a.covered.grown in (
      record {
        states = states_of k;
        are = are_states k;
        runs = w.runs.runs;
        tree = t;
        preordered = w.preordered;
        fitting = w.fitting;
        claimed = λ i h.
            let e : i + 1 - 1 ≡ i = omega arith in
            a.covered.claimed (i + 1) (omega arith) (omega arith) ∙ ap (λ (n : ℕ). get_or k.plan n 0 ∷ []) e;
        kept = a.kept;
      },
      refl,
    )

-- An accepted text reads as the case that is found, and the tree that is found keeps its rules.
pub accepts_rules : (lists : List Lent) (text : List ℕ) (k : Case) (t : Tree) → check lists text ≡ found (k, t)
    → (read_case text ≡ found k) × ((rules : Rules k) × (rules.tree ≡ t))
accepts_rules lists text k t e =
    let a : Accepts lists text k t = subst (λ (f : Found Tree). CheckSays lists text f) e (check_says lists text) in
    (a.covered.grown.runs.reads.reading, accepted_rules lists text k t a)

pub position_claimed : (k : Case) → Rules k → (j : ℕ) → 1 ≤ j → j ≤ k.head.cues → Claimed k j
position_claimed k rules j lo hi =
    let e : j ≡ j - 1 + 1 = omega arith in
    ap (λ (n : ℕ). claimants n k.nodes) e ∙ rules.claimed (j - 1) (omega arith)

-- The states of the rules are those of the case.
pub same_states : (k : Case) (rules : Rules k) → rules.states ≡ states_of k
same_states k rules = states_unique k rules.states (states_of k) rules.are (are_states k)

pub plan_passes : (k : Case) → Rules k → plan_runs k ≡ found tt
unfolding plan_runs states_of cue_action
plan_passes k rules =
    let runs = subst (λ (ss : List State). (i : ℕ) → i < length k.plan → CueApplies k ss i) (same_states k rules) rules.runs in
    ap (λ (o : Option ℕ). unless (Inapplicable k.plan_line) o) (no_stop k.actions k.plan k.initial 1 runs)

constraints_pass : (k : Case) (rules : Rules k) → none_broken k rules.tree ≡ found tt
unfolding none_broken
constraints_pass k rules =
    let kept = subst (λ (ss : List State). Each (KeepsAll k ss) (preorder rules.tree)) (same_states k rules) rules.kept in
    ap (λ (o : Option Answer). unless (λ r. r) o) (none_broken_lem k (states_of k) (k.plan_line + 1) (preorder rules.tree) kept)

-- A case that keeps its rules passes from row 5 on with its own tree, unless that is too high.
pub rules_pass : (text : List ℕ) (k : Case) → read_case text ≡ found k → (rules : Rules k) → height rules.tree ≤ level_count
    → from_run from_tree k ≡ found (k, rules.tree)
unfolding from_run from_tree all_claimed is_in
rules_pass text k reading rules shallow =
    let good = sound text k reading in
    let w = claims_ahead k.head k.plan k.nodes [] good.nodes_good (position_claimed k rules) in
    let tree : TreeOf k (may_claim k.plan) rules.tree =
    record { preordered = rules.preordered; fitting = rules.fitting; shallow = shallow; passing = w.0 } in
    let all : (j : ℕ) → 1 ≤ j → j < 1 + k.head.cues → is_in j (claimed_by k.nodes []) ≡ true = λ j lo hi. w.1 j lo (omega arith) in
    ap (λ (o : Result (Unit {0})). o >> from_tree k) (plan_passes k rules)
    ∙ ap (λ (x : Result (Tree × List ℕ)). x >>= λ (t, claimed). from_claims k t claimed) (walk_finds k (may_claim k.plan) rules.tree tree)
    ∙ ap (λ (o : Option ℕ). unless (Unclaimed k.plan_line) o >> from_constraints k rules.tree)
    (all_claimed_lem (claimed_by k.nodes []) k.head.cues 1 all)
    ∙ ap (λ (o : Result (Unit {0})). o >> found (k, rules.tree)) (constraints_pass k rules)

-- The rows before.
pub rows_pass : (lists : List Lent) (text : List ℕ) (k : Case) → Each LongEnough lists → length text ≤ text_most → read_case text ≡ found k
    → check lists text ≡ from_run from_tree k
unfolding check from_tree from_run
rows_pass lists text k l h reading =
    ap (λ (o : Result (Unit {0})). o >> (text_short text >> (read_case text >>= λ k. from_run from_tree k))) (lists_pass lists l)
    ∙ ap (λ (o : Result (Unit {0})). o >> (read_case text >>= λ k. from_run from_tree k)) (text_passes text h)
    ∙ ap (λ (r : Result Case). r >>= λ k. from_run from_tree k) reading

-- ---- The limits

-- Of a text that reads as a case: inside the limits is that it is not too long, and that the tree's rows alone don't say 7.
limits_read : (text : List ℕ) (k : Case) → read_case text ≡ found k
    → inside_limits text ≡ (refused_not_by 2 (text_short text) && refused_not_by 7 (walk_tree k any_claim))
unfolding inside_limits
limits_read text k e = ap (λ (r : Result Case). refused_not_by 2 (text_short text) && (refused_not_by 4 r && levels_fit r)) e

text_within : (text : List ℕ) → refused_not_by 2 (text_short text) ≡ true → length text ≤ text_most
unfolding reported
text_within text h = go (text_short text) (short_says text) h
  where
    go : (o : Result (Unit {0})) → TextSays text o → refused_not_by 2 o ≡ true → length text ≤ text_most
    go (found u) f h = f
    go (refused r) (w, e) h = absurd (false≢true (sym (ap (λ (x : Answer). refused_not_by {A = Unit {0}} 2 (refused x)) e) ∙ h))

-- ---- Acceptance

no_order : (d : Constraint) → broken_number d ≡ 0 → ⊥
no_order (O i j) e = omega arith
no_order (B s p u) e = omega arith
no_order (F s p u) e = omega arith
no_order (W s u p v) e = omega arith

-- No refusal has number 0.
pub shows_not_zero : {lists : List Lent} {text : List ℕ} {number line item : ℕ} → Shows lists text number line item → number ≡ 0 → ⊥
shows_not_zero (short l) e = omega arith
shows_not_zero (long l h) e = omega arith
shows_not_zero (unread w f) e = omega arith
shows_not_zero (outside w f) e = omega arith
shows_not_zero (cue w h f n) e = omega arith
shows_not_zero (other w n) e = omega arith
shows_not_zero (letter w o n) e = omega arith
shows_not_zero (deep w f) e = omega arith
shows_not_zero (claim w f h n) e = omega arith
shows_not_zero (lacking w) e = omega arith
shows_not_zero (over w) e = omega arith
shows_not_zero (unclaimed w l h n f) e = omega arith
shows_not_zero (broken c x) e = no_order x.bad.it e

accepted_or : (f : Found Tree) → IsAccepted (reported (answer_of f)) → (lists : List Lent) (text : List ℕ) → CheckSays lists text f
    → (k : Case) × (t : Tree) × (f ≡ found (k, t))
accepted_or (found (k, t)) a lists text s = (k, t, refl)
accepted_or (refused r) a lists text s = absurd (shows_not_zero s a)

pub accepts : (lists : List Lent) (text : List ℕ) (k : Case) (t : Tree) → check lists text ≡ found (k, t) → IsAccepted (reported (answer_of (check lists text)))
unfolding reported
accepts lists text k t e = ap (λ (f : Found Tree). (reported (answer_of f)).number) e

-- Demand 2's first half: for lists long enough, a text is accepted exactly if it is readable, inside the limits and keeps the rules.
pub accepts_iff : (lists : List Lent) (text : List ℕ) → Each LongEnough lists
    → IsAccepted (reported (answer_of (check lists text)))
    ↔ ((readable text ≡ true) × (inside_limits text ≡ true) × OfRead Rules (read_case text))
unfolding readable
accepts_iff lists text l = (to, λ w. from (read_case text) refl w.1 w.2)
  where
    to : IsAccepted (reported (answer_of (check lists text))) → (readable text ≡ true) × (inside_limits text ≡ true) × OfRead Rules (read_case text)
    to a =
        let (k, t, e) = accepted_or (check lists text) a lists text (check_says lists text) in
        let s : Accepts lists text k t = subst (λ (f : Found Tree). CheckSays lists text f) e (check_says lists text) in
        let w = s.covered.grown in
        let r = w.runs.reads in (
          ap (λ (x : Result Case). refused_not_by 3 x) r.reading,
          limits_read text k r.reading
              ∙ ap (λ (o : Result (Unit {0})). refused_not_by 2 o && refused_not_by 7 (walk_tree k any_claim)) (text_passes text r.admits.short_text)
              ∙ within_levels k t w.preordered w.fitting s.shallow,
          subst (λ (x : Result Case). OfRead Rules x) (sym r.reading) (accepted_rules lists text k t s).0,
        )

    from : (r : Result Case) → read_case text ≡ r → inside_limits text ≡ true → OfRead Rules (read_case text) → IsAccepted (reported (answer_of (check lists text)))
    from (found k) e i z =
        let rules : Rules k = subst (λ (x : Result Case). OfRead Rules x) e z in
        let w = both_true (refused_not_by 2 (text_short text)) (refused_not_by 7 (walk_tree k any_claim)) (sym (limits_read text k e) ∙ i) in
        let shallow = levels_within k rules.tree rules.preordered rules.fitting w.1 in
        accepts lists text k rules.tree (rows_pass lists text k l (text_within text w.0) e ∙ rules_pass text k e rules shallow)
    from (refused r) e i z = absurd (subst (λ (x : Result Case). OfRead Rules x) e z)
