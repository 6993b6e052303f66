-- Demands 2 and 3 of the verdict. Demand 2 is `accepts_iff` and what `check_says` shows of a refusal; demand 3 follows, since what reading
-- guarantees lets the rules and the rewritings of a case agree. The widest form asks only that the answer is none of 1, 2, 3, 4 and 7.
-- Assumes nothing.
use mathlib.Core.Path.{◌≡◌, refl, ◌∙◌, ap, subst}
use mathlib.Core.List.{List, []}
use mathlib.Core.Logic.{◌↔◌}
use Prim.Native.Nat.{ℕ, ◌≤◌, ◌<◌}
use native.Mathlib.Decide.{dec_le}
use native.Mathlib.Nat.{lt_of_not-le}
use lib.ListN.{length}
use Rattle.rules.specs.declared.Answer.{Answer}
use Rattle.rules.specs.declared.Answer.TheVariants.{Accepted, ShortList, LongText, Unreadable, OutOfRange, Inapplicable, WrongTask, TooDeep, WrongClaim, Unclaimed, OrderBroken, BeforeBroken, AfterBroken, BetweenBroken, ShortOutput, TooManyChoices, NoChoice, WrongShape, WrongName, WrongId, WrongLetter, SurplusNode, MissingNode}
use Rattle.rules.specs.Result.{Result, found, refused, ◌>>=◌, ◌>>◌}
use Rattle.rules.specs.Case.{L, Case, read_case}
use Rattle.rules.specs.Tree.{Tree, is_in, may_claim, level_count}
use Rattle.rules.specs.Verdict.{Found, Lent, reported, lists_long, text_most, text_short, check, answer_of}
use Rattle.rules.specs.Rules.{Rules}
use Rattle.rules.specs.Refusals.{Each, LongEnough, Shows}
use Rattle.rules.specs.Rewriting.{AgreeingRewriting}
use Rattle.rules.specs.Demands.{OfRead, IsAccepted, Demand2, Demand3}
use Rattle.rules.proofs.Judgement.Sound.{Sound, sound}
use Rattle.rules.proofs.Judgement.Preorder.{height}
use Rattle.rules.proofs.Judgement.WalkFinds.{walk_too_deep}
use Rattle.rules.proofs.Judgement.Claims.{claims_ahead}
use Rattle.rules.proofs.Judgement.Rows.{from_claims, from_tree, from_run}
use Rattle.rules.proofs.Judgement.Refusals.{CheckSays, check_says, ListsSay, lists_say, TextSays, short_says}
use Rattle.rules.proofs.Judgement.Theorem.{accepts, accepts_iff, rules_pass, rows_pass, plan_passes, position_claimed}
use Rattle.rules.proofs.Rewritings.Statement.{Placed}
use Rattle.rules.proofs.Rewritings.Theorem.{agreement, record_decides}

pub demand_2 : (text : List ℕ) (lists : List Lent) → Demand2 text lists (reported (answer_of (check lists text)))
unfolding reported
demand_2 text lists = record { accepts = accepts_iff lists text; shows = λ n. refusal (check lists text) n (check_says lists text) }
  where
    refusal : (f : Found Tree) → (IsAccepted (reported (answer_of f)) → ⊥) → CheckSays lists text f
        → Shows lists text (reported (answer_of f)).number (reported (answer_of f)).line (reported (answer_of f)).item
    refusal (found (k, t)) n s = absurd (n refl)
    refusal (refused r) n s = s

-- What reading guarantees is what the rewritings ask of a case.
placed : (k : Case) → Sound k → Placed k
placed k s = record { planned = s.plan_length; positions = λ a i m. let g = s.nodes_good (L a i) m in (g.1, g.2) }

rewritings : (text : List ℕ) (r : Result Case) → read_case text ≡ r → OfRead Rules r ↔ OfRead AgreeingRewriting r
rewritings text (found k) e = agreement k (placed k (sound text k e))
rewritings text (refused r) e = (λ x. x, λ x. x)

pub demand_3 : (text : List ℕ) (lists : List Lent) → Demand3 text lists (reported (answer_of (check lists text)))
demand_3 text lists = record {
  accepts = λ long reads within.
      let a = accepts_iff lists text long in
      let w = rewritings text (read_case text) refl in
      (λ y. w.0 (a.0 y).2, λ y. a.1 (reads, within, w.1 y));
  decides = record_decides;
}

-- ---- The widest form

-- An answer that is none of 1, 2, 3, 4 and 7.
abbrev pub Settles : Answer → Type 0
Settles (Accepted cues nodes) = Unit {0}
Settles (ShortList i) = ⊥
Settles LongText = ⊥
Settles (Unreadable l i) = ⊥
Settles (OutOfRange l i) = ⊥
Settles (Inapplicable l i) = Unit {0}
Settles (WrongTask l) = Unit {0}
Settles (TooDeep l) = ⊥
Settles (WrongClaim l i) = Unit {0}
Settles (Unclaimed l i) = Unit {0}
Settles (OrderBroken l i) = Unit {0}
Settles (BeforeBroken l i) = Unit {0}
Settles (AfterBroken l i) = Unit {0}
Settles (BetweenBroken l i) = Unit {0}
Settles (ShortOutput i) = Unit {0}
Settles (TooManyChoices i) = Unit {0}
Settles (NoChoice i) = Unit {0}
Settles (WrongShape l i) = Unit {0}
Settles (WrongName l i) = Unit {0}
Settles (WrongId l) = Unit {0}
Settles (WrongLetter l) = Unit {0}
Settles (SurplusNode l) = Unit {0}
Settles (MissingNode l) = Unit {0}

-- A settled answer has passed rows 1 and 2.
settled_admits : (lists : List Lent) (text : List ℕ) → Settles (answer_of (check lists text)) → Each LongEnough lists × (length text ≤ text_most)
unfolding check from_tree from_run
settled_admits lists text s = go (lists_long lists) (lists_say lists) (text_short text) (short_says text) s
  where
    go : (o : Result (Unit {0})) → ListsSay lists o → (p : Result (Unit {0})) → TextSays text p
        → Settles (answer_of {A = Tree} (o >> (p >> (read_case text >>= λ k. from_run from_tree k)))) → Each LongEnough lists × (length text ≤ text_most)
    go (found u) l (found v) h s = (l, h)
    go (found u) l (refused r) (h, e) s = absurd (subst (λ (x : Answer). Settles x) e s)
    go (refused r) (l, e) p h s = absurd (subst (λ (x : Answer). Settles x) e s)

-- A case that keeps its rules with a tree that is too deep is refused as such.
rules_deep : (text : List ℕ) (k : Case) → read_case text ≡ found k → (rules : Rules k) → level_count < height rules.tree
    → (l : ℕ) × (from_run from_tree k ≡ refused (TooDeep l))
unfolding from_run from_tree is_in
rules_deep text k reading rules deep =
    let good = sound text k reading in
    let w = claims_ahead k.head k.plan k.nodes [] good.nodes_good (position_claimed k rules) in
    let d = walk_too_deep k (may_claim k.plan) rules.tree rules.preordered rules.fitting deep w.0 in (
      d.0,
      ap (λ (o : Result (Unit {0})). o >> from_tree k) (plan_passes k rules)
          ∙ ap (λ (x : Result (Tree × List ℕ)). x >>= λ (t, claimed). from_claims k t claimed) d.1,
    )

-- Whenever the answer is none of 1, 2, 3, 4 and 7, acceptance is that an agreeing rewriting exists.
pub demand_3_widest : (text : List ℕ) (lists : List Lent) → Settles (answer_of (check lists text))
    → IsAccepted (reported (answer_of (check lists text))) ↔ OfRead AgreeingRewriting (read_case text)
demand_3_widest text lists settles = (to, λ w. from (read_case text) refl w)
  where
    admits : Each LongEnough lists × (length text ≤ text_most)
    admits = settled_admits lists text settles

    to : IsAccepted (reported (answer_of (check lists text))) → OfRead AgreeingRewriting (read_case text)
    to a = (rewritings text (read_case text) refl).0 ((accepts_iff lists text admits.0).0 a).2

    from : (r : Result Case) → read_case text ≡ r → OfRead AgreeingRewriting (read_case text) → IsAccepted (reported (answer_of (check lists text)))
    from (refused r) e w = absurd (subst (λ (x : Result Case). OfRead AgreeingRewriting x) e w)
    from (found k) e w = go (dec_le (height rules.tree) level_count)
      where
        rules : Rules k
        rules = (agreement k (placed k (sound text k e))).1 (subst (λ (x : Result Case). OfRead AgreeingRewriting x) e w)

        passed : check lists text ≡ from_run from_tree k
        passed = rows_pass lists text k admits.0 admits.1 e

        go : Dec (height rules.tree ≤ level_count) → IsAccepted (reported (answer_of (check lists text)))
        go (yes shallow) = accepts lists text k rules.tree (passed ∙ rules_pass text k e rules shallow)
        go (no deep) =
            let d = rules_deep text k e rules (lt_of_not-le deep) in
            absurd (subst (λ (f : Found Tree). Settles (answer_of f)) (passed ∙ d.1) settles)
