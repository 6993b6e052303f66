-- What the write call answers beside the check's answer (02, Card 2): the same, but for an output that is too short. Assumes nothing.
use mathlib.Core.Path.{◌≡◌, refl, ap, subst, sym}
use mathlib.Core.Bool.{Bool, true, false}
use mathlib.Core.List.{List}
use Prim.Native.Nat.{ℕ, ◌≤◌, ◌<◌}
use lib.ListN.{length}
use borrow.Author.Tests.{lt-ltb, le-ltb}
use Rattle.rules.specs.declared.Answer.{Answer}
use Rattle.rules.specs.declared.Answer.TheVariants.{Accepted, ShortOutput}
use Rattle.rules.specs.Result.{Result, found, refused, ◌>>=◌, ◌>>◌}
use Rattle.rules.specs.Case.{Case}
use Rattle.rules.specs.Tree.{Tree}
use Rattle.rules.specs.Verdict.{refusal, Lent, Found, reported, check, answer_of}
use Rattle.rules.specs.Demands.{IsAccepted, OfRead, Demand2, Demand3}
use Rattle.rules.specs.Writing.{written, output_long, write, WriteAnswers}
use Rattle.rules.proofs.Judgement.Theorem.{accepts_rules, shows_not_zero}
use Rattle.rules.proofs.Judgement.Refusals.{CheckSays, check_says}
use Rattle.rules.proofs.Demands.{demand_2, demand_3}

-- The output is as long as needed, or not.
pub output_fits : (size : ℕ) (k : Case) → length (written k) ≤ size → output_long size k ≡ found tt
unfolding output_long
output_fits size k h =
    ap (λ (b : Bool). elim b as (λ b. Result (Unit {0})) [ true ↦ refused (ShortOutput (length (written k))) | false ↦ found tt ]) (le-ltb size (length (written k)) h)

pub output_short : (size : ℕ) (k : Case) → size < length (written k) → output_long size k ≡ refused (ShortOutput (length (written k)))
unfolding output_long
output_short size k h =
    ap (λ (b : Bool). elim b as (λ b. Result (Unit {0})) [ true ↦ refused (ShortOutput (length (written k))) | false ↦ found tt ]) (lt-ltb size (length (written k)) h)

-- The rest of the write call, after the check.
abbrev pub then_output : ℕ → Found Tree → Found Tree
then_output size f = f >>= λ (k, t). output_long size k >> found (k, t)

module _ (text : List ℕ) (lists : List Lent) (size : ℕ) where
  -- An acceptance is no refusal.
  not_refused : (r : Answer) → CheckSays lists text (refused r) → IsAccepted (reported r) → ⊥
  not_refused r b e = shows_not_zero b e

  of_accepted : (k : Case) (t : Tree)
      → (length (written k) ≤ size → reported (answer_of (then_output size (found (k, t)))) ≡ reported (answer_of {A = Tree} (found (k, t))))
      × (size < length (written k) → reported (answer_of (then_output size (found (k, t)))) ≡ refusal 14 0 (length (written k)))
  unfolding reported
  of_accepted k t = (
    λ h. ap (λ (o : Result (Unit {0})). reported (answer_of (◌>>◌ {B = Case × Tree} o (found (k, t))))) (output_fits size k h),
    λ h. ap (λ (o : Result (Unit {0})). reported (answer_of (◌>>◌ {B = Case × Tree} o (found (k, t))))) (output_short size k h),
  )

  pub write_answers : WriteAnswers text lists size (reported (answer_of (write lists size text)))
  unfolding write reported
  write_answers = go (check lists text) refl (check_says lists text)
    where
      go : (f : Found Tree) → check lists text ≡ f → CheckSays lists text f → WriteAnswers text lists size (reported (answer_of (then_output size f)))
      go (found (k, t)) e a =
          record {
            checked = reported (Accepted k.head.cues k.head.nodes);
            is = ap (λ (f : Found Tree). reported (answer_of f)) (sym e);
            demand2 = subst (λ (f : Found Tree). Demand2 text lists (reported (answer_of f))) e (demand_2 text lists);
            demand3 = subst (λ (f : Found Tree). Demand3 text lists (reported (answer_of f))) e (demand_3 text lists);
            refused = λ no. absurd (no refl);
            accepted = λ y. subst (OfRead _) (sym (accepts_rules lists text k t e).0) (of_accepted k t);
          }
      go (refused r) e b =
          record {
            checked = reported r;
            is = ap (λ (f : Found Tree). reported (answer_of f)) (sym e);
            demand2 = subst (λ (f : Found Tree). Demand2 text lists (reported (answer_of f))) e (demand_2 text lists);
            demand3 = subst (λ (f : Found Tree). Demand3 text lists (reported (answer_of f))) e (demand_3 text lists);
            refused = λ no. refl;
            accepted = λ y. absurd (not_refused r b y);
          }
