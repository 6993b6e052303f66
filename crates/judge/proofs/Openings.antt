-- The rows that open a case, from one function to the next. Assumes nothing.
use mathlib.Core.Path.{◌≡◌, sym, ap, subst, ◌∙◌}
use mathlib.Core.List.{List}
use mathlib.Core.Option.{none}
use Prim.Native.Nat.{ℕ, ◌≤◌}
use Rattle.std.specs.Prelude.{Result, Ok, Err}
use lib.ListN.{length, replicate}
use Rattle.rules.specs.declared.Answer.{Answer}
use Rattle.rules.specs.State.{first_stop}
use Rattle.rules.specs.Result.{found, refused}
use Rattle.rules.specs.Case.{Case, read_case}
use Rattle.rules.specs.Tree.{Tree, least_unclaimed}
use Rattle.rules.specs.Verdict.{Found, text_most}
use Rattle.rules.proofs.Judgement.Rows.{from_constraints, from_tree, from_run, from_text}
use Rattle.judge.specs.declared.Opened.{Opened}
use Rattle.judge.specs.Phases.{FieldsHeld, Walked, Claimed, from_claimed, RowsPass, Passes, OpensAs}
use Rattle.judge.proofs.Verdicts.{claims_right, run_right, text_reads, tree_claimed, check_goes_on, fields_held}

abbrev Rest : Type 0
Rest = Case → Tree → Found Tree

-- A refusal, and the state list zero.
pub goes_refused : (rows : Rest → Found Tree) (k : Case) (fields : List ℕ) (size : ℕ) (r : Result Opened Answer) (states work : List ℕ) (a : Answer)
    → ((rest : Rest) → rows rest ≡ refused a) → r ≡ Err a → states ≡ replicate size 0 → RowsPass rows k fields size r states work
goes_refused rows k fields size r states work a e q zeros =
    subst (λ (x : Result Opened Answer). RowsPass rows k fields size x states work) (sym q) (e, zeros)

-- Row 9 is passed.
pub goes_claimed : {k : Case} {fields : List ℕ} {o : Opened} {states work : List ℕ} (x : Walked k fields o states work)
    → least_unclaimed x.claimed k.head.cues 1 ≡ none
    → (c : Claimed k fields o states work) × ((rest : Rest) → from_claimed rest k ≡ rest k c.walked.tree)
goes_claimed {k = k} x e = (record { walked = x; claims = e }, λ rest. claims_right rest k x.tree x.claimed x.walks e)

-- Row 5 is passed, and leaves a list as long.
pub goes_ran : (k : Case) (fields : List ℕ) (m n : ℕ) (r : Result Opened Answer) (states work : List ℕ) → first_stop k.actions k.plan k.initial 1 ≡ none → m ≡ n
    → RowsPass (λ rest. from_claimed rest k) k fields m r states work → RowsPass (λ rest. from_run (from_claimed rest) k) k fields n r states work
goes_ran k fields m n r states work runs size = go r
  where
    same : (rest : Rest) → from_run (from_claimed rest) k ≡ from_claimed rest k
    same rest = run_right (from_claimed rest) k runs

    go : (x : Result Opened Answer) → RowsPass (λ rest. from_claimed rest k) k fields m x states work → RowsPass (λ rest. from_run (from_claimed rest) k) k fields n x states work
    go (Ok o) y = (y.0, λ rest. same rest ∙ y.1 rest)
    go (Err a) y = (λ rest. same rest ∙ y.0 rest, y.1 ∙ ap (λ (l : ℕ). replicate l 0) size)

module _ (text fields : List ℕ) (size : ℕ) (r : Result Opened Answer) (states work : List ℕ) where
  -- The rows of a text that was read.
  pub goes_opens : (k : Case) → read_case text ≡ found k → length text ≤ text_most → RowsPass (λ rest. from_run (from_claimed rest) k) k fields size r states work
      → OpensAs text fields size r states work
  goes_opens k e short = go r
    where
      same : (rest : Rest) → from_text (from_claimed rest) text ≡ from_run (from_claimed rest) k
      same rest = text_reads (from_claimed rest) text k short e

      go : (x : Result Opened Answer) → RowsPass (λ rest. from_run (from_claimed rest) k) k fields size x states work → OpensAs text fields size x states work
      go (Ok o) y =
          let opens = y.0.walked.opens in
          (k, record { claimed = y.0; reads = e; stands = opens.stands; last = opens.last; rows = λ rest. same rest ∙ y.1 rest })
      go (Err a) y = (λ rest. same rest ∙ y.0 rest, y.1)

  module _ (said : OpensAs text fields size r states work) where
    pub opening_passes : (o : Opened) → r ≡ Ok o → (k : Case) × Passes text fields o states work k
    opening_passes o e = subst (λ (x : Result Opened Answer). OpensAs text fields size x states work) e said

    pub opening_refuses : (a : Answer) → r ≡ Err a
        → ((rest : Rest) → from_text (from_claimed rest) text ≡ refused a) × (states ≡ replicate size 0)
    opening_refuses a e = subst (λ (x : Result Opened Answer). OpensAs text fields size x states work) e said

-- A case that passes leaves the check its constraints, and its fields.
module _ {text fields : List ℕ} {o : Opened} {states work : List ℕ} {k : Case} (p : Passes text fields o states work k) where
  goes_to : from_text from_tree text ≡ from_constraints k p.claimed.walked.tree
  goes_to = check_goes_on text ∙ p.rows from_constraints

  pub passes_check : from_text from_tree text ≡ from_tree k
  passes_check =
      let w = p.claimed.walked in
      goes_to ∙ sym (tree_claimed k w.tree w.claimed w.walks p.claimed.claims)

  pub passes_fields : FieldsHeld (from_text from_tree text) fields
  passes_fields =
      subst (λ (f : Found Tree). FieldsHeld f fields) (sym goes_to) (fields_held k p.claimed.walked.tree fields p.claimed.walked.opens.read p.stands)
