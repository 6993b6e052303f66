-- What the call answers and leaves: a choice that was accepted, or a refusal. Assumes nothing.
use mathlib.Core.Path.{◌≡◌, sym, ap, ◌∙◌, subst}
use mathlib.Core.Bool.{Bool, true, false}
use mathlib.Core.List.{List}
use Prim.Native.Nat.{ℕ, ◌<◌, ◌≤◌}
use borrow.Author.Tests.{lt-ltb, le-ltb}
use lib.Dec.{ltb}
use lib.ListN.{replicate}
use Rattle.rules.specs.declared.Answer.{Answer}
use Rattle.rules.specs.declared.Answer.TheVariants.{TooManyChoices}
use Rattle.rules.specs.Result.{found, refused, ◌>>◌}
use Rattle.rules.specs.Case.{Case}
use Rattle.rules.specs.Tree.{Tree}
use Rattle.rules.specs.Verdict.{Found, answer_of, states_after}
use Rattle.rules.specs.Gaps.{empty_count, choice_count, choice_most, few_choices, tried_after}
use Rattle.records.specs.Records.{RecordsHeld}
use Rattle.judge.specs.Phases.{Answers}
use Rattle.finder.specs.declared.Discovery.{Discovery}
use Rattle.finder.specs.Finding.{is_found, from_choices, from_count, Finds}
use Rattle.finder.proofs.First.{tried_after_lem}

module _ {f : ℕ → Found Tree} {limited : ℕ → Type 0} {size : ℕ} {states work : List ℕ} (n : ℕ) (within : limited n) where
  -- What a choice's check answers is the call's answer.
  pub accepted_finds : {g : Found Tree} {r : Answer} → Answers g size r states work → f n ≡ g → is_found g ≡ true
      → Finds f limited size (record { answer = r; tried = n }) states work
  accepted_finds {g} {r} told e y = record {
    number = n;
    within = within;
    answer = told.answer ∙ ap answer_of (sym e);
    answered = sym (ap (tried_after n) e ∙ tried_after_lem n g y);
    states_held = told.states_held ∙ ap (states_after size) (sym e);
    records_held = subst (λ (h : Found Tree). RecordsHeld h work) (sym e) told.records_held;
  }

  -- A refusal tries nothing, and the state list is zero.
  pub refused_finds : (a : Answer) → f n ≡ refused a → {r : Discovery} → r.answer ≡ a → r.tried ≡ 0 → states ≡ replicate size 0
      → Finds f limited size r states work
  unfolding tried_after states_after RecordsHeld
  refused_finds a e x y z = record {
    number = n;
    within = within;
    answer = x ∙ sym (ap answer_of e);
    answered = y ∙ sym (ap (tried_after n) e);
    states_held = z ∙ sym (ap (states_after size) e);
    records_held = subst (λ (h : Found Tree). RecordsHeld h work) (sym e) tt;
  }

-- The same of another verdict that is equal, with a state list of the same length.
pub finds_as : {f g : ℕ → Found Tree} {limited allowed : ℕ → Type 0} {n l : ℕ} {r : Discovery} {states work : List ℕ} → ((i : ℕ) → f i ≡ g i)
    → ((i : ℕ) → limited i → allowed i) → n ≡ l → Finds f limited n r states work → Finds g allowed l r states work
finds_as {f} {g} {limited} {allowed} {n} {l} {r} {states} {work} e w s x =
    let same = e x.number in
    record {
      number = x.number;
      within = w x.number x.within;
      answer = x.answer ∙ ap answer_of same;
      answered = x.answered ∙ ap (tried_after x.number) same;
      states_held = x.states_held ∙ ap (states_after n) same ∙ ap (λ (i : ℕ). states_after i (g x.number)) s;
      records_held = subst (λ (h : Found Tree). RecordsHeld h work) same x.records_held;
    }

-- ---- 15

module _ (k : Case) (number : ℕ) where
  counted : (b : Bool) → ltb choice_most (choice_count k) ≡ b
      → from_count number k
      ≡ ◌>>◌ {A = Unit {0}} (elim b [ true ↦ refused (TooManyChoices (empty_count k.nodes)) | false ↦ found tt ]) (from_choices number k)
  unfolding few_choices
  counted b e =
      ap (λ (x : Bool). ◌>>◌ {A = Unit {0}} (elim x [ true ↦ refused (TooManyChoices (empty_count k.nodes)) | false ↦ found tt ]) (from_choices number k)) e

  pub many_choices : choice_most < choice_count k → from_count number k ≡ refused (TooManyChoices (empty_count k.nodes))
  many_choices h = counted true (lt-ltb choice_most (choice_count k) h)

  pub few_choices_lem : choice_count k ≤ choice_most → from_count number k ≡ from_choices number k
  few_choices_lem h = counted false (le-ltb choice_most (choice_count k) h)
