-- What the find-the-gaps call finds is what the check accepts of the text with other gaps, and a refusal comes with no records. Assumes nothing.
use mathlib.Core.Path.{◌≡◌, refl, sym, ◌∙◌, ap, subst}
use mathlib.Core.Bool.{Bool, true, false}
use mathlib.Core.List.{List}
use mathlib.Core.Logic.{◌⊎◌, inl, inr}
use Prim.Native.Nat.{ℕ}
use lib.Dec.{ltb}
use Rattle.rules.specs.declared.Answer.{Answer}
use Rattle.rules.specs.declared.Answer.TheVariants.{TooManyChoices, NoChoice}
use Rattle.rules.specs.Result.{Result, found, refused, ◌>>=◌}
use Rattle.rules.specs.Case.{Case, read_case}
use Rattle.rules.specs.Tree.{Tree}
use Rattle.rules.specs.Verdict.{Found, Lent, check_lists, check, reported}
use Rattle.rules.specs.Gaps.{empty_count, choices, text_with, choice_count, choice_most, few_choices, before_choices, find_gaps}
use Rattle.rules.proofs.Gaps.Answers.{FirstSays, found_first, from_choices, find_answers}
use Rattle.verdict.proofs.Records.{Comes, check_comes}

module _ (s n w number : ℕ) (text : List ℕ) where
  abbrev lists : List Lent
  lists = check_lists s n w

  -- Of some text.
  abbrev pub ComesOfSome : Found Tree → Type 0
  ComesOfSome f = (other : List ℕ) × Comes s n w other f

  few_none : (k : Case) (a : Answer) → few_choices k ≡ refused a → (reported a).nodes ≡ 0
  unfolding few_choices reported
  few_none k a e = go (ltb choice_most (choice_count k)) (same (ltb choice_most (choice_count k)) ∙ e)
    where
      size_of : Result (Unit {0}) → ℕ
      size_of (found u) = 0
      size_of (refused r) = (reported r).nodes

      limited : Bool → Result (Unit {0})
      limited true = refused (TooManyChoices (empty_count k.nodes))
      limited false = found tt

      same : (b : Bool) → limited b ≡ (elim b as (λ b. Result (Unit {0})) [ true ↦ refused (TooManyChoices (empty_count k.nodes)) | false ↦ found tt ])
      same true = refl
      same false = refl

      go : (b : Bool) → limited b ≡ refused a → (reported a).nodes ≡ 0
      go true e = sym (ap size_of e)
      go false e = sym (ap size_of e)

  -- A refusal of the rows ahead of the choices.
  before_none : (a : Answer) → before_choices lists text ≡ refused a → (reported a).nodes ≡ 0
  before_none a e = go ((find_answers text lists number).checks a e).1
    where
      go : (check lists text ≡ refused a) ⊎ ((k : Case) × (read_case text ≡ found k) × (few_choices k ≡ refused a)) → (reported a).nodes ≡ 0
      go (inl same) = subst (Comes s n w text) same (check_comes s n w text)
      go (inr (k, reads, many)) = few_none k a many

  chosen : (k : Case) (cs : List (List ℕ)) (f : Found Tree) → FirstSays (λ gs. check lists (text_with gs k)) (NoChoice number) cs f → ComesOfSome f
  unfolding reported
  chosen k cs (found x) first = (text_with first.it k, subst (Comes s n w (text_with first.it k)) first.bad (check_comes s n w (text_with first.it k)))
  chosen k cs (refused r) (e, each) = (text, ap (λ (a : Answer). (reported a).nodes) e)

  pub find_comes : ComesOfSome (find_gaps number lists text)
  unfolding find_gaps
  find_comes = go (before_choices lists text) refl
    where
      go : (o : Result Case) → before_choices lists text ≡ o → ComesOfSome (o >>= λ k. from_choices number lists k)
      go (found k) e =
          let cs = choices k.head.cues (empty_count k.nodes) in
          chosen k cs (from_choices number lists k) (found_first (λ gs. check lists (text_with gs k)) (NoChoice number) cs)
      go (refused a) e = (text, before_none a e)
