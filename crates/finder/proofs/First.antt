-- The first choice with which the text would be accepted, by the choices that were passed over; and what the answer of a check says. Assumes
-- nothing.
use mathlib.Core.Path.{◌≡◌, refl, sym, ap, ◌∙◌, subst}
use mathlib.Core.Bool.{true, false, false≢true}
use mathlib.Core.List.{List, [], ◌∷◌, ◌++◌, append-nil}
use Prim.Native.Nat.{ℕ}
use native.Mathlib.Omega.{arith}
use lib.ListN.{replicate}
use Rattle.rules.specs.declared.Answer.{Answer}
use Rattle.rules.specs.declared.Answer.TheVariants.{Accepted, NoChoice}
use Rattle.rules.specs.Result.{found, refused}
use Rattle.rules.specs.Case.{Case}
use Rattle.rules.specs.Tree.{Tree}
use Rattle.rules.specs.Verdict.{Lent, Found, state_need, node_need, work_need, check_lists, check, reported, answer_of, states_after}
use Rattle.rules.specs.Gaps.{empty_count, choices, or_later, first_accepted, tried_after}
use Rattle.rules.proofs.Judgement.Rows.{from_text, from_tree}
use Rattle.rules.proofs.Judgement.Refusals.{CheckSays, check_says}
use Rattle.rules.proofs.Judgement.Theorem.{shows_not_zero}
use Rattle.choices.specs.Searching.{on_from, AllFail, Skips}
use Rattle.choices.proofs.Order.{starts, later, from_head}
use Rattle.judge.proofs.Verdicts.{long_lists}
use Rattle.finder.specs.Finding.{checked_with, is_found, passing, from_choices}

-- ---- Found or refused

pub not_found : (f : Found Tree) → ((x : Case × Tree) → f ≡ found x → ⊥) → is_found f ≡ false
not_found (found x) h = absurd (h x refl)
not_found (refused r) h = refl

or_later_lem : (f rest : Found Tree) → is_found f ≡ false → or_later f rest ≡ rest
or_later_lem (found x) rest e = absurd (false≢true (sym e))
or_later_lem (refused r) rest e = refl

or_found : (f rest : Found Tree) → is_found f ≡ true → or_later f rest ≡ f
or_found (found x) rest e = refl
or_found (refused r) rest e = absurd (false≢true e)

-- Nothing found leaves zeros; what is found was reached with the number tried.
pub zeros_after : (size : ℕ) (f : Found Tree) → is_found f ≡ false → states_after size f ≡ replicate size 0
unfolding states_after
zeros_after size (found x) e = absurd (false≢true (sym e))
zeros_after size (refused r) e = refl

pub tried_after_lem : (n : ℕ) (f : Found Tree) → is_found f ≡ true → tried_after n f ≡ n
unfolding tried_after
tried_after_lem n (found x) e = refl
tried_after_lem n (refused r) e = absurd (false≢true e)

-- ---- What a check answers

abbrev asked : List Lent
asked = check_lists state_need node_need work_need

-- No refusal is an acceptance.
no_refusal : (text : List ℕ) (cues nodes : ℕ) → from_text from_tree text ≡ refused (Accepted cues nodes) → ⊥
unfolding reported
no_refusal text cues nodes e =
    let same : check asked text ≡ from_text from_tree text = long_lists state_need node_need work_need text (omega arith) (omega arith) (omega arith) in
    shows_not_zero (subst (CheckSays asked text) (same ∙ e) (check_says asked text)) refl

pub acceptance_finds : (text : List ℕ) (r : Answer) (cues nodes : ℕ) → r ≡ answer_of (from_text from_tree text) → r ≡ Accepted cues nodes
    → is_found (from_text from_tree text) ≡ true
acceptance_finds text r cues nodes e a = go (from_text from_tree text) refl e
  where
    go : (f : Found Tree) → from_text from_tree text ≡ f → r ≡ answer_of f → is_found f ≡ true
    go (found x) q y = refl
    go (refused b) q y = absurd (no_refusal text cues nodes (q ∙ ap (λ (z : Answer). refused z) (sym y ∙ a)))

pub refusal_fails : (f : Found Tree) (r : Answer) → r ≡ answer_of f → ((cues nodes : ℕ) → r ≡ Accepted cues nodes → ⊥) → is_found f ≡ false
refusal_fails (found (k, t)) r e not = absurd (not k.head.cues k.head.nodes e)
refusal_fails (refused a) r e not = refl

-- ---- The first choice

module _ (k : Case) (number : ℕ) where
  first_skipped : (cs ds : List (List ℕ)) → AllFail (passing k) cs
      → first_accepted (checked_with k) (NoChoice number) (cs ++ ds) ≡ first_accepted (checked_with k) (NoChoice number) ds
  first_skipped [] ds h = refl
  first_skipped (c ∷ cs) ds h = or_later_lem (checked_with k c) _ h.0 ∙ first_skipped cs ds h.1

  module _ (e : ℕ) (counted : empty_count k.nodes ≡ e) where
    from_zeros : from_choices number k ≡ first_accepted (checked_with k) (NoChoice number) (on_from k.head.cues (replicate e 0))
    from_zeros =
        ap (λ (n : ℕ). first_accepted (checked_with k) (NoChoice number) (choices k.head.cues n)) counted
        ∙ ap (first_accepted (checked_with k) (NoChoice number)) (sym (starts k.head.cues e))

    -- All ahead of a choice that passes were passed over.
    pub found_at : (d : List ℕ) → Skips (passing k) k.head.cues (replicate e 0) d → passing k d ≡ true → from_choices number k ≡ checked_with k d
    found_at d s p =
        let cues = k.head.cues in
        from_zeros
        ∙ ap (first_accepted (checked_with k) (NoChoice number)) (s.split ∙ ap (λ (l : List (List ℕ)). s.skipped ++ l) (from_head cues d))
        ∙ first_skipped s.skipped (d ∷ later cues d) s.fail
        ∙ or_found (checked_with k d) _ p

    -- All fail.
    pub none_at : AllFail (passing k) (on_from k.head.cues (replicate e 0)) → from_choices number k ≡ refused (NoChoice number)
    none_at h =
        let all = on_from k.head.cues (replicate e 0) in
        from_zeros ∙ ap (first_accepted (checked_with k) (NoChoice number)) (sym (append-nil all)) ∙ first_skipped all [] h
