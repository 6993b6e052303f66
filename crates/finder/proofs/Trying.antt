-- A choice tried: its gaps are put among the fields, and the text of these is checked. Assumes nothing.
use mathlib.Core.Path.{◌≡◌, refl, sym, ap, ◌∙◌, subst}
use mathlib.Core.Bool.{true, false}
use mathlib.Core.List.{List, ◌++◌, map}
use Prim.Native.Nat.{ℕ, ◌+◌, ◌≤◌, ◌<◌}
use native.Mathlib.Omega.{arith}
use lib.ListN.{length, take, replicate}
use Rattle.rules.specs.declared.Answer.{Answer}
use Rattle.rules.specs.declared.Answer.TheVariants.{Accepted, LongText, NoChoice}
use Rattle.rules.specs.declared.Header.{Header}
use Rattle.rules.specs.Result.{refused}
use Rattle.rules.specs.Case.{Case, NodeLine}
use Rattle.rules.specs.Fields.{lines_fields, node_line, lines_of}
use Rattle.rules.specs.Print.{lines_text}
use Rattle.rules.specs.Verdict.{text_most}
use Rattle.rules.specs.Gaps.{empty_count, Within, ChoiceOf, with_gaps, case_with, text_with, choice_count}
use Rattle.rules.proofs.Judgement.Rows.{from_text, from_tree}
use Rattle.rules.proofs.Gaps.Lengths.{surplus}
use Rattle.fields.specs.Directory.{Roomy}
use Rattle.records.specs.Records.{NodesStand}
use Rattle.choices.proofs.Order.{zeros_within}
use Rattle.choices.proofs.Skipping.{skips_self}
use Rattle.judge.specs.declared.Opened.{Opened}
use Rattle.judge.specs.Phases.{Answers}
use Rattle.judge.proofs.Verdicts.{text_long}
use Rattle.finder.specs.Finding.{checked_with, passing, from_choices, Finds, Tried, Printable, BaseOf, digits_most, Spacious}
use Rattle.finder.proofs.First.{acceptance_finds, refusal_fails, zeros_after, found_at, none_at}
use Rattle.finder.proofs.Prints.{nodes_stand, few_cues, put_printable, text_of, text_with_lem, length_with, surplus_few}
use Rattle.finder.proofs.Counts.{tried_one, only_one, only_fails}
use Rattle.finder.proofs.Verdicts.{accepted_finds, refused_finds}

module _ {k : Case} {fields : List ℕ} {o : Opened} (p : Printable k fields o) (base : ℕ) (b : BaseOf k base) (choice : List ℕ) (h : ChoiceOf k choice) where
  pub within_header : Within o.header.cues choice
  within_header = subst (λ (x : Header). Within x.cues choice) (sym p.head) h.1

  -- A choice among others has few gaps, and so few digits.
  pub choice_few : length choice ≤ 19 → surplus choice ≤ digits_most
  choice_few few = omega (arith, surplus_few o.header.cues choice (few_cues p) within_header)

  module _ (digits : ℕ) (d : digits ≡ surplus choice) where
    -- Its text is too long.
    pub choice_long : text_most < base + digits → checked_with k choice ≡ refused LongText
    choice_long over = text_long from_tree (text_with choice k) (omega (arith, length_with k base b choice h))

    -- Or it isn't, and the fields become those of the case with its gaps.
    pub choice_put : base + digits ≤ text_most → (now : List ℕ)
        → ((ns : List NodeLine) (s : NodesStand fields o.nodes o.header.nodes ns) → empty_count ns ≤ length choice
        → now ≡ take o.nodes fields ++ (lines_fields (map node_line (with_gaps choice 0 ns)) ++ s.here.rest))
        → Printable (case_with choice k) now o
    choice_put short now put =
        put_printable p choice h now (nodes_stand p).here.rest (put k.nodes (nodes_stand p) (omega (arith, h.0)))
        (omega (arith, length_with k base b choice h))

    text_is : lines_text (lines_of (case_with choice k)) ≡ text_with choice k
    text_is = text_of (case_with choice k) ∙ text_with_lem choice k

    pub choice_size : length (lines_text (lines_of (case_with choice k))) ≡ base + digits
    choice_size = omega (arith, ap length text_is, length_with k base b choice h)

    -- The fields have room for it.
    pub choice_roomy : Spacious base fields → surplus choice ≤ digits_most → base + digits ≤ text_most → (now : List ℕ) → length now ≡ length fields
        → Roomy (lines_text (lines_of (case_with choice k))) now
    choice_roomy room few short now kept = omega (arith, choice_size, room (base + digits) (omega arith) short)

    pub choice_answers : {size : ℕ} {r : Answer} {states work : List ℕ}
        → Answers (from_text from_tree (lines_text (lines_of (case_with choice k)))) size r states work → Answers (checked_with k choice) size r states work
    choice_answers {size} {r} {states} {work} told =
        subst (λ (l : List ℕ). Answers (from_text from_tree l) size r states work) text_is told

-- ---- What the answer says

module _ (k : Case) (choice : List ℕ) {size : ℕ} {r : Answer} {states work : List ℕ} (told : Answers (checked_with k choice) size r states work) where
  pub choice_passes : (cues nodes : ℕ) → r ≡ Accepted cues nodes → passing k choice ≡ true
  choice_passes cues nodes e = acceptance_finds (text_with choice k) r cues nodes told.answer e

  module _ (not : (cues nodes : ℕ) → r ≡ Accepted cues nodes → ⊥) where
    pub choice_fails : passing k choice ≡ false
    choice_fails = refusal_fails (checked_with k choice) r told.answer not

    pub choice_zeros : states ≡ replicate size 0
    choice_zeros = told.states_held ∙ zeros_after size (checked_with k choice) choice_fails

-- ---- The one choice

module _ (k : Case) (e : ℕ) (counted : empty_count k.nodes ≡ e) (one : choice_count k ≡ 1) (choice : List ℕ) (z : choice ≡ replicate e 0)
    {size : ℕ} {r : Answer} {states work : List ℕ} (told : Answers (checked_with k choice) size r states work) where
  same : Answers (checked_with k (replicate e 0)) size r states work
  same = subst (λ (c : List ℕ). Answers (checked_with k c) size r states work) z told

  pub only_accepted : (cues nodes : ℕ) → r ≡ Accepted cues nodes
      → Finds (λ n. from_choices n k) (Tried k) size (record { answer = r; tried = 1 }) states work
  only_accepted cues nodes a =
      let zeros = replicate {A = ℕ} e 0 in
      let good = choice_passes k zeros same cues nodes a in
      accepted_finds 1 (tried_one k) same
      (found_at k 1 e counted zeros (skips_self (passing k) k.head.cues zeros (zeros_within k.head.cues e)) good) good

  pub only_refused : ((cues nodes : ℕ) → r ≡ Accepted cues nodes → ⊥)
      → Finds (λ n. from_choices n k) (Tried k) size (record { answer = NoChoice 1; tried = 0 }) states work
  only_refused not =
      let zeros = replicate {A = ℕ} e 0 in
      let fails = only_fails (passing k) k.head.cues e (only_one k e counted one) (choice_fails k zeros same not) in
      refused_finds 1 (tried_one k) (NoChoice 1) (none_at k 1 e counted fails) refl refl (choice_zeros k zeros same not)
