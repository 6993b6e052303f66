-- The text with other gaps reads as the case with those gaps: a gap of a choice is in its range, and a case within the ranges reads back.
-- With the gaps that the case claims it is the text that came. Assumes nothing.
use mathlib.Core.Path.{◌≡◌, refl, sym, ap, ◌∙◌}
use mathlib.Core.List.Memᴰ.{head as here}
use mathlib.Core.List.{List, [], ◌∷◌}
use Prim.Native.Nat.{ℕ, zero, suc, ◌≤◌}
use native.Mathlib.Omega.{arith}
use lib.ListN.{length, get_or}
use Rattle.rules.specs.declared.Header.{Header}
use Rattle.rules.specs.Result.{found}
use Rattle.rules.specs.Case.{NodeLine, D, E, L, Case, read_case}
use Rattle.rules.specs.Print.{printed}
use Rattle.rules.specs.Ranges.{GoodNode, InRanges}
use Rattle.rules.specs.Gaps.{empty_count, Within, with_gaps, case_with, text_with, gaps_of, ChoiceOf}
use Rattle.rules.proofs.Judgement.Each.{Each, each_nil, each_cons, each_tail}
use Rattle.rules.proofs.Printing.{canonical, read_in_ranges, round_trip}

-- ---- Lines

-- The gaps from the second on are those of the choice without its first.
pub gaps_later : (g : ℕ) (gs : List ℕ) (a : ℕ) (ns : List NodeLine) → with_gaps (g ∷ gs) (suc a) ns ≡ with_gaps gs a ns
gaps_later g gs a [] = refl
gaps_later g gs a (D m ∷ ns) = ap (λ (l : List NodeLine). D m ∷ l) (gaps_later g gs a ns)
gaps_later g gs a (E m x ∷ ns) = ap (λ (l : List NodeLine). E m (get_or gs a 0) ∷ l) (gaps_later g gs (suc a) ns)
gaps_later g gs a (L x i ∷ ns) = ap (λ (l : List NodeLine). L x i ∷ l) (gaps_later g gs a ns)

length_with : (gs : List ℕ) (a : ℕ) (ns : List NodeLine) → length (with_gaps gs a ns) ≡ length ns
length_with gs a [] = refl
length_with gs a (D m ∷ ns) = ap suc (length_with gs a ns)
length_with gs a (E m g ∷ ns) = ap suc (length_with gs (suc a) ns)
length_with gs a (L x i ∷ ns) = ap suc (length_with gs a ns)

-- A gap of a choice is in its range.
pub gap_within : (k : ℕ) (gs : List ℕ) (a : ℕ) → Within k gs → get_or gs a 0 ≤ k
gap_within k [] a w = omega arith
gap_within k (g ∷ gs) zero w = w.0
gap_within k (g ∷ gs) (suc a) w = gap_within k gs a w.1

module _ (h : Header) where
  abbrev Good : List NodeLine → Type 0
  Good ns = Each (GoodNode h) ns

  good_with : (gs : List ℕ) (a : ℕ) (ns : List NodeLine) → Within h.cues gs → Good ns → Good (with_gaps gs a ns)
  good_with gs a [] w f = each_nil (GoodNode h)
  good_with gs a (D m ∷ ns) w f =
      each_cons (GoodNode h) (D m) (with_gaps gs a ns) (f (D m) (here refl)) (good_with gs a ns w (each_tail (GoodNode h) (D m) ns f))
  good_with gs a (E m g ∷ ns) w f =
      each_cons (GoodNode h) (E m (get_or gs a 0)) (with_gaps gs (suc a) ns) ((f (E m g) (here refl)).0, gap_within h.cues gs a w)
      (good_with gs (suc a) ns w (each_tail (GoodNode h) (E m g) ns f))
  good_with gs a (L x i ∷ ns) w f =
      each_cons (GoodNode h) (L x i) (with_gaps gs a ns) (f (L x i) (here refl)) (good_with gs a ns w (each_tail (GoodNode h) (L x i) ns f))

  own_within_lem : (ns : List NodeLine) → Good ns → Within h.cues (gaps_of ns)
  own_within_lem [] f = tt
  own_within_lem (D m ∷ ns) f = own_within_lem ns (each_tail (GoodNode h) (D m) ns f)
  own_within_lem (E m g ∷ ns) f = ((f (E m g) (here refl)).1, own_within_lem ns (each_tail (GoodNode h) (E m g) ns f))
  own_within_lem (L x i ∷ ns) f = own_within_lem ns (each_tail (GoodNode h) (L x i) ns f)

-- ---- The gaps that a case claims

own_length : (ns : List NodeLine) → length (gaps_of ns) ≡ empty_count ns
own_length [] = refl
own_length (D m ∷ ns) = own_length ns
own_length (E m g ∷ ns) = ap suc (own_length ns)
own_length (L x i ∷ ns) = own_length ns

own_lines : (ns : List NodeLine) → with_gaps (gaps_of ns) 0 ns ≡ ns
own_lines [] = refl
own_lines (D m ∷ ns) = ap (λ (l : List NodeLine). D m ∷ l) (own_lines ns)
own_lines (E m g ∷ ns) = ap (λ (l : List NodeLine). E m g ∷ l) (gaps_later g (gaps_of ns) 0 ns ∙ own_lines ns)
own_lines (L x i ∷ ns) = ap (λ (l : List NodeLine). L x i ∷ l) (own_lines ns)

pub own_case : (k : Case) → case_with (gaps_of k.nodes) k ≡ k
unfolding case_with
own_case k =
    let e = own_lines k.nodes in
    λ j. record {
      head = k.head;
      initial = k.initial;
      actions = k.actions;
      methods = k.methods;
      plan = k.plan;
      nodes = e j;
      plan_line = k.plan_line;
    }

pub own_gaps : (text : List ℕ) (k : Case) → read_case text ≡ found k → text_with (gaps_of k.nodes) k ≡ text
unfolding text_with
own_gaps text k e = ap printed (own_case k) ∙ sym (canonical text k e)

pub own_choice : (text : List ℕ) (k : Case) → read_case text ≡ found k → ChoiceOf k (gaps_of k.nodes)
own_choice text k e = (own_length k.nodes, own_within_lem k.head k.nodes (read_in_ranges text k e).sound.nodes_good)

-- ---- Other gaps

pub in_ranges_with : (k : Case) (gs : List ℕ) → InRanges k → ChoiceOf k gs → InRanges (case_with gs k)
unfolding case_with
in_ranges_with k gs r c =
    let s = r.sound in
    record {
      sound = record {
        head_good = s.head_good;
        initial_set = s.initial_set;
        actions_good = s.actions_good;
        actions_length = s.actions_length;
        methods_length = s.methods_length;
        methods_good = s.methods_good;
        plan_length = s.plan_length;
        plan_below = s.plan_below;
        nodes_length = length_with gs 0 k.nodes ∙ s.nodes_length;
        nodes_good = good_with k.head gs 0 k.nodes c.1 s.nodes_good;
      };
      initial_below = r.initial_below;
      actions_below = r.actions_below;
      planned = r.planned;
    }

pub reads_with : (text : List ℕ) (k : Case) (gs : List ℕ) → read_case text ≡ found k → ChoiceOf k gs → read_case (text_with gs k) ≡ found (case_with gs k)
unfolding text_with
reads_with text k gs e c = round_trip (case_with gs k) (in_ranges_with k gs (read_in_ranges text k e) c)
