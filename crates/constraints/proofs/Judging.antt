-- A test over the lists is that of the definitions: the places of the subtasks' nodes hold the subtasks' spans first, and every state that a
-- test asks is one of the case's. Assumes nothing.
use mathlib.Core.Path.{◌≡◌, refl, sym, ap, ap₂, subst, ◌∙◌}
use mathlib.Core.Bool.{Bool, true, false, cond}
use mathlib.Core.List.{List, [], ◌∷◌, ◌++◌, append-nil, append_assoc}
use mathlib.Core.List.Memᴰ.{head as here}
use mathlib.Core.Option.{Option, some}
use Prim.Native.Nat.{ℕ, zero, suc, ◌+◌, ◌-◌, ◌^◌, ◌≤◌, ◌<◌}
use native.Mathlib.Nat.{lt_of_lt_of_le}
use native.Mathlib.Omega.{arith}
use borrow.Author.Tests.{ne_eqb}
use lib.Dec.{eqb}
use lib.ListN.{length, get_or}
use lib.Pow.{pow_mono}
use Rattle.rules.specs.declared.Header.{Header}
use Rattle.rules.specs.declared.Answer.{Answer}
use Rattle.rules.specs.State.{bit}
use Rattle.rules.specs.Index.{Span, Part, part_of, only, pick, hull, span_of_part, c, f, is_before}
use Rattle.rules.specs.declared.Sign.{Sign}
use Rattle.rules.specs.Case.{Constraint, O, B, F, W}
use Rattle.rules.specs.Constraint.{Holds, holds_from, keeps, broken_at, first_broken_of}
use Rattle.rules.proofs.Bits.{bit_above}
use Rattle.rules.proofs.Tables.{every_same}
use Rattle.rules.proofs.Judgement.Each.{Each, each_tail}
use Rattle.rules.proofs.Judgement.Sound.{GoodConstraint}
use Rattle.subsets.proofs.Members.{members_below}
use Rattle.rows.specs.Rows.{in_row}
use Rattle.parts.specs.Spans.{RowInside, nodes_in, spans_in, SubtaskInside}
use Rattle.parts.specs.Tests.{Timed, PartInside, Tested}
use Rattle.parts.proofs.Letters.{pick_none}
use Rattle.constraints.proofs.Within.{Within, start_some, start_few, end_few, part_within}

-- ---- spans past the subtasks' own

pick_append : (in? : ℕ → Bool) (j : ℕ) (l r : List Span) → pick in? j (l ++ r) ≡ pick in? j l ++ pick in? (j + length l) r
unfolding pick
pick_append in? j [] r = let same : j ≡ j + 0 = omega arith in ap (λ (n : ℕ). pick in? n r) same
pick_append in? j (s ∷ l) r =
    let same : suc j + length l ≡ j + suc (length l) = omega arith in
    ap (λ (x : List Span). cond (in? j) (s ∷ []) [] ++ x) (pick_append in? (suc j) l r ∙ ap (λ (n : ℕ). pick in? (suc j) l ++ pick in? n r) same)
    ∙ sym (append_assoc (cond (in? j) (s ∷ []) []) (pick in? (suc j) l) (pick in? (j + suc (length l)) r))

pick_front : (in? : ℕ → Bool) (l r : List Span) → ((n : ℕ) → length l ≤ n → in? n ≡ false) → pick in? 0 (l ++ r) ≡ pick in? 0 l
pick_front in? l r h =
    pick_append in? 0 l r ∙ ap (λ (x : List Span). pick in? 0 l ++ x) (pick_none in? (0 + length l) r (λ n b. h n (omega arith)))
    ∙ append-nil (pick in? 0 l)

part_front : (own : Span) (l r : List Span) (u : ℕ) → u < 2 ^ length l → span_of_part own (l ++ r) (part_of u) ≡ span_of_part own l (part_of u)
unfolding span_of_part part_of
part_front own l r zero h = refl
part_front own l r (suc u) h = ap hull (pick_front (bit (suc u)) l r (λ n b. bit_above (suc u) n (lt_of_lt_of_le h (pow_mono b))))

only_front : (own : Span) (l r : List Span) (i : ℕ) → i < length l → span_of_part own (l ++ r) (only i) ≡ span_of_part own l (only i)
unfolding span_of_part only
only_front own l r i h = ap hull (pick_front (eqb i) l r (λ n b. ne_eqb i n (λ e. omega arith)))

-- ---- states

from_same : (g h : Holds) (s : Sign) (p first past : ℕ) → ((l : ℕ) → l < past → g s p l ≡ h s p l) → holds_from g s p first past ≡ holds_from h s p first past
unfolding holds_from
from_same g h s p first past e = every_same (past - first) first (λ l. g s p l) (λ l. h s p l) (λ l a b. e l (omega arith))

-- ---- one node's tests

-- What the lists hold of a node: its subtasks' spans first in their places, its own span and theirs among the cues, and the case's states.
pub record Placed (cues : ℕ) (own : Span) (subs : List Span) (work words : List ℕ) (holds : Holds) : Type 0 where
  pub others : List Span
  pub spans_are : spans_in work ≡ subs ++ others
  pub few : length subs ≤ 32
  pub inside : (j : ℕ) → j < length subs → RowInside work (get_or (nodes_in work) j 0)
  pub own_within : Within cues own
  pub subs_within : Each (Within cues) subs
  pub agree : (s : Sign) (p l : ℕ) → l ≤ cues → in_row words s p l ≡ holds s p l

module _ (h : Header) (cues : ℕ) (own : Span) (subs : List Span) (work words : List ℕ) (holds : Holds)
    (p : Placed cues own subs work words holds) where
  abbrev found : Part → Span
  found part = span_of_part own (spans_in work) part

  abbrev meant : Part → Span
  meant part = span_of_part own subs part

  part_same : (u : ℕ) → u < 2 ^ length subs → found (part_of u) ≡ meant (part_of u)
  part_same u b = ap (λ (l : List Span). span_of_part own l (part_of u)) p.spans_are ∙ part_front own subs p.others u b

  only_same : (i : ℕ) → i < length subs → found (only i) ≡ meant (only i)
  only_same i b = ap (λ (l : List Span). span_of_part own l (only i)) p.spans_are ∙ only_front own subs p.others i b

  within : (u : ℕ) → u < 2 ^ length subs → Within cues (meant (part_of u))
  within u b = part_within cues own subs u p.own_within p.subs_within p.few b

  timed : (s : Span) → Within cues s → Timed (cues + 1) s
  timed s w =
      let b = end_few cues s w in
      record { past_first = start_some cues s w; before_start = start_few cues s w; at_end = omega arith }

  subtask_inside : (j : ℕ) → j < length subs → SubtaskInside work j
  subtask_inside j b = let a = p.few in record { few = omega arith; row = p.inside j b }

  part_inside : (u : ℕ) → u < 2 ^ length subs → PartInside work (cues + 1) own u
  part_inside u b = record {
    subtasks = λ j m. subtask_inside j (members_below u (length subs) j b m);
    timed = subst (Timed (cues + 1)) (sym (part_same u b)) (timed (meant (part_of u)) (within u b));
  }

  pub good_tested : (d : Constraint) → GoodConstraint h (length subs) d → Tested work (cues + 1) own d
  good_tested (O i j) g = (subtask_inside i g.0, subtask_inside j g.1)
  good_tested (B z q u) g = part_inside u g.1
  good_tested (F z q u) g = part_inside u g.1
  good_tested (W z u q v) g = (part_inside u g.0, part_inside v g.2)

  keeps_same : (d : Constraint) → GoodConstraint h (length subs) d → keeps (in_row words) found d ≡ keeps holds meant d
  unfolding keeps
  keeps_same (O i j) g = ap₂ is_before (only_same i g.0) (only_same j g.1)
  keeps_same (B z q u) g =
      let e = start_few cues (meant (part_of u)) (within u g.1) in
      ap (λ (s : Span). in_row words z q (c s - 1)) (part_same u g.1) ∙ p.agree z q (c (meant (part_of u)) - 1) (omega arith)
  keeps_same (F z q u) g =
      ap (λ (s : Span). in_row words z q (f s)) (part_same u g.1) ∙ p.agree z q (f (meant (part_of u))) (end_few cues (meant (part_of u)) (within u g.1))
  keeps_same (W z u q v) g =
      let e = start_few cues (meant (part_of v)) (within v g.2) in
      ap₂ (λ (s t : Span). holds_from (in_row words) z q (f s) (c t)) (part_same u g.0) (part_same v g.2)
      ∙ from_same (in_row words) holds z q (f (meant (part_of u))) (c (meant (part_of v))) (λ l b. p.agree z q l (omega arith))

  abbrev decide : ℕ → ℕ → Constraint → Bool → Option Answer → Option Answer
  decide line number d b rest = elim b [ true ↦ rest | false ↦ some (broken_at line number d) ]

  pub broken_same : (line number : ℕ) (ds : List Constraint) → Each (GoodConstraint h (length subs)) ds
      → first_broken_of (in_row words) found line number ds ≡ first_broken_of holds meant line number ds
  broken_same line number [] g = refl
  broken_same line number (d ∷ ds) g =
      ap₂ (decide line number d) (keeps_same d (g d (here refl))) (broken_same line (number + 1) ds (each_tail (GoodConstraint h (length subs)) d ds g))
