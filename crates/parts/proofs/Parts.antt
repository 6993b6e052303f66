-- The spans of the subtasks of the node under test: what joining one member at a time gives, and what the loop over the siblings stores.
-- Assumes nothing.
use mathlib.Core.Path.{◌≡◌, refl, sym, ap, ap₂, subst, ◌∙◌, fun_ext}
use mathlib.Core.Logic.{◌≢◌}
use mathlib.Core.List.{List, [], ◌∷◌, map, head_d, tail}
use mathlib.Core.List.Memᴰ.{head as here}
use mathlib.Core.List.{Memᴰ as Mem}
use Prim.Native.Nat.{ℕ, zero, suc, ◌+◌, ◌-◌, ◌*◌, ◌^◌, ◌≤◌, ◌<◌}
use native.Mathlib.Omega.{arith}
use lib.ListN.{length, get_or, take, set, length-map, length-set, get_or-map}
use lib.Seq.{sets, get_or-take, get_or-drop, get_or-set_other, length-slice}
use Rattle.rules.specs.Index.{Span, part_of, pick, hull, span_of_part}
use Rattle.rules.specs.State.{bit}
use Rattle.rules.proofs.Spans.{hull_join, hull_one}
use Rattle.rules.specs.Refusals.{Each}
use Rattle.rules.proofs.Judgement.Each.{each_tail}
use Rattle.subsets.specs.Members.{members_of}
use Rattle.subsets.proofs.Chosen.{head_tail}
use Rattle.subsets.proofs.Members.{members_cons, pick_members}
use Rattle.tree.specs.Layout.{subtasks_from, subtasks_past, rows_from}
use Rattle.parts.specs.Spans.{row_span, node_after, RowInside, siblings, nodes_in, subtask_span, spans_in, SubtaskInside}

-- ---- the places of the subtasks' nodes

pub node_at : (work : List ℕ) (j : ℕ) → j < 32 → get_or (nodes_in work) j 0 ≡ get_or work (subtasks_from + j) 0
unfolding nodes_in subtasks_from subtasks_past
node_at work j h = get_or-drop subtasks_from (take subtasks_past work) j 0 ∙ get_or-take subtasks_past work (subtasks_from + j) 0 (omega arith)

pub length_nodes : (work : List ℕ) → subtasks_past ≤ length work → length (nodes_in work) ≡ 32
unfolding nodes_in subtasks_from subtasks_past
length_nodes work h = length-slice subtasks_from subtasks_past work h

-- ---- a set, lowest member first

abbrev pub members_span : List ℕ → List ℕ → Span
members_span work ms = hull (map (subtask_span work) ms)

part_some : (own : Span) (subs : List Span) (u : ℕ) → u ≢ 0 → span_of_part own subs (part_of u) ≡ hull (pick (bit u) 0 subs)
unfolding part_of span_of_part
part_some own subs zero n = absurd (n refl)
part_some own subs (suc u) n = refl

set_span : (work : List ℕ) (own : Span) (u : ℕ) → subtasks_past ≤ length work → u < 2 ^ 32 → u ≢ 0
    → span_of_part own (spans_in work) (part_of u) ≡ members_span work (members_of u)
unfolding spans_in subtask_span
set_span work own u room small n =
    let many : length (spans_in work) ≡ 32 = length-map (nodes_in work) (row_span work) ∙ length_nodes work room in
    part_some own (spans_in work) u n
    ∙ ap hull (pick_members u (spans_in work) (row_span work 0) (subst (λ (k : ℕ). u < 2 ^ k) (sym many) small) (omega arith)
    ∙ ap (λ (g : ℕ → Span). map g (members_of u)) (fun_ext (λ j. get_or-map (row_span work) (nodes_in work) j 0)))

-- The members joined so far, and those that remain.
pub record Joining (work : List ℕ) (u : ℕ) (joined : Span) (rest : ℕ) : Type 0 where
  pub inside : Each (SubtaskInside work) (members_of rest)
  pub same : members_span work (members_of u) ≡ hull (joined ∷ map (subtask_span work) (members_of rest))

pub whole_task : (own : Span) (subs : List Span) (u : ℕ) → u ≡ 0 → own ≡ span_of_part own subs (part_of u)
unfolding part_of span_of_part
whole_task own subs u e = ap (λ (v : ℕ). span_of_part own subs (part_of v)) (sym e)

pub lowest_inside : (work : List ℕ) (u : ℕ) → u < 2 ^ 32 → u ≢ 0 → Each (SubtaskInside work) (members_of u) → SubtaskInside work (head_d (members_of u) 32)
lowest_inside work u small n f =
    subst (λ (l : List ℕ). Each (SubtaskInside work) l) (members_cons u n small) f (head_d (members_of u) 32) (here refl)

pub joining_starts : (work : List ℕ) (u : ℕ) → u < 2 ^ 32 → u ≢ 0 → Each (SubtaskInside work) (members_of u)
    → (first : Span) (rest : ℕ) → first ≡ subtask_span work (head_d (members_of u) 32) → members_of rest ≡ tail (members_of u)
    → Joining work u first rest
joining_starts work u small n f first rest e r =
    record {
      inside = subst (λ (ms : List ℕ). Each (SubtaskInside work) ms) (sym r)
          (each_tail (SubtaskInside work) (head_d (members_of u) 32) (tail (members_of u)) (subst (λ (ms : List ℕ). Each (SubtaskInside work) ms) (members_cons u n small) f));
      same = ap (members_span work) (members_cons u n small)
          ∙ ap₂ (λ (s : Span) (ms : List ℕ). hull (s ∷ map (subtask_span work) ms)) (sym e) (sym r);
    }

module _ {work : List ℕ} {u : ℕ} {joined : Span} {rest : ℕ} (p : Joining work u joined rest) (some : 0 < length (members_of rest)) where
  first_rest : members_of rest ≡ head_d (members_of rest) 32 ∷ tail (members_of rest)
  first_rest = head_tail (members_of rest) 32 (λ e. omega (arith, ap length e))

  pub next_inside : SubtaskInside work (head_d (members_of rest) 32)
  next_inside = subst (λ (l : List ℕ). Each (SubtaskInside work) l) first_rest p.inside (head_d (members_of rest) 32) (here refl)

  pub fewer : (rest' : ℕ) → members_of rest' ≡ tail (members_of rest) → length (members_of rest') < length (members_of rest)
  fewer rest' r = omega (arith, ap length r, ap length first_rest)

  pub joining_goes_on : {other both : Span} (rest' : ℕ) → other ≡ subtask_span work (head_d (members_of rest) 32)
      → both ≡ hull (joined ∷ other ∷ []) → members_of rest' ≡ tail (members_of rest) → Joining work u both rest'
  joining_goes_on {other} {both} rest' e j r =
      record {
        inside = subst (λ (ms : List ℕ). Each (SubtaskInside work) ms) (sym r)
            (each_tail (SubtaskInside work) (head_d (members_of rest) 32) (tail (members_of rest)) (subst (λ (ms : List ℕ). Each (SubtaskInside work) ms) first_rest p.inside));
        same = p.same ∙ ap (λ (ms : List ℕ). hull (joined ∷ map (subtask_span work) ms)) first_rest
            ∙ ap (λ (s : Span). hull (joined ∷ s ∷ map (subtask_span work) (tail (members_of rest)))) (sym e)
            ∙ hull_join joined other (map (subtask_span work) (tail (members_of rest)))
            ∙ ap₂ (λ (s : Span) (ms : List ℕ). hull (s ∷ map (subtask_span work) ms)) (sym j) (sym r);
      }

no_length : (l : List ℕ) → length l ≡ 0 → l ≡ []
no_length [] e = refl
no_length (x ∷ l) e = absurd (omega arith)

pub joining_ends : {work : List ℕ} (own : Span) {u : ℕ} {joined : Span} {rest : ℕ} → Joining work u joined rest → length (members_of rest) ≡ 0
    → subtasks_past ≤ length work → u < 2 ^ 32 → u ≢ 0 → joined ≡ span_of_part own (spans_in work) (part_of u)
joining_ends {work} own {u} {joined} {rest} p e room small n =
    sym (set_span work own u room small n ∙ p.same
    ∙ ap (λ (ms : List ℕ). hull (joined ∷ map (subtask_span work) ms)) (no_length (members_of rest) e) ∙ hull_one joined)

-- ---- the nodes of the subtasks

-- A store in the places of the subtasks' nodes leaves the rows.
after_kept : (work : List ℕ) (i v n : ℕ) → i < 32 → node_after (set work (subtasks_from + i) v) n ≡ node_after work n
unfolding node_after subtasks_from rows_from
after_kept work i v n h = get_or-set_other work (subtasks_from + i) (rows_from + 3 * n + 2) v 0 (λ e. omega arith)

siblings_kept : (work : List ℕ) (i v : ℕ) → i < 32 → (n count : ℕ) → siblings (set work (subtasks_from + i) v) n count ≡ siblings work n count
siblings_kept work i v h n zero = refl
siblings_kept work i v h n (suc count) =
    ap (λ (ms : List ℕ). n ∷ ms)
    (siblings_kept work i v h (node_after (set work (subtasks_from + i) v) n) count ∙ ap (λ (m : ℕ). siblings work m count) (after_kept work i v n h))

pub inside_kept : (work : List ℕ) (i v n : ℕ) → RowInside work n → RowInside (set work i v) n
unfolding RowInside
inside_kept work i v n h = omega (arith, length-set work i v)

pub record Placing (start : List ℕ) (n count : ℕ) (work : List ℕ) (at i : ℕ) : Type 0 where
  pub most : i ≤ count
  pub size : length work ≡ length start
  pub inside : Each (RowInside work) (siblings work at (count - i))
  pub same : sets start subtasks_from (siblings start (n + 1) count) ≡ sets work (subtasks_from + i) (siblings work at (count - i))

pub placing_starts : (work : List ℕ) (n count : ℕ) → Each (RowInside work) (siblings work (n + 1) count) → Placing work n count work (n + 1) 0
placing_starts work n count f =
    let c : count ≡ count - 0 = omega arith in
    let s : subtasks_from ≡ subtasks_from + 0 = omega arith in
    record {
      most = omega arith;
      size = refl;
      inside = subst (λ (k : ℕ). Each (RowInside work) (siblings work (n + 1) k)) c f;
      same = λ j. sets work (s j) (siblings work (n + 1) (c j));
    }

module _ {start : List ℕ} {n count : ℕ} {work : List ℕ} {at i : ℕ} (p : Placing start n count work at i) (more : i < count) (few : count ≤ 32) where
  left_one : count - i ≡ suc (count - (i + 1))
  left_one = omega arith

  opened : Each (RowInside work) (at ∷ siblings work (node_after work at) (count - (i + 1)))
  opened = subst (λ (k : ℕ). Each (RowInside work) (siblings work at k)) left_one p.inside

  pub row_inside : RowInside (set work (subtasks_from + i) at) at
  row_inside = inside_kept work (subtasks_from + i) at at (opened at (here refl))

  pub placing_goes_on : {next : ℕ} → next ≡ node_after (set work (subtasks_from + i) at) at
      → Placing start n count (set work (subtasks_from + i) at) next (i + 1)
  placing_goes_on {next} e =
      let small : i < 32 = omega arith in
      let stored : List ℕ = set work (subtasks_from + i) at in
      let same_next : node_after work at ≡ next = sym (e ∙ after_kept work i at at small) in
      let rest : siblings work (node_after work at) (count - (i + 1)) ≡ siblings stored next (count - (i + 1)) =
      ap (λ (m : ℕ). siblings work m (count - (i + 1))) same_next ∙ sym (siblings_kept work i at small next (count - (i + 1))) in
      let put : suc (subtasks_from + i) ≡ subtasks_from + (i + 1) = omega arith in
      record {
        most = omega arith;
        size = length-set work (subtasks_from + i) at ∙ p.size;
        inside = λ m x. inside_kept work (subtasks_from + i) at m
            (each_tail (RowInside work) at (siblings work (node_after work at) (count - (i + 1))) opened m (subst (λ (ms : List ℕ). Mem m ms) (sym rest) x));
        same = p.same ∙ ap (λ (k : ℕ). sets work (subtasks_from + i) (siblings work at k)) left_one
            ∙ ap₂ (λ (k : ℕ) (ms : List ℕ). sets stored k ms) put rest;
      }

pub placing_ends : {start : List ℕ} {n count : ℕ} {work : List ℕ} {at i : ℕ} → Placing start n count work at i → count ≤ i
    → work ≡ sets start subtasks_from (siblings start (n + 1) count)
placing_ends {start} {n} {count} {work} {at} {i} p h =
    let none : count - i ≡ 0 = omega arith in
    sym (p.same ∙ ap (λ (k : ℕ). sets work (subtasks_from + i) (siblings work at k)) none)
