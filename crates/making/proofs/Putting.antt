-- The fields of one node line, stored; those of lines in two parts; and what the visit of a link leaves. Assumes nothing.
use mathlib.Core.Path.{◌≡◌, refl, sym, ap, ap₂, subst, ◌∙◌}
use mathlib.Core.List.{List, [], ◌∷◌, ◌++◌, map, map-append, append_assoc, append-nil}
use Prim.Native.Nat.{ℕ, zero, suc, ◌+◌, ◌-◌, ◌≤◌, ◌<◌}
use native.Mathlib.Numerals.{add-one}
use native.Mathlib.Omega.{arith}
use lib.ListN.{length, get_or, set}
use lib.Seq.{sets, slice}
use Rattle.rules.specs.Case.{NodeLine, D, E, L, Valued}
use Rattle.rules.specs.Fields.{line_fields, lines_fields, node_line}
use Rattle.fields.proofs.Lines.{node_fields, node_fields_lem}
use Rattle.making.specs.declared.Walk.{Walk}
use Rattle.making.specs.Nodes.{nodes_fields, node_as, Frames, Pushed, Visited}
use Rattle.making.proofs.Leading.{as_cue, as_empty, as_whole}

pub put_two : (l : List ℕ) (at a b : ℕ) → set (set l at a) (at + 1) b ≡ sets l at (a ∷ b ∷ [])
put_two l at a b = ap (λ (n : ℕ). set (set l at a) n b) (add-one at)

pub put_three : (l : List ℕ) (at a b c : ℕ) → set (set (set l at a) (at + 1) b) (at + 2) c ≡ sets l at (a ∷ b ∷ c ∷ [])
put_three l at a b c =
    let third : at + 2 ≡ suc (suc at) = omega arith in
    ap₂ (λ (m : List ℕ) (n : ℕ). set m n c) (put_two l at a b) third

-- The line is x, whose fields are stored.
abbrev Puts : List ℕ → ℕ → NodeLine → List ℕ → ℕ → Type 0
Puts before at x after r = (after ≡ sets before at (line_fields (node_line x))) × (r ≡ at + length (line_fields (node_line x)))

put_line : (before : List ℕ) (at : ℕ) (x y : NodeLine) (after : List ℕ) (r : ℕ) → y ≡ x → after ≡ sets before at (node_fields x)
    → r ≡ at + length (node_fields x) → Puts before at y after r
put_line before at x y after r e p s =
    let is : line_fields (node_line y) ≡ node_fields x = ap (λ (z : NodeLine). line_fields (node_line z)) e ∙ node_fields_lem x in
    (p ∙ ap (sets before at) (sym is), omega (arith, ap length is))

module _ (cues d label first past : ℕ) (before : List ℕ) (at : ℕ) (after : List ℕ) where
  pub puts_cue : d < cues → after ≡ sets before at (76 ∷ label ∷ (d + 1) ∷ []) → Puts before at (node_as cues d label first past) after (at + 3)
  puts_cue h p = put_line before at (L label (d + 1)) _ after (at + 3) (as_cue cues d label first past h) p refl

  pub puts_empty : cues ≤ d → first ≡ past → after ≡ sets before at (69 ∷ label ∷ 0 ∷ []) → Puts before at (node_as cues d label first past) after (at + 3)
  puts_empty h e p = put_line before at (E label 0) _ after (at + 3) (as_empty cues d label first past h e) p refl

  pub puts_whole : cues ≤ d → (first ≡ past → ⊥) → after ≡ sets before at (68 ∷ label ∷ []) → Puts before at (node_as cues d label first past) after (at + 2)
  puts_whole h n p = put_line before at (D label) _ after (at + 2) (as_whole cues d label first past h n) p refl

-- A node line has three fields at most.
pub few_fields : (x : NodeLine) → length (node_fields x) ≤ 3
few_fields (D m) = omega arith
few_fields (E m g) = omega arith
few_fields (L a i) = omega arith

-- ---- Lines in two parts

pub lines_append : (xs ys : List Valued) → lines_fields (xs ++ ys) ≡ lines_fields xs ++ lines_fields ys
lines_append [] ys = refl
lines_append (x ∷ xs) ys = ap (λ (l : List ℕ). line_fields x ++ l) (lines_append xs ys) ∙ sym (append_assoc (line_fields x) (lines_fields xs) (lines_fields ys))

pub nodes_append : (xs ys : List NodeLine) → nodes_fields (xs ++ ys) ≡ nodes_fields xs ++ nodes_fields ys
nodes_append xs ys = ap lines_fields (map-append node_line xs ys) ∙ lines_append (map node_line xs) (map node_line ys)

-- ---- The visit of a link

module _ (starts labels : List ℕ) (cues : ℕ) (before : List ℕ) (w : Walk) (next last : List ℕ) where
  pub visits_none : (link : ℕ) → link ≡ 0 → Visited starts labels cues link before w next last w before next last
  visits_none zero e = record { put = refl; ended = omega arith; counted = omega arith; deep = omega arith; frames = λ links todo high f. f }
  visits_none (suc d) e = absurd (omega arith)

  pub visits_line : (link : ℕ) → 0 < link → (end depth : ℕ) (after next' last' : List ℕ)
      → Puts before w.end (node_as cues (link - 1) (get_or labels (link - 1) 0) (get_or starts (link - 1) 0) (get_or starts link 0)) after end
      → Pushed (get_or starts (link - 1) 0) (get_or starts link 0) next last w.depth next' last' depth
      → (r : Walk) → r.end ≡ end → r.nodes ≡ w.nodes + 1 → r.depth ≡ depth
      → Visited starts labels cues link before w next last r after next' last'
  visits_line zero h end depth after next' last' p f r e n t = absurd (omega arith)
  visits_line (suc d) h end depth after next' last' p f r e n t =
      let one : suc d - 1 ≡ d = omega arith in
      let node = subst (λ (m : ℕ). Puts before w.end (node_as cues m (get_or labels m 0) (get_or starts m 0) (get_or starts (suc d) 0)) after end) one p in
      let x = node_as cues d (get_or labels d 0) (get_or starts d 0) (get_or starts (suc d) 0) in
      let whole : nodes_fields (x ∷ []) ≡ line_fields (node_line x) = append-nil (line_fields (node_line x)) in
      record {
        put = node.0 ∙ ap (sets before w.end) (sym whole);
        ended = omega (arith, node.1, ap length whole);
        counted = n;
        deep = omega (arith, f.most);
        frames = λ links todo high g.
            subst (λ (m : ℕ). Frames links next' last' m (slice (get_or starts d 0) (get_or starts (suc d) 0) links ++ todo)) (sym t)
            (subst (λ (m : ℕ). Frames links next' last' depth (slice (get_or starts m 0) (get_or starts (suc d) 0) links ++ todo)) one
            (f.frames links todo high g));
      }
