-- The frames of the stack, and the links that they stand for: one pushed, one popped, the next link taken. Assumes nothing.
use mathlib.Core.Path.{◌≡◌, refl, sym, ap, ap₂, ◌∙◌}
use mathlib.Core.List.{List, [], ◌∷◌, ◌++◌}
use Prim.Native.Nat.{ℕ, zero, suc, ◌+◌, ◌-◌, ◌≤◌, ◌<◌}
use native.Mathlib.Decide.{dec_lt}
use native.Mathlib.Numerals.{add-one}
use native.Mathlib.Omega.{arith}
use mathlib.Core.Logic.{by_cases}
use lib.ListN.{length, get_or, set}
use lib.Seq.{slice, slice_empty, slice-cons, get_or-set_same, get_or-set_other}
use Rattle.making.specs.Nodes.{frames_links, Frames, Pushed}

pub frames_none : (links next last : List ℕ) → Frames links next last 0 []
frames_none links next last = record { stand = refl; ordered = λ t h. absurd (omega arith); inside = λ t h. absurd (omega arith) }

-- No links in front change nothing.
none_first : (first past : ℕ) (links todo : List ℕ) → first ≡ past → slice first past links ++ todo ≡ todo
none_first first past links todo e =
    ap (λ (n : ℕ). slice n past links ++ todo) e ∙ ap (λ (l : List ℕ). l ++ todo) (slice_empty past links)

-- Frames up to a depth by what they hold.
same_frames : (links next last next' last' : List ℕ) (depth : ℕ) → ((t : ℕ) → t < depth → get_or next' t 0 ≡ get_or next t 0)
    → ((t : ℕ) → t < depth → get_or last' t 0 ≡ get_or last t 0) → frames_links links next' last' depth ≡ frames_links links next last depth
same_frames links next last next' last' zero f g = refl
same_frames links next last next' last' (suc t) f g =
    ap₂ ◌++◌
    (ap (λ (n : ℕ). slice n (suc (get_or last' t 0)) links) (f t (omega arith)) ∙ ap (λ (n : ℕ). slice (get_or next t 0) (suc n) links) (g t (omega arith)))
    (same_frames links next last next' last' t (λ s h. f s (omega arith)) (λ s h. g s (omega arith)))

module _ (first past : ℕ) (next last : List ℕ) (depth : ℕ) where
  pub push_none : first ≡ past → Pushed first past next last depth next last depth
  push_none e = record {
    most = omega arith;
    frames = λ links todo high f. record {
      stand = f.stand ∙ sym (none_first first past links todo e);
      ordered = f.ordered;
      inside = f.inside;
    };
  }

  pub push_some : first ≤ past → (first ≡ past → ⊥) → depth < length next → depth < length last
      → Pushed first past next last depth (set next depth first) (set last depth (past - 1)) (depth + 1)
  push_some low some room room' = record { most = omega arith; frames = more }
    where
      other : (l : List ℕ) (v t : ℕ) → t < depth → get_or (set l depth v) t 0 ≡ get_or l t 0
      other l v t h = get_or-set_other l depth t v 0 (λ e. omega arith)

      top : get_or (set next depth first) depth 0 ≡ first
      top = get_or-set_same next depth first 0 room

      end : get_or (set last depth (past - 1)) depth 0 ≡ past - 1
      end = get_or-set_same last depth (past - 1) 0 room'

      past_end : suc (get_or (set last depth (past - 1)) depth 0) ≡ past
      past_end = omega (arith, end)

      more : (links todo : List ℕ) → past ≤ length links → Frames links next last depth todo
          → Frames links (set next depth first) (set last depth (past - 1)) (depth + 1) (slice first past links ++ todo)
      more links todo high f = record {
        stand =
            ap (frames_links links (set next depth first) (set last depth (past - 1))) (add-one depth)
            ∙ ap₂ ◌++◌ (ap₂ (λ (m n : ℕ). slice m n links) top past_end)
            (same_frames links next last (set next depth first) (set last depth (past - 1)) depth (other next first) (other last (past - 1)) ∙ f.stand);
        ordered = λ t h.
            by_cases (dec_lt t depth) (λ l. omega (arith, other next first t l, other last (past - 1) t l, f.ordered t l))
            (λ n.
            let e : t ≡ depth = omega arith in
            omega (arith, ap (λ (k : ℕ). get_or (set next depth first) k 0) e, top, ap (λ (k : ℕ). get_or (set last depth (past - 1)) k 0) e, end));
        inside = λ t h.
            by_cases (dec_lt t depth) (λ l. omega (arith, other last (past - 1) t l, f.inside t l))
            (λ n. let e : t ≡ depth = omega arith in omega (arith, ap (λ (k : ℕ). get_or (set last depth (past - 1)) k 0) e, end));
      }

-- The frame on top, which is frame t.
module _ (links next last : List ℕ) (t : ℕ) (todo : List ℕ) (f : Frames links next last (suc t) todo) where
  -- The links after its next one.
  abbrev pub later : List ℕ
  later = slice (suc (get_or next t 0)) (suc (get_or last t 0)) links ++ frames_links links next last t

  pub take_first : todo ≡ get_or links (get_or next t 0) 0 ∷ later
  take_first =
      sym f.stand
      ∙ ap (λ (l : List ℕ). l ++ frames_links links next last t)
      (slice-cons (get_or next t 0) (suc (get_or last t 0)) links 0 (omega (arith, f.ordered t (omega arith))) (f.inside t (omega arith)))

  -- That was its last one.
  pub pop_frame : get_or last t 0 ≤ get_or next t 0 → Frames links next last t later
  pop_frame done =
      let none : suc (get_or next t 0) ≡ suc (get_or last t 0) = omega (arith, f.ordered t (omega arith)) in
      record {
        stand = sym (none_first (suc (get_or next t 0)) (suc (get_or last t 0)) links (frames_links links next last t) none);
        ordered = λ s h. f.ordered s (omega arith);
        inside = λ s h. f.inside s (omega arith);
      }

  -- It has more.
  pub take_frame : t < length next → get_or next t 0 < get_or last t 0 → Frames links (set next t (get_or next t 0 + 1)) last (suc t) later
  take_frame room some = record {
    stand =
        ap₂ ◌++◌ (ap (λ (n : ℕ). slice n (suc (get_or last t 0)) links) (top ∙ add-one (get_or next t 0)))
        (same_frames links next last (set next t (get_or next t 0 + 1)) last t other (λ s h. refl));
    ordered = λ s h.
        by_cases (dec_lt s t) (λ l. omega (arith, other s l, f.ordered s h))
        (λ n.
        let e : s ≡ t = omega arith in
        omega (arith, ap (λ (k : ℕ). get_or (set next t (get_or next t 0 + 1)) k 0) e, top, ap (λ (k : ℕ). get_or last k 0) e));
    inside = f.inside;
  }
    where
      top : get_or (set next t (get_or next t 0 + 1)) t 0 ≡ get_or next t 0 + 1
      top = get_or-set_same next t (get_or next t 0 + 1) 0 room

      other : (s : ℕ) → s < t → get_or (set next t (get_or next t 0 + 1)) s 0 ≡ get_or next s 0
      other s h = get_or-set_other next t s (get_or next t 0 + 1) 0 (λ e. omega arith)
