-- The P line stored action by action, and its actions as those of a form's action lines. Assumes nothing.
use mathlib.Core.Path.{◌≡◌, refl, sym, ap, ◌∙◌}
use mathlib.Core.List.{List, [], ◌∷◌, ◌++◌}
use Prim.Native.Nat.{ℕ, zero, suc, ◌+◌, ◌≤◌, ◌<◌}
use native.Mathlib.Numerals.{add-one}
use native.Mathlib.Omega.{arith}
use lib.ListN.{length, get_or, take, drop, set, length-set}
use lib.Seq.{sets, sets-eq, length-sets, take-suc, take-length, length-take-le}
use borrow.Rule.Slice.PartMut.{put_mid}
use Rattle.std.proofs.lemmas.Slice.{put_mid-paste}
use Rattle.rules.specs.Fields.{line_fields, cues_line}
use Rattle.rules.specs.Form.{FormLine, cue_line, task_line}
use Rattle.rules.specs.Import.{actions_of}
use Rattle.fields.proofs.Standing.{sets_append}
use Rattle.fields.proofs.Lines.{cues_fields}
use Rattle.links.specs.Links.{no_line, line_at, Lines}

-- One more action is stored.
pub copy_more : (before labels : List ℕ) (first i : ℕ) → i < length labels
    → set (sets before first (take i labels)) (first + i) (get_or labels i 0) ≡ sets before first (take (i + 1) labels)
copy_more before labels first i h =
    let size : length (take i labels) ≡ i = length-take-le i labels (omega arith) in
    sym
    (ap (λ (n : ℕ). sets before first (take n labels)) (add-one i)
    ∙ ap (sets before first) (take-suc labels i 0 h)
    ∙ sets_append (take i labels) (get_or labels i 0 ∷ []) before first
    ∙ ap (λ (n : ℕ). set (sets before first (take i labels)) (first + n) (get_or labels i 0)) size)

-- A part of a list replaced is its numbers stored one after the other.
part_put : (a k : ℕ) (xs ys : List ℕ) → length ys ≡ k → a + length ys ≤ length xs → put_mid a k xs ys ≡ sets xs a ys
part_put a k xs ys e h =
    put_mid-paste a k xs ys ys (length ys) refl e refl
    ∙ ap (λ (l : List ℕ). take a xs ++ l ++ drop (a + length ys) xs) (take-length ys)
    ∙ sym (sets-eq ys xs a h)

-- After the letter, so many.
pub plan_put : (before labels part : List ℕ) (from cues k : ℕ) → part ≡ take cues labels → k ≡ cues → cues ≤ length labels → from + 1 + cues ≤ length before
    → put_mid (from + 1) k (set before from 80) part ≡ sets before from (line_fields (cues_line (take cues labels)))
plan_put before labels part from cues k is same fits room =
    let long : length part ≡ cues = ap length is ∙ length-take-le cues labels fits in
    part_put (from + 1) k (set before from 80) part (omega arith) (omega (arith, length-set before from 80))
    ∙ ap (sets (set before from 80) (from + 1)) is
    ∙ ap (λ (n : ℕ). sets (set before from 80) n (take cues labels)) (add-one from)
    ∙ ap (sets before from) (sym (cues_fields (take cues labels)))

pub plan_long : (before labels fields : List ℕ) (from first i : ℕ) → fields ≡ sets (set before from 80) first (take i labels) → length fields ≡ length before
plan_long before labels fields from first i e = ap length e ∙ length-sets (set before from 80) first (take i labels) ∙ length-set before from 80

-- "action lines plan order": the labels of the action lines are the actions.
actions_append : (es : List FormLine) (line id a i : ℕ) → actions_of (es ++ (cue_line line id a i ∷ [])) ≡ actions_of es ++ (a ∷ [])
actions_append [] line id a i = refl
actions_append (cue_line m d b j ∷ es) line id a i = ap (λ (l : List ℕ). b ∷ l) (actions_append es line id a i)
actions_append (task_line m d b ss ∷ es) line id a i = actions_append es line id a i

pub plan_actions : (es : List FormLine) (cues : ℕ) (ids labels : List ℕ) → Lines es cues ids labels → cues ≤ length labels → (n : ℕ) → n ≤ cues
    → take n labels ≡ actions_of (take n es)
unfolding line_at
plan_actions es cues ids labels h long zero less = refl
plan_actions es cues ids labels h long (suc n) less =
    take-suc labels n 0 (omega arith)
    ∙ ap (λ (l : List ℕ). l ++ (get_or labels n 0 ∷ [])) (plan_actions es cues ids labels h long n (omega arith))
    ∙ sym (actions_append (take n es) (n + 2) (get_or ids n 0) (get_or labels n 0) (n + 1))
    ∙ ap (λ (e : FormLine). actions_of (take n es ++ (e ∷ []))) (sym (h.cue_here n (omega arith)))
    ∙ ap actions_of (sym (take-suc es n no_line (omega (arith, h.few))))
