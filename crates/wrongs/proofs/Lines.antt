-- The first line that fails the test is the first that is wrong, and the line that the form's definition names. Assumes nothing.
use mathlib.Core.Path.{◌≡◌, refl, sym, ap, ◌∙◌}
use mathlib.Core.Bool.{Bool, true, false, not, ◌&&◌, ◌||◌, false≢true, or-true}
use mathlib.Core.List.{List, [], ◌∷◌, ◌++◌}
use mathlib.Core.Logic.{⊎_elim}
use mathlib.Core.Option.{Option, none, some}
use Prim.Native.Nat.{ℕ, zero, suc, ◌+◌, ◌-◌, ◌≤◌, ◌<◌}
use native.Mathlib.Omega.{arith}
use lib.Dec.{eqb, ltb}
use lib.ListN.{length, get_or, take, drop, length-take, length-drop, take-append-drop}
use lib.Seq.{get_or-take, get_or-drop}
use borrow.Author.Tests.{eqb-true, eq-eqb, ne_eqb, lt-ltb, le-ltb}
use Rattle.rules.specs.Tree.{is_in}
use Rattle.rules.specs.Form.{FormLine, Form, line_number, defines, uses, form_lines, times, all_defined, all_used, is_reached, any_missing, is_wrong, first_wrong, wrong_line}
use Rattle.links.specs.Links.{no_line, line_at, link}
use Rattle.std.specs.Prelude.{Option as Named, Some, None}
use Rattle.wrongs.specs.Wrongs.{fails, FirstFailing, Known, Holds, as_line}
use Rattle.wrongs.proofs.Firsts.{same_or_not, less_or_not, defined_link, First}
use Rattle.wrongs.proofs.Counts.{in_times, defined_twice, twin_twice, link_same, used_times, eqb_alike}
use Rattle.wrongs.proofs.Reaches.{marked_reached}

-- ---- A wrong line

-- It defines an id defined twice.
wrong_twice : (es : List FormLine) (id : ℕ) (e : FormLine) → 1 < times (defines e) (all_defined es) → is_wrong es id e ≡ true
unfolding is_wrong
wrong_twice es id e l =
    ap (λ (b : Bool). b || (ltb 1 (times (defines e) (all_used es)) || ((eqb (defines e) id && is_in id (all_used es))
    || (not (is_reached es id (defines e)) || any_missing (all_defined es) (uses e)))))
    (lt-ltb 1 (times (defines e) (all_defined es)) l)

or_last : (a b c d : Bool) → (a || (b || (c || (d || true)))) ≡ true
or_last true b c d = refl
or_last false true c d = refl
or_last false false true d = refl
or_last false false false d = or-true d

-- It uses an id never defined.
wrong_missing : (es : List FormLine) (id : ℕ) (e : FormLine) → any_missing (all_defined es) (uses e) ≡ true → is_wrong es id e ≡ true
unfolding is_wrong
wrong_missing es id e m =
    rw m (or_last (ltb 1 (times (defines e) (all_defined es))) (ltb 1 (times (defines e) (all_used es))) (eqb (defines e) id && is_in id (all_used es)) (not (is_reached es id (defines e))))

-- Tests that agree one by one.
all_alike : {a b c d e a' b' c' d' e' : Bool} → a ≡ a' → b ≡ b' → c ≡ c' → d ≡ d' → e ≡ e'
    → (a || (b || (c || (d || e)))) ≡ (a' || (b' || (c' || (d' || e'))))
all_alike p q r s t = cc

module _ {es : List FormLine} {cues count : ℕ} {ids labels starts links twin used marks : List ℕ} {lost root id : ℕ}
    (k : Known es cues count ids labels starts links twin used marks lost root id) where
  -- No line before e is wrong.
  abbrev Fine : ℕ → Type 0
  Fine e = (d : ℕ) → d < e → is_wrong es id (line_at es d) ≡ false

  -- Then it is the first line with its id: an earlier one with the same id would be wrong.
  fine_first : (e : ℕ) → e < length es → Fine e → First es e
  fine_first e h fine =
      ⊎_elim
      (λ f. f)
      (λ (d, l, w). absurd (false≢true (sym (fine d l) ∙ wrong_twice es id (line_at es d)
      (defined_twice es d e l h (k.twins.later d e (omega arith) w).2))))
      (k.twins.chained e h)

  -- A root's line that is used.
  under_parent : (e : ℕ) → e < length es → First es e
      → (eqb root (e + 1) && ltb 0 (get_or used e 0)) ≡ (eqb (defines (line_at es e)) id && is_in id (all_used es))
  under_parent e h f = go (eqb (defines (line_at es e)) id) refl
    where
      alike : eqb root (e + 1) ≡ eqb (defines (line_at es e)) id
      alike =
          eqb_alike root (e + 1) (link es id) (suc e) (λ s. omega (arith, k.rooted)) (λ s. omega (arith, k.rooted)) ∙ link_same es e id f
          ∙ eqb_alike id (defines (line_at es e)) (defines (line_at es e)) id (λ s. sym s) (λ s. sym s)

      go : (b : Bool) → eqb (defines (line_at es e)) id ≡ b
          → (eqb root (e + 1) && ltb 0 (get_or used e 0)) ≡ (eqb (defines (line_at es e)) id && is_in id (all_used es))
      go true q =
          ap (λ (b : Bool). b && ltb 0 (get_or used e 0)) (alike ∙ q)
          ∙ ap (ltb 0) (used_times es used k.counted e h f ∙ ap (λ (x : ℕ). times x (all_used es)) (eqb-true (defines (line_at es e)) id q))
          ∙ sym (in_times id (all_used es))
          ∙ sym (ap (λ (b : Bool). b && is_in id (all_used es)) q)
      go false q = ap (λ (b : Bool). b && ltb 0 (get_or used e 0)) (alike ∙ q) ∙ sym (ap (λ (b : Bool). b && is_in id (all_used es)) q)

  -- The first line that uses an id never defined.
  lost_missing : (e : ℕ) → e < length es → Fine e → eqb e lost ≡ any_missing (all_defined es) (uses (line_at es e))
  lost_missing e h fine =
      ⊎_elim
      (λ s. eq-eqb e lost s ∙ sym (rw s (k.missing (omega (arith, k.counts)))))
      (λ o. ⊎_elim
      (λ l. ne_eqb e lost o ∙ sym (k.defined e l))
      (λ m. let l : lost < e = omega arith in
      absurd (false≢true (sym (fine lost l) ∙ wrong_missing es id (line_at es lost) (k.missing (omega (arith, k.counts))))))
      (less_or_not e lost))
      (same_or_not e lost)

  -- So the test of e says whether it is wrong.
  test_wrong : (e : ℕ) → e < length es → Fine e → fails twin used marks lost root e ≡ is_wrong es id (line_at es e)
  unfolding fails is_wrong
  test_wrong e h fine =
      let f = fine_first e h fine in
      all_alike
      (twin_twice k.twins e h f)
      (ap (ltb 1) (used_times es used k.counted e h f))
      (under_parent e h f)
      (marked_reached es starts links twin marks root id k.linked k.twins k.rooted k.unmarked k.marked e h)
      (lost_missing e h fine)

  -- The first line that fails: no line before it is wrong, and it is.
  module _ {w : ℕ} (t : FirstFailing (fails twin used marks lost root) count w) where
    fine_below : (e : ℕ) → e ≤ w → Fine e
    fine_below zero h d l = absurd (omega arith)
    fine_below (suc e) h d l = go (fine_below e (omega arith))
      where
        go : Fine e → is_wrong es id (line_at es d) ≡ false
        go fine =
            ⊎_elim
            (λ s. rw s (sym (test_wrong e (omega (arith, t.within, k.counts)) fine) ∙ t.passed e (omega arith)))
            (λ o. fine d (omega arith))
            (same_or_not d e)

    wrong_here : w < count → is_wrong es id (line_at es w) ≡ true
    wrong_here h = sym (test_wrong w (omega (arith, k.counts)) (fine_below w (omega arith))) ∙ t.failing h

-- ---- The first of a list's lines

module _ (wrong : FormLine → Bool) where
  -- The first that is wrong is at this place.
  first_at : (l : List FormLine) (later : Option ℕ) (w : ℕ) → w < length l → ((d : ℕ) → d < w → wrong (get_or l d no_line) ≡ false)
      → wrong (get_or l w no_line) ≡ true → first_wrong wrong l later ≡ some (line_number (get_or l w no_line))
  first_at [] later w h f t = absurd (omega arith)
  first_at (e ∷ l) later zero h f t = ap (λ (b : Bool). elim b [ true ↦ some (line_number e) | false ↦ first_wrong wrong l later ]) t
  first_at (e ∷ l) later (suc w) h f t =
      ap (λ (b : Bool). elim b [ true ↦ some (line_number e) | false ↦ first_wrong wrong l later ]) (f 0 (omega arith))
      ∙ first_at l later w (omega arith) (λ d g. f (suc d) (omega arith)) t

  -- None is.
  first_none : (l : List FormLine) (later : Option ℕ) → ((d : ℕ) → d < length l → wrong (get_or l d no_line) ≡ false) → first_wrong wrong l later ≡ later
  first_none [] later f = refl
  first_none (e ∷ l) later f =
      ap (λ (b : Bool). elim b [ true ↦ some (line_number e) | false ↦ first_wrong wrong l later ]) (f 0 (omega arith))
      ∙ first_none l later (λ d g. f (suc d) (omega arith))

take_at : (es : List FormLine) (cues d : ℕ) → d < cues → get_or (take cues es) d no_line ≡ line_at es d
unfolding line_at
take_at es cues d h = get_or-take cues es d no_line h

drop_at : (es : List FormLine) (cues d : ℕ) → get_or (drop cues es) d no_line ≡ line_at es (cues + d)
unfolding line_at
drop_at es cues d = get_or-drop cues es d no_line

-- ---- The line that is named

-- What a form's definition names, over its parts: the first of the front, the root line, the first of the back.
chosen : (es front back : List FormLine) (line id : ℕ) → Option ℕ
chosen es front back line id =
    first_wrong (is_wrong es id) front (elim (is_in id (all_defined es)) [ true ↦ first_wrong (is_wrong es id) back none | false ↦ some line ])

opened : (f : Form) → wrong_line f ≡ chosen (f.cues ++ f.tasks) f.cues f.tasks f.root_line f.root
unfolding wrong_line form_lines chosen
opened f = refl

named : {f : Form} {es : List FormLine} {cues id : ℕ} → Holds f es cues id → wrong_line f ≡ chosen es (take cues es) (drop cues es) (2 + cues) id
named {f} {es} {cues} h = opened f ∙ rw (h.front, h.back, h.root_at, h.root_is, take-append-drop cues es)

module _ {es : List FormLine} {cues count : ℕ} {ids labels starts links twin used marks : List ℕ} {lost root id : ℕ}
    (k : Known es cues count ids labels starts links twin used marks lost root id) {w : ℕ}
    (t : FirstFailing (fails twin used marks lost root) count w) where
  abbrev choice : Option ℕ
  choice = chosen es (take cues es) (drop cues es) (2 + cues) id

  front_fine : (d : ℕ) → d < cues → d < w → is_wrong es id (get_or (take cues es) d no_line) ≡ false
  front_fine d g l = ap (is_wrong es id) (take_at es cues d g) ∙ fine_below k t w (omega arith) d l

  back_fine : (d : ℕ) → cues + d < w → is_wrong es id (get_or (drop cues es) d no_line) ≡ false
  back_fine d l = ap (is_wrong es id) (drop_at es cues d) ∙ fine_below k t w (omega arith) (cues + d) l

  -- An action line.
  choice_front : w < cues → choice ≡ as_line (Some (w + 2))
  unfolding chosen
  choice_front h =
      first_at (is_wrong es id) (take cues es) _ w (omega (arith, length-take cues es, k.counts))
      (λ d l. front_fine d (omega arith) l)
      (ap (is_wrong es id) (take_at es cues w h) ∙ wrong_here k t (omega arith))
      ∙ ap (λ (e : FormLine). some (line_number e)) (take_at es cues w h ∙ k.lines.cue_here w h)

  -- No action line: it is as the root's id is defined or not.
  choice_past : cues ≤ w → (b : Bool) → ltb 0 root ≡ b
      → choice ≡ elim b [ true ↦ first_wrong (is_wrong es id) (drop cues es) none | false ↦ some (2 + cues) ]
  unfolding chosen
  choice_past h b q =
      first_none (is_wrong es id) (take cues es) _
      (λ d l. let g : d < cues = omega (arith, length-take cues es) in front_fine d g (omega arith))
      ∙ ap (λ (b : Bool). elim b [ true ↦ first_wrong (is_wrong es id) (drop cues es) none | false ↦ some (2 + cues) ])
      (defined_link es id ∙ ap (ltb 0) (sym k.rooted) ∙ q)

  -- The root line.
  choice_root : cues ≤ w → root ≡ 0 → choice ≡ as_line (Some (cues + 2))
  choice_root h z =
      choice_past h false (le-ltb 0 root (omega arith)) ∙ ap {B = Option ℕ} some (omega arith)

  -- A compound line.
  choice_back : cues ≤ w → (root ≡ 0 → ⊥) → w < count → choice ≡ as_line (Some (w + 3))
  choice_back h o l =
      let d = w - cues in
      let s : cues + d ≡ w = omega arith in
      let (subtasks, q, fit) = k.lines.task_here w h (omega (arith, k.counts)) in
      choice_past h true (lt-ltb 0 root (omega arith))
      ∙ first_at (is_wrong es id) (drop cues es) none d (omega (arith, length-drop cues es, k.counts))
      (λ d g. back_fine d (omega arith))
      (ap (is_wrong es id) (drop_at es cues d ∙ ap (line_at es) s) ∙ wrong_here k t l)
      ∙ ap (λ (e : FormLine). some (line_number e)) (drop_at es cues d ∙ ap (line_at es) s ∙ q)

  -- None.
  choice_none : cues ≤ w → (root ≡ 0 → ⊥) → count ≤ w → choice ≡ none
  choice_none h o l =
      choice_past h true (lt-ltb 0 root (omega arith))
      ∙ first_none (is_wrong es id) (drop cues es) none (λ d g. back_fine d (omega (arith, length-drop cues es, k.counts)))

-- ---- What the code answers

-- The answer, if it is a line, is the line that the form's definition names.
abbrev pub Answers : (cues count : ℕ) (twin used marks : List ℕ) (lost root : ℕ) (r : Named ℕ) → Type 0
Answers cues count twin used marks lost root r =
    (es : List FormLine) (ids labels starts links : List ℕ) (id : ℕ) → Known es cues count ids labels starts links twin used marks lost root id
    → (f : Form) → Holds f es cues id → wrong_line f ≡ as_line r

module _ {cues count : ℕ} {twin used marks : List ℕ} {lost root w : ℕ} (t : FirstFailing (fails twin used marks lost root) count w) where
  pub answers_front : w < cues → Answers cues count twin used marks lost root (Some (w + 2))
  answers_front h es ids labels starts links id k f o = named o ∙ choice_front k t h

  pub answers_root : cues ≤ w → root ≡ 0 → Answers cues count twin used marks lost root (Some (cues + 2))
  answers_root h z es ids labels starts links id k f o = named o ∙ choice_root k t h z

  pub answers_back : cues ≤ w → (root ≡ 0 → ⊥) → w < count → Answers cues count twin used marks lost root (Some (w + 3))
  answers_back h n l es ids labels starts links id k f o = named o ∙ choice_back k t h n l

  pub answers_none : cues ≤ w → (root ≡ 0 → ⊥) → count ≤ w → Answers cues count twin used marks lost root None
  answers_none h n l es ids labels starts links id k f o = named o ∙ choice_none k t h n l
