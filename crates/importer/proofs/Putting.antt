-- The made text in the output, and what a form that was read gives to linking and to making. Assumes nothing.
use mathlib.Core.Path.{◌≡◌, refl, sym, ap, subst, ◌∙◌}
use mathlib.Core.Bool.{Bool, true, false}
use mathlib.Core.List.{List}
use Prim.Native.Nat.{ℕ, zero, suc, ◌*◌, ◌≤◌, ◌<◌}
use native.Mathlib.Omega.{arith}
use borrow.Author.Tests.{lt-ltb, le-ltb}
use lib.ListN.{length, get_or, take, drop, replicate, length-replicate}
use Rattle.std.specs.Prelude.{Ok, Err, Result as Returned, None, Some}
use Rattle.rules.specs.declared.Answer.{Answer}
use Rattle.rules.specs.declared.Answer.TheVariants.{ShortOutput, WrongId}
use Rattle.rules.specs.Result.{Result, found, refused, ◌>>◌}
use Rattle.rules.specs.Case.{Case}
use Rattle.rules.specs.Fields.{lines_of}
use Rattle.rules.specs.Print.{lines_text, printed}
use Rattle.rules.specs.Verdict.{filled, unless}
use Rattle.rules.specs.Writing.{room_for}
use Rattle.rules.specs.Form.{Form, form_lines, wrong_line, ids_right}
use Rattle.rules.specs.Import.{made_case}
use Rattle.links.specs.Links.{link}
use Rattle.wrongs.specs.Wrongs.{as_line}
use Rattle.wrongs.specs.Wrongs as Wrongs
use Rattle.linking.specs.declared.Tied.{Tied}
use Rattle.linking.specs.Linking.{Joined}
use Rattle.making.specs.Making.{Makes}
use Rattle.making.proofs.Cases.{form_cued, form_tasked}
use Rattle.output.proofs.Cases.{case_text}
use Rattle.importer.specs.Importing.{FormHeld, Unlinked, made_of, MadeIs, PutMade}

-- ---- The output

-- 14: the text is longer than the output, or not.
module _ (size : ℕ) (made : List ℕ) where
  abbrev room : Bool → Result (Unit {0})
  room b = elim b as (λ b. Result (Unit {0})) [ true ↦ refused (ShortOutput (length made)) | false ↦ found tt ]

  pub put_short : (n : ℕ) (output : List ℕ) → n ≡ length made → size < n → PutMade made size (Err (ShortOutput n)) output
  put_short n output e h =
      subst (λ (x : Result (Unit {0})). MadeIs (x >> found made) size (Err (ShortOutput n)) output)
      (sym (ap room (lt-ltb size (length made) (omega arith))))
      (ap (λ (m : ℕ). Err (ShortOutput m)) e)

  pub put_whole : (n : ℕ) (output : List ℕ) → n ≡ length made → n ≤ size → output ≡ filled size 0 made → PutMade made size (Ok n) output
  put_whole n output e h put =
      subst (λ (x : Result (Unit {0})). MadeIs (x >> found made) size (Ok n) output)
      (sym (ap room (le-ltb size (length made) (omega arith))))
      (ap (λ (m : ℕ). Ok m) e, put, omega arith)

-- ---- Lists that are zero at first

pub zero_at : (n i : ℕ) → ◌≡◌ {A = ℕ} (get_or (replicate n 0) i 0) 0
zero_at zero i = refl
zero_at (suc n) zero = refl
zero_at (suc n) (suc i) = zero_at n i

zeros_long : (n count : ℕ) → count ≤ n → count ≤ length (replicate {A = ℕ} n 0)
zeros_long n count h = omega (arith, length-replicate {A = ℕ} n 0)

pub zeros_unlinked : (count lines links : ℕ) → count ≤ lines → 32 * count ≤ links
    → Unlinked count (replicate (suc lines) 0) (replicate links 0) (replicate lines 0) (replicate lines 0) (replicate lines 0) (replicate lines 0)
zeros_unlinked count lines links few fit =
    let long = zeros_long lines count few in
    record {
      starts_long = zeros_long (suc lines) (suc count) (omega arith);
      links_long = zeros_long links (32 * count) fit;
      twin_long = long;
      used_long = long;
      marks_long = long;
      spare_long = long;
      links_zero = zero_at links;
      twin_zero = zero_at lines;
      used_zero = zero_at lines;
      marks_zero = zero_at lines;
    }

-- ---- The form

right_ids : (f : Form) → wrong_line f ≡ as_line None → ids_right f ≡ found tt
unfolding ids_right
right_ids f e = ap (unless WrongId) e

wrong_ids : (f : Form) (line : ℕ) → wrong_line f ≡ as_line (Some line) → ids_right f ≡ refused (WrongId line)
unfolding ids_right
wrong_ids f line e = ap (unless WrongId) e

module _ {k : Case} {f : Form} {text places ids labels : List ℕ} {cues count root : ℕ} {fields : List ℕ} {plan : ℕ} (h : FormHeld k f text places ids labels cues count root fields plan) where
  pub held_few : (cues ≤ count) × (count ≤ 3000)
  held_few = (omega (arith, h.lines.few, h.counted), omega (arith, h.lines.most, h.counted))

  held_cued : f.cues ≡ take cues (form_lines f)
  held_cued = form_cued f ∙ ap (λ (n : ℕ). take n (form_lines f)) h.cued

  held_tasked : f.tasks ≡ drop cues (form_lines f)
  held_tasked = form_tasked f ∙ ap (λ (n : ℕ). drop n (form_lines f)) h.cued

  held_form : Wrongs.Holds f (form_lines f) cues root
  held_form = record { front = held_cued; root_at = h.root_at; root_is = h.rooted; back = held_tasked }

  module _ (r : Tied) (starts links : List ℕ) (j : Joined (form_lines f) cues root r starts links) where
    pub held_makes : Makes k f (form_lines f) ids starts links labels cues count r.root plan fields
    held_makes = record {
      stands = h.stands;
      planned = h.planned;
      cued = held_cued;
      tasked = held_tasked;
      holds = record { lines = h.lines; linked = j.linked; counted = h.counted; rooted = j.rooted ∙ ap (link (form_lines f)) (sym h.rooted) };
    }

    -- 19
    pub held_wrong : (size : ℕ) (output : List ℕ) (line : ℕ) → r.line ≡ Some line → MadeIs (made_of size k f) size (Err (WrongId line)) output
    unfolding made_of
    held_wrong size output line l =
        subst
        (λ (x : Result (Unit {0})). MadeIs (x >> (room_for size (printed (made_case k f)) >> found (printed (made_case k f)))) size (Err (WrongId line)) output)
        (sym (wrong_ids f line (j.wrong f held_form ∙ ap as_line l))) refl

    pub held_right : (size : ℕ) (m : Returned ℕ Answer) (output : List ℕ) → r.line ≡ None → PutMade (lines_text (lines_of (made_case k f))) size m output
        → MadeIs (made_of size k f) size m output
    unfolding made_of
    held_right size m output l put =
        subst (λ (x : Result (Unit {0})). MadeIs (x >> (room_for size (printed (made_case k f)) >> found (printed (made_case k f)))) size m output)
        (sym (right_ids f (j.wrong f held_form ∙ ap as_line l)))
        (subst (λ (made : List ℕ). PutMade made size m output) (sym (case_text (made_case k f))) put)
