-- The whole form, by its parts: the opening line, the lines up to the root line, those after it, and nothing more. Assumes nothing.
use mathlib.Core.Path.{◌≡◌, refl, sym, ap, ap₂, subst, ◌∙◌}
use mathlib.Core.Bool.{Bool, true, false}
use mathlib.Core.List.{List, ◌++◌}
use mathlib.Core.Option.{Option}
use Prim.Native.Nat.{ℕ, ◌+◌, ◌-◌, ◌≤◌, ◌<◌}
use borrow.Author.Tests.{lt-ltb, le-ltb}
use lib.Dec.{ltb}
use lib.ListN.{length}
use Rattle.std.specs.Prelude.{Some, None, Ok, Err, Result as Returned}
use Rattle.rules.specs.declared.Answer.{Answer}
use Rattle.rules.specs.declared.Answer.TheVariants.{WrongShape}
use Rattle.rules.specs.Result.{Result, found, refused, ◌>>=◌, ◌>>◌}
use Rattle.rules.specs.Case.{Case, Read}
use Rattle.rules.specs.Tokens.{due_line, no_more, shaped, words_of}
use Rattle.rules.specs.Naming.{Names}
use Rattle.rules.specs.Form.{opening_of, FormLine, Fronts, front_lines, back_lines, form_line_most, Form, form_lines, read_form}
use Rattle.shapes.specs.Shapes.{OpeningIs}
use Rattle.links.specs.Links.{Lines, Spelled}
use Rattle.forms.specs.declared.fronts.Fronts.{Fronts as FrontsRead}
use Rattle.forms.specs.declared.backs.Backs.{Backs}
use Rattle.forms.specs.Held.{FrontsAre, BacksAre, FormIs}

-- How much the lists have room for, and how many lines there are.
pub fronts_few : (k : Case) (ns : Names) (text : List ℕ) (from : ℕ) (r : Returned FrontsRead Answer) (ids labels : List ℕ) → FrontsAre k ns text from r ids labels
    → (cues root next : ℕ) → r ≡ Ok (record { cues = cues; root = root; next = next }) → (cues ≤ 3000) × (length ids ≡ 3000) × (length labels ≡ 3000)
fronts_few k ns text from r ids labels h cues root next q =
    let w = subst (λ (x : Returned FrontsRead Answer). FrontsAre k ns text from x ids labels) q h in
    (w.3, w.4, w.5)

module _ (k : Case) (ns : Names) (text : List ℕ) where
  -- What is left to do after the lines up to the root line, and after the others.
  abbrev ended : List FormLine → ℕ → List FormLine → Result (Unit {0}) → Result Form
  ended cues root tasks r = r >> found (record { cues = cues; root_line = 2 + length cues; root = root; tasks = tasks })

  abbrev after_backs : List FormLine → ℕ → Read (List FormLine) → Result Form
  after_backs cues root r = r >>= λ (tasks, n', place'). ended cues root tasks (no_more text 0 n' place')

  abbrev after_fronts : Result Fronts → Result Form
  after_fronts r = r >>= λ f. after_backs f.cues f.root (back_lines k ns text f.left f.next f.place)

  abbrev after_first : Read (List ℕ) → Result Form
  after_first r = r >>= λ (line, n, place). shaped 0 1 (opening_of (words_of line)) >> after_fronts (front_lines k ns text 3000 1 n place)

  by_first : read_form k ns text ≡ after_first (due_line text 0 1 0)
  unfolding read_form form_line_most
  by_first = refl

  refusal : (a : Answer) → read_form k ns text ≡ refused a → (ids labels places : List ℕ) → FormIs text (read_form k ns text) (Err a) ids labels places
  refusal a e ids labels places = subst (λ (x : Result Form). FormIs text x (Err a) ids labels places) (sym e) refl

  pub no_opening : OpeningIs text None → (ids labels places : List ℕ) → FormIs text (read_form k ns text) (Err (WrongShape 1 0)) ids labels places
  no_opening o = refusal (WrongShape 1 0) (by_first ∙ by_line_lem (due_line text 0 1 0) o)
    where
      by_line_lem : (d : Read (List ℕ)) → (d >>= λ x. shaped 0 1 (opening_of (words_of x.0))) ≡ refused (WrongShape 1 0)
          → after_first d ≡ refused (WrongShape 1 0)
      by_line_lem (found (line, n, place)) e = ap (λ (s : Result (Unit {0})). s >> after_fronts (front_lines k ns text 3000 1 n place)) e
      by_line_lem (refused b) e = let q : b ≡ WrongShape 1 0 = cc in ap refused q

  module _ (second : ℕ) (o : OpeningIs text (Some second)) where
    opened : read_form k ns text ≡ after_fronts (front_lines k ns text 3000 1 2 second)
    opened =
        by_first
        ∙ (ap after_first o.0
        ∙ ap (λ (x : Option (Unit {0})). shaped 0 1 x >> after_fronts (front_lines k ns text 3000 1 2 second)) o.1)

    pub front_refusal : (a : Answer) (ids labels : List ℕ) → FrontsAre k ns text second (Err a) ids labels → (places : List ℕ)
        → FormIs text (read_form k ns text) (Err a) ids labels places
    front_refusal a ids labels h places = refusal a (opened ∙ ap after_fronts h) ids labels places

    module _ (r : FrontsRead) (ids labels : List ℕ) (h : FrontsAre k ns text second (Ok r) ids labels) where
      by_backs : read_form k ns text ≡ after_backs h.0 r.root (back_lines k ns text (3000 - r.cues) (r.cues + 3) r.next)
      by_backs = opened ∙ ap after_fronts h.6

      -- What reading the lines after the root line answers and leaves.
      abbrev BacksHere : Returned Backs Answer → List ℕ → List ℕ → List ℕ → Type 0
      BacksHere s ids' labels' places' =
          (cs : List FormLine) → length cs ≡ r.cues → Lines cs r.cues ids labels → BacksAre k ns text r.cues r.next cs s ids' labels' places'

      module _ (ids' labels' places' : List ℕ) where
        pub back_refusal : (a : Answer) → BacksHere (Err a) ids' labels' places' → FormIs text (read_form k ns text) (Err a) ids' labels' places'
        back_refusal a g = refusal a (by_backs ∙ ap (after_backs h.0 r.root) (g h.0 h.1 h.2)) ids' labels' places'

        module _ (s : Backs) (g : BacksHere (Ok s) ids' labels' places') where
          backs : BacksAre k ns text r.cues r.next h.0 (Ok s) ids' labels' places'
          backs = g h.0 h.1 h.2

          pub backs_few : s.count ≤ 3000
          backs_few = backs.4

          tasks : List FormLine
          tasks = backs.0

          by_rest : (x : Bool) → ltb s.next (length text) ≡ x
              → read_form k ns text ≡ ended h.0 r.root tasks (elim x [ true ↦ refused (WrongShape (s.count + 4) 0) | false ↦ found tt ])
          unfolding no_more tasks
          by_rest x e =
              by_backs
              ∙ (ap (after_backs h.0 r.root) backs.5
              ∙ ap (λ (y : Bool). ended h.0 r.root tasks (elim y as (λ b. Result (Unit {0})) [ true ↦ refused (WrongShape (s.count + 4) 0) | false ↦ found tt ])) e)

          pub more_refusal : s.next < length text → FormIs text (read_form k ns text) (Err (WrongShape (s.count + 4) 0)) ids' labels' places'
          more_refusal l = refusal (WrongShape (s.count + 4) 0) (by_rest true (lt-ltb s.next (length text) l)) ids' labels' places'

          pub whole : length text ≤ s.next
              → FormIs text (read_form k ns text) (Ok (record { cues = r.cues; count = s.count; root = r.root })) ids' labels' places'
          unfolding form_lines tasks
          whole l =
              subst (λ (x : Result Form). FormIs text x (Ok (record { cues = r.cues; count = s.count; root = r.root })) ids' labels' places')
              (sym (by_rest false (le-ltb s.next (length text) l))) (
                ap₂ (λ (i j : ℕ). Ok (record { cues = i; count = j; root = r.root })) (sym h.1) (sym backs.1),
                subst (λ (i : ℕ). Lines (h.0 ++ tasks) i ids' labels') (sym h.1) backs.2,
                subst (λ (i : ℕ). Spelled text places' (h.0 ++ tasks) i) (sym h.1) backs.3,
                refl,
              )
