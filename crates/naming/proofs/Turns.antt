-- What is read, by the code's answer; the lines of one use, by the first of them; how many names they list, and the number of the line after
-- them. Assumes nothing.
use mathlib.Core.Path.{◌≡◌, refl, sym, ap, subst, ◌∙◌}
use mathlib.Core.Bool.{Bool, true, false}
use mathlib.Core.List.{List, ◌∷◌}
use mathlib.Core.Option.{Option, none, some}
use Prim.Native.Nat.{ℕ, zero, suc, ◌+◌}
use native.Mathlib.Omega.{arith}
use lib.ListN.{length, drop}
use Rattle.std.specs.Prelude.{Ok, Err, IsErr, IsErrAnd}
use Rattle.std.proofs.lemmas.Result.{err_from_is_err_and}
use Rattle.std.specs.Prelude as code
use Rattle.rules.specs.declared.Answer.{Answer}
use Rattle.rules.specs.declared.Answer.TheVariants.{WrongShape}
use Rattle.rules.specs.Result.{Result, found, refused, ◌>>=◌, ◌>>◌}
use Rattle.rules.specs.Text.{is_comma, feed_follows}
use Rattle.rules.specs.Case.{Read}
use Rattle.rules.specs.Faults.{pieces}
use Rattle.rules.specs.Tokens.{line_of, due_line, shaped}
use Rattle.rules.specs.Naming.{name_for, not_again, name_lines}
use Rattle.naming.specs.declared.Spot.{Spot}
use Rattle.naming.specs.Lines.{spot, one_name, Left}

apart : {A : Type 0} → ◌≡◌ {A = ℕ} 0 1 → A
apart z = absurd (omega arith)

-- ---- By the code's answer

-- What a `?` passes on.
pub passed_on : {A : Type 0} {x : Answer} (r : code.Result A Answer) → IsErr r × IsErrAnd r (λ y. y ≡ x) → r ≡ Err x
passed_on r h = let e = err_from_is_err_and r h.1 in e.1 ∙ ap Err e.2

module _ {A : Type 0} (known : A → Type 0) where
  -- It goes on at a spot.
  pub went : (r : Read A) (g : code.Result Spot Answer) → Left known r g → (s : Spot) → g ≡ Ok s → (a : A) × (r ≡ found (a, s.line, s.at)) × known a
  went (found (a, n, place)) g h s e =
      let w = sym h.0 ∙ e in
      let q : spot n place ≡ s = cc in
      (a, ap (λ (x : Spot). found (a, x.line, x.at)) q, h.1)
  went (refused x) g h s e = let w = sym h ∙ e in apart (cc)

  -- It refuses the text.
  pub halted : (r : Read A) (g : code.Result Spot Answer) → Left known r g → (x : Answer) → g ≡ Err x → r ≡ refused x
  halted (found (a, n, place)) g h x e = let w = sym h.0 ∙ e in apart (cc)
  halted (refused y) g h x e = let w = sym h ∙ e in let q : y ≡ x = cc in ap refused q

-- ---- By the first line

module _ (text : List ℕ) (i : ℕ) (earlier : List (List ℕ)) (n place : ℕ) where
  abbrev first : Read (List ℕ) → Read (List ℕ)
  first d = d >>= λ (line, n', place'). shaped 1 n (name_for i (pieces is_comma line)) >>= λ name. not_again n earlier name >> found (name, n', place')

  module _ (count : ℕ) where
    -- The names after the first.
    abbrev pub others : List ℕ → ℕ → ℕ → Read (List (List ℕ))
    others name n' place' = name_lines text count (suc i) (name ∷ earlier) n' place' >>= λ (names, n'', place''). found (name ∷ names, n'', place'')

    pub lines_by_one : name_lines text (suc count) i earlier n place ≡ (one_name text i earlier n place >>= λ (name, n', place'). others name n' place')
    unfolding one_name
    lines_by_one = by_line_lem (due_line text 1 n place)
      where
        by_again : (r : Result (Unit {0})) (name : List ℕ) (n' place' : ℕ)
            → (r >> others name n' place') ≡ ((r >> found (name, n', place')) >>= λ (name, n', place'). others name n' place')
        by_again (found tt) name n' place' = refl
        by_again (refused a) name n' place' = refl

        by_shape : (o : Option (List ℕ)) (n' place' : ℕ)
            → (shaped 1 n o >>= λ name. not_again n earlier name >> others name n' place')
            ≡ ((shaped 1 n o >>= λ name. not_again n earlier name >> found (name, n', place')) >>= λ (name, n', place'). others name n' place')
        by_shape none n' place' = refl
        by_shape (some name) n' place' = by_again (not_again n earlier name) name n' place'

        by_line_lem : (d : Read (List ℕ))
            → (d >>= λ (line, n', place'). shaped 1 n (name_for i (pieces is_comma line)) >>= λ name. not_again n earlier name >> others name n' place')
            ≡ (first d >>= λ (name, n', place'). others name n' place')
        by_line_lem (found (line, n', place')) = by_shape (name_for i (pieces is_comma line)) n' place'
        by_line_lem (refused a) = refl

  -- The line after a line that is read.
  abbrev pub Follows : Read (List ℕ) → Type 0
  Follows (found (name, n', place')) = n' ≡ n + 1
  Follows (refused a) = Unit {0}

  pub one_follows : Follows (one_name text i earlier n place)
  unfolding one_name due_line
  one_follows = by_feed (feed_follows text place)
    where
      by_again : (r : Result (Unit {0})) (name : List ℕ) (place' : ℕ) → Follows (r >> found (name, n + 1, place'))
      by_again (found tt) name place' = refl
      by_again (refused a) name place' = tt

      by_shape : (o : Option (List ℕ)) (place' : ℕ) → Follows (shaped 1 n o >>= λ name. not_again n earlier name >> found (name, n + 1, place'))
      by_shape none place' = tt
      by_shape (some name) place' = by_again (not_again n earlier name) name place'

      by_feed : (x : Bool) → Follows (first (elim x [ true ↦ found (line_of (drop place text), n + 1, place + suc (length (line_of (drop place text)))) | false ↦ refused (WrongShape n 1) ]))
      by_feed true = by_shape (name_for i (pieces is_comma (line_of (drop place text)))) (place + suc (length (line_of (drop place text))))
      by_feed false = tt

-- ---- How many

-- As many names as are asked for, from line n on.
abbrev pub Counts : ℕ → ℕ → Read (List (List ℕ)) → Type 0
Counts count n (found (names, n', place)) = (length names ≡ count) × (n' ≡ n + count)
Counts count n (refused a) = Unit {0}

pub lines_count : (text : List ℕ) (count i : ℕ) (earlier : List (List ℕ)) (n place : ℕ) → Counts count n (name_lines text count i earlier n place)
lines_count text zero i earlier n place = (refl, omega arith)
lines_count text (suc count) i earlier n place =
    subst (Counts (suc count) n) (sym (lines_by_one text i earlier n place count))
    (go (one_name text i earlier n place) (one_follows text i earlier n place) (λ name n' place'. lines_count text count (suc i) (name ∷ earlier) n' place'))
  where
    onto : (name : List ℕ) (n' : ℕ) (y : Read (List (List ℕ))) → n' ≡ n + 1 → Counts count n' y
        → Counts (suc count) n (y >>= λ (names, n'', place''). found (name ∷ names, n'', place''))
    onto name n' (found (names, n'', place'')) e h = let l = h.1 in (ap suc h.0, omega arith)
    onto name n' (refused a) e h = tt

    go : (r : Read (List ℕ)) → Follows text i earlier n place r
        → ((name : List ℕ) (n' place' : ℕ) → Counts count n' (name_lines text count (suc i) (name ∷ earlier) n' place'))
        → Counts (suc count) n (r >>= λ (name, n', place'). others text i earlier n place count name n' place')
    go (found (name, n', place')) e later = onto name n' (name_lines text count (suc i) (name ∷ earlier) n' place') e (later name n' place')
    go (refused a) e later = tt
