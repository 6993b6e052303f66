-- A line that is due, read where it starts (02, Card 6, number 17): it is the line that the text's lines show, and its words give a shape just where
-- it has that shape. Assumes nothing.
use mathlib.Core.Path.{◌≡◌, refl, sym, ap, subst}
use mathlib.Core.List.{List}
use mathlib.Core.Option.{Option, none, some}
use Prim.Native.Nat.{ℕ, ◌+◌}
use Rattle.rules.specs.declared.Answer.{Answer}
use Rattle.rules.specs.declared.Answer.TheVariants.{WrongShape}
use Rattle.rules.specs.Result.{Result, found, ◌>>=◌, ◌>>◌}
use Rattle.rules.specs.Faults.{Ended, text_line}
use Rattle.rules.specs.Tokens.{due_line, shaped, words_of}
use Rattle.rules.specs.Form.{opening_of, Front, an_action, the_root, front_of, Back, a_compound, the_end, back_of, front_line, back_line}
use Rattle.rules.proofs.Faults.Line.{Starts}
use Rattle.rules.proofs.Import.Says.{Says, says_bind, says_then, says_weaken, refusal_weaken, LineHere, due_says}
use Rattle.rules.proofs.Import.Shapes.{JustWhere, Opens, FrontAt, BackAt, opening_shape, front_shape, back_shape}

-- A shape that is due: it is there, and the next line starts at this place.
abbrev pub Shaped : {A : Type 0} → (A → Type 0) → List ℕ → ℕ → A × ℕ × ℕ → Type 0
Shaped P text l (x, n, next) = P x × (n ≡ l + 1) × Starts text n next

-- The answer where there is none.
abbrev pub NoShape : {A : Type 0} → (A → Type 0) → ℕ → Answer → Type 0
NoShape {A} P l a = (a ≡ WrongShape l 0) × ((x : A) → P x → ⊥)

shaped_says : {A : Type 0} (P : A → Type 0) (l : ℕ) (o : Option A) → JustWhere P o → Says P (NoShape P l) (shaped 0 l o)
shaped_says P l none f = (refl, f)
shaped_says P l (some a) p = p

module _ {A : Type 0} (P : A → Type 0) (shape_of : List (List ℕ) → Option A) (text : List ℕ) (l place : ℕ) (s : Starts text l place)
    (has : (x : A) → P x → Ended text l)
    (shape : Ended text l → (ws : List (List ℕ)) → words_of (text_line text l) ≡ ws → JustWhere P (shape_of ws)) where
  line_due : Says (LineHere text l) (NoShape P l) (due_line text 0 l place)
  line_due =
      refusal_weaken _ _ (NoShape P l) (due_line text 0 l place) (λ a (e, f). (e, λ x p. f (has x p)))
      (due_says text 0 l place s)

  shape_due : (line : List ℕ) (n next : ℕ) → LineHere text l (line, n, next)
      → Says (λ x. Shaped P text l (x, n, next)) (NoShape P l) (shaped 0 l (shape_of (words_of line)))
  shape_due line n next (e, ended, p, t) =
      says_weaken P (λ x. Shaped P text l (x, n, next)) (NoShape P l) (NoShape P l) (shaped 0 l (shape_of (words_of line)))
      (λ x h. (h, p, subst (λ (m : ℕ). Starts text m next) (sym p) t)) (λ a f. f)
      (shaped_says P l (shape_of (words_of line)) (shape ended (words_of line) (ap words_of (sym e))))

  line_says : Says (Shaped P text l) (NoShape P l)
      (due_line text 0 l place >>= λ (line, n, next). shaped 0 l (shape_of (words_of line)) >>= λ x. found (x, n, next))
  line_says =
      says_bind (LineHere text l) (Shaped P text l) (NoShape P l) (due_line text 0 l place) _ line_due
      (λ (line, n, next) h. says_bind (λ x. Shaped P text l (x, n, next)) (Shaped P text l) (NoShape P l) (shaped 0 l (shape_of (words_of line))) _
      (shape_due line n next h) (λ x q. q))

module _ (text : List ℕ) (l place : ℕ) (s : Starts text l place) where
  -- The first line, and what follows it.
  pub opening_says : {B : Type 0} (Q : B → Type 0) (R : Answer → Type 0) (rest : ℕ → ℕ → Result B)
      → ((a : Answer) → NoShape (Opens text l) l a → R a)
      → ((n next : ℕ) → Shaped (Opens text l) text l (tt, n, next) → Says Q R (rest n next))
      → Says Q R (due_line text 0 l place >>= λ (line, n, next). shaped 0 l (opening_of (words_of line)) >> rest n next)
  opening_says Q R rest r f =
      let P = Opens text l in
      says_bind (LineHere text l) Q R (due_line text 0 l place) _
      (refusal_weaken _ _ R (due_line text 0 l place) r (line_due P opening_of text l place s (λ u h. h.ended) (opening_shape text l)))
      (λ (line, n, next) h.
      let o = shaped 0 l (opening_of (words_of line)) in
      says_then (λ u. Shaped P text l (u, n, next)) Q R o (rest n next)
      (refusal_weaken _ _ R o r (shape_due P opening_of text l place s (λ u h. h.ended) (opening_shape text l) line n next h)) (λ u h. f n next h))

  pub front_says : Says (Shaped (FrontAt text l) text l) (NoShape (FrontAt text l) l) (front_line text l place)
  unfolding front_line
  front_says = line_says (FrontAt text l) front_of text l place s ended (front_shape text l)
    where
      ended : (x : Front) → FrontAt text l x → Ended text l
      ended (an_action id name) h = h.words.ended
      ended (the_root id) h = h.words.ended

  pub back_says : Says (Shaped (BackAt text l) text l) (NoShape (BackAt text l) l) (back_line text l place)
  unfolding back_line
  back_says = line_says (BackAt text l) back_of text l place s ended (back_shape text l)
    where
      ended : (x : Back) → BackAt text l x → Ended text l
      ended (a_compound id name method subtasks) h = h.words.ended
      ended the_end h = h.ended
