-- How often a number is in a list: more than once if it is at two places; more than 0 times if it is in it. So the first line with an id has a
-- twin if the id is defined twice, and is linked to as often as the id is used. Assumes nothing.
use mathlib.Core.Path.{◌≡◌, refl, sym, ap, ◌∙◌}
use mathlib.Core.Bool.{Bool, true, false, ◌||◌}
use mathlib.Core.List.{List, [], ◌∷◌, map}
use mathlib.Core.Logic.{⊎_elim}
use Prim.Native.Nat.{ℕ, zero, suc, ◌<◌}
use native.Mathlib.Omega.{arith}
use lib.Dec.{eqb, ltb}
use lib.ListN.{length, get_or, length-map, get_or-map}
use borrow.Author.Tests.{eqb-true, eq-eqb, ne_eqb, lt-ltb, le-ltb}
use Rattle.rules.specs.Tree.{is_in}
use Rattle.rules.specs.Form.{FormLine, defines, times, all_defined, all_used}
use Rattle.links.specs.Links.{no_line, line_at, link, Twins, Counted}
use Rattle.wrongs.proofs.Firsts.{same_or_not, less_or_not, link_first, First, first_least, has_twin}

-- ---- Tests

-- Two tests of numbers that agree.
pub eqb_alike : (a b c d : ℕ) → (a ≡ b → c ≡ d) → (c ≡ d → a ≡ b) → eqb a b ≡ eqb c d
eqb_alike a b c d to from =
    ⊎_elim
    (λ s. eq-eqb a b s ∙ sym (eq-eqb c d (to s)))
    (λ o. ne_eqb a b o ∙ sym (ne_eqb c d (λ s. o (from s))))
    (same_or_not a b)

pub ltb_alike : (a b c d : ℕ) → (a < b → c < d) → (c < d → a < b) → ltb a b ≡ ltb c d
ltb_alike a b c d to from =
    ⊎_elim
    (λ l. lt-ltb a b l ∙ sym (lt-ltb c d (to l)))
    (λ m. ⊎_elim (λ l. absurd (omega (arith, from l))) (λ n. le-ltb a b m ∙ sym (le-ltb c d n)) (less_or_not c d))
    (less_or_not a b)

-- ---- Places

-- One more or none.
at_least : (b : Bool) (n k : ℕ) → k < n → k < elim b [ true ↦ suc n | false ↦ n ]
at_least true n k h = omega arith
at_least false n k h = h

one_more : (x y : ℕ) (l : List ℕ) → y ≡ x → times x (y ∷ l) ≡ suc (times x l)
one_more x y l s = ap (λ (b : Bool). elim b [ true ↦ suc (times x l) | false ↦ times x l ]) (eq-eqb y x s)

-- At one place.
once : (x : ℕ) (l : List ℕ) (a : ℕ) → a < length l → get_or l a 0 ≡ x → 0 < times x l
once x [] a h s = absurd (omega arith)
once x (y ∷ l) zero h s = omega (arith, one_more x y l s)
once x (y ∷ l) (suc a) h s = at_least (eqb y x) (times x l) 0 (once x l a (omega arith) s)

-- At two places.
pub twice : (x : ℕ) (l : List ℕ) (a b : ℕ) → a < b → b < length l → get_or l a 0 ≡ x → get_or l b 0 ≡ x → 1 < times x l
twice x [] a b g h s t = absurd (omega arith)
twice x (y ∷ l) a zero g h s t = absurd (omega arith)
twice x (y ∷ l) zero (suc b) g h s t = omega (arith, one_more x y l s, once x l b (omega arith) t)
twice x (y ∷ l) (suc a) (suc b) g h s t = at_least (eqb y x) (times x l) 1 (twice x l a b (omega arith) (omega arith) s t)

-- The other way round.
place : (x : ℕ) (l : List ℕ) → 0 < times x l → (a : ℕ) × (a < length l) × (get_or l a 0 ≡ x)
place x [] h = absurd (omega arith)
place x (y ∷ l) h = go (eqb y x) refl h (place x l)
  where
    go : (b : Bool) → eqb y x ≡ b → 0 < elim b [ true ↦ suc (times x l) | false ↦ times x l ]
        → (0 < times x l → (a : ℕ) × (a < length l) × (get_or l a 0 ≡ x)) → (a : ℕ) × (a < length (y ∷ l)) × (get_or (y ∷ l) a 0 ≡ x)
    go true q h later = (0, omega arith, eqb-true y x q)
    go false q h later = let (a, k, s) = later h in (suc a, omega arith, s)

pub record Places (x : ℕ) (l : List ℕ) : Type 0 where
  pub a : ℕ
  pub b : ℕ
  pub less : a < b
  pub low : b < length l
  pub at_a : get_or l a 0 ≡ x
  pub at_b : get_or l b 0 ≡ x

places : (x : ℕ) (l : List ℕ) → 1 < times x l → Places x l
places x [] h = absurd (omega arith)
places x (y ∷ l) h = go (eqb y x) refl h (places x l)
  where
    go : (b : Bool) → eqb y x ≡ b → 1 < elim b [ true ↦ suc (times x l) | false ↦ times x l ] → (1 < times x l → Places x l) → Places x (y ∷ l)
    go true q h later =
        let (b, k, s) = place x l (omega arith) in
        record { a = 0; b = suc b; less = omega arith; low = omega arith; at_a = eqb-true y x q; at_b = s }
    go false q h later =
        let p = later h in
        record { a = suc p.a; b = suc p.b; less = omega (arith, p.less); low = omega (arith, p.low); at_a = p.at_a; at_b = p.at_b }

-- In a list: more than 0 times.
pub in_times : (x : ℕ) (l : List ℕ) → is_in x l ≡ ltb 0 (times x l)
unfolding is_in
in_times x [] = refl
in_times x (y ∷ l) = go (eqb y x) (in_times x l)
  where
    go : (b : Bool) → is_in x l ≡ ltb 0 (times x l) → (b || is_in x l) ≡ ltb 0 (elim b [ true ↦ suc (times x l) | false ↦ times x l ])
    go true later = sym (lt-ltb 0 (suc (times x l)) (omega arith))
    go false later = later

-- Of mapped numbers, where the mapped test is the same.
times_map : (f : ℕ → ℕ) (z x : ℕ) → ((y : ℕ) → eqb (f y) z ≡ eqb y x) → (l : List ℕ) → times z (map f l) ≡ times x l
times_map f z x same [] = refl
times_map f z x same (y ∷ l) =
    ap (λ (b : Bool). elim b [ true ↦ suc (times z (map f l)) | false ↦ times z (map f l) ]) (same y)
    ∙ ap (λ (n : ℕ). elim (eqb y x) [ true ↦ suc n | false ↦ n ]) (times_map f z x same l)

-- ---- Lines

defined_at : (es : List FormLine) (e : ℕ) → get_or (all_defined es) e 0 ≡ defines (line_at es e)
unfolding all_defined line_at no_line
defined_at es e = get_or-map defines es e no_line

as_many : (es : List FormLine) → length (all_defined es) ≡ length es
unfolding all_defined
as_many es = length-map es defines

-- Two lines define the same id.
pub defined_twice : (es : List FormLine) (e d : ℕ) → e < d → d < length es → defines (line_at es d) ≡ defines (line_at es e)
    → 1 < times (defines (line_at es e)) (all_defined es)
defined_twice es e d l h s =
    twice (defines (line_at es e)) (all_defined es) e d l (omega (arith, as_many es)) (defined_at es e) (defined_at es d ∙ s)

-- The first line with its id has a twin if the id is defined twice.
pub twin_twice : {es : List FormLine} {twin : List ℕ} → Twins es twin → (e : ℕ) → e < length es → First es e
    → ltb 0 (get_or twin e 0) ≡ ltb 1 (times (defines (line_at es e)) (all_defined es))
twin_twice {es} {twin} t e h f = ltb_alike 0 (get_or twin e 0) 1 (times (defines (line_at es e)) (all_defined es)) (to (get_or twin e 0) refl) from
  where
    to : (n : ℕ) → get_or twin e 0 ≡ n → 0 < n → 1 < times (defines (line_at es e)) (all_defined es)
    to zero w l = absurd (omega arith)
    to (suc d) w l = let (g, k, s) = t.later e d h w in defined_twice es e d g k s

    from : 1 < times (defines (line_at es e)) (all_defined es) → 0 < get_or twin e 0
    from l =
        let p = places (defines (line_at es e)) (all_defined es) l in
        let g = first_least es e p.a f (sym (defined_at es p.a) ∙ p.at_a) in
        has_twin t (suc p.b) e p.b (omega arith) f (omega (arith, p.less)) (omega (arith, p.low, as_many es)) (sym (defined_at es p.b) ∙ p.at_b)

-- An id's link names the first line with its id if the id is that line's.
pub link_same : (es : List FormLine) (e y : ℕ) → First es e → eqb (link es y) (suc e) ≡ eqb y (defines (line_at es e))
link_same es e y f =
    eqb_alike (link es y) (suc e) y (defines (line_at es e)) (λ l. sym (link_first es y e l).same) (λ s. ap (link es) s ∙ f)

-- The first line with its id is linked to as often as the id is used.
pub used_times : (es : List FormLine) (used : List ℕ) → Counted es used → (e : ℕ) → e < length es → First es e
    → get_or used e 0 ≡ times (defines (line_at es e)) (all_used es)
used_times es used c e h f = c e h ∙ times_map (link es) (suc e) (defines (line_at es e)) (λ y. link_same es e y f) (all_used es)
