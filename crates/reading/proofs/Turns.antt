-- One step of reading lines in turn: what the code read of one settles what the definitions read from there on, and what they leave.
-- Assumes nothing.
use Rattle.std.specs.Prelude.{Result, Ok, Err}
use mathlib.Core.Path.{◌≡◌, refl, sym, ap, subst, ◌∙◌}
use mathlib.Core.List.{List, [], ◌∷◌, ◌++◌, map, append-nil}
use Prim.Native.Nat.{ℕ, zero, suc, ◌+◌, ◌*◌, ◌≤◌}
use native.Mathlib.Omega.{arith}
use native.Mathlib.Numerals.{add-one}
use lib.ListN.{length, set, length-append}
use lib.Seq.{sets, length-sets}
use Rattle.rules.specs.declared.Header.{Header}
use Rattle.rules.specs.declared.Answer.{Answer}
use Rattle.rules.specs.Table as T
use Rattle.rules.specs.Table.{read_line}
use Rattle.rules.specs.Result.{found, refused, ◌>>=◌}
use Rattle.rules.specs.Case.{Read, read_as, one_line, many}
use Rattle.rules.specs.Fields.{line_fields}
use Rattle.fields.proofs.Standing.{sets_append}
use Rattle.lines.specs.declared.line.Line.{Line}
use Rattle.lines.specs.declared.line.LineError.{LineError}
use Rattle.lines.specs.Reading.{LineLeft}
use Rattle.lines.proofs.Within.{LineWithin, line_within}
use Rattle.reading.specs.declared.Spot.{Spot}
use Rattle.reading.specs.Groups.{spot, Fits, after_line, valued_line, Due, Left, together, starts, Placed}

-- ---- One line

pub line_left : (n from : ℕ) (w : List ℕ) (y : T.LineRead) (f : Result Line LineError) (u : List ℕ) → LineLeft from w y f u
    → Left line_fields from w (read_as (λ x. x) n y) (after_line n from f) u
line_left n from w (T.line l vs next) f u h = (ap (after_line n from) h.0, h.1)
line_left n from w (T.LineRead.unreadable field) f u h = ap (after_line n from) h
line_left n from w (T.LineRead.outside field) f u h = ap (after_line n from) h

pub line_fits : (text : List ℕ) (from place : ℕ) (w : List ℕ) (y : T.LineRead) (f : Result Line LineError) (u : List ℕ) → length text ≤ 65535
    → LineWithin text from place y → LineLeft from w y f u → Fits from f
line_fits text from place w (T.line l vs next) f u short h q = subst (Fits from) (sym q.0) (omega (arith, h.1, h.2))
line_fits text from place w (T.LineRead.unreadable field) f u short h q = subst (Fits from) (sym q) (omega arith)
line_fits text from place w (T.LineRead.outside field) f u short h q = subst (Fits from) (sym q) (omega arith)

-- ---- How far reading goes

-- From line n at a place on: each line takes a byte at least, each field two.
abbrev pub Goes : {A : Type 0} → List ℕ → (A → List ℕ) → ℕ → ℕ → ℕ → Read A → Type 0
Goes text shows n place from (found (a, m, next)) = (place ≤ next) × (next ≤ length text) × (m + place ≤ n + next) × (2 * (from + length (shows a)) ≤ next)
Goes text shows n place from (refused r) = Unit {0}

-- Whatever is read goes so, wherever it starts.
abbrev pub AlwaysGoes : {A : Type 0} → List ℕ → (A → List ℕ) → (ℕ → ℕ → Read A) → Type 0
AlwaysGoes text shows one = (n place from : ℕ) → 2 * from ≤ place → place ≤ length text → Goes text shows n place from (one n place)

pub line_goes : (text : List ℕ) (h : Header) (due : T.Role) (s : ℕ) → AlwaysGoes text line_fields (valued_line text h due s)
unfolding one_line
line_goes text h due s n place from low inside = go (read_line text due h s place) (line_within text from due h s place low)
  where
    go : (y : T.LineRead) → LineWithin text from place y → Goes text line_fields n place from (read_as (λ x. x) n y)
    go (T.line l vs next) w = (omega (arith, w.0), w.1, omega (arith, w.0), w.2)
    go (T.LineRead.unreadable field) w = tt
    go (T.LineRead.outside field) w = tt

-- Where something is read after something else.
pub goes_then : {A B C : Type 0} (text : List ℕ) (f : A → List ℕ) (g : B → List ℕ) (k : A → B → C) (h : C → List ℕ)
    → ((a : A) (b : B) → h (k a b) ≡ f a ++ g b) → (n place from : ℕ) (r : Read A) (rest : A → ℕ → ℕ → Read B)
    → Goes text f n place from r → ((a : A) (m next : ℕ) → 2 * (from + length (f a)) ≤ next → next ≤ length text → Goes text g m next (from + length (f a)) (rest a m next))
    → Goes text h n place from (r >>= λ (a, m, next). rest a m next >>= λ (b, m', next'). found (k a b, m', next'))
goes_then text f g k h e n place from (found (a, m, next)) rest p q = go (rest a m next) (q a m next p.3 p.1)
  where
    go : (r : Read _) → Goes text g m next (from + length (f a)) r → Goes text h n place from (r >>= λ (b, m', next'). found (k a b, m', next'))
    go (found (b, m', next')) z =
        let size : length (h (k a b)) ≡ length (f a) + length (g b) = ap length (e a b) ∙ length-append (f a) (g b) in
        (omega (arith, p.0, z.0), z.1, omega (arith, p.2, z.2), omega (arith, z.3))
    go (refused x) z = tt
goes_then text f g k h e n place from (refused x) rest p q = tt

pub many_goes : {A : Type 0} (text : List ℕ) (shows : A → List ℕ) (one : ℕ → ℕ → Read A) → AlwaysGoes text shows one → (count : ℕ)
    → AlwaysGoes text (together shows) (many one count)
many_goes text shows one f zero n place from low inside = (omega arith, inside, omega arith, omega arith)
many_goes text shows one f (suc count) n place from low inside =
    goes_then text shows (together shows) (λ x xs. x ∷ xs) (together shows) (λ x xs. refl) n place from (one n place) (λ x m next. many one count m next)
    (f n place from low inside) (λ x m next low' inside'. many_goes text shows one f count m next (from + length (shows x)) low' inside')

-- ---- One of one

-- What one of them in turn leaves is what it leaves alone.
pub one_left : {A : Type 0} (shows : A → List ℕ) (from : ℕ) (w : List ℕ) (one : ℕ → ℕ → Read A) (n place : ℕ) (g : Result Spot Answer) (u : List ℕ)
    → Left (together shows) from w (many one 1 n place) g u → Left shows from w (one n place) g u
one_left {A} shows from w one n place g u h = go (one n place) h
  where
    go : (r : Read A) → Left (together shows) from w (r >>= λ (x, m, next). found (x ∷ [], m, next)) g u → Left shows from w r g u
    go (found (a, m, next)) q =
        let e = append-nil (shows a) in
        (q.0 ∙ ap (λ (l : List ℕ). Ok (spot m next (from + length l))) e, q.1 ∙ ap (sets w from) e)
    go (refused x) q = q

-- ---- What is left, and how reading goes on

module _ {A : Type 0} (shows : A → List ℕ) (from : ℕ) (w : List ℕ) where
  -- Where the next spot is known, so is what was read.
  pub went : (r : Read A) (g : Result Spot Answer) (u : List ℕ) → Left shows from w r g u → (s : Spot) → g ≡ Ok s
      → (a : A) × (r ≡ found (a, s.line, s.start.at)) × (s.from ≡ from + length (shows a)) × (u ≡ sets w from (shows a))
  went (found (a, n, place)) g u h s e =
      let q = sym h.0 ∙ e in
      let same : spot n place (from + length (shows a)) ≡ s = cc in
      (a, (λ j. found (a, (same j).line, (same j).start.at)), sym (ap (λ (x : Spot). x.from) same), h.1)
  went (refused x) g u h s e = absurd cc

  pub halted : (r : Read A) (g : Result Spot Answer) (u : List ℕ) → Left shows from w r g u → (x : Answer) → g ≡ Err x → r ≡ refused x
  halted (found (a, n, place)) g u h x e = let q = sym h.0 ∙ e in cc
  halted (refused y) g u h x e = cc

  pub left_told : (r : Read A) (g g' : Result Spot Answer) (u : List ℕ) → g ≡ g' → Left shows from w r g u → Left shows from w r g' u
  left_told r g g' u e h = subst (λ (x : Result Spot Answer). Left shows from w r x u) e h

-- The next line is due where what was read ended.
pub due_next : {A : Type 0} (shows : A → List ℕ) (text : List ℕ) (past : ℕ) (w u : List ℕ) (at s : Spot) (r : Read A) (g : Result Spot Answer)
    → Due text past w at → Goes text shows at.line at.start.at at.from r → Left shows at.from w r g u → g ≡ Ok s → Due text past u s
due_next shows text past w u at s r g d p h e =
    let x = went shows at.from w r g u h s e in
    let q = subst (Goes text shows at.line at.start.at at.from) x.1 p in
    let c = d.counted in
    let size : length u ≡ length w = ap length x.3 ∙ length-sets w at.from (shows x.0) in
    let l = d.long in
    record {
      feeds = d.feeds;
      short = d.short;
      inside = q.1;
      counted = omega (arith, q.2, q.0);
      long = omega arith;
      ahead = let f = x.2 in omega (arith, q.3);
    }

pub kept_next : {A : Type 0} (shows : A → List ℕ) (w u : List ℕ) (from : ℕ) (s : Spot) (r : Read A) (g : Result Spot Answer) → Left shows from w r g u → g ≡ Ok s → length u ≡ length w
kept_next shows w u from s r g h e = let x = went shows from w r g u h s e in ap length x.3 ∙ length-sets w from (shows x.0)

-- ---- Many in turn

module _ {A : Type 0} (shows : A → List ℕ) (one : ℕ → ℕ → Read A) where
  abbrev after_one : ℕ → A → ℕ → ℕ → Read (List A)
  after_one left x m next = many one left m next >>= λ (xs, m', next'). found (x ∷ xs, m', next')

  by_one : (from : ℕ) (w : List ℕ) (left n place : ℕ) (x : A) (m next : ℕ) (r : Result Spot Answer) (u : List ℕ) → one n place ≡ found (x, m, next)
      → Left (together shows) from w (after_one left x m next) r u → Left (together shows) from w (many one (suc left) n place) r u
  by_one from w left n place x m next r u e h =
      subst (λ (y : Read A). Left (together shows) from w (y >>= λ (a, m', next'). after_one left a m' next') r u) (sym e) h

  module _ (at s : Spot) (w v : List ℕ) (count left : ℕ) (e : count ≡ suc left) (g : Result Spot Answer) (h : Left shows at.from w (one at.line at.start.at) g v) where
    -- What the others leave, after the first, is what all leave.
    pub many_more : g ≡ Ok s → (r : Result Spot Answer) (u : List ℕ) → Left (together shows) s.from v (many one left s.line s.start.at) r u
        → Left (together shows) at.from w (many one count at.line at.start.at) r u
    many_more d r u q =
        subst (λ (c : ℕ). Left (together shows) at.from w (many one c at.line at.start.at) r u) (sym e)
        (by_one at.from w left at.line at.start.at x.0 s.line s.start.at r u x.1 (go (many one left s.line s.start.at) q))
      where
        x : (a : A) × (one at.line at.start.at ≡ found (a, s.line, s.start.at)) × (s.from ≡ at.from + length (shows a)) × (v ≡ sets w at.from (shows a))
        x = went shows at.from w (one at.line at.start.at) g v h s d

        go : (y : Read (List A)) → Left (together shows) s.from v y r u
            → Left (together shows) at.from w (y >>= λ (xs, m', next'). found (x.0 ∷ xs, m', next')) r u
        go (found (xs, m, next)) z =
            let size : s.from + length (together shows xs) ≡ at.from + length (shows x.0 ++ together shows xs)
            = let f = x.2 in omega (arith, length-append (shows x.0) (together shows xs)) in (
              z.0 ∙ ap (λ (k : ℕ). Ok (spot m next k)) size,
              z.1 ∙ (λ j. sets (x.3 j) (x.2 j) (together shows xs)) ∙ sym (sets_append (shows x.0) (together shows xs) w at.from),
            )
        go (refused a) z = z

    pub many_stops : (a : Answer) → g ≡ Err a → (u : List ℕ) → Left (together shows) at.from w (many one count at.line at.start.at) (Err a) u
    many_stops a d u =
        subst (λ (c : ℕ). Left (together shows) at.from w (many one c at.line at.start.at) (Err a) u) (sym e)
        (subst (λ (y : Read A). Left (together shows) at.from w (y >>= λ (b, m', next'). after_one left b m' next') (Err a) u)
        (sym (halted shows at.from w (one at.line at.start.at) g v h a d)) refl)

    -- The same of the directory.
    pub placed_more : (index : ℕ) (d : List ℕ) → g ≡ Ok s → (u : List ℕ) → Placed shows s.from (index + 1) (set d index at.from) (many one left s.line s.start.at) u
        → Placed shows at.from index d (many one count at.line at.start.at) u
    placed_more index d q u z =
        subst (λ (c : ℕ). Placed shows at.from index d (many one c at.line at.start.at) u) (sym e)
        (subst (λ (y : Read A). Placed shows at.from index d (y >>= λ (b, m', next'). after_one left b m' next') u) (sym x.1) (go (many one left s.line s.start.at) z))
      where
        x : (a : A) × (one at.line at.start.at ≡ found (a, s.line, s.start.at)) × (s.from ≡ at.from + length (shows a)) × (v ≡ sets w at.from (shows a))
        x = went shows at.from w (one at.line at.start.at) g v h s q

        go : (y : Read (List A)) → Placed shows s.from (index + 1) (set d index at.from) y u
            → Placed shows at.from index d (y >>= λ (xs, m', next'). found (x.0 ∷ xs, m', next')) u
        go (found (xs, m, next)) p = p ∙ (λ j. sets (set d index at.from) (add-one index j) (starts (x.2 j) (map shows xs)))
        go (refused a) p = tt

    pub placed_stops : (a : Answer) → g ≡ Err a → (index : ℕ) (d u : List ℕ) → Placed shows at.from index d (many one count at.line at.start.at) u
    placed_stops a q index d u =
        subst (λ (c : ℕ). Placed shows at.from index d (many one c at.line at.start.at) u) (sym e)
        (subst (λ (y : Read A). Placed shows at.from index d (y >>= λ (b, m', next'). after_one left b m' next') u)
        (sym (halted shows at.from w (one at.line at.start.at) g v h a q)) tt)

  pub many_ends : (s : Spot) (w : List ℕ) (count : ℕ) → count ≡ 0 → Left (together shows) s.from w (many one count s.line s.start.at) (Ok s) w
  many_ends s w count e =
      let z : s.from ≡ s.from + 0 = omega arith in
      subst (λ (c : ℕ). Left (together shows) s.from w (many one c s.line s.start.at) (Ok s) w) (sym e)
      (ap (λ (k : ℕ). Ok (spot s.line s.start.at k)) z, refl)

  pub placed_ends : (s : Spot) (index : ℕ) (d : List ℕ) (count : ℕ) → count ≡ 0 → Placed shows s.from index d (many one count s.line s.start.at) d
  placed_ends s index d count e = subst (λ (c : ℕ). Placed shows s.from index d (many one c s.line s.start.at) d) (sym e) refl

-- So many are read as were asked for.
abbrev pub Numbered : {A : Type 0} → ℕ → Read (List A) → Type 0
Numbered count (found (xs, n, place)) = length xs ≡ count
Numbered count (refused a) = Unit {0}

pub many_numbered : {A : Type 0} (one : ℕ → ℕ → Read A) (count n place : ℕ) → Numbered count (many one count n place)
many_numbered one zero n place = refl
many_numbered {A = A} one (suc count) n place = go (one n place) (λ m next. many_numbered one count m next)
  where
    rest : (x : A) (y : Read (List A)) → Numbered count y → Numbered (suc count) (y >>= λ (xs, m, next). found (x ∷ xs, m, next))
    rest x (found (xs, m, next)) h = ap suc h
    rest x (refused a) h = tt

    go : (y : Read A) → ((m next : ℕ) → Numbered count (many one count m next))
        → Numbered (suc count) (y >>= λ (x, m, next). many one count m next >>= λ (xs, m', next'). found (x ∷ xs, m', next'))
    go (found (x, m, next)) later = rest x (many one count m next) (later m next)
    go (refused a) later = tt
