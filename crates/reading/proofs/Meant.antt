-- A line that is read as what it stands for leaves the fields of what it stands for. Assumes nothing.
use Rattle.std.specs.Prelude.{Result, Ok, Err}
use mathlib.Core.Path.{◌≡◌, refl, sym, ap, ap₂, transport, ◌∙◌}
use mathlib.Core.List.{List, ◌∷◌, map}
use Prim.Native.Nat.{ℕ, zero, suc, ◌+◌}
use lib.ListN.{length}
use lib.Seq.{sets}
use Rattle.rules.specs.declared.Header.{Header}
use Rattle.rules.specs.declared.Answer.{Answer}
use Rattle.rules.specs.Table as T
use Rattle.rules.specs.Table.{Role, read_line}
use Rattle.rules.specs.Result.{found, refused, ◌>>=◌}
use Rattle.rules.specs.Case.{Valued, Read, read_as, one_line, many}
use Rattle.rules.specs.Fields.{line_fields}
use Rattle.rules.proofs.Judgement.Reading.{LineTells, ForLine, line_says}
use Rattle.reading.specs.declared.Spot.{Spot}
use Rattle.reading.specs.Groups.{spot, joined, valued_line, Left, together, starts, Placed}

-- Two readings end alike, and what they find shows the same.
abbrev pub Alike : {A B X : Type 0} → (A → X) → (B → X) → Read A → Read B → Type 0
Alike f g (found (a, n, p)) (found (b, m, q)) = (n ≡ m) × (p ≡ q) × (f a ≡ g b)
Alike f g (found x) (refused r) = ⊥
Alike f g (refused r) (found x) = ⊥
Alike f g (refused r) (refused s) = r ≡ s

module _ {A B : Type 0} (f : A → List ℕ) (g : B → List ℕ) where
  pub left_alike : (from : ℕ) (w : List ℕ) (x : Read A) (y : Read B) (r : Result Spot Answer) (u : List ℕ) → Alike f g x y → Left f from w x r u → Left g from w y r u
  left_alike from w (found (a, n, p)) (found (b, m, q)) r u e h =
      (h.0 ∙ (λ j. Ok (spot (e.0 j) (e.1 j) (from + length (e.2 j)))), h.1 ∙ ap (sets w from) e.2)
  left_alike from w (found x) (refused s) r u e h = absurd e
  left_alike from w (refused s) (found y) r u e h = absurd e
  left_alike from w (refused s) (refused t) r u e h = h ∙ ap Err e

  pub many_left : (from : ℕ) (w : List ℕ) (x : Read (List A)) (y : Read (List B)) (r : Result Spot Answer) (u : List ℕ) → Alike (map f) (map g) x y
      → Left (together f) from w x r u → Left (together g) from w y r u
  many_left from w (found (a, n, p)) (found (b, m, q)) r u e h =
      (h.0 ∙ (λ j. Ok (spot (e.0 j) (e.1 j) (from + length (joined (e.2 j))))), h.1 ∙ ap (λ xss. sets w from (joined xss)) e.2)
  many_left from w (found x) (refused s) r u e h = absurd e
  many_left from w (refused s) (found y) r u e h = absurd e
  many_left from w (refused s) (refused t) r u e h = h ∙ ap Err e

  pub many_placed : (from index : ℕ) (d : List ℕ) (x : Read (List A)) (y : Read (List B)) (u : List ℕ) → Alike (map f) (map g) x y
      → Placed f from index d x u → Placed g from index d y u
  many_placed from index d (found (a, n, p)) (found (b, m, q)) u e h = h ∙ ap (λ xss. sets d index (starts from xss)) e.2
  many_placed from index d (found x) (refused s) u e h = absurd e
  many_placed from index d (refused s) (found y) u e h = absurd e
  many_placed from index d (refused s) (refused t) u e h = tt

  pub many_alike : (one : ℕ → ℕ → Read A) (other : ℕ → ℕ → Read B) → ((n p : ℕ) → Alike f g (one n p) (other n p)) → (count n p : ℕ)
      → Alike (map f) (map g) (many one count n p) (many other count n p)
  many_alike one other e zero n p = (refl, refl, refl)
  many_alike one other e (suc count) n p = go (one n p) (other n p) (e n p) (λ m q. many_alike one other e count m q)
    where
      rest : (a : A) (c : B) → f a ≡ g c → (x : Read (List A)) (y : Read (List B)) → Alike (map f) (map g) x y
          → Alike (map f) (map g) (x >>= λ (xs, m, q). found (a ∷ xs, m, q)) (y >>= λ (ys, m, q). found (c ∷ ys, m, q))
      rest a c h (found (xs, m, q)) (found (ys, m', q')) z = (z.0, z.1, ap₂ (λ (v : List ℕ) (vs : List (List ℕ)). v ∷ vs) h z.2)
      rest a c h (found x) (refused s) z = absurd z
      rest a c h (refused s) (found y) z = absurd z
      rest a c h (refused s) (refused t) z = z

      go : (x : Read A) (y : Read B) → Alike f g x y → ((m q : ℕ) → Alike (map f) (map g) (many one count m q) (many other count m q))
          → Alike (map f) (map g) (x >>= λ (a, m, q). many one count m q >>= λ (xs, m', q'). found (a ∷ xs, m', q'))
          (y >>= λ (a, m, q). many other count m q >>= λ (xs, m', q'). found (a ∷ xs, m', q'))
      go (found (a, m, q)) (found (c, m', q')) z later =
          rest a c z.2 (many one count m q) (many other count m' q')
          (transport (λ j. Alike (map f) (map g) (many one count m q) (many other count (z.0 j) (z.1 j))) (later m q))
      go (found x) (refused s) z later = absurd z
      go (refused s) (found y) z later = absurd z
      go (refused s) (refused t) z later = z

-- A line as what it means, where the line of what it means is that line.
module _ (text : List ℕ) (h : Header) (due : Role) (s : ℕ) {A : Type 0} (means : Valued → A) (as_line : A → Valued)
    (back : ForLine h s due (λ l vs. as_line (means (l, vs)) ≡ (l, vs))) where
  pub line_meant : (n place : ℕ) → Alike line_fields (λ a. line_fields (as_line a)) (valued_line text h due s n place) (one_line text h due s means n place)
  unfolding one_line
  line_meant n place = go (read_line text due h s place) (line_says text h s due (λ l vs. as_line (means (l, vs)) ≡ (l, vs)) place back)
    where
      go : (y : T.LineRead) → LineTells (λ l vs. as_line (means (l, vs)) ≡ (l, vs)) y
          → Alike line_fields (λ a. line_fields (as_line a)) (read_as (λ x. x) n y) (read_as means n y)
      go (T.line l vs next) e = (refl, refl, ap line_fields (sym e))
      go (T.LineRead.unreadable field) e = refl
      go (T.LineRead.outside field) e = refl

  pub lines_meant : (count n place : ℕ)
      → Alike (map line_fields) (map (λ a. line_fields (as_line a))) (many (valued_line text h due s) count n place) (many (one_line text h due s means) count n place)
  lines_meant count n place =
      many_alike line_fields (λ a. line_fields (as_line a)) (valued_line text h due s) (one_line text h due s means) line_meant count n place

-- What a line means, once it is read.
pub means_found : {A : Type 0} (text : List ℕ) (h : Header) (due : Role) (s : ℕ) (means : Valued → A) (n place : ℕ) (x : Valued) (m next : ℕ)
    → valued_line text h due s n place ≡ found (x, m, next) → one_line text h due s means n place ≡ found (means x, m, next)
unfolding one_line
means_found text h due s means n place x m next e = go (read_line text due h s place) e
  where
    go : (y : T.LineRead) → read_as (λ v. v) n y ≡ found (x, m, next) → read_as means n y ≡ found (means x, m, next)
    go (T.line l vs q) d = ap (λ (r : Read Valued). r >>= λ (v, a, b). found (means v, a, b)) d
    go (T.LineRead.unreadable field) d = ap (λ (r : Read Valued). r >>= λ (v, a, b). found (means v, a, b)) d
    go (T.LineRead.outside field) d = ap (λ (r : Read Valued). r >>= λ (v, a, b). found (means v, a, b)) d

pub means_refused : {A : Type 0} (text : List ℕ) (h : Header) (due : Role) (s : ℕ) (means : Valued → A) (n place : ℕ) (a : Answer)
    → valued_line text h due s n place ≡ refused a → one_line text h due s means n place ≡ refused a
unfolding one_line
means_refused text h due s means n place a e = go (read_line text due h s place) e
  where
    go : (y : T.LineRead) → read_as (λ v. v) n y ≡ refused a → read_as means n y ≡ refused a
    go (T.line l vs q) d = ap (λ (r : Read Valued). r >>= λ (v, b, c). found (means v, b, c)) d
    go (T.LineRead.unreadable field) d = ap (λ (r : Read Valued). r >>= λ (v, b, c). found (means v, b, c)) d
    go (T.LineRead.outside field) d = ap (λ (r : Read Valued). r >>= λ (v, b, c). found (means v, b, c)) d
