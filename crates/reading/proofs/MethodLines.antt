-- A method: its M line says how many subtasks it has and how many constraint lines follow, and its fields are those of all these lines.
-- Assumes nothing.
use Rattle.std.specs.Prelude.{Result, Ok, Err}
use mathlib.Core.Path.{◌≡◌, refl, sym, ap, ap₂, subst, transport, ◌∙◌}
use mathlib.Core.List.{List, [], ◌∷◌, ◌++◌, map}
use Prim.Native.Nat.{ℕ, suc, ◌+◌, ◌-◌, ◌*◌, ◌≤◌, ◌<◌}
use native.Mathlib.Omega.{arith}
use lib.ListN.{length, get_or, length-append}
use lib.Seq.{sets, get_or-append_seam, length-sets}
use borrow.Author.Tests.{leb-true}
use Rattle.rules.specs.declared.Header.{Header}
use Rattle.rules.specs.declared.Answer.{Answer}
use Rattle.rules.specs.Table as T
use Rattle.rules.specs.Table.{Value, scalar, listed, row_of, table, role_number, in_range}
use Rattle.rules.specs.Result.{found, refused, ◌>>=◌}
use Rattle.rules.specs.Case.{Constraint, Method, Valued, Read, header_in, scalar_at, members_at, as_constraint, one_line, many, one_method}
use Rattle.rules.specs.Fields.{line_fields, lines_fields, constraint_line, method_lines}
use Rattle.rules.proofs.Judgement.Reading.{ForLine, ReadSays, one_line_says}
use Rattle.rules.proofs.Judgement.Back.{method_line, method_back, constraint_back}
use Rattle.lines.specs.Ranges.{known_of}
use Rattle.fields.specs.Standing.{Stands}
use Rattle.fields.proofs.Standing.{sets_stand, stands_at, sets_append}
use Rattle.reading.specs.declared.Spot.{Spot}
use Rattle.reading.specs.Groups.{spot, joined, valued_line, Due, Left, together, method_fields}
use Rattle.reading.proofs.Turns.{Goes, AlwaysGoes, line_goes, many_goes, went, halted, Numbered, many_numbered}
use Rattle.reading.proofs.Meant.{Alike, many_left, lines_meant, means_found, means_refused}

-- The M line is read without a subtask count.
pub method_zero : (text : List ℕ) (h : Header) (k n place from : ℕ) (w : List ℕ) (g : Result Spot Answer) (u : List ℕ) → k ≡ 0
    → Left line_fields from w (valued_line text h T.method k n place) g u → Left line_fields from w (valued_line text h T.method 0 n place) g u
method_zero text h k n place from w g u e l = subst (λ (j : ℕ). Left line_fields from w (valued_line text h T.method j n place) g u) e l

-- The fields of lines in turn, one list after the other.
pub lines_joined : {A : Type 0} (as_line : A → Valued) (xs : List A) → lines_fields (map as_line xs) ≡ together (λ a. line_fields (as_line a)) xs
lines_joined as_line [] = refl
lines_joined as_line (x ∷ xs) = ap (λ (l : List ℕ). line_fields (as_line x) ++ l) (lines_joined as_line xs)

abbrev constraint_fields : Constraint → List ℕ
constraint_fields c = line_fields (constraint_line c)

-- A method out of the values of its line and its constraints.
abbrev method_of : List Value → List Constraint → Method
method_of vs cs = record { task = scalar_at vs 0; subtasks = members_at vs 1; constraints = cs }

method_fields_lem : (vs : List Value) (cs : List Constraint) → length cs ≡ scalar_at vs 2
    → method_fields (method_of vs cs) ≡ line_fields (method_line vs) ++ together constraint_fields cs
unfolding method_lines method_line
method_fields_lem vs cs e = ap₂ (λ (n : ℕ) (l : List ℕ). line_fields (77, scalar (scalar_at vs 0) ∷ listed (members_at vs 1) ∷ scalar n ∷ []) ++ l) e (lines_joined constraint_line cs)

line_fields_lem : (vs : List Value) → line_fields (method_line vs) ≡ 77 ∷ scalar_at vs 0 ∷ length (members_at vs 1) ∷ (members_at vs 1 ++ (scalar_at vs 2 ∷ []))
unfolding line_fields method_line row_of table
line_fields_lem vs = refl

-- An M line that is read has at most 32 subtasks.
few_subtasks : (h : Header) → ForLine h 0 T.method (λ l vs. scalar_at vs 1 ≤ 32)
unfolding ForLine table role_number in_range scalar_at
few_subtasks h = (λ t ht vs n hs c hc. leb-true (length vs) 32 n, tt)

-- Readings that end alike go alike.
goes_alike : {A B : Type 0} (text : List ℕ) (f : A → List ℕ) (g : B → List ℕ) (n place from : ℕ) (x : Read (List A)) (y : Read (List B)) → Alike (map f) (map g) x y
    → Goes text (together f) n place from x → Goes text (together g) n place from y
goes_alike text f g n place from (found (a, m, p)) (found (b, m', p')) e z =
    let size : length (joined (map f a)) ≡ length (joined (map g b)) = ap (λ xss. length (joined xss)) e.2 in
    let em = e.0 in
    let ep = e.1 in
    (omega (arith, z.0), omega (arith, z.1), omega (arith, z.2), omega (arith, z.3))
goes_alike text f g n place from (found x) (refused s) e z = absurd e
goes_alike text f g n place from (refused s) (found y) e z = absurd e
goes_alike text f g n place from (refused s) (refused t) e z = tt

module _ (text : List ℕ) (h : Header) where
  -- What an M line that is read is.
  line_is : (n place : ℕ) (x : Valued) (m next : ℕ) → valued_line text h T.method 0 n place ≡ found (x, m, next) → method_line x.1 ≡ x
  line_is n place x m next e =
      subst (ReadSays (λ (y : Valued). method_line y.1 ≡ y)) e (one_line_says text h T.method 0 (λ y. y) n place (λ y. method_line y.1 ≡ y) (method_back h))

  subtask_count : (x : Valued) → method_line x.1 ≡ x → length (members_at x.1 1) ≡ scalar_at x.1 1
  unfolding method_line scalar_at members_at
  subtask_count x e = ap (λ (y : Valued). scalar_at y.1 1) e

  -- The constraints of a method whose line is read.
  abbrev after_line_lem : List Value → ℕ → ℕ → Read (List Constraint)
  after_line_lem vs m next = many (one_line text h T.constraint (scalar_at vs 1) as_constraint) (scalar_at vs 2) m next

  abbrev whole_method : List Value → Read (List Constraint) → Read Method
  whole_method vs r = r >>= λ (cs, m, next). found (method_of vs cs, m, next)

  method_goes_on : (n place : ℕ) (x : Valued) (m next : ℕ) → valued_line text h T.method 0 n place ≡ found (x, m, next)
      → one_method text h n place ≡ whole_method x.1 (after_line_lem x.1 m next)
  unfolding one_method
  method_goes_on n place x m next e =
      ap (λ (r : Read (List Value)). r >>= λ (vs, m', next'). whole_method vs (after_line_lem vs m' next'))
      (means_found text h T.method 0 (λ y. y.1) n place x m next e)

  method_stops : (n place : ℕ) (a : Answer) → valued_line text h T.method 0 n place ≡ refused a → one_method text h n place ≡ refused a
  unfolding one_method
  method_stops n place a e =
      ap (λ (r : Read (List Value)). r >>= λ (vs, m', next'). whole_method vs (after_line_lem vs m' next'))
      (means_refused text h T.method 0 (λ y. y.1) n place a e)

  counted : (vs : List Value) (m next : ℕ) (cs : List Constraint) (m' next' : ℕ) → after_line_lem vs m next ≡ found (cs, m', next') → length cs ≡ scalar_at vs 2
  counted vs m next cs m' next' e =
      subst (Numbered (scalar_at vs 2)) e (many_numbered (one_line text h T.constraint (scalar_at vs 1) as_constraint) (scalar_at vs 2) m next)

  -- How far a method goes.
  pub method_goes : AlwaysGoes text method_fields (one_method text h)
  method_goes n place from low inside = line (valued_line text h T.method 0 n place) refl (line_goes text h T.method 0 n place from low inside)
    where
      rest : (x : Valued) (m next : ℕ) → method_line x.1 ≡ x → (place ≤ next) × (next ≤ length text) × (m + place ≤ n + next) × (2 * (from + length (line_fields x)) ≤ next)
          → (y : Read (List Constraint)) → after_line_lem x.1 m next ≡ y → Goes text (together constraint_fields) m next (from + length (line_fields x)) y
          → Goes text method_fields n place from (whole_method x.1 y)
      rest x m next i p (found (cs, m', next')) e z =
          let size : length (method_fields (method_of x.1 cs)) ≡ length (line_fields x) + length (together constraint_fields cs)
          = ap length (method_fields_lem x.1 cs (counted x.1 m next cs m' next' e) ∙ ap (λ (y : Valued). line_fields y ++ together constraint_fields cs) i)
          ∙ length-append (line_fields x) (together constraint_fields cs) in
          (omega (arith, p.0, z.0), z.1, omega (arith, p.2, z.2), omega (arith, z.3))
      rest x m next i p (refused a) e z = tt

      line : (y : Read Valued) → valued_line text h T.method 0 n place ≡ y → Goes text line_fields n place from y → Goes text method_fields n place from (one_method text h n place)
      line (found (x, m, next)) e p =
          subst (Goes text method_fields n place from) (sym (method_goes_on n place x m next e))
          (rest x m next (line_is n place x m next e) p (after_line_lem x.1 m next) refl
          (goes_alike text line_fields constraint_fields m next (from + length (line_fields x)) (many (valued_line text h T.constraint (scalar_at x.1 1)) (scalar_at x.1 2) m next)
          (after_line_lem x.1 m next) (lines_meant text h T.constraint (scalar_at x.1 1) as_constraint constraint_line (constraint_back h (scalar_at x.1 1)) (scalar_at x.1 2) m next)
          (many_goes text line_fields (valued_line text h T.constraint (scalar_at x.1 1)) (line_goes text h T.constraint (scalar_at x.1 1)) (scalar_at x.1 2) m next
          (from + length (line_fields x)) p.3 p.1)))
      line (refused a) e p = subst (Goes text method_fields n place from) (sym (method_stops n place a e)) tt

  module _ (past : ℕ) (at s : Spot) (w v : List ℕ) (g : Result Spot Answer) (due : Due text past w at)
      (q : Left line_fields at.from w (valued_line text h T.method 0 at.line at.start.at) g v) where
    pub method_refused : (a : Answer) → g ≡ Err a → (u : List ℕ) → Left method_fields at.from w (one_method text h at.line at.start.at) (Err a) u
    method_refused a e u =
        subst (λ (y : Read Method). Left method_fields at.from w y (Err a) u)
        (sym (method_stops at.line at.start.at a (halted line_fields at.from w (valued_line text h T.method 0 at.line at.start.at) g v q a e))) refl

    module _ (e : g ≡ Ok s) where
      read : (x : Valued) × (valued_line text h T.method 0 at.line at.start.at ≡ found (x, s.line, s.start.at)) × (s.from ≡ at.from + length (line_fields x)) × (v ≡ sets w at.from (line_fields x))
      read = went line_fields at.from w (valued_line text h T.method 0 at.line at.start.at) g v q s e

      is : method_line read.0.1 ≡ read.0
      is = line_is at.line at.start.at read.0 s.line s.start.at read.1

      spelled : line_fields read.0 ≡ 77 ∷ scalar_at read.0.1 0 ∷ length (members_at read.0.1 1) ∷ (members_at read.0.1 1 ++ (scalar_at read.0.1 2 ∷ []))
      spelled = ap line_fields (sym is) ∙ line_fields_lem read.0.1

      sized : length (line_fields read.0) ≡ 4 + length (members_at read.0.1 1)
      sized = ap length spelled ∙ (let n = length-append (members_at read.0.1 1) (scalar_at read.0.1 2 ∷ []) in omega arith)

      room : 2 * (at.from + length (line_fields read.0)) ≤ length text
      room =
          let z = subst (Goes text line_fields at.line at.start.at at.from) read.1 (line_goes text h T.method 0 at.line at.start.at at.from due.ahead due.inside) in
          let t = due.short in
          omega (arith, z.3, z.1)

      pub inside_fields : (at.from + 2 < length v) × (1 ≤ s.from) × (s.from - 1 < length v)
      inside_fields =
          let l = due.long in
          let r = room in
          let f = read.2 in
          let n = sized in
          let k : length v ≡ length w = ap length read.3 ∙ length-sets w at.from (line_fields read.0) in
          (omega arith, omega arith, omega arith)

      stands : Stands v at.from (line_fields read.0)
      stands =
          subst (λ (l : List ℕ). Stands l at.from (line_fields read.0)) (sym read.3)
          (sets_stand w at.from (line_fields read.0) (let r = room in let l = due.long in omega arith))

      subtasks_read : get_or v (at.from + 2) 0 ≡ scalar_at read.0.1 1
      subtasks_read =
          stands_at v at.from (line_fields read.0) 2 stands (let n = sized in omega arith) ∙ ap (λ (l : List ℕ). get_or l 2 0) spelled ∙ subtask_count read.0 is

      count_read : get_or v (s.from - 1) 0 ≡ scalar_at read.0.1 2
      count_read =
          let ss = members_at read.0.1 1 in
          let last : s.from - 1 ≡ at.from + (3 + length ss) = let n = sized in let f = read.2 in omega arith in
          let third : 3 + length ss ≡ suc (suc (suc (length ss))) = omega arith in
          ap (λ (k : ℕ). get_or v k 0) last ∙ stands_at v at.from (line_fields read.0) (3 + length ss) stands (let n = sized in omega arith)
          ∙ ap₂ (λ (l : List ℕ) (k : ℕ). get_or l k 0) spelled third ∙ get_or-append_seam ss (scalar_at read.0.1 2) [] 0

      pub few_read : get_or v (at.from + 2) 0 ≤ 32
      few_read =
          let few : (x : Valued) → Type 0 = λ x. scalar_at x.1 1 ≤ 32 in
          subst (λ (k : ℕ). k ≤ 32) (sym subtasks_read)
          (subst (ReadSays few) read.1 (one_line_says text h T.method 0 (λ y. y) at.line at.start.at few (few_subtasks h)))

      -- What the constraint lines leave, after the M line, is what the method leaves: by the same header, and its own subtask count.
      pub method_left : (own : List ℕ) → own ≡ known_of h (get_or v (at.from + 2) 0) → (r : Result Spot Answer) (u : List ℕ)
          → Left (together line_fields) s.from v (many (valued_line text (header_in own) T.constraint (get_or own 7 0)) (get_or v (s.from - 1) 0) s.line s.start.at) r u
          → Left method_fields at.from w (one_method text h at.line at.start.at) r u
      unfolding known_of
      method_left own known r u z =
          let same : own ≡ known_of h (scalar_at read.0.1 1) = known ∙ ap (known_of h) subtasks_read in
          subst (λ (y : Read Method). Left method_fields at.from w y r u) (sym (method_goes_on at.line at.start.at read.0 s.line s.start.at read.1))
          (go (after_line_lem read.0.1 s.line s.start.at) refl
          (many_left line_fields constraint_fields s.from v (many (valued_line text h T.constraint (scalar_at read.0.1 1)) (scalar_at read.0.1 2) s.line s.start.at)
          (after_line_lem read.0.1 s.line s.start.at) r u
          (lines_meant text h T.constraint (scalar_at read.0.1 1) as_constraint constraint_line (constraint_back h (scalar_at read.0.1 1)) (scalar_at read.0.1 2) s.line s.start.at)
          (transport (λ j. Left (together line_fields) s.from v (many (valued_line text (header_in (same j)) T.constraint (get_or (same j) 7 0)) (count_read j) s.line s.start.at) r u) z)))
        where
          go : (y : Read (List Constraint)) → after_line_lem read.0.1 s.line s.start.at ≡ y → Left (together constraint_fields) s.from v y r u
              → Left method_fields at.from w (whole_method read.0.1 y) r u
          go (found (cs, m, next)) d k =
              let fields : method_fields (method_of read.0.1 cs) ≡ line_fields read.0 ++ together constraint_fields cs
              = method_fields_lem read.0.1 cs (counted read.0.1 s.line s.start.at cs m next d) ∙ ap (λ (y : Valued). line_fields y ++ together constraint_fields cs) is in
              let size : s.from + length (together constraint_fields cs) ≡ at.from + length (method_fields (method_of read.0.1 cs))
              = let f = read.2 in let n = ap length fields ∙ length-append (line_fields read.0) (together constraint_fields cs) in omega arith in (
                k.0 ∙ ap (λ (i : ℕ). Ok (spot m next i)) size,
                k.1 ∙ (λ j. sets (read.3 j) (read.2 j) (together constraint_fields cs)) ∙ sym (sets_append (line_fields read.0) (together constraint_fields cs) w at.from)
                    ∙ ap (sets w at.from) (sym fields),
              )
          go (refused a) d k = k
