-- Lines where they stand among the fields: a constraint's, a method's, a node's. Assumes nothing.
use mathlib.Core.Path.{◌≡◌, refl, sym, ap, subst, ◌∙◌}
use mathlib.Core.Bool.{true, false, false≢true}
use mathlib.Core.List.{List, [], ◌∷◌, ◌++◌, map}
use Prim.Native.Nat.{ℕ, ◌+◌, ◌<◌, ◌≤◌}
use native.Mathlib.Omega.{arith}
use lib.ListN.{length, get_or}
use Rattle.rules.specs.declared.Sign.TheVariants.{Positive, Negative}
use Rattle.rules.specs.Case.{Constraint, O, B, F, W, sign_of, is_either, constraint_of, Method, NodeLine, D, E, L}
use Rattle.rules.specs.Fields.{lines_fields, constraint_line, method_lines, node_line}
use Rattle.fields.specs.Standing.{Stands}
use Rattle.fields.specs.Directory.{node_size}
use Rattle.fields.proofs.Standing.{stands_left, stands_right, stands_inside, stands_at, stands_first, stands_as}
use Rattle.fields.proofs.Lines.{method_fields_lem, constraint_fields, constraint_fields_lem, node_fields, node_fields_lem}
use Rattle.constraints.specs.Ready.{names_method, Labels}
use Rattle.constraints.specs.Methods.{ConstraintsHere, Says}

-- ---- fields in a row

module _ (fields : List ℕ) (at : ℕ) where
  -- Three that stand there, and what follows them.
  record Three (a b c : ℕ) (rest : List ℕ) : Type 0 where
    pub first : get_or fields at 0 ≡ a
    pub second : get_or fields (at + 1) 0 ≡ b
    pub third : get_or fields (at + 2) 0 ≡ c
    pub room : at + 3 ≤ length fields
    pub next : Stands fields (at + 3) rest

  three : (a b c : ℕ) (rest : List ℕ) → Stands fields at (a ∷ b ∷ c ∷ rest) → Three a b c rest
  three a b c rest s = record {
    first = stands_first fields at a (b ∷ c ∷ rest) s;
    second = stands_at fields at (a ∷ b ∷ c ∷ rest) 1 s (omega arith);
    third = stands_at fields at (a ∷ b ∷ c ∷ rest) 2 s (omega arith);
    room = stands_inside fields at (a ∷ b ∷ c ∷ []) (stands_left fields at (a ∷ b ∷ c ∷ []) rest s) (omega arith);
    next = stands_right fields at (a ∷ b ∷ c ∷ []) rest s;
  }

-- ---- a constraint's line

-- What the code takes of it: a letter, two numbers, and of W and w a third.
pub record LineHere (fields : List ℕ) (at : ℕ) (d : Constraint) (ds : List Constraint) : Type 0 where
  pub byte : get_or fields at 0 < 256
  pub inside : at + 3 ≤ length fields
  pub others : is_either (get_or fields at 0) 87 119 ≡ false
      → Says fields (record { letter = get_or fields at 0; first = get_or fields (at + 1) 0; second = get_or fields (at + 2) 0; third = 0; next = at + 3 }) d ds
  pub between : is_either (get_or fields at 0) 87 119 ≡ true
      → (at + 3 < length fields)
      × Says fields (record {
        letter = get_or fields at 0;
        first = get_or fields (at + 1) 0;
        second = get_or fields (at + 2) 0;
        third = get_or fields (at + 3) 0;
        next = at + 4;
      }) d ds

module _ (fields : List ℕ) (at : ℕ) (ds : List Constraint) where
  abbrev later : List ℕ
  later = lines_fields (map constraint_line ds)

  other_line : (letter a b : ℕ) (d : Constraint) → letter < 256 → is_either letter 87 119 ≡ false → constraint_of letter a b 0 ≡ d
      → Stands fields at (letter ∷ a ∷ b ∷ later) → LineHere fields at d ds
  other_line letter a b d low apart means s =
      let w = three fields at letter a b later s in
      record {
        byte = subst (λ (l : ℕ). l < 256) (sym w.first) low;
        inside = w.room;
        others = λ n. record { means = (λ j. constraint_of (w.first j) (w.second j) (w.third j) 0) ∙ means; later = w.next };
        between = λ e. absurd (false≢true (sym (ap (λ (l : ℕ). is_either l 87 119) w.first ∙ apart) ∙ e));
      }

  between_line : (letter u p v : ℕ) (d : Constraint) → letter < 256 → is_either letter 87 119 ≡ true → constraint_of letter u p v ≡ d
      → Stands fields at (letter ∷ u ∷ p ∷ v ∷ later) → LineHere fields at d ds
  between_line letter u p v d low is means s =
      let w = three fields at letter u p (v ∷ later) s in
      let fourth : get_or fields (at + 3) 0 ≡ v = stands_first fields (at + 3) v later w.next in
      let one = stands_left fields (at + 3) (v ∷ []) later w.next in
      let room : at + 3 + 1 ≤ length fields = stands_inside fields (at + 3) (v ∷ []) one (omega arith) in
      let next : at + 3 + 1 ≡ at + 4 = omega arith in
      record {
        byte = subst (λ (l : ℕ). l < 256) (sym w.first) low;
        inside = w.room;
        others = λ n. absurd (false≢true (sym n ∙ ap (λ (l : ℕ). is_either l 87 119) w.first ∙ is));
        between = λ e. (
          omega arith,
          record {
            means = (λ j. constraint_of (w.first j) (w.second j) (w.third j) (fourth j)) ∙ means;
            later = subst (λ (q : ℕ). Stands fields q later) next (stands_right fields (at + 3) (v ∷ []) later w.next);
          },
        );
      }

  line_fields_lem : (d : Constraint) → Stands fields at (constraint_fields d ++ later) → LineHere fields at d ds
  unfolding constraint_of sign_of
  line_fields_lem (O i j) s = other_line 79 i j (O i j) (omega arith) refl refl s
  line_fields_lem (B Positive p u) s = other_line 66 p u (B Positive p u) (omega arith) refl refl s
  line_fields_lem (B Negative p u) s = other_line 98 p u (B Negative p u) (omega arith) refl refl s
  line_fields_lem (F Positive p u) s = other_line 70 p u (F Positive p u) (omega arith) refl refl s
  line_fields_lem (F Negative p u) s = other_line 102 p u (F Negative p u) (omega arith) refl refl s
  line_fields_lem (W Positive u p v) s = between_line 87 u p v (W Positive u p v) (omega arith) refl refl s
  line_fields_lem (W Negative u p v) s = between_line 119 u p v (W Negative u p v) (omega arith) refl refl s

  pub line_here : (d : Constraint) → Stands fields at (lines_fields (map constraint_line (d ∷ ds))) → LineHere fields at d ds
  line_here d s =
      line_fields_lem d (stands_as fields at (lines_fields (map constraint_line (d ∷ ds))) (constraint_fields d ++ later)
      (ap (λ (l : List ℕ). l ++ later) (constraint_fields_lem d)) s)

-- ---- a method's line

-- Where the code finds how many subtasks there are, and how many constraints follow: these.
pub record MethodHere (fields : List ℕ) (at : ℕ) (m : Method) : Type 0 where
  pub room : at + 2 < length fields
  pub subtasks : get_or fields (at + 2) 0 ≡ length m.subtasks
  pub inside : at + 3 + get_or fields (at + 2) 0 < length fields
  pub constraints : ConstraintsHere fields (at + 3 + get_or fields (at + 2) 0 + 1) (get_or fields (at + 3 + get_or fields (at + 2) 0) 0) m.constraints

pub method_here_lem : (fields : List ℕ) (at : ℕ) (m : Method) → Stands fields at (lines_fields (method_lines m)) → MethodHere fields at m
method_here_lem fields at m s =
    let rest : List ℕ = lines_fields (map constraint_line m.constraints) in
    let count : ℕ = length m.constraints in
    let w = three fields at 77 m.task (length m.subtasks) (m.subtasks ++ (count ∷ rest))
    (stands_as fields at (lines_fields (method_lines m)) (77 ∷ m.task ∷ length m.subtasks ∷ (m.subtasks ++ (count ∷ rest))) (method_fields_lem m) s) in
    let place : ℕ = at + 3 + get_or fields (at + 2) 0 in
    let here : Stands fields place (count ∷ rest) =
    subst (λ (n : ℕ). Stands fields (at + 3 + n) (count ∷ rest)) (sym w.third) (stands_right fields (at + 3) m.subtasks (count ∷ rest) w.next) in
    let one : place + 1 ≤ length fields =
    stands_inside fields place (count ∷ []) (stands_left fields place (count ∷ []) rest here) (omega arith) in
    record {
      room = let r = w.room in omega arith;
      subtasks = w.third;
      inside = omega arith;
      constraints = record {
        here = stands_right fields place (count ∷ []) rest here;
        counted = sym (stands_first fields place count rest here);
      };
    }

-- ---- a node's line

-- What the code takes of it: its letter and its first number; and where the next one stands.
pub record NodeHere (fields : List ℕ) (at : ℕ) (x : NodeLine) (xs : List NodeLine) : Type 0 where
  pub room : at + 2 ≤ length fields
  pub labels : Labels (get_or fields at 0) (get_or fields (at + 1) 0) x
  pub past : at + node_size (get_or fields at 0) ≤ length fields
  pub next : Stands fields (at + node_size (get_or fields at 0)) (lines_fields (map node_line xs))

module _ (fields : List ℕ) (at : ℕ) (xs : List NodeLine) where
  abbrev after : List ℕ
  after = lines_fields (map node_line xs)

  node_line_lem : (x : NodeLine) → Stands fields at (node_fields x ++ after) → NodeHere fields at x xs
  unfolding node_size names_method
  node_line_lem (D m) s =
      let first : get_or fields at 0 ≡ 68 = stands_first fields at 68 (m ∷ after) s in
      let room : at + 2 ≤ length fields = stands_inside fields at (68 ∷ m ∷ []) (stands_left fields at (68 ∷ m ∷ []) after s) (omega arith) in
      record {
        room = room;
        past = subst (λ (l : ℕ). at + node_size l ≤ length fields) (sym first) room;
        labels = (ap names_method first, stands_at fields at (68 ∷ m ∷ after) 1 s (omega arith));
        next = subst (λ (l : ℕ). Stands fields (at + node_size l) after) (sym first) (stands_right fields at (68 ∷ m ∷ []) after s);
      }
  node_line_lem (E m g) s =
      let w = three fields at 69 m g after s in
      record {
        room = let r = w.room in omega arith;
        labels = (ap names_method w.first, w.second);
        past = subst (λ (l : ℕ). at + node_size l ≤ length fields) (sym w.first) w.room;
        next = subst (λ (l : ℕ). Stands fields (at + node_size l) after) (sym w.first) w.next;
      }
  node_line_lem (L a i) s =
      let w = three fields at 76 a i after s in
      record {
        room = let r = w.room in omega arith;
        labels = ap names_method w.first;
        past = subst (λ (l : ℕ). at + node_size l ≤ length fields) (sym w.first) w.room;
        next = subst (λ (l : ℕ). Stands fields (at + node_size l) after) (sym w.first) w.next;
      }

  pub node_here : (x : NodeLine) → Stands fields at (lines_fields (map node_line (x ∷ xs))) → NodeHere fields at x xs
  node_here x s =
      node_line_lem x (stands_as fields at (lines_fields (map node_line (x ∷ xs))) (node_fields x ++ after)
      (ap (λ (l : List ℕ). l ++ after) (node_fields_lem x)) s)
