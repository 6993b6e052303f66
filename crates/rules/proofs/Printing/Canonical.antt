-- A text that reads as a case is the print of that case; its sets are below the proposition count and its P line is numbered by the lines
-- before it. Each line that is read is the line of what it stands for (Judgement.Back), and stands at its place as it is printed. Assumes
-- nothing.
use mathlib.Core.Path.{◌≡◌, refl, sym, ap, ◌∙◌, subst}
use mathlib.Core.Bool.{Bool, true, false}
use mathlib.Core.List.{List, [], ◌∷◌, ◌++◌, map, flatten}
use Prim.Native.Nat.{ℕ, zero, suc, ◌+◌}
use Prim.Native.Char.{code}
use native.Mathlib.Omega.{arith}
use lib.Dec.{ltb}
use lib.ListN.{length, drop, length-map, length-append, drop_of_length-le}
use borrow.Author.Tests.{ltb-false}
use Rattle.rules.specs.declared.Header.{Header}
use Rattle.rules.specs.declared.Answer.TheVariants.{Unreadable}
use Rattle.rules.specs.Table.{Role, header, initial, action, method, constraint, plan, node, scalar, listed, LineRead, line, read_line}
use Rattle.rules.specs.Result.{Result, found, refused, ◌>>◌}
use Rattle.rules.specs.Case.{Case, Valued, Read, read_as, scalar_at, members_at, header_of, initial_of, action_of, as_constraint, plan_of, as_node, one_line, many, one_method, no_surplus, read_body, no_header, read_from, read_case}
use Rattle.rules.specs.Fields.{header_line, initial_line, action_line, constraint_line, method_lines, cues_line, node_line, lines_of, plan_line_of}
use Rattle.rules.specs.Print.{printed}
use Rattle.rules.specs.Ranges.{GoodHeader, Sound, SetBelow, ActionBelow, InRanges}
use Rattle.rules.proofs.Outcomes.{LineSays}
use Rattle.rules.proofs.Judgement.Reading.{Any, ForLine, LineTells, line_says, OfReading, Says, says_then, one_line_says, Counted, lines_say}
use Rattle.rules.proofs.Judgement.Sound.{header_good, sound}
use Rattle.rules.proofs.Judgement.Back.{header_back, initial_back, action_back, method_line, method_back, constraint_back, plan_back, node_back}
use Rattle.rules.proofs.Printing.Onto.{line_onto, lines_onto, lines_append, flatten_ones, printed_onto}
use Rattle.rules.proofs.Printing.Standing.{LineStands, line_stands}
use Rattle.rules.proofs.Printing.Below.{initial_below, action_below}

-- What is said of the same reading twice.
both_say : {A : Type 0} (P Q : A → Type 0) (r : Result A) → Says P r → Says Q r → Says (λ a. P a × Q a) r
both_say P Q (found a) p q = (p, q)
both_say P Q (refused r) p q = p

module _ (text : List ℕ) where
  -- These lines stand from a place on, the first of them numbered n; after them line n' starts at place'.
  record Lined (xs : List Valued) (n place n' place' : ℕ) : Type 0 where
    counted : n' ≡ n + length xs
    stand : drop place text ≡ lines_onto xs (drop place' text)

  lined_then : {xs ys : List Valued} {n₀ p₀ n₁ p₁ n₂ p₂ : ℕ} → Lined xs n₀ p₀ n₁ p₁ → Lined ys n₁ p₁ n₂ p₂ → Lined (xs ++ ys) n₀ p₀ n₂ p₂
  lined_then {xs} {ys} {p₂ = p₂} a b =
      record {
        counted = omega (arith, length-append xs ys);
        stand = a.stand ∙ ap (lines_onto xs) b.stand ∙ sym (lines_append xs ys (drop p₂ text));
      }

  -- What is read stands from its place on, as its lines.
  abbrev Reads : {A : Type 0} → (A → List Valued) → ℕ → ℕ → A × ℕ × ℕ → Type 0
  Reads lines n place x = Lined (lines x.0) n place x.1 x.2

  one_line_reads : {A : Type 0} (h : Header) (due : Role) (s : ℕ) (means : Valued → A) (back : A → Valued)
      → ForLine h s due (λ l vs. back (means (l, vs)) ≡ (l, vs)) → (n place : ℕ)
      → Says (Reads (λ a. back a ∷ []) n place) (one_line text h due s means n place)
  unfolding one_line
  one_line_reads h due s means back f n place =
      go (read_line text due h s place) (line_says text h s due (λ l vs. back (means (l, vs)) ≡ (l, vs)) place f) (line_stands text due h s place)
    where
      go : (r : LineRead) → LineTells (λ l vs. back (means (l, vs)) ≡ (l, vs)) r → LineSays Any Any (LineStands text place) r
          → Says (Reads (λ a. back a ∷ []) n place) (read_as means n r)
      go (line l vs next) b t = record { counted = refl; stand = t ∙ ap (λ (x : Valued). line_onto x (drop next text)) (sym b) }
      go (LineRead.unreadable field) b t = OfReading.unreadable
      go (LineRead.outside field) b t = OfReading.outside

  -- So many are read, and stand from their place on.
  abbrev ReadMany : {A : Type 0} → (List A → List Valued) → ℕ → ℕ → ℕ → List A × ℕ × ℕ → Type 0
  ReadMany lines count n place x = (length x.0 ≡ count) × Reads lines n place x

  many_read : {A : Type 0} (lines : A → List Valued) (each : ℕ → ℕ → Read A) → ((n place : ℕ) → Says (Reads lines n place) (each n place))
      → (count n place : ℕ) → Says (ReadMany (λ xs. flatten (map lines xs)) count n place) (many each count n place)
  unfolding flatten
  many_read lines each f zero n place = (refl, record { counted = omega arith; stand = refl })
  many_read lines each f (suc count) n place =
      says_then (Reads lines n place) _ (each n place) _ (f n place)
      (λ x a. says_then (ReadMany (λ xs. flatten (map lines xs)) count x.1 x.2) _ (many each count x.1 x.2) _
      (many_read lines each f count x.1 x.2) (λ xs b. (ap suc b.0, lined_then a b.1)))

  lines_read : {A : Type 0} (h : Header) (due : Role) (s : ℕ) (means : Valued → A) (back : A → Valued)
      → ForLine h s due (λ l vs. back (means (l, vs)) ≡ (l, vs)) → (count n place : ℕ)
      → Says (ReadMany (map back) count n place) (many (one_line text h due s means) count n place)
  lines_read {A} h due s means back f count n place =
      subst (λ (g : List A → List Valued). Says (ReadMany g count n place) (many (one_line text h due s means) count n place))
      (λ i xs. flatten_ones back xs i)
      (many_read (λ a. back a ∷ []) (one_line text h due s means) (one_line_reads h due s means back f) count n place)

  method_reads : (h : Header) (n place : ℕ) → Says (Reads method_lines n place) (one_method text h n place)
  unfolding one_method method_lines method_line
  method_reads h n place =
      says_then (Reads (λ vs. method_line vs ∷ []) n place) (Reads method_lines n place) (one_line text h method 0 (λ x. x.1) n place) _
      (one_line_reads h method 0 (λ x. x.1) method_line (method_back h) n place)
      (λ (vs, n', place') a. let s = scalar_at vs 1 in let count = scalar_at vs 2 in
      says_then (ReadMany (map constraint_line) count n' place') _ (many (one_line text h constraint s as_constraint) count n' place') _
      (lines_read h constraint s as_constraint constraint_line (constraint_back h s) count n' place')
      (λ (cs, n'', place'') b.
      subst (λ (c : ℕ). Lined ((code "M", scalar (scalar_at vs 0) ∷ listed (members_at vs 1) ∷ scalar c ∷ []) ∷ map constraint_line cs) n place n'' place'')
      (sym b.0) (lined_then a b.1)))

  -- ---- The whole

  -- The case stands from the text's start on, and is in the ranges if it is sound.
  abbrev CaseReads : Case × ℕ × ℕ → Type 0
  CaseReads x = (Sound x.0 → InRanges x.0) × Reads lines_of 1 0 x

  body_reads : (h : Header) (n p : ℕ) → GoodHeader h → Lined (header_line h ∷ []) 1 0 n p → Says CaseReads (read_body text h n p)
  unfolding read_body lines_of plan_line_of
  body_reads h n p good a =
      says_then _ CaseReads (one_line text h initial 0 initial_of n p) _
      (both_say (λ x. SetBelow h x.0) (Reads (λ s. initial_line s ∷ []) n p) (one_line text h initial 0 initial_of n p)
      (one_line_says text h initial 0 initial_of n p (SetBelow h) (initial_below h good))
      (one_line_reads h initial 0 initial_of initial_line (initial_back h good) n p))
      (λ (i, n₁, p₁) (below, b). let acts = many (one_line text h action 0 action_of) h.actions n₁ p₁ in
      says_then _ CaseReads acts _
      (both_say (λ x. Counted (ActionBelow h) h.actions x.0) (ReadMany (map action_line) h.actions n₁ p₁) acts
      (lines_say text h action 0 action_of h.actions n₁ p₁ (ActionBelow h) (action_below h good))
      (lines_read h action 0 action_of action_line (action_back h good) h.actions n₁ p₁))
      (λ (xs, n₂, p₂) (belows, c).
      says_then _ CaseReads (many (one_method text h) h.methods n₂ p₂) _
      (many_read method_lines (one_method text h) (method_reads h) h.methods n₂ p₂)
      (λ (ms, n₃, p₃) d.
      says_then _ CaseReads (one_line text h plan 0 plan_of n₃ p₃) _ (one_line_reads h plan 0 plan_of cues_line (plan_back h) n₃ p₃)
      (λ (cs, n₄, p₄) e.
      says_then _ CaseReads (many (one_line text h node 0 as_node) h.nodes n₄ p₄) _
      (lines_read h node 0 as_node node_line (node_back h) h.nodes n₄ p₄)
      (λ (ns, n₅, p₅) f. (
        λ s. record {
          sound = s;
          initial_below = below;
          actions_below = belows.1;
          planned = omega (arith, a.counted, b.counted, c.1.counted, d.1.counted, length-map xs action_line);
        },
        lined_then a (lined_then b (lined_then c.1 (lined_then d.1 (lined_then e f.1)))),
      ))))))

  from_reads : Says CaseReads (read_from text 1 0)
  unfolding read_from
  from_reads =
      let first = one_line text no_header header 0 header_of 1 0 in
      says_then _ CaseReads first _
      (both_say (λ x. GoodHeader x.0) (Reads (λ h. header_line h ∷ []) 1 0) first
      (one_line_says text no_header header 0 header_of 1 0 GoodHeader header_good)
      (one_line_reads no_header header 0 header_of header_line header_back 1 0))
      (λ (h, n, p) (good, a). body_reads h n p good a)

  -- The text is the print of the case.
  abbrev CasePrinted : Case → Type 0
  CasePrinted k = (Sound k → InRanges k) × (text ≡ printed k)

  case_reads : Says CasePrinted (read_case text)
  unfolding read_case no_surplus
  case_reads =
      says_then CaseReads CasePrinted (read_from text 1 0) _ from_reads
      (λ (k, n, place) (ranges, a). go k n place ranges a (ltb place (length text)) refl)
    where
      go : (k : Case) (n place : ℕ) → (Sound k → InRanges k) → Lined (lines_of k) 1 0 n place → (b : Bool) → ltb place (length text) ≡ b
          → Says CasePrinted (◌>>◌ {A = Unit {0}} (elim b [ true ↦ refused (Unreadable n 1) | false ↦ found tt ]) (found k))
      go k n place ranges a true e = OfReading.unreadable
      go k n place ranges a false e =
          (ranges, a.stand ∙ ap (lines_onto (lines_of k)) (drop_of_length-le text (ltb-false place (length text) e)) ∙ sym (printed_onto k))

-- One text for each case: what reads as k is the print of k.
pub canonical : (text : List ℕ) (k : Case) → read_case text ≡ found k → text ≡ printed k
canonical text k e = (subst (Says (CasePrinted text)) e (case_reads text)).1

-- What is read is within the ranges.
pub read_in_ranges : (text : List ℕ) (k : Case) → read_case text ≡ found k → InRanges k
read_in_ranges text k e = (subst (Says (CasePrinted text)) e (case_reads text)).0 (sound text k e)
