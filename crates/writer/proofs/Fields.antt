-- What the tidy text is put out from: the header that stands among the fields, and how many fields and bytes there are. Assumes nothing.
use mathlib.Core.Path.{◌≡◌, refl, sym, ap, subst, ◌∙◌}
use mathlib.Core.Bool.{Bool, true, false}
use mathlib.Core.List.{List}
use Prim.Native.Nat.{ℕ, ◌≤◌, ◌<◌}
use Rattle.std.specs.Prelude.{Option, Some, None}
use native.Mathlib.Decide.{dec_lt}
use native.Mathlib.Omega.{arith}
use borrow.Author.Tests.{lt-ltb, le-ltb}
use lib.ListN.{length, drop}
use Rattle.rules.specs.Table.{table, row_of}
use Rattle.rules.specs.Case.{Case, header_in}
use Rattle.rules.specs.Fields.{line_fields, header_line, lines_of, fields_of}
use Rattle.rules.specs.Print.{lines_text, printed}
use Rattle.rules.specs.Verdict.{text_most}
use Rattle.rules.specs.Writing.{tidied, written}
use Rattle.rules.proofs.Judgement.Sound.{sound}
use Rattle.rules.proofs.Writing.Lengths.{written_length}
use Rattle.fields.specs.Standing.{Stands}
use Rattle.fields.specs.Directory.{IsRead}
use Rattle.fields.proofs.Standing.{stands_inside}
use Rattle.writer.specs.Writes.{lacked}
use Rattle.output.specs.Output.{HasLines}
use Rattle.output.proofs.Cases.{case_has_lines, case_least, print_short}

-- The header's numbers follow the first letter.
pub header_here : (k : Case) (fields : List ℕ) → Stands fields 0 (fields_of k) → header_in (drop 1 fields) ≡ k.head
unfolding fields_of lines_of line_fields header_line row_of table
header_here k fields s = ap (λ (l : List ℕ). header_in (drop 1 l)) s.here

-- It takes eight of them.
pub header_fits : (k : Case) (fields : List ℕ) → Stands fields 0 (fields_of k) → 8 ≤ length fields
unfolding fields_of lines_of line_fields header_line row_of table
header_fits k fields s = let inside = stands_inside fields 0 (fields_of k) s (omega (arith, eight)) in omega (arith, eight)
  where
    eight : 8 ≤ length (fields_of k)
    eight = omega arith

-- The tidy text is no longer than the one that came.
pub few_bytes : (k : Case) → IsRead k → length (written k) ≤ 65535
unfolding text_most
few_bytes k r = let short = print_short k r in omega (arith, written_length k)

pub written_same : (k : Case) → tidied k ≡ k → written k ≡ printed k
unfolding written
written_same k e = ap printed e

-- What is put out are the lines of the tidied case.
pub written_lines : (k : Case) → lines_text (lines_of (tidied k)) ≡ written k
unfolding written printed
written_lines k = refl

pub tidy_has_lines : (k : Case) (fields : List ℕ) (end cues : ℕ) → IsRead k → cues ≡ k.head.cues → Stands fields 0 (fields_of (tidied k))
    → end ≡ length (fields_of (tidied k)) → HasLines cues fields end (lines_of (tidied k))
unfolding tidied
tidy_has_lines k fields end cues r h s e =
    let lines = case_has_lines (tidied k) fields (sound r.text k r.reads).plan_length s in
    subst (λ (n : ℕ). HasLines n fields end (lines_of (tidied k))) (sym h) (subst (λ (n : ℕ). HasLines k.head.cues fields n (lines_of (tidied k))) (sym e) lines)

pub few_fields : (k : Case) → IsRead k → length (fields_of (tidied k)) ≤ 32768
unfolding written
few_fields k r = omega (arith, few_bytes k r, case_least (tidied k))

-- ---- Room

module _ (needed room : ℕ) where
  abbrev picked : Bool → Option ℕ
  picked b = elim b [ true ↦ Some needed | false ↦ None ]

  pub lacks_none : needed ≤ room → None ≡ lacked needed room
  unfolding lacked
  lacks_none h = sym (ap picked (le-ltb room needed h))

  pub lacks_all : room < needed → Some needed ≡ lacked needed room
  unfolding lacked
  lacks_all h = sym (ap picked (lt-ltb room needed h))

  pub some_lacks : (r : ℕ) → Some r ≡ lacked needed room → (room < needed) × (r ≡ needed)
  some_lacks r e = go (dec_lt room needed)
    where
      go : Dec (room < needed) → (room < needed) × (r ≡ needed)
      go (yes l) = let all = lacks_all l in (l, cc)
      go (no l) = let none = lacks_none (omega arith) in absurd cc

  pub none_lacks : (r : Option ℕ) → r ≡ lacked needed room → ((n : ℕ) → r ≡ Some n → ⊥) → needed ≤ room
  none_lacks r e not = go (dec_lt room needed)
    where
      go : Dec (room < needed) → needed ≤ room
      go (yes l) = absurd (not needed (e ∙ sym (lacks_all l)))
      go (no l) = omega arith
