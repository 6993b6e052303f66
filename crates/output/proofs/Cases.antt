-- The lines of a case, as measuring and putting ask for them. Assumes nothing.
use mathlib.Core.Path.{◌≡◌, refl, subst}
use mathlib.Core.List.{List}
use Prim.Native.Nat.{ℕ, ◌*◌, ◌≤◌}
use lib.ListN.{length}
use Rattle.rules.specs.Case.{Case}
use Rattle.rules.specs.Fields.{lines_fields, lines_of, fields_of}
use Rattle.rules.specs.Print.{lines_text, printed}
use Rattle.rules.specs.Verdict.{text_most}
use Rattle.rules.proofs.Printing.{canonical}
use Rattle.fields.specs.Standing.{Stands}
use Rattle.fields.specs.Directory.{IsRead}
use Rattle.sizes.proofs.Cases.{case_lines}
use Rattle.output.specs.Output.{HasLines}
use Rattle.output.proofs.Texts.{text_most_lem, text_least}

module _ (k : Case) where
  pub case_fields : fields_of k ≡ lines_fields (lines_of k)
  unfolding fields_of
  case_fields = refl

  pub case_text : printed k ≡ lines_text (lines_of k)
  unfolding printed
  case_text = refl

  -- The plan has as many cues as the header says.
  pub case_has_lines : (fields : List ℕ) → length k.plan ≡ k.head.cues → Stands fields 0 (fields_of k)
      → HasLines k.head.cues fields (length (fields_of k)) (lines_of k)
  unfolding fields_of
  case_has_lines fields e s = record { lines = case_lines k e; here = s; whole = refl }

  pub case_most : length (printed k) ≤ 12 * length (fields_of k)
  unfolding printed fields_of
  case_most = text_most_lem (lines_of k)

  pub case_least : 2 * length (fields_of k) ≤ length (printed k)
  unfolding printed fields_of
  case_least = text_least (lines_of k)

  -- A case that was read is printed as the text that came.
  pub print_short : IsRead k → length (printed k) ≤ text_most
  print_short r = subst (λ (l : List ℕ). length l ≤ text_most) (canonical r.text k r.reads) r.short
