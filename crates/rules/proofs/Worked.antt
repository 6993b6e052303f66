-- The fields of panel case a, by computation: each number as it stands in the text, a line's letter as its byte. Assumes nothing.
use mathlib.Core.Path.{◌≡◌, refl}
use mathlib.Core.List.{List, [], ◌∷◌, flatten}
use Prim.Native.Nat.{ℕ}
use Rattle.rules.specs.State as St
use Rattle.rules.specs.Text as Tx
use Rattle.rules.specs.Table as Tb
use Rattle.rules.specs.Case as Ca
use Rattle.rules.specs.Fields as Fi
use Rattle.rules.specs.Result.{Result, found, refused}
use Rattle.rules.specs.Case.{Case, read_case}
use Rattle.rules.specs.Fields.{fields_of}
use Rattle.rules.specs.Panel.{text_of, case_A}

abbrev fields_in : Result Case → List ℕ
fields_in (found k) = fields_of k
fields_in (refused a) = []

panel_fields : fields_in (read_case (text_of case_A.lines))
    ≡ 78 ∷ 3 ∷ 3 ∷ 2 ∷ 3 ∷ 3 ∷ 2 ∷ 4
    ∷ 73 ∷ 1 ∷ 0
    ∷ 65 ∷ 0 ∷ 1 ∷ 0 ∷ 1 ∷ 0 ∷ 0
    ∷ 65 ∷ 0 ∷ 0 ∷ 1 ∷ 1 ∷ 0
    ∷ 65 ∷ 1 ∷ 1 ∷ 0 ∷ 1 ∷ 2 ∷ 1 ∷ 1
    ∷ 77 ∷ 3 ∷ 3 ∷ 4 ∷ 1 ∷ 2 ∷ 3
    ∷ 79 ∷ 0 ∷ 2
    ∷ 79 ∷ 1 ∷ 2
    ∷ 87 ∷ 1 ∷ 0 ∷ 4
    ∷ 77 ∷ 4 ∷ 1 ∷ 0 ∷ 0
    ∷ 77 ∷ 4 ∷ 0 ∷ 1
    ∷ 66 ∷ 0 ∷ 0
    ∷ 80 ∷ 1 ∷ 2
    ∷ 68 ∷ 0
    ∷ 69 ∷ 2 ∷ 0
    ∷ 76 ∷ 1 ∷ 1
    ∷ 76 ∷ 2 ∷ 2 ∷ []
unfolding St.word_count St.proposition_most St.bit St.member St.no_propositions St.insert Tx.is_feed Tx.is_comma Tx.is_digit Tx.ends_field Tx.is_plain Tx.number_at Tx.letter_at Tx.ending_at Tx.feed_follows Tb.table Tb.row_of Tb.role_number Tb.is_compound Tb.in_range Tb.read_list Tb.read_item Tb.read_line Ca.scalar_at Ca.members_at Ca.set_at Ca.header_of Ca.initial_of Ca.action_of Ca.sign_of Ca.constraint_of Ca.as_constraint Ca.plan_of Ca.node_of Ca.as_node Ca.one_line Ca.one_method Ca.read_body Ca.no_header Ca.read_from Ca.no_surplus Ca.read_case Fi.line_fields Fi.propositions_of Fi.header_line Fi.initial_line Fi.action_line Fi.constraint_line Fi.method_lines Fi.cues_line Fi.node_line Fi.lines_of Fi.fields_of flatten
panel_fields = refl
