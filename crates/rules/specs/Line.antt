-- The line that the program `cuecheck` prints (01, "The check and replay calls"). Assumes nothing.
use Rattle.std.specs.Prelude.{true, false, List, [], ◌∷◌, ◌++◌, ℕ, eqb}
use Prim.Native.Char.{code}
use Rattle.rules.specs.declared.Answer.{Answer}
use Rattle.rules.specs.Text.{decimal}
use Rattle.rules.specs.Verdict.{Report, reported}

abbrev pub fields : List (List ℕ) → List ℕ
fields [] = code "\n" ∷ []
fields (d ∷ []) = d ++ (code "\n" ∷ [])
fields (d ∷ e ∷ ds) = d ++ (code "," ∷ fields (e ∷ ds))

-- "prints Y,k,n or R,number,line,item and a line feed"
abbrev pub printed_report : Report → List ℕ
printed_report r =
    elim (eqb r.number 0) [
      | true ↦ fields ((code "Y" ∷ []) ∷ decimal r.cues ∷ decimal r.nodes ∷ [])
      | false ↦ fields ((code "R" ∷ []) ∷ decimal r.number ∷ decimal r.line ∷ decimal r.item ∷ [])
    ]

unfoldable pub printed_answer : Answer → List ℕ
printed_answer r = printed_report (reported r)
