-- The ten panel cases (01, "Panel cases"): text and answer of each, in one table under one lemma; and beside them cases of Cards 1
-- to 7 of 02.
-- Assumes nothing.
use Rattle.std.specs.Prelude.{◌≡◌, refl, Bool, true, false, ℕ, ltb}
use mathlib.Core.List.{List, [], ◌∷◌, ◌++◌, map, flatten}
use Prim.Native.Char.{code}
use Prim.Native.String.{String}
use Rattle.rules.specs.State as St
use Rattle.rules.specs.Index as Ix
use Rattle.rules.specs.Text as Tx
use Rattle.rules.specs.Table as Tb
use Rattle.rules.specs.Case as Ca
use Rattle.rules.specs.Tree as Tr
use Rattle.rules.specs.Constraint as Co
use Rattle.rules.specs.Verdict as Ve
use Rattle.rules.specs.Demands as De
use Rattle.rules.specs.Fields as Fi
use Rattle.rules.specs.Print as Pr
use Rattle.rules.specs.Writing as Wr
use Rattle.rules.specs.Gaps as Ga
use Rattle.rules.specs.Tokens as To
use Rattle.rules.specs.Naming as Na
use Rattle.rules.specs.Form as Fo
use Rattle.rules.specs.Import as Im
use Rattle.rules.specs.Line as Li
use Rattle.rules.specs.Index.{Span}
use Rattle.rules.specs.Tree.{Tree, preorder, span}
use Rattle.rules.specs.Result.{found as seen, refused}
use Rattle.rules.specs.Verdict.{Found, state_need, node_need, work_need, check, check_lists, answer_of}
use Rattle.rules.specs.Demands.{as_asked}
use Rattle.rules.specs.Writing.{written, write}
use Rattle.rules.specs.Gaps.{power, gaps_of, choice_most, find_gaps}
use Rattle.rules.specs.Import.{import_form}
use Rattle.rules.specs.Line.{printed_answer}

-- The bytes of a text of characters below 128.
abbrev pub bytes : String → List ℕ
bytes String.[] = []
bytes (String.◌∷◌ ch s) = code ch ∷ bytes s

abbrev pub text_of : List String → List ℕ
text_of [] = []
text_of (l ∷ ls) = bytes l ++ (code "\n" ∷ text_of ls)

-- "Propositions: 0 in km/h, 1 loaded, 2 on air. Actions: 0 convert, 1 load, 2 take. Task 3 panel, 4 in-km/h."
abbrev model : List String
model =
    "A,0,1,0,1,0,0" ∷ "A,0,0,1,1,0" ∷ "A,1,1,0,1,2,1,1" ∷ "M,3,3,4,1,2,3" ∷ "O,0,2" ∷ "O,1,2" ∷ "W,1,0,4" ∷ "M,4,1,0,0" ∷ "M,4,0,1"
    ∷ "B,0,0" ∷ []

-- The lines of a case: header, initial set, the model's, plan, nodes. And what is printed for it.
pub record Panel : Type 0 where
  pub lines : List String
  pub answer : String

abbrev panel : String → String → String → List String → String → Panel
panel header initial plan nodes answer = record { lines = header ∷ initial ∷ model ++ (plan ∷ nodes); answer = answer }

abbrev pub case_A : Panel
case_A = panel "N,3,3,2,3,3,2,4" "I,1,0" "P,1,2" ("D,0" ∷ "E,2,0" ∷ "L,1,1" ∷ "L,2,2" ∷ []) "Y,2,4"

abbrev pub table : List Panel
table =
    case_A
    ∷ panel "N,3,3,2,3,3,2,4" "I,1,0" "P,1,2" ("D,0" ∷ "E,2,1" ∷ "L,1,1" ∷ "L,2,2" ∷ []) "Y,2,4"
    ∷ panel "N,3,3,2,3,3,2,4" "I,1,0" "P,1,2" ("D,0" ∷ "E,2,2" ∷ "L,1,1" ∷ "L,2,2" ∷ []) "R,10,14,0"
    ∷ panel "N,3,3,2,3,3,2,4" "I,0" "P,1,2" ("D,0" ∷ "E,2,0" ∷ "L,1,1" ∷ "L,2,2" ∷ []) "R,13,14,2"
    ∷ panel "N,3,3,2,3,3,2,4" "I,1,0" "P,2,1" ("D,0" ∷ "E,2,0" ∷ "L,1,1" ∷ "L,2,2" ∷ []) "R,5,13,1"
    ∷ panel "N,3,3,2,3,3,2,4" "I,1,0" "P,1,2" ("D,0" ∷ "E,2,0" ∷ "L,1,1" ∷ "L,2,1" ∷ []) "R,8,17,1"
    ∷ panel "N,3,3,2,3,3,2,3" "I,1,0" "P,1,2" ("D,0" ∷ "E,2,0" ∷ "L,1,1" ∷ []) "R,22,17,0"
    ∷ panel "N,3,3,2,3,3,2,4" "I,1,0" "P,1,2" ("D,0" ∷ "E,2,3" ∷ "L,1,1" ∷ "L,2,2" ∷ []) "R,4,15,3"
    ∷ panel "N,3,3,2,3,4,0,1" "I,1,0" "P" ("E,2,0" ∷ []) "Y,0,1"
    ∷ panel "N,3,3,2,3,4,0,1" "I,0" "P" ("E,2,0" ∷ []) "R,11,14,0"
    ∷ []

-- Card 7: panel cases with another node, or one more. A surplus leaf, and a surplus D line with an empty method; a D line with an empty method of the
-- task expected, an E line with one that isn't empty; an empty method of another task on a D line; a leaf for a compound task, a method for an action;
-- a surplus node ahead of an unclaimed position, and after another's claim.
abbrev bad_trees : List Panel
bad_trees =
    panel "N,3,3,2,3,3,2,5" "I,1,0" "P,1,2" ("D,0" ∷ "E,2,0" ∷ "L,1,1" ∷ "L,2,2" ∷ "L,2,2" ∷ []) "R,21,18,0"
    ∷ panel "N,3,3,2,3,3,2,5" "I,1,0" "P,1,2" ("D,0" ∷ "E,2,0" ∷ "L,1,1" ∷ "L,2,2" ∷ "D,2" ∷ []) "R,21,18,0"
    ∷ panel "N,3,3,2,3,3,2,4" "I,1,0" "P,1,2" ("D,0" ∷ "D,2" ∷ "L,1,1" ∷ "L,2,2" ∷ []) "R,20,15,0"
    ∷ panel "N,3,3,2,3,3,2,4" "I,1,0" "P,1,2" ("D,0" ∷ "E,1,0" ∷ "L,1,1" ∷ "L,2,2" ∷ []) "R,20,15,0"
    ∷ panel "N,3,3,2,3,3,2,4" "I,1,0" "P,1,2" ("D,2" ∷ "E,2,0" ∷ "L,1,1" ∷ "L,2,2" ∷ []) "R,6,14,0"
    ∷ panel "N,3,3,2,3,3,2,4" "I,1,0" "P,1,2" ("D,0" ∷ "L,1,1" ∷ "L,1,1" ∷ "L,2,2" ∷ []) "R,6,15,0"
    ∷ panel "N,3,3,2,3,3,2,4" "I,1,0" "P,1,2" ("D,0" ∷ "E,2,0" ∷ "D,1" ∷ "L,2,2" ∷ []) "R,6,16,0"
    ∷ panel "N,3,3,2,3,3,3,5" "I,1,0" "P,1,2,1" ("D,0" ∷ "E,2,0" ∷ "L,1,1" ∷ "L,2,2" ∷ "L,1,3" ∷ []) "R,21,18,0"
    ∷ panel "N,3,3,2,3,3,2,5" "I,1,0" "P,1,2" ("D,0" ∷ "E,2,0" ∷ "L,1,1" ∷ "L,2,1" ∷ "L,2,2" ∷ []) "R,8,17,1"
    ∷ []

-- Card 1: panel case a with one more condition, or two, in the panel's method.
abbrev panel_with : String → List String → String → Panel
panel_with method conditions answer = record {
  lines =
      "N,3,3,2,3,3,2,4" ∷ "I,1,0" ∷ "A,0,1,0,1,0,0" ∷ "A,0,0,1,1,0" ∷ "A,1,1,0,1,2,1,1" ∷ method ∷ "O,0,2" ∷ "O,1,2" ∷ "W,1,0,4"
      ∷ conditions ++ ("M,4,1,0,0" ∷ "M,4,0,1" ∷ "B,0,0" ∷ "P,1,2" ∷ "D,0" ∷ "E,2,0" ∷ "L,1,1" ∷ "L,2,2" ∷ []);
  answer = answer;
}

-- Loaded is false before load (task 1, set 2) and true after it; on air is false from "in km/h" (set 1) to take (set 4), and loaded is false
-- first and then true there, so that w and W are broken alike. From take to "in km/h" no state is asked about: both hold.
abbrev pub signed_table : List Panel
signed_table =
    panel_with "M,3,3,4,1,2,4" ("b,1,2" ∷ []) "Y,2,4"
    ∷ panel_with "M,3,3,4,1,2,4" ("B,1,2" ∷ []) "R,11,15,3"
    ∷ panel_with "M,3,3,4,1,2,4" ("f,1,2" ∷ []) "R,12,15,3"
    ∷ panel_with "M,3,3,4,1,2,4" ("F,1,2" ∷ []) "Y,2,4"
    ∷ panel_with "M,3,3,4,1,2,4" ("w,1,2,4" ∷ []) "Y,2,4"
    ∷ panel_with "M,3,3,4,1,2,4" ("w,1,1,4" ∷ []) "R,13,15,3"
    ∷ panel_with "M,3,3,4,1,2,4" ("W,1,1,4" ∷ []) "R,13,15,3"
    ∷ panel_with "M,3,3,4,1,2,5" ("w,4,0,1" ∷ "W,4,2,1" ∷ []) "Y,2,4"
    ∷ panel_with "M,3,3,4,1,2,4" ("b,0,1,2" ∷ []) "R,3,10,4"
    ∷ panel_with "M,3,3,4,1,2,4" ("o,0,2" ∷ []) "R,3,10,1"
    ∷ []

-- Card 2: panel case a with other constraints in the panel's method.
abbrev panel_of : String → List String → List String
panel_of method constraints =
    "N,3,3,2,3,3,2,4" ∷ "I,1,0" ∷ "A,0,1,0,1,0,0" ∷ "A,0,0,1,1,0" ∷ "A,1,1,0,1,2,1,1" ∷ method
    ∷ constraints ++ ("M,4,1,0,0" ∷ "M,4,0,1" ∷ "B,0,0" ∷ "P,1,2" ∷ "D,0" ∷ "E,2,0" ∷ "L,1,1" ∷ "L,2,2" ∷ [])

abbrev mixed : List String
mixed =
    "w,1,2,4" ∷ "W,4,2,1" ∷ "W,1,0,4" ∷ "f,2,2" ∷ "F,1,2" ∷ "b,2,2" ∷ "b,1,2" ∷ "B,0,4"
    ∷ "B,0,2" ∷ "O,1,2" ∷ "W,1,0,4" ∷ "O,0,2" ∷ []

abbrev in_order : List String
in_order =
    "O,0,2" ∷ "O,1,2" ∷ "B,0,2" ∷ "B,0,4" ∷ "b,1,2" ∷ "b,2,2" ∷ "F,1,2" ∷ "f,2,2"
    ∷ "W,1,0,4" ∷ "W,4,2,1" ∷ "w,1,2,4" ∷ []

-- A text, the length of the output lent, the answer, and what is put out.
pub record Written : Type 0 where
  pub lines : List String
  pub room : ℕ
  pub answer : String
  pub tidy : List String

abbrev writes : List String → ℕ → String → List String → Written
writes lines room answer tidy = record { lines = lines; room = room; answer = answer; tidy = tidy }

-- Sorted, with one duplicate less; what was written, again; one byte too few; a case that the check refuses.
abbrev pub written_table : List Written
written_table =
    writes (panel_of "M,3,3,4,1,2,12" mixed) 203 "Y,2,4" (panel_of "M,3,3,4,1,2,11" in_order)
    ∷ writes (panel_of "M,3,3,4,1,2,11" in_order) 400 "Y,2,4" (panel_of "M,3,3,4,1,2,11" in_order)
    ∷ writes (panel_of "M,3,3,4,1,2,12" mixed) 202 "R,14,0,203" []
    ∷ writes (panel_of "M,3,3,4,1,2,2" ("W,1,1,4" ∷ "O,2,0" ∷ [])) 0 "R,13,13,0" []
    ∷ []

-- Card 3: "Counts of 257 to 512 are now judged like any other." Panel case a in models of other counts, with conditions on the last
-- proposition, which is true throughout, and on those beside it, which are not; "513 is outside its range" and a member goes by the model's
-- own count.
abbrev wide_with : String → String → List String → String → Panel
wide_with header initial conditions answer = record {
  lines =
      header ∷ initial ∷ "A,0,1,0,1,0,0" ∷ "A,0,0,1,1,0" ∷ "A,1,1,0,1,2,1,1" ∷ "M,3,3,4,1,2,5" ∷ "O,0,2" ∷ "O,1,2" ∷ "W,1,0,4"
      ∷ conditions ++ ("M,4,1,0,0" ∷ "M,4,0,1" ∷ "B,0,0" ∷ "P,1,2" ∷ "D,0" ∷ "E,2,0" ∷ "L,1,1" ∷ "L,2,2" ∷ []);
  answer = answer;
}

abbrev pub wide_table : List Panel
wide_table =
    panel "N,257,3,2,3,3,2,4" "I,1,0" "P,1,2" ("D,0" ∷ "E,2,0" ∷ "L,1,1" ∷ "L,2,2" ∷ []) "Y,2,4"
    ∷ wide_with "N,512,3,2,3,3,2,4" "I,2,0,511" ("B,511,0" ∷ "W,1,511,4" ∷ []) "Y,2,4"
    ∷ wide_with "N,512,3,2,3,3,2,4" "I,2,0,511" ("b,255,0" ∷ "w,1,510,4" ∷ []) "Y,2,4"
    ∷ wide_with "N,512,3,2,3,3,2,4" "I,2,0,255" ("b,255,0" ∷ "B,511,0" ∷ []) "R,11,16,3"
    ∷ wide_with "N,512,3,2,3,3,2,4" "I,2,0,256" ("B,256,0" ∷ "F,511,0" ∷ []) "R,12,16,4"
    ∷ panel "N,512,3,2,3,3,2,4" "I,2,0,512" "P,1,2" ("D,0" ∷ "E,2,0" ∷ "L,1,1" ∷ "L,2,2" ∷ []) "R,4,2,4"
    ∷ panel "N,300,3,2,3,3,2,4" "I,301,0" "P,1,2" ("D,0" ∷ "E,2,0" ∷ "L,1,1" ∷ "L,2,2" ∷ []) "R,4,2,2"
    ∷ panel "N,513,3,2,3,3,2,4" "I,1,0" "P,1,2" ("D,0" ∷ "E,2,0" ∷ "L,1,1" ∷ "L,2,2" ∷ []) "R,4,1,2"
    ∷ []

-- Card 4. A text, the number of choices tried, the answer, and the gaps that are found.
pub record Sought : Type 0 where
  pub lines : List String
  pub tried : ℕ
  pub answer : String
  pub gaps : List ℕ

abbrev seeks : List String → ℕ → String → List ℕ → Sought
seeks lines tried answer gaps = record { lines = lines; tried = tried; answer = answer; gaps = gaps }

-- Panel case a or one like it, with a gap claimed for "in km/h".
abbrev panel_at : String → String → String → List String
panel_at initial load gap =
    "N,3,3,2,3,3,2,4" ∷ initial ∷ "A,0,1,0,1,0,0" ∷ load ∷ "A,1,1,0,1,2,1,1" ∷ "M,3,3,4,1,2,3" ∷ "O,0,2" ∷ "O,1,2" ∷ "W,1,0,4" ∷ "M,4,1,0,0" ∷ "M,4,0,1" ∷ "B,0,0"
    ∷ "P,1,2" ∷ "D,0" ∷ gap ∷ "L,1,1" ∷ "L,2,2" ∷ []

-- Two empty tasks, of which the first may sit in gap 1 or 2 only.
abbrev two_empty : List String
two_empty =
    "N,2,1,2,2,1,2,5" ∷ "I,0" ∷ "A,0,0,1,1,0" ∷ "M,1,4,2,2,0,0,1" ∷ "B,1,1" ∷ "M,2,0,0" ∷ "P,0,0" ∷ "D,0" ∷ "E,1,0" ∷ "E,1,0" ∷ "L,0,1"
    ∷ "L,0,2" ∷ []

-- Nine cues and seven empty tasks: 10 to the power 7.
abbrev seven_empty : List String
seven_empty =
    "N,1,1,3,2,1,9,17" ∷ "I,1,0" ∷ "A,0,0,0,0" ∷ "M,2,0,0" ∷ "M,1,16,0,0,0,0,0,0,0,0,0,2,2,2,2,2,2,2,1" ∷ "b,0,0" ∷ "P,0,0,0,0,0,0,0,0,0" ∷ "D,1" ∷ "L,0,1" ∷ "L,0,2"
    ∷ "L,0,3" ∷ "L,0,4" ∷ "L,0,5" ∷ "L,0,6" ∷ "L,0,7" ∷ "L,0,8" ∷ "L,0,9" ∷ "E,0,0" ∷ "E,0,0" ∷ "E,0,0" ∷ "E,0,0" ∷ "E,0,0" ∷ "E,0,0" ∷ "E,0,0" ∷ []

-- The claimed gap is ignored; the second choice; none; the first node slowest; with no cue one choice; 15 before any constraint; a gap that is
-- out of range.
abbrev pub sought_table : List Sought
sought_table =
    seeks (panel_at "I,1,0" "A,0,0,1,1,0" "E,2,0") 1 "Y,2,4" (0 ∷ [])
    ∷ seeks (panel_at "I,1,0" "A,0,0,1,1,0" "E,2,2") 1 "Y,2,4" (0 ∷ [])
    ∷ seeks (panel_at "I,0" "A,0,0,2,0,1,0" "E,2,0") 2 "Y,2,4" (1 ∷ [])
    ∷ seeks (panel_at "I,0" "A,0,0,1,1,0" "E,2,0") 3 "R,16,0,3" []
    ∷ seeks two_empty 4 "Y,2,5" (1 ∷ 0 ∷ [])
    ∷ seeks ("N,0,0,2,2,0,0,4" ∷ "I,0" ∷ "M,0,3,1,1,1,1" ∷ "O,0,2" ∷ "M,1,0,0" ∷ "P" ∷ "D,0" ∷ "E,1,0" ∷ "E,1,0" ∷ "E,1,0" ∷ []) 1 "Y,0,4" (0 ∷ 0 ∷ 0 ∷ [])
    ∷ seeks seven_empty 1 "R,15,0,7" []
    ∷ seeks (panel_at "I,1,0" "A,0,0,1,1,0" "E,2,3") 1 "R,4,15,3" []
    ∷ []

-- Card 5: a state, the four sets of an action, what the step call answers, the state that is left, and the words computed.
pub record Stepped : Type 0 where
  pub state : St.State
  pub action : St.Action
  pub applied : Bool
  pub left : St.State
  pub computed : ℕ

abbrev steps : St.State → St.State → St.State → St.State → St.State → Bool → St.State → ℕ → Stepped
steps state needed forbidden added deleted applied left computed =
    record { state = state; action = record { needed = needed; forbidden = forbidden; added = added; deleted = deleted }; applied = applied; left = left; computed = computed }

-- One word; two; no for a needed one, and for a forbidden one; nothing to do; words that come out as they were; words only needed or forbidden;
-- added and deleted; every word.
abbrev pub stepped_table : List Stepped
stepped_table =
    steps (3 ∷ 0 ∷ 0 ∷ 0 ∷ 0 ∷ 0 ∷ 0 ∷ 9 ∷ []) (1 ∷ 0 ∷ 0 ∷ 0 ∷ 0 ∷ 0 ∷ 0 ∷ 0 ∷ []) (4 ∷ 0 ∷ 0 ∷ 0 ∷ 0 ∷ 0 ∷ 0 ∷ 0 ∷ []) (4 ∷ 0 ∷ 0 ∷ 0 ∷ 0 ∷ 0 ∷ 0 ∷ 0 ∷ []) (0 ∷ 0 ∷ 0 ∷ 0 ∷ 0 ∷ 0 ∷ 0 ∷ 0 ∷ []) true (7 ∷ 0 ∷ 0 ∷ 0 ∷ 0 ∷ 0 ∷ 0 ∷ 9 ∷ []) 1
    ∷ steps (3 ∷ 0 ∷ 0 ∷ 0 ∷ 0 ∷ 0 ∷ 0 ∷ 0 ∷ []) (0 ∷ 0 ∷ 0 ∷ 0 ∷ 0 ∷ 0 ∷ 0 ∷ 0 ∷ []) (0 ∷ 0 ∷ 0 ∷ 0 ∷ 0 ∷ 0 ∷ 0 ∷ 0 ∷ []) (0 ∷ 0 ∷ 0 ∷ 0 ∷ 0 ∷ 0 ∷ 0 ∷ 4 ∷ []) (2 ∷ 0 ∷ 0 ∷ 0 ∷ 0 ∷ 0 ∷ 0 ∷ 0 ∷ []) true (1 ∷ 0 ∷ 0 ∷ 0 ∷ 0 ∷ 0 ∷ 0 ∷ 4 ∷ []) 129
    ∷ steps (3 ∷ 0 ∷ 0 ∷ 0 ∷ 0 ∷ 0 ∷ 0 ∷ 0 ∷ []) (4 ∷ 0 ∷ 0 ∷ 0 ∷ 0 ∷ 0 ∷ 0 ∷ 0 ∷ []) (0 ∷ 0 ∷ 0 ∷ 0 ∷ 0 ∷ 0 ∷ 0 ∷ 0 ∷ []) (8 ∷ 8 ∷ 0 ∷ 0 ∷ 0 ∷ 0 ∷ 0 ∷ 0 ∷ []) (1 ∷ 0 ∷ 0 ∷ 0 ∷ 0 ∷ 0 ∷ 0 ∷ 0 ∷ []) false (3 ∷ 0 ∷ 0 ∷ 0 ∷ 0 ∷ 0 ∷ 0 ∷ 0 ∷ []) 0
    ∷ steps (3 ∷ 0 ∷ 0 ∷ 6 ∷ 0 ∷ 0 ∷ 0 ∷ 0 ∷ []) (1 ∷ 0 ∷ 0 ∷ 0 ∷ 0 ∷ 0 ∷ 0 ∷ 0 ∷ []) (0 ∷ 0 ∷ 0 ∷ 2 ∷ 0 ∷ 0 ∷ 0 ∷ 0 ∷ []) (8 ∷ 8 ∷ 0 ∷ 0 ∷ 0 ∷ 0 ∷ 0 ∷ 0 ∷ []) (1 ∷ 0 ∷ 0 ∷ 0 ∷ 0 ∷ 0 ∷ 0 ∷ 0 ∷ []) false (3 ∷ 0 ∷ 0 ∷ 6 ∷ 0 ∷ 0 ∷ 0 ∷ 0 ∷ []) 0
    ∷ steps (3 ∷ 0 ∷ 0 ∷ 6 ∷ 0 ∷ 0 ∷ 0 ∷ 0 ∷ []) (1 ∷ 0 ∷ 0 ∷ 0 ∷ 0 ∷ 0 ∷ 0 ∷ 0 ∷ []) (0 ∷ 0 ∷ 0 ∷ 0 ∷ 0 ∷ 0 ∷ 0 ∷ 0 ∷ []) (0 ∷ 0 ∷ 0 ∷ 0 ∷ 0 ∷ 0 ∷ 0 ∷ 0 ∷ []) (0 ∷ 0 ∷ 0 ∷ 0 ∷ 0 ∷ 0 ∷ 0 ∷ 0 ∷ []) true (3 ∷ 0 ∷ 0 ∷ 6 ∷ 0 ∷ 0 ∷ 0 ∷ 0 ∷ []) 0
    ∷ steps (3 ∷ 8 ∷ 0 ∷ 0 ∷ 0 ∷ 0 ∷ 0 ∷ 0 ∷ []) (0 ∷ 0 ∷ 0 ∷ 0 ∷ 0 ∷ 0 ∷ 0 ∷ 0 ∷ []) (0 ∷ 0 ∷ 0 ∷ 0 ∷ 0 ∷ 0 ∷ 0 ∷ 0 ∷ []) (1 ∷ 0 ∷ 0 ∷ 0 ∷ 0 ∷ 0 ∷ 0 ∷ 0 ∷ []) (0 ∷ 1 ∷ 0 ∷ 0 ∷ 0 ∷ 0 ∷ 0 ∷ 0 ∷ []) true (3 ∷ 8 ∷ 0 ∷ 0 ∷ 0 ∷ 0 ∷ 0 ∷ 0 ∷ []) 3
    ∷ steps (3 ∷ 8 ∷ 0 ∷ 0 ∷ 0 ∷ 0 ∷ 0 ∷ 0 ∷ []) (1 ∷ 8 ∷ 0 ∷ 0 ∷ 0 ∷ 0 ∷ 0 ∷ 0 ∷ []) (0 ∷ 0 ∷ 5 ∷ 0 ∷ 0 ∷ 0 ∷ 0 ∷ 0 ∷ []) (0 ∷ 0 ∷ 0 ∷ 0 ∷ 0 ∷ 1 ∷ 0 ∷ 0 ∷ []) (0 ∷ 0 ∷ 0 ∷ 0 ∷ 0 ∷ 0 ∷ 0 ∷ 0 ∷ []) true (3 ∷ 8 ∷ 0 ∷ 0 ∷ 0 ∷ 1 ∷ 0 ∷ 0 ∷ []) 32
    ∷ steps (3 ∷ 0 ∷ 0 ∷ 0 ∷ 0 ∷ 0 ∷ 0 ∷ 0 ∷ []) (0 ∷ 0 ∷ 0 ∷ 0 ∷ 0 ∷ 0 ∷ 0 ∷ 0 ∷ []) (0 ∷ 0 ∷ 0 ∷ 0 ∷ 0 ∷ 0 ∷ 0 ∷ 0 ∷ []) (4 ∷ 0 ∷ 0 ∷ 0 ∷ 0 ∷ 0 ∷ 0 ∷ 0 ∷ []) (4 ∷ 0 ∷ 0 ∷ 0 ∷ 0 ∷ 0 ∷ 0 ∷ 0 ∷ []) true (7 ∷ 0 ∷ 0 ∷ 0 ∷ 0 ∷ 0 ∷ 0 ∷ 0 ∷ []) 1
    ∷ steps (0 ∷ 0 ∷ 0 ∷ 0 ∷ 0 ∷ 0 ∷ 0 ∷ 0 ∷ []) (0 ∷ 0 ∷ 0 ∷ 0 ∷ 0 ∷ 0 ∷ 0 ∷ 0 ∷ []) (0 ∷ 0 ∷ 0 ∷ 0 ∷ 0 ∷ 0 ∷ 0 ∷ 0 ∷ []) (1 ∷ 1 ∷ 1 ∷ 1 ∷ 1 ∷ 1 ∷ 1 ∷ 1 ∷ []) (0 ∷ 0 ∷ 0 ∷ 0 ∷ 0 ∷ 0 ∷ 0 ∷ 0 ∷ []) true (1 ∷ 1 ∷ 1 ∷ 1 ∷ 1 ∷ 1 ∷ 1 ∷ 1 ∷ []) 255
    ∷ []

-- Card 6. A case, a name list and a form, the length of the output lent, the number of choices tried; the answer, the text that is made, and
-- the gaps that are found.
pub record Imported : Type 0 where
  pub lines : List String
  pub names : List String
  pub form : List ℕ
  pub room : ℕ
  pub tried : ℕ
  pub answer : String
  pub made : List String
  pub gaps : List ℕ

-- What is made and found is said of one that is accepted.
abbrev imports : List String → List String → List ℕ → ℕ → String → List String → List ℕ → Imported
imports lines names form tried answer made gaps =
    record { lines = lines; names = names; form = form; room = 400; tried = tried; answer = answer; made = made; gaps = gaps }

abbrev turns_down : List String → List String → List ℕ → ℕ → String → Imported
turns_down lines names form room answer =
    record { lines = lines; names = names; form = form; room = room; tried = 3; answer = answer; made = []; gaps = [] }

-- The panel's names, but for those of task 2 and of method 0.
abbrev listing : String → String → List String
listing take whole = "0,convert" ∷ "1,load" ∷ take ∷ "3,panel" ∷ "4,in-km/h" ∷ whole ∷ "1,by-convert" ∷ "2,as-is" ∷ []

abbrev named : List String
named = listing "2,take" "0,whole"

-- A form that begins with the line of load.
abbrev form_of : List String → List ℕ
form_of lines = text_of ("==>" ∷ "1 load" ∷ lines ++ ("<==" ∷ []))

-- Its other lines for panel case a: take; the root; panel; "in km/h".
abbrev others : String → String → String → List String
others take root whole = take ∷ root ∷ whole ∷ "3 in-km/h -> as-is" ∷ []

abbrev form_A : List ℕ
form_A = form_of (others "2 take" "root 0" "0 panel -> whole 3 1 2")

-- Panel case a; one like it for which gap 1 is the first that is accepted; one for which none is.
abbrev panel_A : List String
panel_A = case_A.lines

abbrev second_gap : List String
second_gap = panel_at "I,0" "A,0,0,2,0,1,0" "E,2,0"

abbrev no_gap : List String
no_gap = panel_at "I,0" "A,0,0,1,1,0" "E,2,0"

-- The case's own plan and nodes are replaced; compound lines in another order; the gap found is 1, the text keeps 0; 16. Then 17 and 18 in the
-- name list; two spaces; no last line feed; a name of another use; two subtasks for three; 19 in four ways; 14 ahead of 16.
abbrev pub imported_table : List Imported
imported_table =
    imports (panel "N,3,3,2,3,3,0,1" "I,1,0" "P" ("D,0" ∷ []) "").lines named form_A 1 "Y,2,4" panel_A (0 ∷ [])
    ∷ imports panel_A named (form_of ("2 take" ∷ "root 0" ∷ "3 in-km/h -> as-is" ∷ "0 panel -> whole 3 1 2" ∷ [])) 1 "Y,2,4" panel_A (0 ∷ [])
    ∷ imports second_gap named form_A 2 "Y,2,4" second_gap (1 ∷ [])
    ∷ turns_down no_gap named form_A 400 "R,16,0,3"
    ∷ turns_down panel_A (listing "2,take" "5,whole") form_A 400 "R,17,6,1"
    ∷ turns_down panel_A (listing "2,load" "0,whole") (bytes "x") 400 "R,18,3,1"
    ∷ turns_down panel_A named (form_of (others "2 take" "root  0" "0 panel -> whole 3 1 2")) 400 "R,17,4,0"
    ∷ turns_down panel_A named (text_of ("==>" ∷ "1 load" ∷ others "2 take" "root 0" "0 panel -> whole 3 1 2") ++ bytes "<==") 400 "R,17,7,0"
    ∷ turns_down panel_A named (form_of (others "2 panel" "root 0" "0 panel -> whole 3 1 2")) 400 "R,18,3,0"
    ∷ turns_down panel_A named (form_of (others "2 take" "root 0" "0 panel -> whole 3 1")) 400 "R,18,5,0"
    ∷ turns_down panel_A named (form_of (others "1 take" "root 0" "0 panel -> whole 3 1 1")) 400 "R,19,2,0"
    ∷ turns_down panel_A named (form_of (others "2 take" "root 0" "0 panel -> whole 0 1 2")) 400 "R,19,5,0"
    ∷ turns_down panel_A named (form_of ("2 take" ∷ others "9 take" "root 0" "0 panel -> whole 3 1 2")) 400 "R,19,4,0"
    ∷ turns_down panel_A named (form_of (others "2 take" "root 0" "0 panel -> whole 7 1 2")) 400 "R,19,5,0"
    ∷ turns_down no_gap named form_A 147 "R,14,0,148"
    ∷ []

-- With lists as long as is asked.
abbrev checked : Panel → Found Tree
checked p = check as_asked (text_of p.lines)

abbrev spans_of : Found Tree → List Span
spans_of (seen (k, t)) = map span (preorder t)
spans_of (refused r) = []

abbrev doubled : ℕ → ℕ → Span
doubled s e = record { start = s; end = e }

-- What is printed for each case of a table is its answer.
abbrev Answered : List Panel → Type 0
Answered cases = map (λ p. printed_answer (answer_of (checked p))) cases ≡ map (λ p. text_of (p.answer ∷ [])) cases

-- What the write call answers and puts out.
abbrev wrote : Written → Found Tree
wrote w = write as_asked w.room (text_of w.lines)

abbrev put_out : Found Tree → List ℕ
put_out (seen (k, t)) = written k
put_out (refused r) = []

abbrev Puts : List Written → Type 0
Puts cases =
    (map (λ w. printed_answer (answer_of (wrote w))) cases ≡ map (λ w. text_of (w.answer ∷ [])) cases)
    × (map (λ w. put_out (wrote w)) cases ≡ map (λ w. text_of w.tidy) cases)

-- What the find-the-gaps call answers, and the gaps that it finds.
abbrev sought_in : Sought → Found Tree
sought_in s = find_gaps s.tried as_asked (text_of s.lines)

abbrev gaps_in : {A : Type 0} → Found A → List ℕ
gaps_in (seen (k, a)) = gaps_of k.nodes
gaps_in (refused r) = []

abbrev Seeks : List Sought → Type 0
Seeks cases =
    (map (λ s. printed_answer (answer_of (sought_in s))) cases ≡ map (λ s. text_of (s.answer ∷ [])) cases)
    × (map (λ s. gaps_in (sought_in s)) cases ≡ map (λ s. s.gaps) cases)

-- What the import call answers, the text that it makes, and the gaps that it finds.
abbrev imported : Imported → Found (Tree × List ℕ)
imported i = import_form i.tried as_asked i.room (text_of i.lines) (text_of i.names) i.form

abbrev made_in : Found (Tree × List ℕ) → List ℕ
made_in (seen (k, (t, made))) = made
made_in (refused r) = []

abbrev shown : Found (Tree × List ℕ) → List ℕ × List ℕ × List ℕ
shown f = (printed_answer (answer_of f), made_in f, gaps_in f)

abbrev Imports : List Imported → Type 0
Imports cases = map (λ i. shown (imported i)) cases ≡ map (λ i. (text_of (i.answer ∷ []), text_of i.made, i.gaps)) cases

-- "that power is over 1,000,000": 10 to the power 6 is not.
abbrev AtMostMillion : Type 0
AtMostMillion = (ltb choice_most (power 9 6) ≡ false) × (ltb choice_most (power 100 3) ≡ true)

-- What a step answers and leaves, and the words that it computes.
abbrev Steps : List Stepped → Type 0
Steps cases =
    (map (λ c. St.step c.state c.action) cases ≡ map (λ c. (c.applied, c.left)) cases)
    × (map (λ c. St.computed c.state c.action) cases ≡ map (λ c. c.computed) cases)

-- What is answered for a case with so many numbers in the state list.
abbrev with_states : ℕ → Panel → List ℕ
with_states n p = printed_answer (answer_of (check (check_lists n node_need work_need) (text_of p.lines)))

-- "the state list needs 8,008 numbers"
abbrev NeedsStates : Type 0
NeedsStates = (state_need ≡ 8008) × (with_states 8007 case_A ≡ text_of ("R,1,0,1" ∷ [])) × (with_states 8008 case_A ≡ text_of ("Y,2,4" ∷ []))

-- Each case is answered as 01 prints it; "a. [..] doubled spans 1-4, 1-1, 2-2, 4-4"; and as Cards 1 to 7 have it.
pub answers : Answered table × (spans_of (checked case_A) ≡ doubled 1 4 ∷ doubled 1 1 ∷ doubled 2 2 ∷ doubled 4 4 ∷ []) × Answered signed_table × Puts written_table × Answered wide_table × NeedsStates × Seeks sought_table × AtMostMillion × Steps stepped_table × Imports imported_table × Answered bad_trees
unfolding St.word_count St.proposition_most St.bit St.member St.no_propositions St.insert St.without St.applies_word St.applies St.next_word St.next St.step St.quiet St.touched St.computed St.no_action St.action_at St.states St.state_at St.first_stop Ix.of_cue Ix.of_gap Ix.at Ix.least Ix.greatest Ix.hull Ix.part_of Ix.only Ix.pick Ix.span_of_part Ix.rounded_up Ix.rounded_down Ix.c Ix.f Ix.is_before Tx.is_feed Tx.is_comma Tx.is_digit Tx.ends_field Tx.is_plain Tx.number_at Tx.letter_at Tx.ending_at Tx.feed_follows Tb.table Tb.row_of Tb.role_number Tb.is_compound Tb.in_range Tb.read_list Tb.read_item Tb.read_line Ca.no_method Ca.method_at Ca.scalar_at Ca.members_at Ca.set_at Ca.header_of Ca.initial_of Ca.action_of Ca.sign_of Ca.constraint_of Ca.as_constraint Ca.plan_of Ca.node_of Ca.as_node Ca.one_line Ca.one_method Ca.no_surplus Ca.read_body Ca.no_header Ca.read_from Ca.read_case Tr.preorder Tr.preorders Tr.root_line Tr.span Tr.spans Tr.subtask_spans Tr.no_subtasks Tr.is_method_of Tr.of_task Tr.right_letter Tr.is_in Tr.may_claim Tr.walk_node Tr.level_count Tr.walk_tree Co.signed Co.holds_in Co.holds_from Co.keeps Co.constraints_of Co.parts_of Co.broken_at Co.first_broken Ve.reported De.as_asked Ve.state_need Ve.node_need Ve.work_need Ve.check_lists Ve.states_of Ve.plan_runs Ve.all_claimed Ve.none_broken Ve.text_most Ve.check Tx.decimal Li.printed_answer Fi.line_fields Fi.propositions_of Fi.header_line Fi.initial_line Fi.action_line Fi.constraint_line Fi.method_lines Fi.cues_line Fi.node_line Fi.lines_of Fi.plan_line_of Pr.line_text Pr.printed Wr.rank Wr.sort_key Wr.precedes Wr.sorted Wr.tidied_method Wr.tidied Wr.written Wr.output_long Wr.write Ga.power Ga.case_with Ga.text_with Ga.choice_count Ga.choice_most Ga.few_choices Ga.before_choices Ga.find_gaps To.due_line To.no_more To.is_space To.words_of To.in_name To.id_of Na.listed_at Na.not_again Na.read_names Fo.opening_word Fo.root_word Fo.arrow_word Fo.closing_word Fo.action_named Fo.compound_named Fo.suits Fo.method_named Fo.form_line_most Fo.front_line Fo.back_line Fo.both_named Fo.read_form Fo.form_lines Fo.all_defined Fo.all_used Fo.is_reached Fo.is_wrong Fo.wrong_line Fo.ids_right Im.made_nodes Im.made_header Im.made_case Im.made_from Im.import_form flatten
answers = (refl, refl, refl, (refl, refl), refl, (refl, refl, refl), (refl, refl), (refl, refl), (refl, refl), refl, refl)
