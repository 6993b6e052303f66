-- The gaps of a choice put among the fields: they are then those of the case with these gaps, and their text is the text with these gaps. Assumes
-- nothing.
use mathlib.Core.Path.{◌≡◌, refl, sym, ap, ◌∙◌, subst}
use mathlib.Core.List.{List, [], ◌∷◌, ◌++◌, map, flatten, append_assoc}
use Prim.Native.Nat.{ℕ, zero, suc, ◌+◌, ◌*◌, ◌≤◌}
use native.Mathlib.Omega.{arith}
use lib.ListN.{length, take, replicate, length-append, length-replicate}
use lib.Seq.{take_at}
use Rattle.rules.specs.declared.Header.{Header}
use Rattle.rules.specs.Case.{Case, Valued, NodeLine, D, E, L}
use Rattle.rules.specs.Fields.{line_fields, lines_fields, header_line, initial_line, action_line, method_lines, cues_line, node_line, lines_of, fields_of}
use Rattle.rules.specs.Print.{lines_text, printed}
use Rattle.rules.specs.Ranges.{Sound}
use Rattle.rules.specs.Verdict.{text_most}
use Rattle.rules.specs.Gaps.{empty_count, Within, ChoiceOf, with_gaps, case_with, text_with, gaps_of}
use Rattle.rules.proofs.Judgement.Sound.{sound}
use Rattle.rules.proofs.Gaps.Texts.{reads_with}
use Rattle.rules.proofs.Gaps.Lengths.{surplus, length_surplus}
use Rattle.fields.specs.Standing.{Stands}
use Rattle.fields.specs.Directory.{NodesLast}
use Rattle.fields.proofs.Standing.{stands_right, stands_as}
use Rattle.records.specs.Records.{NodesStand}
use Rattle.output.specs.Output.{HasLines}
use Rattle.output.proofs.Cases.{case_has_lines}
use Rattle.judge.specs.declared.Opened.{Opened}
use Rattle.choices.proofs.Order.{zeros_within}
use Rattle.gaps.proofs.Digits.{digits_one, digits_few}
use Rattle.finder.specs.Finding.{Printable, BaseOf, SpareOf}

-- ---- The lines ahead of the nodes

lines_append : (xs ys : List Valued) → lines_fields (xs ++ ys) ≡ lines_fields xs ++ lines_fields ys
lines_append [] ys = refl
lines_append (x ∷ xs) ys = ap (λ (l : List ℕ). line_fields x ++ l) (lines_append xs ys) ∙ sym (append_assoc (line_fields x) (lines_fields xs) (lines_fields ys))

ahead_lines : Case → List Valued
ahead_lines k =
    header_line k.head ∷ initial_line k.initial
    ∷ (map action_line k.actions ++ (flatten (map method_lines k.methods) ++ (cues_line k.plan ∷ [])))

abbrev ahead : Case → List ℕ
ahead k = lines_fields (ahead_lines k)

lines_part : (k : Case) → lines_of k ≡ ahead_lines k ++ map node_line k.nodes
unfolding lines_of ahead_lines
lines_part k =
    let nodes = map node_line k.nodes in
    let actions = map action_line k.actions in
    let methods = flatten (map method_lines k.methods) in
    let plan = cues_line k.plan ∷ [] in
    ap (λ (l : List Valued). header_line k.head ∷ initial_line k.initial ∷ l)
    (ap (λ (l : List Valued). actions ++ l) (sym (append_assoc methods plan nodes)) ∙ sym (append_assoc actions (methods ++ plan) nodes))

fields_part : (k : Case) → fields_of k ≡ ahead k ++ lines_fields (map node_line k.nodes)
unfolding fields_of
fields_part k = ap lines_fields (lines_part k) ∙ lines_append (ahead_lines k) (map node_line k.nodes)

ahead_with : (gs : List ℕ) (k : Case) → ahead (case_with gs k) ≡ ahead k
unfolding case_with ahead_lines
ahead_with gs k = refl

nodes_with : (gs : List ℕ) (k : Case) → (case_with gs k).nodes ≡ with_gaps gs 0 k.nodes
unfolding case_with
nodes_with gs k = refl

pub head_with : (gs : List ℕ) (k : Case) → (case_with gs k).head ≡ k.head
unfolding case_with
head_with gs k = refl

fields_with : (gs : List ℕ) (k : Case) → fields_of (case_with gs k) ≡ ahead k ++ lines_fields (map node_line (with_gaps gs 0 k.nodes))
fields_with gs k =
    fields_part (case_with gs k)
    ∙ ap (λ (l : List ℕ). l ++ lines_fields (map node_line (case_with gs k).nodes)) (ahead_with gs k)
    ∙ ap (λ (ns : List NodeLine). ahead k ++ lines_fields (map node_line ns)) (nodes_with gs k)

-- They take as many fields as stand ahead of the first node line.
ahead_size : (k : Case) (nodes : ℕ) → NodesLast k nodes → length (ahead k) ≡ nodes
ahead_size k nodes last = omega (arith, ap length (fields_part k), length-append (ahead k) (lines_fields (map node_line k.nodes)))

-- ---- The node lines among the fields

empties_few : (ns : List NodeLine) → empty_count ns ≤ length ns
empties_few [] = omega arith
empties_few (D m ∷ ns) = omega (arith, empties_few ns)
empties_few (E m g ∷ ns) = omega (arith, empties_few ns)
empties_few (L a i ∷ ns) = omega (arith, empties_few ns)

module _ {k : Case} {fields : List ℕ} {o : Opened} (p : Printable k fields o) where
  pub is_sound : Sound k
  is_sound = sound p.read.text k p.read.reads

  pub nodes_stand : NodesStand fields o.nodes o.header.nodes k.nodes
  nodes_stand =
      let size : 0 + length (ahead k) ≡ o.nodes = omega (arith, ahead_size k o.nodes p.last) in
      let whole = stands_as fields 0 (fields_of k) (ahead k ++ lines_fields (map node_line k.nodes)) (fields_part k) p.stands in
      record {
        here = subst (λ (n : ℕ). Stands fields n (lines_fields (map node_line k.nodes))) size
            (stands_right fields 0 (ahead k) (lines_fields (map node_line k.nodes)) whole);
        counted = is_sound.nodes_length ∙ sym (ap (λ (h : Header). h.nodes) p.head);
      }

  -- A case of so few numbers has few node lines.
  pub few_lines : o.header.nodes ≤ 3000
  few_lines = subst (λ (h : Header). h.nodes ≤ 3000) (sym p.head) is_sound.head_good.few_nodes

  pub few_empties : empty_count k.nodes ≤ 3000
  few_empties = omega (arith, empties_few k.nodes, is_sound.nodes_length, is_sound.head_good.few_nodes)

  pub few_cues : o.header.cues ≤ 1000
  few_cues = subst (λ (h : Header). h.cues ≤ 1000) (sym p.head) is_sound.head_good.few_cues

  -- What is put out are its lines.
  pub has_lines : (end : ℕ) → end ≡ o.nodes + length (lines_fields (map node_line k.nodes)) → HasLines o.header.cues fields end (lines_of k)
  has_lines end e =
      let lines = case_has_lines k fields is_sound.plan_length p.stands in
      subst (λ (h : Header). HasLines h.cues fields end (lines_of k)) (sym p.head)
      (subst (λ (n : ℕ). HasLines k.head.cues fields n (lines_of k)) (sym (e ∙ p.last)) lines)

-- ---- With the gaps of a choice

pub text_of : (k : Case) → lines_text (lines_of k) ≡ printed k
unfolding printed
text_of k = refl

pub text_with_lem : (gs : List ℕ) (k : Case) → printed (case_with gs k) ≡ text_with gs k
unfolding text_with
text_with_lem gs k = refl

module _ {k : Case} {fields : List ℕ} {o : Opened} (p : Printable k fields o) (choice : List ℕ) (h : ChoiceOf k choice) where
  kept : take o.nodes fields ≡ ahead k
  kept =
      let nodes = lines_fields (map node_line k.nodes) in
      let all : fields ≡ ahead k ++ (nodes ++ p.stands.rest) =
      p.stands.here ∙ ap (λ (l : List ℕ). l ++ p.stands.rest) (fields_part k) ∙ append_assoc (ahead k) nodes p.stands.rest in
      ap (take o.nodes) all ∙ take_at (ahead k) (nodes ++ p.stands.rest) o.nodes (ahead_size k o.nodes p.last)

  -- The fields are those of the case with these gaps.
  pub put_printable : (now rest : List ℕ) → now ≡ take o.nodes fields ++ (lines_fields (map node_line (with_gaps choice 0 k.nodes)) ++ rest)
      → length (text_with choice k) ≤ text_most → Printable (case_with choice k) now o
  put_printable now rest put short =
      let nodes = lines_fields (map node_line (with_gaps choice 0 k.nodes)) in
      record {
        read = record { text = text_with choice k; short = short; reads = reads_with p.read.text k choice p.read.reads h };
        head = p.head ∙ sym (head_with choice k);
        stands = record {
          rest = rest;
          here = put ∙ ap (λ (l : List ℕ). l ++ (nodes ++ rest)) kept ∙ sym (append_assoc (ahead k) nodes rest)
              ∙ ap (λ (l : List ℕ). l ++ rest) (sym (fields_with choice k));
        };
        last = omega (
          arith,
          ahead_size k o.nodes p.last,
          ap length (fields_with choice k),
          length-append (ahead k) nodes,
          ap (λ (ns : List NodeLine). length (lines_fields (map node_line ns))) (nodes_with choice k),
        );
      }

-- ---- The text's length

module _ (k : Case) (base : ℕ) (b : BaseOf k base) where
  pub length_with : (gs : List ℕ) → ChoiceOf k gs → length (text_with gs k) ≡ base + surplus gs
  length_with gs h = omega (arith, length_surplus k gs h, b)

  pub spare_of : (spare : ℕ) → base + spare ≡ text_most → SpareOf k spare
  spare_of spare e gs h l = omega (arith, length_with gs h)

pub surplus_zeros : (e : ℕ) → surplus (replicate e 0) ≡ 0
surplus_zeros zero = refl
surplus_zeros (suc e) = omega (arith, digits_one 0 (omega arith), surplus_zeros e)

-- A gap has at most three digits past its first.
pub surplus_few : (cues : ℕ) (gs : List ℕ) → cues ≤ 1000 → Within cues gs → surplus gs ≤ 3 * length gs
surplus_few cues [] few w = omega arith
surplus_few cues (g ∷ gs) few w = omega (arith, digits_few g (omega (arith, w.0)), surplus_few cues gs few w.1)

-- The digits of its own gaps past their first ones are among the text.
pub surplus_inside : (k : Case) → surplus (gaps_of k.nodes) ≤ length (printed k)
surplus_inside k =
    let e = empty_count k.nodes in
    omega (
      arith,
      length_surplus k (replicate e 0) (length-replicate {A = ℕ} e 0, zeros_within k.head.cues e),
      surplus_zeros e,
    )
