-- `put_sorted`: the fields become those of the tidied case, and its text is put if there is room. Assumes nothing.
use Prim.Native.Nat.{ℕ, ◌≤◌, ◌<◌}
use lib.ListN.{length}
use mathlib.Core.List.{List}
use mathlib.Core.Path.{◌≡◌, sym, ap, ◌∙◌, subst}
use native.Mathlib.Omega.{arith}
use Rattle.rules.specs.declared.Header.{Header}
use Rattle.rules.specs.declared.Answer.TheVariants.{ShortOutput}
use Rattle.rules.specs.Fields.{lines_of}
use Rattle.rules.specs.Print.{lines_text}
use Rattle.rules.specs.Verdict.{filled}
use Rattle.rules.specs.Writing as Tidy
use Rattle.rules.specs.Writing.{written}
use Rattle.writer.proofs.Fields.{tidy_has_lines, written_lines, few_bytes, few_fields, some_lacks, none_lacks}
use Rattle.writer.proofs.put_sorted.Goals as goal

pub lacking-requires-clause-has_lines : goal.lacking-requires-clause-has_lines
lacking-requires-clause-has_lines c =
    let a = c.args in
    let (k, read, same, stands, few) = c.requires in
    let t = c.tidy-end in
    let tidied = t.ensures k read same stands in
    let lines = tidy_has_lines k t.new.fields t.result a.header.cues read (ap (λ (h : Header). h.cues) (sym same)) tidied.0 tidied.1 in
    (lines_of (Tidy.tidied k), lines, subst (λ (l : List ℕ). length l ≤ a.most) (sym (written_lines k)) few)

pub lacking-requires-clause-end_bound : goal.lacking-requires-clause-end_bound
lacking-requires-clause-end_bound c =
    let (k, read, same, stands, few) = c.requires in
    let end = (c.tidy-end.ensures k read same stands).1 in
    let most = few_fields k read in
    omega arith

pub overflow_cast-result : goal.overflow_cast-result
overflow_cast-result c =
    let a = c.args in
    let (k, read, same, stands, few) = c.requires in
    let t = c.tidy-end in
    let tidied = t.ensures k read same stands in
    let lines = tidy_has_lines k t.new.fields t.result a.header.cues read (ap (λ (h : Header). h.cues) (sym same)) tidied.0 tidied.1 in
    let size : length (lines_text (lines_of (Tidy.tidied k))) ≡ length (written k) = ap length (written_lines k) in
    let told = c.lacking.ensures (lines_of (Tidy.tidied k)) lines (subst (λ (l : List ℕ). length l ≤ a.most) (sym (written_lines k)) few) in
    let short = (some_lacks (length (lines_text (lines_of (Tidy.tidied k)))) (length a.output.now) c.in-Some.needed (sym c.in-Some.is ∙ told)).1 in
    let most = few_bytes k read in
    omega arith

pub returns-in-Some : goal.returns-in-Some
returns-in-Some c = λ k read same stands few.
    let a = c.args in
    let t = c.tidy-end in
    let tidied = t.ensures k read same stands in
    let lines = tidy_has_lines k t.new.fields t.result a.header.cues read (ap (λ (h : Header). h.cues) (sym same)) tidied.0 tidied.1 in
    let size : length (lines_text (lines_of (Tidy.tidied k))) ≡ length (written k) = ap length (written_lines k) in
    let told = c.lacking.ensures (lines_of (Tidy.tidied k)) lines (subst (λ (l : List ℕ). length l ≤ a.most) (sym (written_lines k)) few) in
    let short =
    some_lacks (length (lines_text (lines_of (Tidy.tidied k)))) (length a.output.now) c.in-Some.needed (sym c.in-Some.is ∙ told) in
    (subst (λ (n : ℕ). length a.output.now < n) size short.0, ap ShortOutput (short.1 ∙ size), c.clear.ensures)

pub put_text-bytes-requires : goal.put_text-bytes-requires
put_text-bytes-requires c =
    let a = c.args in
    let (k, read, same, stands, few) = c.requires in
    let t = c.tidy-end in
    let tidied = t.ensures k read same stands in
    let lines = tidy_has_lines k t.new.fields t.result a.header.cues read (ap (λ (h : Header). h.cues) (sym same)) tidied.0 tidied.1 in
    let size : length (lines_text (lines_of (Tidy.tidied k))) ≡ length (written k) = ap length (written_lines k) in
    let told = c.lacking.ensures (lines_of (Tidy.tidied k)) lines (subst (λ (l : List ℕ). length l ≤ a.most) (sym (written_lines k)) few) in
    (lines_of (Tidy.tidied k), lines, none_lacks (length (lines_text (lines_of (Tidy.tidied k)))) (length a.output.now) c.lacking.result told c.in_default.not-Some)

pub overflow_cast-result-2 : goal.overflow_cast-result-2
overflow_cast-result-2 c =
    let a = c.args in
    let (k, read, same, stands, few) = c.requires in
    let t = c.tidy-end in
    let tidied = t.ensures k read same stands in
    let lines = tidy_has_lines k t.new.fields t.result a.header.cues read (ap (λ (h : Header). h.cues) (sym same)) tidied.0 tidied.1 in
    let size : length (lines_text (lines_of (Tidy.tidied k))) ≡ length (written k) = ap length (written_lines k) in
    let count = (c.put_text-bytes.ensures (lines_of (Tidy.tidied k)) lines).1 in
    let most = few_bytes k read in
    omega arith

pub returns : goal.returns
returns c = λ k read same stands few.
    let a = c.args in
    let t = c.tidy-end in
    let tidied = t.ensures k read same stands in
    let lines = tidy_has_lines k t.new.fields t.result a.header.cues read (ap (λ (h : Header). h.cues) (sym same)) tidied.0 tidied.1 in
    let size : length (lines_text (lines_of (Tidy.tidied k))) ≡ length (written k) = ap length (written_lines k) in
    let told = c.lacking.ensures (lines_of (Tidy.tidied k)) lines (subst (λ (l : List ℕ). length l ≤ a.most) (sym (written_lines k)) few) in
    let fits =
    none_lacks (length (lines_text (lines_of (Tidy.tidied k)))) (length a.output.now) c.lacking.result told c.in_default.not-Some in
    let put = c.put_text-bytes.ensures (lines_of (Tidy.tidied k)) lines in
    (subst (λ (n : ℕ). n ≤ length a.output.now) size fits, put.1 ∙ size, put.0 ∙ ap (filled (length a.output.now) 0) (written_lines k))
