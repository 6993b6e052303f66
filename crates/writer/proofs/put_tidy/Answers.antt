-- `put_tidy`: a text that is tidy already is put as it is; of any other the tidied case's, which is no longer. Assumes nothing.
use Prim.Native.Nat.{ℕ, ◌≤◌}
use lib.ListN.{length}
use mathlib.Core.List.{List}
use mathlib.Core.Path.{◌≡◌, sym, ap, ◌∙◌, subst}
use native.Mathlib.Omega.{arith}
use Rattle.rules.specs.Verdict.{text_most}
use Rattle.rules.proofs.Writing.Lengths.{written_length}
use Rattle.writer.specs.Writes.{PutAs}
use Rattle.output.proofs.Cases.{print_short}
use Rattle.writer.proofs.Fields.{header_here, header_fits, written_same}
use Rattle.writer.proofs.put_tidy.Goals as goal

pub header_of-header-requires : goal.header_of-header-requires
header_of-header-requires c = let (k, read, is, stands) = c.requires in header_fits k _ stands

pub is_tidy-requires : goal.is_tidy-requires
is_tidy-requires c =
    let (k, read, is, stands) = c.requires in
    let header = c.header_of-header in
    (k, read, sym (header.ensures ∙ header_here k _ stands), stands)

pub put_same-requires : goal.put_same-requires
put_same-requires c =
    let (k, read, is, stands) = c.requires in
    subst (λ (l : List ℕ). length l ≤ text_most) (sym is) (print_short k read)

pub returns-then-is_tidy : goal.returns-then-is_tidy
returns-then-is_tidy c = λ k read is stands.
    let a = c.args in
    let header = c.header_of-header in
    let same : k.head ≡ header.result = sym (header.ensures ∙ header_here k a.fields.now stands) in
    let tidy = (c.is_tidy.ensures k read same stands).0 c.if-is_tidy.true in
    subst (λ (l : List ℕ). PutAs l (length a.output.now) c.put_same.result c.put_same.new.output) (is ∙ sym (written_same k tidy)) c.put_same.ensures

pub put_sorted-requires : goal.put_sorted-requires
put_sorted-requires c =
    let (k, read, is, stands) = c.requires in
    let a = c.args in
    let header = c.header_of-header in
    let same : k.head ≡ header.result = sym (header.ensures ∙ header_here k a.fields.now stands) in
    let most = ap length is in
    (k, read, same, stands, omega (arith, written_length k))

pub returns : goal.returns
returns c = λ k read is stands.
    let a = c.args in
    let header = c.header_of-header in
    let same : k.head ≡ header.result = sym (header.ensures ∙ header_here k a.fields.now stands) in
    let most = ap length is in
    c.put_sorted.ensures k read same stands (omega (arith, written_length k))
