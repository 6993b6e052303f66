-- What the write call promises (02, Card 2), as laws of its definitions: sorting, which cases write the same bytes, that what is written is
-- accepted, and that writing twice changes nothing. A printed case reads back, so the tidied case is known by its text. Assumes nothing.
use mathlib.Core.Path.{◌≡◌, ap}
use mathlib.Core.List.{List}
use Prim.Native.Nat.{ℕ}
use Rattle.rules.specs.Result.{found}
use Rattle.rules.specs.Case.{Case, read_case}
use Rattle.rules.specs.Print.{printed}
use Rattle.rules.specs.Tree.{Tree}
use Rattle.rules.specs.Demands.{as_asked}
use Rattle.rules.specs.Writing.{tidied, written, Accepts, WriterLaws}
use Rattle.rules.proofs.Judgement.Theorem.{accepts_rules}
use Rattle.rules.proofs.Printing.{canonical, read_in_ranges, round_trip}
use Rattle.rules.proofs.Writing.Sorted.{sorted_ascends, sorted_same}
use Rattle.rules.proofs.Writing.Tidied.{tidied_in_ranges, order_tidied, tidied_order}
use Rattle.rules.proofs.Writing.Accepted.{written_accepted, check_alike, write_alike}
pub mod Order
pub mod Sorted
pub mod Tidied
pub mod Lengths
pub mod Accepted
pub mod Answers

reading : (a : List ℕ) (k : Case) (t : Tree) → Accepts a k t → read_case a ≡ found k
reading a k t e = (accepts_rules as_asked a k t e).0

-- What is written of an accepted case reads as the tidied case.
written_reads : (a : List ℕ) (k : Case) (t : Tree) → Accepts a k t → read_case (written k) ≡ found (tidied k)
unfolding written
written_reads a k t e = round_trip (tidied k) (tidied_in_ranges k (read_in_ranges a k (reading a k t e)))

accepted_again : (a : List ℕ) (k : Case) (t : Tree) → Accepts a k t → Accepts (written k) (tidied k) t
accepted_again a k t e = written_accepted a k t e (canonical a k (reading a k t e)) (written_reads a k t e)

same_text : (a b : List ℕ) (k l : Case) (t u : Tree) → Accepts a k t → Accepts b l u → written k ≡ written l → tidied k ≡ tidied l
same_text a b k l t u e f w =
    let p = written_reads a k t e in
    let q = written_reads b l u f in
    let r = ap read_case w in
    cc

pub writer_laws : WriterLaws
unfolding written
writer_laws = record {
  ordered = λ cs. (sorted_ascends cs, sorted_same cs);
  same = λ a b {k} {l} {t} {u} e f. (λ w. tidied_order k l (same_text a b k l t u e f w), λ s. ap printed (order_tidied k l s));
  accepted = λ a {k} {t} e. check_alike k t a e (accepted_again a k t e);
  twice = λ a {k} {t} e. write_alike k t a e (accepted_again a k t e);
}
