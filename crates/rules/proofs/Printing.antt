-- Printing is the other way from reading: a text that reads as a case is the print of that case, the case is within the ranges, and the print of
-- a case within the ranges reads as that case. Assumes nothing.
use mathlib.Core.Path.{◌≡◌, sym, ◌∙◌}
use mathlib.Core.Logic.{◌↔◌}
use mathlib.Core.List.{List}
use Prim.Native.Nat.{ℕ}
use Rattle.rules.specs.Result.{found}
use Rattle.rules.specs.Case.{Case, read_case}
use Rattle.rules.specs.Print.{printed}
use Rattle.rules.specs.Ranges.{InRanges}
pub use Rattle.rules.proofs.Printing.Canonical.{canonical, read_in_ranges}
pub use Rattle.rules.proofs.Printing.RoundTrip.{round_trip}
-- Numbers, and the text from a place on.
pub mod Numbers
pub mod Places
pub mod Onto
-- From the text: what is read stands there as it is printed.
pub mod Standing
pub mod Below
pub mod Canonical
-- To the text: what is printed there is read.
pub mod Tests
pub mod Given
pub mod Ranges
pub mod RoundTrip

-- The cases within the ranges are exactly those whose print reads as the case.
pub in_ranges_iff : (k : Case) → InRanges k ↔ (read_case (printed k) ≡ found k)
in_ranges_iff k = (round_trip k, read_in_ranges (printed k) k)

-- Two texts that read as the same case are equal.
pub one_text : (a b : List ℕ) (k : Case) → read_case a ≡ found k → read_case b ≡ found k → a ≡ b
one_text a b k p q = canonical a k p ∙ sym (canonical b k q)
