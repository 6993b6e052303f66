-- The laws of the find-the-gaps call (02, Card 4), as laws of its definitions: the text with other gaps reads as the case with those gaps, what
-- makes its check refuse it, the order of the choices, and what the call answers. Assumes nothing.
unfoldable pub use Rattle.rules.proofs.Gaps.Trees.{empties_in, empties_in_all, regapped, regapped_all}
pub use Rattle.rules.proofs.Gaps.Trees.{empty_append, gaps_append, empties_lines, lines_with, tree_with}
pub use Rattle.rules.proofs.Gaps.Texts.{in_ranges_with, reads_with, own_gaps, own_choice}
pub use Rattle.rules.proofs.Gaps.Fails.{long_fails, accepted_with, breaks_fails}
pub use Rattle.rules.proofs.Gaps.Lengths.{surplus, length_surplus}
pub use Rattle.rules.proofs.Gaps.Order.{choices_are, choices_all, choices_ordered}
pub use Rattle.rules.proofs.Gaps.Answers.{found_first, find_answers, as_rows}
-- The tree and the text with other gaps.
pub mod Trees
pub mod Texts
pub mod Lengths
-- What makes the check of that text refuse it.
pub mod Fails
-- The choices in their order, and the first that is accepted.
pub mod Order
pub mod Answers
