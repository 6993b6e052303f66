-- The laws of the import call (02, Card 6), as laws of its definitions: which ids a form reaches, what its lines and ids are, what the three texts
-- show, and that what is found has the form's tree and plan. Assumes nothing.
pub use Rattle.rules.proofs.Import.Reach.{is_reached_lem}
pub use Rattle.rules.proofs.Import.Made.{made_reads}
pub use Rattle.rules.proofs.Import.Found.{has_form}
pub use Rattle.rules.proofs.Import.Shows.{made_shows}
-- What reading says of a name list and of a form.
pub mod Says
pub mod NamesShow
pub mod Shapes
pub mod DueShapes
pub mod Uses
pub mod FrontsShow
pub mod LinesShow
-- The lines and the ids of a form that was read, and the tree that hangs from its root.
pub mod Reach
pub mod Lines
pub mod Ids
pub mod IdsShow
pub mod Trees
-- What the three texts show.
pub mod Shows
-- The made case, and what is found of it.
pub mod Made
pub mod Found
