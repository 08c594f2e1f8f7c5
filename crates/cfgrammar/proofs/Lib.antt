-- What the laws of this crate and its Bison files rest on.
pub mod SentenceLaws
mod BisonErrorSpans
mod BisonFiles
mod BisonItemSpans
mod BisonResolved
mod BisonSpans
mod BisonTreeSpans
mod BisonWordSpans
-- Lemmas about lists and about the results of calls, for users' proofs.
pub use Rattle.lemmas.proofs.Contained
pub use Rattle.lemmas.proofs.Elements
pub use Rattle.lemmas.proofs.Passing
pub use Rattle.lemmas.proofs.Positions as ListPositions
pub use Rattle.lemmas.proofs.Taken
pub use Rattle.lemmas.proofs.Tests
pub use Rattle.lemmas.proofs.Zips
pub use Rattle.cfgchoices.proofs.SentenceTokens
pub use Rattle.cfgcosts.proofs.Joins
pub use Rattle.cfgast.proofs.Found
pub use Rattle.cfgnumbers.proofs.ListedPositions
pub use Rattle.cfgnumbers.proofs.Turns
pub use Rattle.cfgyacc.proofs.SelfNamed
pub use Rattle.cfgyacc.proofs.Shows
