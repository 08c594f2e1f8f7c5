-- The functions of Words find what its relations say, and nothing else; each word leaves a shorter rest.
pub use Rattle.cfgwords.proofs.NameFinders.{name_finder, name_shorter, name_length, identifier_finder, identifier_shorter, identifier_length}
pub use Rattle.cfgwords.proofs.QuotedFinder.{quoted_finder, quoted_shorter, quoted_length}
pub use Rattle.cfgwords.proofs.IntegerFinder.{integer_finder, integer_shorter}
pub use Rattle.cfgwords.proofs.TokenFinder.{token_finder, token_shorter, token_length}
pub use Rattle.cfgwords.proofs.ActionFinder.{action_finder, action_shorter}
