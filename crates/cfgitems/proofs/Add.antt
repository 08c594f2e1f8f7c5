-- What the builder's proofs unfold: what a builder shows, and what one more item makes of it.
pub use Rattle.cfgitems.specs.SyntaxView.{syntax_built, syntax_view}
pub use Rattle.cfgitems.specs.Building.{add}
