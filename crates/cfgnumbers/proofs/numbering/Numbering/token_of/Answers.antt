use Rattle.std.proofs.Common.{slice_get, sym, ap, ◌∙◌, is_some}
use Rattle.std.proofs.lemmas.Option.{same_Some}
use Rattle.cfgnumbers.specs.TablesView.{file_of}
use Rattle.cfgnumbers.proofs.Lookups.{token_at, token_index}
use Rattle.cfgnumbers.proofs.numbering.Numbering.token_of.Goals as goal

pub unwrap-index-requires : goal.unwrap-index-requires
unwrap-index-requires g c = ap is_some (c.get_index_of.ensures.index ∙ token_index c.args.name.now (file_of c.args.self.now) c.tokens.result.now.keys c.tokens.ensures c.requires.known)

pub returns-clause-index : goal.returns-clause-index
returns-clause-index g c =
    c.to_storage.ensures
    ∙ same_Some _ _ (sym c.unwrap-index.ensures ∙ c.get_index_of.ensures.index
    ∙ token_index c.args.name.now (file_of c.args.self.now) c.tokens.result.now.keys c.tokens.ensures c.requires.known)

pub returns-clause-name : goal.returns-clause-name
returns-clause-name g c =
    ap (slice_get (file_of c.args.self.now).tokens) (returns-clause-index g c) ∙ token_at c.args.name.now (file_of c.args.self.now).tokens c.requires.known
