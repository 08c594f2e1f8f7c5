use Rattle.std.proofs.Common.{◌≡◌, false, [], ◌∷◌, ◌++◌, map, string_bytes, sym, ap, ◌∙◌}
use Rattle.lemmas.specs.Lists.{pushed_unless}
use Rattle.lemmas.proofs.Positions.{position_found}
use Rattle.cfgitems.specs.Syntax.{index_of}
use Rattle.cfgitems.specs.Building.{has_name}
use Rattle.cfgitems.specs.SyntaxView.{syntax_view, syntax_built, word_view}
use Rattle.cfgitems.proofs.Steps.{quoted-known, quoted-new}
use Rattle.cfgitems.proofs.Views.{is_key, index_of-keys, index_of-insert_key, has_name-keys, keys-insert_key}
use Rattle.cfgitems.proofs.builder.AstBuilder.put_token.Goals as goal

pub returns-in-Some-clause-added : goal.returns-in-Some-clause-added
unfolding syntax_built syntax_view
returns-in-Some-clause-added c =
    quoted-known (syntax_built c.args.self.now) (word_view c.args.word)
    (has_name-keys c.args.word.name.now c.args.self.now.syntax.tokens.keys ∙ sym c.in-Some.ensures.found)

pub returns-in-Some-clause-index : goal.returns-in-Some-clause-index
unfolding syntax_built syntax_view
returns-in-Some-clause-index c =
    let name = c.args.word.name.now in
    let keys = c.args.self.now.syntax.tokens.keys in
    position_found (is_key name) keys c.in-Some.index c.in-Some.ensures.index ∙ sym (index_of-keys name keys)

pub returns-clause-added : goal.returns-clause-added
unfolding syntax_built syntax_view
returns-clause-added c =
    let name = c.args.word.name.now in
    let keys = c.args.self.now.syntax.tokens.keys in
    let new : has_name name (map string_bytes keys) ≡ false = has_name-keys name keys ∙ sym c.in_default.ensures.found in
    let grown : map string_bytes c.insert_full.new.self.keys ≡ map string_bytes keys ++ name ∷ [] =
    ap (map string_bytes) c.in_ok-index.ensures.keys ∙ keys-insert_key name keys c.in_ok-name.name c.in_ok-name.ensures.ok
    ∙ ap (λ b. pushed_unless b (map string_bytes keys) name) new in
    quoted-new (syntax_built c.args.self.now) (word_view c.args.word) _ _ new grown c.in_ok-push.ensures.items

pub returns-clause-index : goal.returns-clause-index
unfolding syntax_built syntax_view
returns-clause-index c =
    let name = c.args.word.name.now in
    c.in_ok-index.ensures.index ∙ sym (index_of-insert_key name c.args.self.now.syntax.tokens.keys c.in_ok-name.name c.in_ok-name.ensures.ok)
    ∙ sym (ap (λ keys. index_of name (map string_bytes keys)) c.in_ok-index.ensures.keys)
