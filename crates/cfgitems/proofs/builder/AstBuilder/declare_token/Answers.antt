use Rattle.std.proofs.Common.{◌≡◌, true, false, nat_eq, map, [], ◌∷◌, ◌++◌, Some, None, if◌then◌else◌, sym, ap, ◌∙◌}
use Rattle.std.specs.List.{list_any}
use Rattle.std.proofs.lemmas.Bool.{not-true, not-false}
use Rattle.std.proofs.lemmas.List.{map-append}
use Rattle.lemmas.specs.Lists.{pushed}
use Rattle.cfgitems.specs.SyntaxView.{syntax_view, syntax_built, named_view, word_view}
use Rattle.cfgitems.proofs.Steps.{declared-noted}
use Rattle.cfgitems.proofs.builder.AstBuilder.declare_token.Goals as goal

pub returns-in_ok-push : goal.returns-in_ok-push
unfolding syntax_built syntax_view
returns-in_ok-push c =
    let word = word_view c.args.word in
    let quoted = syntax_built c.put_token.new.self in
    let noted : list_any (nat_eq c.in_ok-index.index) quoted.token_directives ≡ true = not-false _ (sym c.in_ok-insert.ensures.added ∙ c.if-not-branch.true) in
    let grown : map named_view c.push.new.self.items ≡ quoted.repeated_tokens ++ word ∷ [] =
    ap (map named_view) c.in_ok-push.ensures.items ∙ map-append named_view c.put_token.new.self.syntax.repeated_tokens.items ((c.in_ok-name.name, word.span) ∷ [])
    ∙ ap (λ name. quoted.repeated_tokens ++ record word { name = name } ∷ []) c.in_ok-name.ensures.ok in
    declared-noted (syntax_built c.args.self.now) word quoted c.in_ok-index.index _ _ c.in_ok-index.ensures.added c.in_ok-index.ensures.index c.in_ok-insert.ensures.keys
    (grown ∙ ap (λ b. pushed quoted.repeated_tokens (if b then Some word else None)) (sym noted))

pub returns-else-not-branch : goal.returns-else-not-branch
unfolding syntax_built syntax_view
returns-else-not-branch c =
    let word = word_view c.args.word in
    let quoted = syntax_built c.put_token.new.self in
    let new : list_any (nat_eq c.in_ok-index.index) quoted.token_directives ≡ false = not-true _ (sym c.in_ok-insert.ensures.added ∙ c.if-not-branch.false) in
    declared-noted (syntax_built c.args.self.now) word quoted c.in_ok-index.index _ _ c.in_ok-index.ensures.added c.in_ok-index.ensures.index c.in_ok-insert.ensures.keys
    (ap (λ b. pushed quoted.repeated_tokens (if b then Some word else None)) (sym new))
