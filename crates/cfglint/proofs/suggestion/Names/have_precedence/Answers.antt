use Rattle.std.proofs.Common.{bytes_eq, sym, ap, ◌∙◌}
use Rattle.std.specs.List.{list_any}
use Rattle.cfgrammar.proofs.Tests.{list_any-map}
use Rattle.cfglint.proofs.suggestion.Names.have_precedence.Goals as goal

pub returns : goal.returns
returns c =
    let is = bytes_eq c.args.name.now in
    c.is_among.ensures ∙ ap (list_any (λ other. is other.now)) c.deref.ensures.value
    ∙ sym (list_any-map is (λ other. other.now) c.self.inside.precedences.items)
    ∙ ap (λ names. list_any is names.precedences) c.self.view_is
