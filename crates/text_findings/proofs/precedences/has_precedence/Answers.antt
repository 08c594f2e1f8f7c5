use Rattle.std.proofs.Common.{bytes_eq, string_bytes, sym, ap, ◌∙◌}
use Rattle.cfgrammar.proofs.Tests.{list_any-map}
use Rattle.std.proofs.lemmas.Map.Made.{is_some-lookup}
use Rattle.cfgrammar.specs.Building.{has_entry}
use Rattle.cfgrammar.specs.SyntaxView.{precedence_entry}
use Rattle.text_findings.proofs.precedences.has_precedence.Goals as goal

pub returns : goal.returns
returns c =
    let name = c.args.name.now in
    let entries = c.precs.result.now.entries in
    c.contains_key.ensures
    ∙ is_some-lookup (λ key. bytes_eq name (string_bytes key)) entries
    ∙ list_any-map (λ key. bytes_eq name (string_bytes key)) (λ entry. entry.0) entries
    ∙ sym (list_any-map (λ entry. bytes_eq name entry.0) precedence_entry entries)
    ∙ ap (has_entry name) c.precs.ensures
