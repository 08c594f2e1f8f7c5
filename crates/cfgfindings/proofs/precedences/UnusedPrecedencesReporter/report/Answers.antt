use Rattle.std.proofs.Common.{◌≡◌, ℕ, List, Some, true, false, codes, slice_get, option_map, string_bytes, ap, sym, ◌∙◌}
use Rattle.std.proofs.lemmas.Option.{slice_get-map}
use Rattle.cfgrammar.specs.Span.{Span}
use Rattle.cfgrammar.specs.SyntaxView.{precedence_entry}
use Rattle.cfgrammar.specs.Precedence.{Precedence}
use Rattle.cfgrammar.specs.TreeView.{syntax}
use Rattle.cfgfindings.specs.Findings.{IsUsed}
use Rattle.cfgfindings.specs.Inner.Marks.{precedence_keys}
use Rattle.finding_kinds.specs.declared.finding_kind.FindingKind.TheVariants.{UnusedPrecedence}
use Rattle.cfgfindings.proofs.Marking.{key_at, marked_as}
use Rattle.cfgfindings.proofs.Texts.{after_quoted, shown_at}
use Rattle.cfgfindings.proofs.precedences.UnusedPrecedencesReporter.report.Goals as goal

pub returns-then-is_used : goal.returns-then-is_used
returns-then-is_used c = λ marked name span unused.
    let s = syntax c.args.self.now.ast.now in
    let key = key_at s.tables.precedences c.args.number (name, (unused.precedence, span)) unused.given in
    unused.unused (marked_as (precedence_keys s) (IsUsed s) c.args.self.now.used marked c.args.number name key _ c.get.ensures _ true c.unwrap_or-is_used.ensures c.if-is_used.true)

pub returns : goal.returns
returns c = λ marked.
    let s = syntax c.args.self.now.ast.now in
    let name = string_bytes c.in-Some.name.now in
    let said = c.in-Some.field-0-1.now in
    let there : slice_get s.tables.precedences c.args.number ≡ Some (name, said) =
    ap (λ (es : List (List ℕ × (Precedence × Span))). slice_get es c.args.number) (sym c.precs.ensures)
    ∙ slice_get-map precedence_entry c.precs.result.now.entries c.args.number
    ∙ ap (option_map precedence_entry) (sym c.in-Some.ensures.entry) in (
      name,
      said.1,
      record {
        precedence = said.0;
        given = there;
        unused = marked_as (precedence_keys s) (IsUsed s) c.args.self.now.used marked c.args.number name (key_at s.tables.precedences c.args.number (name, said) there)
            _ c.get.ensures _ false c.unwrap_or-is_used.ensures c.if-is_used.false;
      },
      c.in_ok-at.ensures
          ∙ ap (shown_at UnusedPrecedence said.1)
          (c.in_ok-text.ensures.ok ∙ after_quoted name (codes "Unused precedence: token ") (codes " is not a symbol of any production, and none takes its precedence from it")),
    )
