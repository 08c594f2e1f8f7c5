use Rattle.std.proofs.Common.{◌≡◌, [], append-nil, length, sym, subst, ap, ◌∙◌, arith}
use Rattle.std.proofs.lemmas.List.{length-map}
use Rattle.cfgrammar.specs.SyntaxView.{symbol_view}
use Rattle.cfgrammar.specs.TreeView.{syntax}
use Rattle.cfgfindings.specs.Findings.{ReportsBelow, ReportsNeedless, none}
use Rattle.cfgfindings.proofs.needless.push_needless.Goals as goal

pub returns-then-is_empty : goal.returns-then-is_empty
returns-then-is_empty c =
    let s = syntax c.args.ast.now in
    let symbols = c.expect_unused-symbols.result.now in
    let zero : 0 ≡ length symbols = grind (arith, c.is_empty.ensures, c.if-is_empty.true) in
    let count : length symbols ≡ length s.expect_unused = sym (length-map symbols symbol_view) ∙ ap length c.expect_unused-symbols.ensures in (
      [],
      subst (λ n. ReportsBelow (ReportsNeedless s c.args.unproductive.now) n []) (zero ∙ count) none,
      sym (append-nil c.args.all.now.items),
    )
