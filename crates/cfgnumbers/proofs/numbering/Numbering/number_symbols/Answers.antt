use Rattle.std.proofs.Common.{◌≡◌, ◌++◌, None, Some, map, option_map, slice_get, take, arith, sym, ap, subst, ◌∙◌}
use Rattle.std.proofs.lemmas.List.{get_or-map, length-map, take_all}
use Rattle.cfgitems.specs.Syntax.{Symbol}
use Rattle.cfgitems.specs.SyntaxView.{symbol_view}
use Rattle.cfgast.specs.Check.{symbol_error}
use Rattle.cfgindex.specs.declared.idxnewtype.TIdx.{TIdx}
use Rattle.cfgnumbers.specs.Numbered.{file_symbol, file_symbols, last_token, spaced}
use Rattle.cfgnumbers.specs.TablesView.{file_of, implicit_in}
use Rattle.cfgnumbers.proofs.Marks.{last_at}
use Rattle.cfgnumbers.proofs.Symbols.{more_symbols}
use Rattle.cfgnumbers.proofs.Turns.{more_taken}
use Rattle.cfgnumbers.proofs.numbering.Numbering.number_symbols.Goals as goal

pub push_symbol-requires-clause-known : goal.push_symbol-requires-clause-known
push_symbol-requires-clause-known g c =
    let symbols = c.args.symbols.now in
    let symbol = c.symbol-item.result in
    let index = c.loop-symbol.symbol-index in
    let is = get_or-map symbol_view symbols index symbol (symbol_view symbol) c.loop-symbol-test.true ∙ ap symbol_view (sym c.symbol-item.is) in
    subst (λ (shown : Symbol). symbol_error (file_of c.args.self.now) shown ≡ None) is
    (c.requires.known index (symbol_view symbol) (omega (arith, c.loop-symbol-test.true, length-map symbols symbol_view)))

pub loop-symbol-preserved : goal.loop-symbol-preserved
loop-symbol-preserved g c =
    let s = file_of c.args.self.now in
    let implicit = implicit_in c.args.self.now in
    let symbols = c.args.symbols.now in
    let n = c.loop-symbol.symbol-index in
    let symbol = c.symbol-item.result in (
      c.in_ok-token.ensures.symbols
          ∙ ap (λ prefix. prefix ++ spaced implicit (file_symbol implicit s (symbol_view symbol))) c.loop-symbol.invariant.0
          ∙ more_symbols implicit s symbols n symbol c.loop-symbol-test.true c.symbol-item.is,
      ap (option_map (λ (token : TIdx g.row.S.Denot). slice_get s.tokens (g.S.Storage.number token.0))) c.or-last.ensures
          ∙ last_at (λ (token : TIdx g.row.S.Denot). slice_get s.tokens (g.S.Storage.number token.0)) c.in_ok-token.token c.loop-symbol.last
          (map symbol_view (take n symbols)) (symbol_view symbol) c.in_ok-token.ensures.token c.loop-symbol.invariant.1
          ∙ ap (λ shown. option_map Some (last_token shown)) (sym (more_taken symbol_view symbols n symbol c.loop-symbol-test.true c.symbol-item.is)),
    )

pub returns-clause-symbols : goal.returns-clause-symbols
returns-clause-symbols g c =
    c.loop-symbol.invariant.0
    ∙ ap (λ symbols. file_symbols (implicit_in c.args.self.now) (file_of c.args.self.now) (map symbol_view symbols))
    (take_all c.loop-symbol.symbol-index c.args.symbols.now c.loop-symbol-test.false)

pub returns-clause-last : goal.returns-clause-last
returns-clause-last g c =
    c.loop-symbol.invariant.1
    ∙ ap (λ symbols. option_map Some (last_token (map symbol_view symbols)))
    (take_all c.loop-symbol.symbol-index c.args.symbols.now c.loop-symbol-test.false)
