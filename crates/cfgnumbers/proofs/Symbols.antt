-- The symbols of a production of the file, one after the other, and how many there are.
use Rattle.std.proofs.Common.{◌≡◌, ℕ, ◌+◌, ◌<◌, ◌≤◌, List, [], ◌++◌, length, map, take, get_or, Option, sym, ap, ◌∙◌, arith, length-append}
use Rattle.std.specs.List.{flat_map}
use Rattle.std.proofs.lemmas.List.{flat_map_more, length-map, get_or-map}
use Rattle.std.proofs.lemmas.List as lists
use Rattle.std.proofs.lemmas.List.Folds.{length-flat_map-take}
use Rattle.derivation.specs.Grammar.{Sym}
use Rattle.cfgitems.specs.Syntax.{Symbol, Syntax}
use Rattle.cfgitems.specs.SyntaxView.{symbol_view}
use Rattle.cfgitems.specs.declared.symbol.Symbol as source
use Rattle.cfgnumbers.specs.Numbered.{file_symbol, file_symbols, spaced}
use Rattle.cfgnumbers.proofs.Turns.{more_taken}

module _ (implicit : Option (List (List ℕ))) (s : Syntax) (symbols : List source.Symbol) (n : ℕ) (symbol : source.Symbol) (within : n < length symbols) (is : symbol ≡ get_or symbols n symbol) where
  abbrev numbered : Symbol → List Sym
  numbered symbol = spaced implicit (file_symbol implicit s symbol)

  pub more_symbols : file_symbols implicit s (map symbol_view (take n symbols)) ++ numbered (symbol_view symbol) ≡ file_symbols implicit s (map symbol_view (take (n + 1) symbols))
  more_symbols =
      flat_map_more numbered [] (map symbol_view (take n symbols)) (symbol_view symbol)
      ∙ ap (flat_map numbered) (sym (more_taken symbol_view symbols n symbol within is))

  pub width_more : length (file_symbols implicit s (map symbol_view (take (n + 1) symbols)))
      ≡ length (file_symbols implicit s (map symbol_view (take n symbols))) + length (numbered (symbol_view symbol))
  width_more = sym (ap length more_symbols) ∙ length-append (file_symbols implicit s (map symbol_view (take n symbols))) (numbered (symbol_view symbol))

  -- those so far are no more than all
  pub width_within : length (file_symbols implicit s (map symbol_view (take n symbols))) + length (numbered (symbol_view symbol)) ≤ length (file_symbols implicit s (map symbol_view symbols))
  width_within =
      let shown = map symbol_view symbols in
      let prefix : length (flat_map numbered (take n shown)) ≡ length (file_symbols implicit s (map symbol_view (take n symbols))) = ap (λ t. length (flat_map numbered t)) (lists.take-map symbol_view n symbols) in
      let here : length (numbered (get_or shown n (symbol_view symbol))) ≡ length (numbered (symbol_view symbol)) =
      ap (λ x. length (numbered x)) (get_or-map symbol_view symbols n symbol (symbol_view symbol) within ∙ ap symbol_view (sym is)) in
      let bound = length-flat_map-take numbered shown n (symbol_view symbol) (omega (arith, within, length-map symbols symbol_view)) in
      omega (arith, bound, prefix, here)
