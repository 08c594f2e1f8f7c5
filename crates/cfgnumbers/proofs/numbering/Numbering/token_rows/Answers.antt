use Rattle.std.proofs.Common.{ℕ, List, ◌∷◌, ◌++◌, [], map, sym, ap, subst, ◌∙◌}
use Rattle.std.specs.Iterator.Adapters.{zip_first, zip_second}
use Rattle.std.specs.List.{list_any, IsDistinct}
use Rattle.std.specs.Slice.Iter.{iter_rest}
use Rattle.std.specs.Str.{bytes_eq}
use Rattle.std.proofs.lemmas.Iterator.Consumers.{YieldsList-end}
use Rattle.std.proofs.lemmas.Slice.Zip.{firsts-zip}
use Rattle.cfgbase.specs.declared.span.Span.{Span}
use Rattle.cfgnumbers.specs.Numbered.{file_token}
use Rattle.cfgnumbers.specs.TablesView.{file_of}
use Rattle.lemmas.proofs.Roads.{more_shown, name_is_new}
use Rattle.cfgnumbers.proofs.RowLemmas.{token_names_shown, token_seen, tokens_road}
use Rattle.cfgnumbers.proofs.numbering.Numbering.token_rows.Goals as goal

pub put_token-requires : goal.put_token-requires
put_token-requires c =
    let s = file_of c.args.self.now in
    let from = c.into_iter-name-iterator.ensures.into_iter_gives in
    let road = tokens_road s c.into_iter-name-iterator.result c.tokens-2.result.now.keys c.tokens-2.ensures (ap zip_first from ∙ c.zip-name-items.ensures.first ∙ c.iter.ensures.rest)
    (ap (λ it. iter_rest (zip_second it)) from ∙ c.zip-name-items.ensures.second.0 ∙ c.spans.ensures) in
    let distinct = subst (IsDistinct bytes_eq) (sym (firsts-zip s.tokens s.spans c.requires.well_formed.spans_as_long)) c.requires.well_formed.tokens_distinct in
    let names_are = token_names_shown s c.loop-name.rows.entries (map token_seen c.loop-name.yielded) c.loop-name.invariant in
    (λ i. list_any (bytes_eq (c.as_str.ensures.value i)) (names_are i))
    ∙ name_is_new road c.loop-name.yielded c.loop-name.name-iterator c.loop-name.yielded_by _ c.next.new.self (c.in-Some.name, c.in-Some.span) c.in-Some.is c.next.ensures.steps
    [] (λ (token : List ℕ × Span). token.0) distinct

pub loop-name-preserved : goal.loop-name-preserved
loop-name-preserved c =
    let s = file_of c.args.self.now in
    c.in_ok-put_token.ensures
    ∙ (λ i. c.loop-name.invariant i ++ file_token s (c.as_str.ensures.value i, c.in-Some.span.now) ∷ [])
    ∙ more_shown (file_token s) token_seen c.loop-name.yielded (c.in-Some.name, c.in-Some.span)

pub returns : goal.returns
returns c =
    let s = file_of c.args.self.now in
    let from = c.into_iter-name-iterator.ensures.into_iter_gives in
    let road = tokens_road s c.into_iter-name-iterator.result c.tokens-2.result.now.keys c.tokens-2.ensures (ap zip_first from ∙ c.zip-name-items.ensures.first ∙ c.iter.ensures.rest)
    (ap (λ it. iter_rest (zip_second it)) from ∙ c.zip-name-items.ensures.second.0 ∙ c.spans.ensures) in
    c.loop-name.invariant
    ∙ ap (map (file_token s)) (YieldsList-end road c.loop-name.yielded c.loop-name.name-iterator c.loop-name.yielded_by _ c.next.new.self c.in-None.is c.next.ensures.steps).0
