use Rattle.std.proofs.Common.{◌≡◌, rules, sym, subst}
use Rattle.std.proofs.lemmas.Result.{IfErr-weaker}
use Rattle.cfgwords.specs.TextSpans.{IsPiece, IsWithin}
use Rattle.cfgerrors.specs.declared.error.YaccFault.TheVariants as faults
use Rattle.cfgsyntax.specs.SelfNamed.{IsParsedAs}
use Rattle.cfgsyntax.specs.ErrorSpans.{EachFaultSpan, EachParsedSpan}
use Rattle.cfgyacc.proofs.OfParsed.{answer_spans, carried, carried_fault, of_kind, parsed_as}
use Rattle.cfgyacc.proofs.Refusals.{grammar_lists}
use Rattle.cfgyacc.proofs.grammar.tables.YaccGrammar.new_with_storaget.Goals as goal

pub returns-clause-answer : goal.returns-clause-answer
returns-clause-answer g c =
    let text = c.args.text.now in
    let made = c.new-parsed.result in
    let parsed = c.new-parsed.ensures in
    let cases = c.map_err.ensures.cases in
    of_kind text g.S.Storage.MAX c.of_parsed.result c.args.kind c.map_err.result parsed.one
    (carried (IsParsedAs c.args.kind text) _ made c.map_err.result cases (parsed_as c.args.kind text made parsed.one parsed.kind parsed.syntax parsed.errors))
    (carried_fault _ (λ fault. fault ≡ faults.OutOfMemory) made c.map_err.result cases (λ error fault is. search rules))
    (record { answer = c.of_parsed.ensures.answer; refused = c.of_parsed.ensures.refused })

pub returns-clause-offsets : goal.returns-clause-offsets
returns-clause-offsets g c =
    let text = c.args.text.now in
    let made = c.new-parsed.result in
    let cases = c.map_err.ensures.cases in
    answer_spans text c.utf8.text c.map_err.result c.of_parsed.result
    (carried (EachParsedSpan (IsPiece text) (IsWithin text)) _ made c.map_err.result cases c.new-parsed.ensures.offsets)
    (IfErr-weaker c.map_err.result (λ fault. fault ≡ faults.OutOfMemory) (EachFaultSpan (IsPiece text)) (λ fault none. subst (EachFaultSpan (IsPiece text)) (sym none) tt)
    (carried_fault _ (λ fault. fault ≡ faults.OutOfMemory) made c.map_err.result cases (λ error fault is. search rules)))
    c.of_parsed.ensures.offsets c.of_parsed.ensures.refused

pub returns-clause-listed : goal.returns-clause-listed
returns-clause-listed g c = grammar_lists c.args.kind c.args.text.now g.S.Storage.MAX c.of_parsed.result (returns-clause-answer g c)
