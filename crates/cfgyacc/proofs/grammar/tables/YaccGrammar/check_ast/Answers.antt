use Rattle.std.proofs.Common.{List, Option, ℕ, refl, rules, sym, ◌∙◌, true≢false}
use Rattle.cfgwords.specs.TextSpans.{IsPiece}
use Rattle.cfgitems.specs.Syntax.{Syntax}
use Rattle.cfgnumbers.specs.Fits.{LeavesRoom}
use Rattle.cfgnumbers.specs.Numbered.{implicit_of}
use Rattle.cfgyacc.specs.Answer.{in_numbers}
use Rattle.cfgyacc.proofs.Built.{too_large, answered, of_both}
use Rattle.cfgyacc.proofs.Refusals.{errors_list, too_small_lists}
use Rattle.cfgyacc.proofs.Spans.{nowhere_located, too_small_spans}
use Rattle.cfgyacc.proofs.grammar.tables.YaccGrammar.check_ast.Goals as goal

pub returns-then-not-fits-clause-refused : goal.returns-then-not-fits-clause-refused
returns-then-not-fits-clause-refused g c =
    let parsed = c.args.parsed.now in
    let HasRoom = λ (s : Syntax) (implicit : Option (List (List ℕ))). LeavesRoom g.S.Storage.MAX implicit s in
    let file = c.new.ensures.file ∙ c.ast-ast.ensures.value in
    let implicit = c.new.ensures.implicit ∙ (λ i. implicit_of (c.yacc_kind-kind.ensures i) (c.ast-ast.ensures.value i)) in
    too_large g.S.Storage.MAX parsed c.in_ok-storage_too_small.field-0 c.ast-ast.ensures.sound (c.is_valid.ensures.0 c.if-not-is_valid.false)
    (λ room. true≢false (sym (c.fits.ensures.1 (of_both HasRoom _ _ _ _ file implicit room)) ∙ c.if-not-fits.true))
    c.in_ok-storage_too_small.ensures

pub returns-then-not-fits-clause-offsets : goal.returns-then-not-fits-clause-offsets
returns-then-not-fits-clause-offsets g c = λ text utf8 each.
    too_small_spans (IsPiece text) (nowhere_located text utf8) c.in_ok-storage_too_small.field-0 c.in_ok-storage_too_small.ensures

pub returns-then-not-fits-clause-listed : goal.returns-then-not-fits-clause-listed
returns-then-not-fits-clause-listed g c = too_small_lists c.in_ok-storage_too_small.field-0 c.in_ok-storage_too_small.ensures

pub returns-then-not-is_valid-clause-listed : goal.returns-then-not-is_valid-clause-listed
returns-then-not-is_valid-clause-listed g c =
    errors_list _ c.args.parsed.now.errors (search rules) (λ none. true≢false (sym (c.is_valid.ensures.1 none) ∙ c.if-not-is_valid.true))

pub returns-clause-grammar : goal.returns-clause-grammar
returns-clause-grammar g c =
    let parsed = c.args.parsed.now in
    let HasRoom = λ (s : Syntax) (implicit : Option (List (List ℕ))). LeavesRoom g.S.Storage.MAX implicit s in
    let file = c.new.ensures.file ∙ c.ast-ast.ensures.value in
    let implicit = c.new.ensures.implicit ∙ (λ i. implicit_of (c.yacc_kind-kind.ensures i) (c.ast-ast.ensures.value i)) in
    answered g.S.Storage.MAX parsed (in_numbers parsed) c.ast-ast.ensures.sound (c.is_valid.ensures.0 c.if-not-is_valid.false)
    (of_both HasRoom _ _ _ _ (sym file) (sym implicit) (c.fits.ensures.0 c.if-not-fits.false)) refl
