use Rattle.std.proofs.Common.{ℕ, ◌++◌, map, get_or, string_bytes, refl, subst, ap, ◌∙◌, append_assoc}
use Rattle.std.specs.List.{concat}
use Rattle.std.proofs.lemmas.List.Elements.{Contains-get_or}
use Rattle.std.proofs.lemmas.Result.{on_ok_weaker}
use Rattle.cfgrammar.specs.Grammar.{Grammar, HasProduction}
use Rattle.cfgrammar.specs.Generator.{ReturnsLeast, token_cost}
use Rattle.cfgrammar.specs.Sentences.{ReturnsGreatest, numbers_of}
use Rattle.cfgrammar.specs.Numbered.{core}
use Rattle.cfgrammar.proofs.SentenceTokens.{sentence_tokens}
use Rattle.cfgtool.specs.SentenceLines.{ReportsRule, cost_line, sentence_line}
use Rattle.cfgtool.proofs.sentence_lines.write_rule.Goals as goal

-- no minimal sentence contains the end token
pub write_sentences-requires : goal.write_sentences-requires
write_sentences-requires c = λ k d within.
    let sentences = map (numbers_of (λ (s : ℕ). s)) c.args.sentences.now in
    let w = get_or sentences k d in
    let (minimal, low) = (c.requires.minimal.all w).0 (Contains-get_or sentences k d within) in
    sentence_tokens (core c.args.grammar.now) c.invariant_holds.ensures.whole.grammar c.args.ridx.0 w c.requires.within minimal.0

pub returns : goal.returns
returns c =
    let g = c.args.grammar.now in
    let x = c.args.generator.now in
    let r = c.args.ridx.0 in
    let least = c.min_sentence_cost-least in
    let greatest = c.max_sentence_cost-greatest in
    let sentences = map (numbers_of (λ (s : ℕ). s)) c.args.sentences.now in
    let line = cost_line c.rule_name_str.result.now least.result greatest.result in
    let lists = concat (map (sentence_line g) sentences) in
    let reports_least : ReturnsLeast (HasProduction x.grammar) (token_cost x) r least.result =
    record { least = least.ensures.least; found = least.ensures.found; none = least.ensures.none; too_large = least.ensures.too_large } in
    let reports_greatest : ReturnsGreatest (HasProduction x.grammar) (token_cost x) r greatest.result =
    record { none = greatest.ensures.none; unbounded = greatest.ensures.unbounded; greatest = greatest.ensures.greatest; too_large = greatest.ensures.too_large } in
    let reported : ReportsRule g (token_cost x) r (line ++ lists) = record {
      name = c.rule_name_str.result.now;
      least = least.result;
      greatest = greatest.result;
      sentences = sentences;
      named = c.rule_name_str.ensures;
      reports_least = subst (λ (h : Grammar). ReturnsLeast (HasProduction h) (token_cost x) r least.result) c.requires.same reports_least;
      reports_greatest = subst (λ (h : Grammar). ReturnsGreatest (HasProduction h) (token_cost x) r greatest.result) c.requires.same reports_greatest;
      reports_sentences = c.requires.minimal;
      reported = refl;
    } in
    on_ok_weaker c.write_sentences.result (λ added. (
      line ++ lists,
      reported,
      added ∙ ap (λ t. t ++ lists) c.in_ok-write_costs.ensures
          ∙ append_assoc (string_bytes c.args.lines.now) line lists,
    )) c.write_sentences.ensures
