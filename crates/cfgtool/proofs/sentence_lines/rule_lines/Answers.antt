use Rattle.std.proofs.Common.{◌≡◌, ℕ, ◌+◌, ◌<◌, ◌++◌, [], Vec, Global, length, map, get_or, string_bytes, sym, subst, ap, ◌∙◌, arith}
use Rattle.std.specs.declared.ops.Range.{Range}
use Rattle.std.proofs.lemmas.List.{get_or-map, length-map}
use Rattle.cfgrammar.specs.Grammar.{Grammar, HasProduction}
use Rattle.cfgrammar.specs.Generator.{token_cost}
use Rattle.cfgrammar.specs.Sentences.{ListsMinimal, numbers_of}
use Rattle.cfgrammar.specs.TIdx.{TIdx}
use Rattle.cfgtool.specs.SentenceLines.{ReportsEach, ReportsRule}
use Rattle.cfgtool.proofs.SentenceTexts.{none_reported, one_more_reported}
use Rattle.cfgtool.proofs.sentence_lines.rule_lines.Goals as goal

pub loop-ridx-init : goal.loop-ridx-init
loop-ridx-init c =
    let Reports = ReportsRule c.args.grammar.now (token_cost c.args.generator.now) in
    let begun = c.into_iter-ridx-iterator.ensures.into_iter_gives ∙ c.iter_rules-ridx-items.ensures.value in
    let next : c.into_iter-ridx-iterator.result.start ≡ 0 = ap (λ (r : Range ℕ). r.start) begun in
    record {
      all = ap (λ (r : Range ℕ). r.end) begun;
      within = omega (arith, next);
      reported = subst (λ n. ReportsEach Reports n (string_bytes c.new-lines.result)) (sym next)
          (subst (ReportsEach Reports 0) (sym c.new-lines.ensures.bytes) (none_reported Reports));
    }

pub write_rule-requires-clause-minimal : goal.write_rule-requires-clause-minimal
write_rule-requires-clause-minimal c =
    let x = c.args.generator.now in
    let r = c.in-Some.ridx.0 in
    let numbers = numbers_of (λ (s : ℕ). s) in
    let words = λ (sentences : Vec (Vec (TIdx ℕ) Global) Global). map numbers sentences.items in
    let all = c.in_ok-all.all.items in
    let (number, inside, left) = c.in-Some.ensures.steps in
    let rules : x.grammar.rules ≡ length c.args.grammar.now.rules = ap (λ (g : Grammar). g.rules) c.requires in
    let within : r < x.grammar.rules = omega (arith, number, inside, c.loop-ridx.invariant.all, rules) in
    let there : r < length all = subst (λ n. r < n) (sym c.in_ok-all.ensures.entries ∙ length-map all words) within in
    let item : get_or (map words all) r [] ≡ map numbers c.deref.result.now =
    get_or-map words all r c.index.result.now [] there
    ∙ ap words (sym (subst (λ i. c.index.result.now ≡ get_or all i c.index.result.now) c.from.ensures c.index.ensures))
    ∙ ap (map numbers) (sym c.deref.ensures.value) in
    subst (λ g. ListsMinimal (HasProduction g) (token_cost x) r (map numbers c.deref.result.now)) c.requires
    (subst (ListsMinimal (HasProduction x.grammar) (token_cost x) r) item (c.in_ok-all.ensures.each r within))

pub loop-ridx-preserved : goal.loop-ridx-preserved
loop-ridx-preserved c =
    let Reports = ReportsRule c.args.grammar.now (token_cost c.args.generator.now) in
    let before = c.loop-ridx.invariant in
    let next = c.loop-ridx.ridx-iterator.start in
    let (number, inside, left) = c.in-Some.ensures.steps in
    let (text, reported, added) = c.in_ok-write_rule.ensures in
    let after : c.next.new.self.start ≡ next + 1 = ap (λ (r : Range ℕ). r.start) left in
    let end : c.next.new.self.end ≡ c.loop-ridx.ridx-iterator.end = ap (λ (r : Range ℕ). r.end) left in
    let here = subst (λ r. Reports r text) number reported in
    record {
      all = end ∙ before.all;
      within = omega arith;
      reported = subst (ReportsEach Reports c.next.new.self.start) (sym added)
          (subst (λ n. ReportsEach Reports n (string_bytes c.loop-ridx.lines ++ text)) (sym after)
          (one_more_reported Reports next (string_bytes c.loop-ridx.lines) text before.reported here));
    }

pub returns : goal.returns
returns c =
    let Reports = ReportsRule c.args.grammar.now (token_cost c.args.generator.now) in
    let before = c.loop-ridx.invariant in
    let (over, _) = c.in-None.ensures.steps in
    let all : c.loop-ridx.ridx-iterator.start ≡ length c.args.grammar.now.rules = omega (arith, over, before.all, before.within) in
    subst (λ n. ReportsEach Reports n (string_bytes c.loop-ridx.lines)) all before.reported
