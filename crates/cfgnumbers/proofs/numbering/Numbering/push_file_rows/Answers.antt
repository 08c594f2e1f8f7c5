use Rattle.std.proofs.Common.{ℕ, ◌<◌, ◌∷◌, ◌++◌, [], length, map, Bor, ap, ◌∙◌}
use Rattle.std.specs.Iterator.Adapters.{zip_first, zip_second}
use Rattle.std.specs.Slice.Iter.{iter_rest}
use Rattle.std.proofs.lemmas.Iterator.Consumers.{YieldsList-end}
use Rattle.cfgitems.specs.Syntax.{Production}
use Rattle.cfgitems.specs.declared.production.Production as source
use Rattle.cfgnumbers.specs.Numbered.{file_production}
use Rattle.cfgnumbers.specs.Resolved.{Resolves}
use Rattle.cfgnumbers.specs.TablesView.{file_of, implicit_in}
use Rattle.lemmas.proofs.Roads.{item_holds, more_shown}
use Rattle.cfgnumbers.proofs.RowLemmas.{production_seen, productions_road}
use Rattle.lemmas.proofs.Zips.{All-zip}
use Rattle.cfgnumbers.proofs.numbering.Numbering.push_file_rows.Goals as goal

pub push_file_row-requires : goal.push_file_row-requires
push_file_row-requires g c =
    let s = file_of c.args.self.now in
    let from = c.into_iter-rule-iterator.ensures.into_iter_gives in
    let road = productions_road s c.into_iter-rule-iterator.result c.prods.result.now c.prods.ensures
    (ap (λ it. iter_rest (zip_first it)) from ∙ ap iter_rest c.zip-rule-items.ensures.first ∙ c.iter.ensures.rest ∙ c.prods_rules.ensures)
    (ap (λ it. iter_rest (zip_second it)) from ∙ c.zip-rule-items.ensures.second.0) in
    let known = item_holds road c.loop-rule.yielded c.loop-rule.rule-iterator c.loop-rule.yielded_by _ c.next.new.self (c.in-Some.rule, c.in-Some.production) c.in-Some.is c.next.ensures.steps
    (λ (pair : ℕ × Production). (pair.0 < length s.rules) × Resolves s pair.1)
    (All-zip (λ r. r < length s.rules) (Resolves s) s.production_rules s.productions c.requires.numberable.well_formed.production_rules_within c.requires.numberable.resolved.symbols) in
    record { tokens = c.requires.tokens; rule = known.0; resolved = known.1; room = c.requires.room }

pub loop-rule-preserved : goal.loop-rule-preserved
loop-rule-preserved g c =
    let item : Bor ℕ × Bor source.Production = (c.in-Some.rule, c.in-Some.production) in
    let numbered = file_production (implicit_in c.args.self.now) (file_of c.args.self.now) in
    c.in_ok-push_file_row.ensures ∙ ap (λ rows. rows ++ numbered (production_seen item) ∷ []) c.loop-rule.invariant
    ∙ more_shown numbered production_seen c.loop-rule.yielded item

pub returns : goal.returns
returns g c =
    let s = file_of c.args.self.now in
    let from = c.into_iter-rule-iterator.ensures.into_iter_gives in
    let road = productions_road s c.into_iter-rule-iterator.result c.prods.result.now c.prods.ensures
    (ap (λ it. iter_rest (zip_first it)) from ∙ ap iter_rest c.zip-rule-items.ensures.first ∙ c.iter.ensures.rest ∙ c.prods_rules.ensures)
    (ap (λ it. iter_rest (zip_second it)) from ∙ c.zip-rule-items.ensures.second.0) in
    let all = YieldsList-end road c.loop-rule.yielded c.loop-rule.rule-iterator c.loop-rule.yielded_by _ c.next.new.self c.in-None.is c.next.ensures.steps in
    c.loop-rule.invariant ∙ ap (map (file_production (implicit_in c.args.self.now) s)) all.0
