use Rattle.std.proofs.Common.{map, ◌∙◌}
use Rattle.cfgtables.specs.NumberedSymbols.{sym_of}
use Rattle.cfgyacc.proofs.Shows.{shown_text}
use Rattle.cfgyacc.proofs.Cut.{cut_back, cut_between_characters}
use Rattle.cfgyacc.proofs.grammar.tables.YaccGrammar.push_prod.Goals as goal

pub truncate-requires : goal.truncate-requires
truncate-requires g c within = cut_between_characters c.args.text.now c.push_parts.new.text _ _ c.len-known.ensures c.in-Err.ensures.kept.1

pub returns-in-Err-clause-unchanged : goal.returns-in-Err-clause-unchanged
returns-in-Err-clause-unchanged g c =
    c.truncate.ensures.bytes ∙ cut_back c.args.text.now c.push_parts.new.text _ _ c.len-known.ensures c.in-Err.ensures.kept.1

pub returns-clause-added : goal.returns-clause-added
returns-clause-added g c =
    let symbols = map (sym_of g.S.Storage.number) c.prod-symbols.result.now in (
      _,
      shown_text c.args.self.now _ _ symbols c.rule_name_str-rule.result.now c.prod_to_rule.ensures.value c.prod-symbols.ensures.value c.rule_name_str-rule.ensures,
      c.in_default.ensures.added,
    )
