use Rattle.std.proofs.Common.{rules}
use Rattle.std.proofs.lemmas.List.Elements.{same_from_all_zip}
use Rattle.lemmas.proofs.Copies.{map-copies}
use Rattle.cfgitems.specs.SyntaxView.{precedence_entry, printed_entry}
use Rattle.cfgitems.proofs.Views.{marked-copies}
use Rattle.cfgitems.proofs.tables.TablesRefill.refill.Goals as goal

pub returns-clause-copied : goal.returns-clause-copied
returns-clause-copied c = λ i. record {
  precedences = map-copies _ precedence_entry (λ x y h. search rules) _ _ c.in_ok-clone_from.ensures.ok i;
  printed_forms = map-copies _ printed_entry (λ x y h. search rules) _ _ c.in_ok-clone_from-2.ensures.ok i;
  avoid_insert = marked-copies _ (λ x y h. search rules) _ _ c.in_ok-clone_from-3.ensures.ok i;
  implicit_tokens = marked-copies _ (λ x y h. search rules) _ _ c.in_ok-clone_from-4.ensures.ok i;
  levels = same_from_all_zip _ _ _ c.in_ok-clone_from-5.ensures.ok.0 (λ x y h. search rules) i;
}
