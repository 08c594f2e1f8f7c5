use Rattle.std.proofs.Common.{◌≡◌, true, ◌∷◌, ◌++◌, [], map, Bor, String, Global, ap, ◌∙◌, append_assoc}
use Rattle.std.proofs.lemmas.Iterator.Consumers.{YieldsList-end}
use Rattle.cfgbase.specs.declared.span.Span.{Span}
use Rattle.derivation.specs.Grammar.{Rule, Token}
use Rattle.cfgitems.specs.Building.{has_name}
use Rattle.cfgnumbers.specs.Numbered.{added_production, token_index}
use Rattle.cfgnumbers.specs.TablesView.{file_of}
use Rattle.lemmas.proofs.Roads.{item_holds, more_shown}
use Rattle.cfgnumbers.proofs.RowLemmas.{implicit_row, name_seen, names_road}
use Rattle.cfgnumbers.proofs.numbering.Numbering.push_implicit.Goals as goal

pub token_of-requires-clause-known : goal.token_of-requires-clause-known
token_of-requires-clause-known g c =
    let road = names_road c.args.tokens.now.entries c.into_iter-name-iterator.ensures.into_iter_gives.0 in
    ap (λ name. has_name name (file_of c.args.self.now).tokens) c.as_str.ensures.value
    ∙ item_holds road c.loop-name.yielded _ c.loop-name.yielded_by _ _ (c.in-Some.name, c.in-Some.field-0-1) c.in-Some.is c.next.ensures.steps
    (λ name. has_name name (file_of c.args.self.now).tokens ≡ true) c.requires.implicit

pub loop-name-preserved : goal.loop-name-preserved
loop-name-preserved g c =
    let s = file_of c.args.self.now in
    let before = c.args.rows.now in
    let item : Bor (String Global) × Bor Span = (c.in-Some.name, c.in-Some.field-0-1) in
    c.in_ok-push_added_row.ensures
    ∙ (λ i. c.loop-name.invariant i ++ added_production 1 (Token ((c.token_of.ensures.index ∙ ap (token_index s) c.as_str.ensures.value) i) ∷ Rule (c.to_storage.ensures i) ∷ []) ∷ [])
    ∙ append_assoc before (map (implicit_row s) (map name_seen c.loop-name.yielded)) (implicit_row s (name_seen item) ∷ [])
    ∙ ap (λ rows. before ++ rows) (more_shown (implicit_row s) name_seen c.loop-name.yielded item)

pub returns : goal.returns
returns g c =
    let road = names_road c.args.tokens.now.entries c.into_iter-name-iterator.ensures.into_iter_gives.0 in
    c.loop-name.invariant
    ∙ ap (λ seen. c.args.rows.now ++ map (implicit_row (file_of c.args.self.now)) seen)
    (YieldsList-end road c.loop-name.yielded _ c.loop-name.yielded_by _ _ c.in-None.is c.next.ensures.steps).0
