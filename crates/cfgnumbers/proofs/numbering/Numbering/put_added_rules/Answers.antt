use Rattle.std.proofs.Common.{◌≡◌, ◌+◌, ◌∷◌, ◌++◌, [], length, map, option_map, string_bytes, sym, ap, ◌∙◌}
use Rattle.std.specs.List.{list_any, range_with_len}
use Rattle.std.specs.Str.{bytes_eq}
use Rattle.std.proofs.lemmas.List.{length-map}
use Rattle.cfgitems.specs.SyntaxView.{production_view}
use Rattle.cfgnumbers.specs.Numbered.{added_rule, added_rules, start_name, implicit_name, implicit_start_name}
use Rattle.cfgnumbers.specs.TablesView.{names, file_of, rule_view}
use Rattle.cfgnumbers.proofs.RowLemmas.{names_of_rows}
use Rattle.cfgnumbers.proofs.Turns.{as_long}
use Rattle.cfgnumbers.proofs.numbering.Numbering.put_added_rules.Goals as goal

pub put_added_rule-requires-in-Some-clause-new : goal.put_added_rule-requires-in-Some-clause-new
put_added_rule-requires-in-Some-clause-new g c =
    let start = added_rule start_name (range_with_len (length c.prods-first.result.now) 1) in
    let one = c.in_ok-put_added_rule.ensures ∙ ap (λ rows. map (rule_view g.S.Storage.number) rows ++ start ∷ []) c.requires.empty in
    ap (list_any (bytes_eq implicit_name)) (names_of_rows g.S.Storage.number c.put_added_rule.new.rows.entries (start ∷ []) one)

pub put_added_rule-requires-in-Some-2-clause-new : goal.put_added_rule-requires-in-Some-2-clause-new
put_added_rule-requires-in-Some-2-clause-new g c =
    let start = added_rule start_name (range_with_len (length c.prods-first.result.now) 1) in
    let implicit = added_rule implicit_name (range_with_len (length c.prods-first.result.now + 1) (c.len-count.result + 1)) in
    let one = c.in_ok-put_added_rule.ensures ∙ ap (λ rows. map (rule_view g.S.Storage.number) rows ++ start ∷ []) c.requires.empty in
    let two = c.in_ok-put_added_rule-2.ensures ∙ ap (λ rows. rows ++ implicit ∷ []) one in
    ap (list_any (bytes_eq implicit_start_name)) (names_of_rows g.S.Storage.number c.put_added_rule-in-Some.new.rows.entries (start ∷ implicit ∷ []) two)

pub returns-in_ok-put_added_rule-3 : goal.returns-in_ok-put_added_rule-3
returns-in_ok-put_added_rule-3 g c =
    let first = length c.prods-first.result.now in
    let n = length (file_of c.args.self.now).productions in
    let first_is : first ≡ n = sym (as_long production_view c.prods-first.result.now (file_of c.args.self.now).productions c.prods-first.ensures) in
    let start = added_rule start_name (range_with_len first 1) in
    let one = c.in_ok-put_added_rule.ensures ∙ ap (λ rows. map (rule_view g.S.Storage.number) rows ++ start ∷ []) c.requires.empty in
    let count = c.len-count.result in
    let count_is : count ≡ length (names c.in-Some.tokens.now.entries) = c.len-count.ensures.len ∙ sym (length-map c.in-Some.tokens.now.entries (λ e. string_bytes e.0)) in
    let implicit = added_rule implicit_name (range_with_len (first + 1) (count + 1)) in
    let last = added_rule implicit_start_name (range_with_len (first + count + 2) 1) in
    c.in_ok-put_added_rule-3.ensures ∙ ap (λ rows. rows ++ last ∷ []) (c.in_ok-put_added_rule-2.ensures ∙ ap (λ rows. rows ++ implicit ∷ []) one)
    ∙ (λ i.
    added_rule start_name (first_is i ∷ [])
    ∷ added_rule implicit_name (range_with_len (first_is i + 1) (count_is i + 1))
    ∷ added_rule implicit_start_name ((first_is i + count_is i + 2) ∷ [])
    ∷ [])
    ∙ sym (ap (λ implicit. added_rules (option_map (λ table. names table.now.entries) implicit) n) c.in-Some.is)

pub returns-in_default : goal.returns-in_default
returns-in_default g c =
    let first = length c.prods-first.result.now in
    let n = length (file_of c.args.self.now).productions in
    let first_is : first ≡ n = sym (as_long production_view c.prods-first.result.now (file_of c.args.self.now).productions c.prods-first.ensures) in
    let start = added_rule start_name (range_with_len first 1) in
    c.in_ok-put_added_rule.ensures ∙ ap (λ rows. map (rule_view g.S.Storage.number) rows ++ start ∷ []) c.requires.empty
    ∙ (λ i. added_rule start_name (first_is i ∷ []) ∷ [])
    ∙ sym (ap (λ implicit. added_rules (option_map (λ table. names table.now.entries) implicit) n) c.in_default.is)
