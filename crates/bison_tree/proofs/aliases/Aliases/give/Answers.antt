use Rattle.std.proofs.Common.{◌≡◌, ℕ, false, List, [], ◌∷◌, ◌++◌, map, string_bytes, sym, ap, ◌∙◌}
use Rattle.cfgitems.specs.SyntaxView.{pair_view}
use Rattle.cfgitems.proofs.Views.{entries-new}
use Rattle.bison_tree.specs.Inner.Views.{aliases_view}
use Rattle.bison_tree.specs.Names.{is_taken, with_one}
use Rattle.bison_tree.proofs.Taken.{no_entry, tokens-free, with_free}
use Rattle.bison_tree.proofs.aliases.Aliases.give.Goals as goal

pub returns-clause-given : goal.returns-clause-given
returns-clause-given c =
    let string = c.args.string.now in
    let token = c.args.token.now in
    let aliases = aliases_view c.args.self.now in
    let free : is_taken aliases (string, token) ≡ false = sym c.is_taken.ensures ∙ c.if-is_taken.false in
    ap (map pair_view) c.in_ok-insert.ensures.entries
    ∙ entries-new string_bytes string c.args.self.now.of_strings c.in_ok-from_str.field-0 c.in_ok-from_str-2.field-0 c.in_ok-from_str.ensures.ok
    (no_entry aliases string token free)
    ∙ ap (λ t. aliases ++ (string, t) ∷ []) c.in_ok-from_str-2.ensures.ok ∙ sym (with_free aliases string token free)

pub returns-clause-consistent : goal.returns-clause-consistent
returns-clause-consistent c =
    let string = c.args.string.now in
    let token = c.args.token.now in
    let aliases = aliases_view c.args.self.now in
    let free : is_taken aliases (string, token) ≡ false = sym c.is_taken.ensures ∙ c.if-is_taken.false in
    let grown : map pair_view c.insert.new.self.entries ≡ aliases ++ (string, token) ∷ [] =
    ap (map pair_view) c.in_ok-insert.ensures.entries
    ∙ entries-new string_bytes string c.args.self.now.of_strings c.in_ok-from_str.field-0 c.in_ok-from_str-2.field-0 c.in_ok-from_str.ensures.ok
    (no_entry aliases string token free)
    ∙ ap (λ t. aliases ++ (string, t) ∷ []) c.in_ok-from_str-2.ensures.ok in
    c.in_ok-add_name.ensures ∙ ap (λ names. with_one names token) c.requires ∙ tokens-free aliases string token free
    ∙ sym (ap (map (λ (alias : List ℕ × List ℕ). alias.1)) grown)
