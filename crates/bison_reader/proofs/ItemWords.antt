-- The words of items are of the sorts that the items require, construct by construct.
use Rattle.std.proofs.Common.{◌≡◌, ℕ, Bool, true, false, List, length, All, refl, sym, ap, ◌∙◌}
use Rattle.constructs.specs.Leaves.{Gives, ValueOf, Leaves, One}
use Rattle.constructs.specs.Construct.{Construct, repeat}
use Rattle.constructs.specs.Next.{IsNext}
use Rattle.bison_reader.specs.declared.group.Group.{Group}
use Rattle.bison_reader.specs.declared.group.Group.TheVariants as groups
use Rattle.bison_reader.specs.declared.item.Expected.{Expected}
use Rattle.bison_reader.specs.declared.item.Expected.TheVariants as expected
use Rattle.bison_reader.specs.declared.item.Part.{Part}
use Rattle.bison_reader.specs.declared.lists.Listed.{Listed}
use Rattle.bison_reader.specs.declared.lists.Listed.TheVariants.{Tokens, Rules, Symbols, Precedences}
use Rattle.bison_reader.specs.declared.sort.Declaration.{Declaration}
use Rattle.bison_reader.specs.declared.sort.Declaration.TheVariants as declarations
use Rattle.bison_reader.specs.declared.sort.Modifier.TheVariants as modifiers
use Rattle.bison_reader.specs.declared.sort.Sort.{Sort}
use Rattle.bison_reader.specs.declared.sort.Sort.TheVariants as sorts
use Rattle.bison_reader.specs.Groups.{belongs}
use Rattle.bison_reader.specs.Here.{sort_of, is_of, is_here, colon_follows, optional, word_turn, words_of, noted, needed, unexpected}
use Rattle.bison_reader.specs.Items.{Item}
use Rattle.bison_reader.specs.Declarations.{group_of, token_rest, refused, is_literal, rule_rest, precedence_rest, symbol_rest, listed, listed_turn, tagged_list, level, start_turn, start, symbol_or_tag, symbol_or_tag_turn, symbols_code, only, named_code, codes, variable, expected_conflicts, declared, declared_by, declaration, declaration_rest, declaration_turn}
use Rattle.bison_reader.specs.Rules.{with_name, symbol_part, action_part, tagged_action, modifier_with, modifier, part, production_end, whole_production, production, rule_turn, rule, rule_declaration, rule_or_declaration, rules_rest, rules_turn}
use Rattle.bison_reader.specs.FileGrammar.{rules, file, items_of, numbers}
use Rattle.bison_reader.specs.ItemWords.{IsIdentifier, IsWellSorted}
use Rattle.bison_reader.proofs.KeepsItems.{KeepsItems, items_kept}

-- the sorts of what is a rule's name before its colon, and of what is a token's name and no literal
head_sort : (sort : Sort) (colon : Bool) → belongs groups.Head sort colon ≡ true → sort ≡ sorts.Identifier
head_sort sorts.Identifier colon e = refl
head_sort _ colon e = cc

name_sort : (words : List Sort) (sort : Sort) (colon : Bool) → belongs groups.TokenName sort colon ≡ true → is_literal words sort ≡ false → sort ≡ sorts.Identifier
name_sort words sorts.Identifier colon e other = refl
name_sort words sorts.Literal colon e other = cc
name_sort words _ colon e other = cc

module _ (words : List Sort) where
  abbrev Kept : {l : Leaves} {G : Gives} → Construct Item (Unit {0}) l G → (ValueOf G → Type 0) → Type 0
  Kept = KeepsItems (IsWellSorted words)

  -- of what gives nothing
  abbrev KeptAll : {l : Leaves} → Construct Item (Unit {0}) l (One (Unit {0})) → Type 1
  KeptAll c = (Q : Unit {0} → Type 0) → Q tt → Kept c Q

  word_is : (group : Group) (text : List ℕ) (word : ℕ) (rest : List ℕ) → IsNext (is_here words group) text word rest → is_of words group word ≡ true
  word_is group text word rest next = sym (ap (is_here words group) next.whole) ∙ next.passes

  optional_kept : (group : Group) → KeptAll (optional words group)
  unfolding optional
  optional_kept group Q q = (λ _ _ _ _. q, q)

  words_of_kept : (group : Group) → KeptAll (words_of words group)
  unfolding words_of word_turn repeat
  words_of_kept group Q q = ((λ _ _ _ _. tt, tt), λ _. q)

  unexpected_kept : (G : Gives) (missing : Expected) (Q : ValueOf G → Type 0) → Kept (unexpected words {G = G} missing) Q
  unfolding noted
  unexpected_kept G missing Q = λ _. (λ _ _. tt, λ _ _. (tt, tt))

  needed_kept : (group : Group) (missing : Expected) (Q : ℕ → Type 0) → ((word : ℕ) → is_of words group word ≡ true → Q word) → Kept (needed words group missing) Q
  unfolding needed
  needed_kept group missing Q q = (λ text word rest next. q word (word_is group text word rest next), unexpected_kept (One ℕ) missing Q)

  symbol_rest_kept : (list : Listed) (symbol : ℕ) → is_of words (group_of list) symbol ≡ true → KeptAll (symbol_rest words list symbol)
  unfolding token_rest rule_rest refused precedence_rest
  symbol_rest_kept Tokens symbol is Q q = search (optional_kept, word_is groups.AnyString, q) depth 9
  symbol_rest_kept Rules symbol is Q q = search (name_sort words (sort_of words symbol) (colon_follows words symbol) is, q) depth 9
  symbol_rest_kept Symbols symbol is Q q = search q
  symbol_rest_kept (Precedences associativity) symbol is Q q = search (optional_kept, q) depth 9

  tagged_list_kept : (list : Listed) → KeptAll (tagged_list words list)
  unfolding tagged_list listed listed_turn repeat
  tagged_list_kept list Q q = search (optional_kept, needed_kept, symbol_rest_kept, word_is (group_of list), q) depth 12

  declared_kept : (declaration : Declaration) → KeptAll (declared words declaration)
  unfolding level start start_turn symbol_or_tag symbol_or_tag_turn symbols_code only named_code codes variable expected_conflicts repeat
  declared_kept declarations.Tokens Q q = search (tagged_list_kept, q)
  declared_kept declarations.Rules Q q = search (tagged_list_kept, q)
  declared_kept declarations.Symbols Q q = search (tagged_list_kept, q)
  declared_kept (declarations.Level associativity) Q q = search (tagged_list_kept, q) depth 9
  declared_kept declarations.Start Q q = search (needed_kept, q) depth 9
  declared_kept declarations.NamedCode Q q = search (optional_kept, needed_kept, q) depth 9
  declared_kept declarations.SymbolsCode Q q = search (needed_kept, q) depth 9
  declared_kept (declarations.DefaultPrecedence holds) Q q = search q
  declared_kept declarations.OnlyCode Q q = search (needed_kept, q) depth 9
  declared_kept declarations.Codes Q q = search (needed_kept, words_of_kept, q) depth 9
  declared_kept declarations.Variable Q q = search (needed_kept, optional_kept, q) depth 9
  declared_kept declarations.Expect Q q = search (needed_kept, q) depth 9
  declared_kept declarations.ExpectReduceReduce Q q = search (needed_kept, q) depth 9
  declared_kept declarations.Text Q q = search (needed_kept, q) depth 9
  declared_kept declarations.OptionalText Q q = search (optional_kept, q) depth 9
  declared_kept declarations.Flag Q q = search q

  declared_by_kept : (sort : Sort) → KeptAll (declared_by words sort)
  declared_by_kept (sorts.Declaration declaration) = declared_kept declaration
  declared_by_kept _ = λ Q q. q

  declaration_turn_kept : Kept (declaration_turn words) (λ _. Unit {0})
  unfolding declaration declaration_rest declaration_turn
  declaration_turn_kept = search (declared_by_kept, unexpected_kept, needed_kept, words_of_kept) depth 9

  -- of what gives a number or a part of a production
  with_name_kept : (word : ℕ) (Q : ℕ → Type 0) → ((last : ℕ) → Q last) → Kept (with_name words word) Q
  unfolding with_name
  with_name_kept word Q q = (λ _ last _ _. q last, q word)

  abbrev KeptPart : {l : Leaves} → Construct Item (Unit {0}) l (One Part) → Type 1
  KeptPart c = (Q : Part → Type 0) → ((part : Part) → Q part) → Kept c Q

  -- whatever follows, nothing is required of a part
  modifier_kept : (word : ℕ) (sort : Sort) → KeptPart (modifier words word sort)
  unfolding modifier_with
  modifier_kept word (sorts.Modifier modifiers.Precedence) Q q = search (needed_kept, q) depth 9
  modifier_kept word (sorts.Modifier modifiers.Empty) Q q = search q
  modifier_kept word (sorts.Modifier modifiers.DynamicPrecedence) Q q = search (needed_kept, q) depth 9
  modifier_kept word (sorts.Modifier modifiers.Merge) Q q = search (needed_kept, q) depth 9
  modifier_kept word _ Q q = search (needed_kept, q) depth 9

  part_kept : Kept (part words) (λ _. Unit {0})
  unfolding part symbol_part tagged_action action_part
  part_kept = search (with_name_kept, needed_kept, modifier_kept) depth 9

  production_kept : (rule : ℕ) → IsIdentifier words rule → KeptAll (production words rule)
  unfolding production whole_production production_end
  production_kept rule is Q q = search (part_kept, unexpected_kept, words_of_kept, is, q) depth 9

  rule_kept : (name : ℕ) → IsIdentifier words name → KeptAll (rule words name)
  unfolding rule rule_turn repeat
  rule_kept name is Q q = search (optional_kept, needed_kept, production_kept, is, q) depth 9

  rule_declaration_kept : (word : ℕ) → KeptAll (rule_declaration words word)
  unfolding rule_declaration only
  rule_declaration_kept word Q q = search (declared_by_kept, needed_kept, q) depth 9

  rule_or_declaration_kept : KeptAll (rule_or_declaration words)
  unfolding rule_or_declaration
  rule_or_declaration_kept Q q = (
    λ text word rest next. rule_kept word (head_sort (sort_of words word) (colon_follows words word) (word_is groups.Head text word rest next)) Q q,
    (λ _ word _ _. rule_declaration_kept word Q q, unexpected_kept (One (Unit {0})) expected.Rule Q),
  )

  rules_turn_kept : Kept (rules_turn words) (λ _. Unit {0})
  unfolding rules_turn rules_rest
  rules_turn_kept = search (rule_or_declaration_kept, needed_kept, words_of_kept) depth 9

  file_kept : Kept (file words) (λ _. Unit {0})
  unfolding file rules repeat
  file_kept = search (declaration_turn_kept, rules_turn_kept) depth 9

  pub items_well_sorted : All (IsWellSorted words) (items_of words)
  items_well_sorted = items_kept (IsWellSorted words) (file words) (λ _. Unit {0}) file_kept (numbers 0 (length words))
