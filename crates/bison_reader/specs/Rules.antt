-- Rules, construct by construct. `do` is sequence.
use Rattle.std.specs.Prelude.{ℕ, true, List}
use Rattle.constructs.specs.Leaves.{Leaves, One}
use Rattle.constructs.specs.Construct.{Construct, ◌>>=◌, ◌>>◌, again, choice, emits, ends, gives, here, many, recovers, repeat, then}
use Rattle.bison_reader.specs.declared.group.Group.{Group}
use Rattle.bison_reader.specs.declared.group.Group.TheVariants as groups
use Rattle.bison_reader.specs.declared.item.Expected.{Expected}
use Rattle.bison_reader.specs.declared.item.Expected.TheVariants as expected
use Rattle.bison_reader.specs.declared.item.Part.{Part}
use Rattle.bison_reader.specs.declared.item.PartKind.{PartKind}
use Rattle.bison_reader.specs.declared.item.PartKind.TheVariants as parts
use Rattle.bison_reader.specs.declared.sort.Modifier.TheVariants as modifiers
use Rattle.bison_reader.specs.declared.sort.Sort.{Sort}
use Rattle.bison_reader.specs.declared.sort.Sort.TheVariants as sorts
use Rattle.bison_reader.specs.Here.{Strict, Lax, Turn, continues, nothing, next_word, sort_of, is_of, is_here, word_here_or, needed, unexpected, optional, words_of}
use Rattle.bison_reader.specs.Declarations.{only, declared_by}
use Rattle.bison_reader.specs.Items.{Item, HeadRead, ProductionRead}

abbrev pub part_of : PartKind → ℕ → ℕ → Part
part_of kind word last = record { kind = kind; word = word; last = last }

-- words are the sorts of all words
module _ (words : List Sort) where
  -- the last of a part's words: the name in brackets after word, if there is one, or else word
  unfoldable pub with_name : ℕ → Lax ℕ
  with_name word = word_here_or words groups.Name gives (gives word)

  unfoldable pub symbol_part : ℕ → Lax Part
  symbol_part symbol = do
    last ← with_name symbol
    gives (part_of parts.Symbol symbol last)

  unfoldable pub action_part : ℕ → Lax Part
  action_part code = do
    last ← with_name code
    gives (part_of parts.Action code last)

  -- code after a tag
  unfoldable pub tagged_action : Strict Part
  tagged_action = do
    code ← needed words groups.Code expected.Code
    action_part code

  -- a directive that a word of the group follows
  unfoldable pub modifier_with : PartKind → ℕ → Group → Expected → Strict Part
  modifier_with kind word group missing = do
    last ← needed words group missing
    gives (part_of kind word last)

  -- c, where it doesn't matter that it leaves fewer words
  abbrev pub loose_part : {l : Leaves} → ℕ → Construct Item (Unit {0}) l (One Part) → Lax Part
  loose_part word c = choice (λ _. true) c (gives (part_of parts.Other word word))

  -- what follows a directive of a production, which is word
  abbrev pub modifier : ℕ → Sort → Lax Part
  modifier word (sorts.Modifier modifiers.Precedence) = loose_part word (modifier_with parts.Precedence word groups.Symbol expected.Symbol)
  modifier word (sorts.Modifier modifiers.Empty) = gives (part_of parts.Empty word word)
  modifier word (sorts.Modifier modifiers.DynamicPrecedence) = loose_part word (modifier_with parts.DynamicPrecedence word groups.Number expected.Number)
  modifier word (sorts.Modifier modifiers.Merge) = loose_part word (modifier_with parts.Other word groups.Tag expected.Tag)
  modifier word _ = loose_part word (modifier_with parts.Other word groups.Number expected.Number)

  -- a part of a production, if there is one here
  unfoldable pub part : Turn Part
  part =
      word_here_or words groups.Symbol (λ symbol. then (symbol_part symbol) again)
      (word_here_or words groups.Code (λ code. then (action_part code) again)
      (word_here_or words groups.Predicate (λ code. again (part_of parts.Predicate code code))
      (word_here_or words groups.Tag (λ tag. then tagged_action again)
      (word_here_or words groups.Modifier (λ word. then (modifier word (sort_of words word)) again)
      ends))))

  -- here a production has to end
  unfoldable pub production_end : Lax (Unit {0})
  production_end = choice (is_here words groups.ProductionEnd) nothing (unexpected words expected.Part)

  -- a production without faults, of the rule with this name
  unfoldable pub whole_production : ℕ → Lax (Unit {0})
  whole_production rule = here (λ text. do
    parts ← many part
    production_end
    emits (ProductionRead (record { rule = rule; start = next_word words text; parts = parts })))

  -- a production; if it has a fault, it ends at the next `;` or `%%`, and doesn't count
  unfoldable pub production : ℕ → Lax (Unit {0})
  production rule = recovers (whole_production rule) (λ fault. words_of words groups.InRule)

  -- another production of the rule, or a `;`
  unfoldable pub rule_turn : ℕ → Turn (Unit {0})
  rule_turn rule =
      word_here_or words groups.Bar (λ word. then (production rule) again)
      (word_here_or words groups.Semicolon (λ word. continues)
      ends)

  -- what follows the name of a rule
  unfoldable pub rule : ℕ → Strict (Unit {0})
  rule name = do
    emits (HeadRead name)
    optional words groups.Name
    needed words groups.Colon expected.Colon
    production name
    repeat (rule_turn name)

  -- a declaration among the rules, by its directive
  unfoldable pub rule_declaration : ℕ → Strict (Unit {0})
  rule_declaration word = do
    declared_by words (sort_of words word)
    only words groups.Semicolon expected.Semicolon

  unfoldable pub rule_or_declaration : Strict (Unit {0})
  rule_or_declaration =
      word_here_or words groups.Head rule
      (word_here_or words groups.RuleDeclaration rule_declaration
      (unexpected words expected.Rule))

  -- what is passed after a fault: the next word, all up to a `;` or `%%` unless that word is a `;`, and all `;` that follow
  unfoldable pub rules_rest : Strict (Unit {0})
  rules_rest = do
    word ← needed words groups.Any expected.Rule
    choice (λ _. is_of words groups.Semicolon word) (gives tt) (words_of words groups.InRule)
    words_of words groups.Semicolon

  -- a rule or a declaration, unless the second `%%` or the end is here
  unfoldable pub rules_turn : Turn (Unit {0})
  rules_turn = choice (is_here words groups.RulesEnd) ends (then (recovers rule_or_declaration (λ fault. rules_rest)) again)
