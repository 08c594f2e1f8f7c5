-- Identifiers in texts of any bytes begin with a byte of names, construct by construct.
use Rattle.std.proofs.Common.{◌≡◌, ℕ, Bool, true, List, [], ◌∷◌, length, Option, Some, None, Result, Ok, Err, All, sym, ap, subst, ◌∙◌}
use Rattle.std.specs.Prelude.{IfSome}
use Rattle.std.proofs.lemmas.List.Elements.{All-append, All-head, All-tail, All-weaker}
use Rattle.lemmas.proofs.Options.{All-filter_map}
use Rattle.constructs.specs.Pieces.{starts}
use Rattle.constructs.specs.Leaves.{Gives, ValueOf, Leaves, One}
use Rattle.constructs.specs.Construct.{Construct, repeat, gives}
use Rattle.constructs.specs.Turns.{Turn}
use Rattle.constructs.proofs.Yields.{TurnPasses, turns_pass}
use Rattle.bison_words.specs.declared.class.Class.{Class}
use Rattle.bison_words.specs.declared.class.Class.TheVariants.{NameByte}
use Rattle.bison_words.specs.declared.directive.Directive.{Directive}
use Rattle.bison_words.specs.declared.nesting.Depth.{Depth}
use Rattle.bison_words.specs.declared.nesting.Nesting.{Nesting}
use Rattle.bison_words.specs.declared.words.WordFaultKind.{WordFaultKind}
use Rattle.bison_words.specs.Bytes.{holds}
use Rattle.bison_words.specs.Runs.{IsSome}
use Rattle.bison_words.specs.Words.{Item, WordRead, word_in}
use Rattle.bison_words.specs.Blanks.{line_number, comment, blank_turn, blank}
use Rattle.bison_words.specs.Names.{identifier, number_word, number_end, hexadecimal, number, mark, odd}
use Rattle.bison_words.specs.Quotes.{numbered_value, numbered, illegal_escape, escape, quoted_part, quoted, quotes_end, literal_word, literal, string_word, string, translatable}
use Rattle.bison_words.specs.Brackets.{tag_piece, inner_name, tag_end, tag, name_close, name_end, name}
use Rattle.bison_words.specs.Nested.{Found, Passage, after_piece, outermost, onward, step_outcome, IsStep, step, IsNested}
use Rattle.bison_words.specs.NestedHere.{emits_all, closing}
use Rattle.bison_words.specs.Code.{splice, splice_turn, splices, line_part, comment_part, escaped_part, quotes_part, less_piece, percent_piece, code_comment, slash_piece, code_quotes, code_piece, code_end, braces, code, predicate, prologue_piece, prologue_end, prologue}
use Rattle.bison_words.specs.Here.{Turn as Pieces, passes, unended}
use Rattle.bison_words.specs.TextWords.{equals, directive_end, directive_word, directive_name, directive, percent, bracketed, word, word_turn, words, epilogue, mark_then, sections, text_words}
use Rattle.bison_reader.specs.Sorts.{words_in}
use Rattle.bison_reader.specs.WordNames.{BeginsAsName}
use Rattle.bison_reader.proofs.KeepsItems.{KeepsItems, keeps_items, items_kept}

abbrev IsNamed : Item → Type 0
IsNamed (WordRead word) = BeginsAsName word.lexeme
IsNamed _ = Unit {0}

abbrev Kept : {l : Leaves} {G : Gives} → Construct Item ⊥ l G → (ValueOf G → Type 0) → Type 0
Kept = KeepsItems IsNamed

-- of what gives nothing, and of what gives any value
abbrev KeptAll : {l : Leaves} → Construct Item ⊥ l (One (Unit {0})) → Type 1
KeptAll c = (Q : Unit {0} → Type 0) → Q tt → Kept c Q

abbrev KeptAny : {l : Leaves} {A : Type 0} → Construct Item ⊥ l (One A) → Type 1
KeptAny {l} {A} c = (Q : A → Type 0) → ((a : A) → Q a) → Kept c Q

-- Blanks

line_number_kept : KeptAll line_number
unfolding line_number
line_number_kept Q q = (λ _ _ _ _ _ _. q, λ _ _. q)

blank_kept : (len : ℕ) → KeptAll (blank len)
unfolding blank blank_turn comment unended repeat
blank_kept len Q q = (λ start. (λ _ _ _ _. tt, (line_number_kept _ tt, search depth 9)), λ _. q)

-- Nested brackets

same_value : {A : Type 0} {a b : A} → ◌≡◌ {A = Result A ⊥} (Ok a) (Ok b) → a ≡ b
same_value e = cc

module _ (piece : Pieces Nesting) (kept : Kept piece (λ _. Unit {0})) where
  onward_named : (items : List Item) (rest : List ℕ) (passes : Depth → Passage) → All IsNamed items → ((depth : Depth) → All IsNamed (passes depth).found.items)
      → (o : Option Depth) → All IsNamed (onward items rest passes o).found.items
  onward_named items rest passes each further (Some depth) = All-append IsNamed items (passes depth).found.items each (further depth)
  onward_named items rest passes each further None = each

  abbrev PassesNamed : (Depth → Passage) → Type 0
  PassesNamed passes = (depth : Depth) → All IsNamed (passes depth).found.items

  outcome_named : (items : List Item) (o : Result (Option Nesting × List ℕ) ⊥) → All IsNamed items
      → TurnPasses (λ _. Unit {0}) PassesNamed (step_outcome items o)
  outcome_named items (Ok (Some a, rest)) each = (tt, λ passes further depth. onward_named items rest passes each further (after_piece a depth))
  outcome_named items (Ok (None, rest)) each = λ _. each
  outcome_named items (Err fault) each = absurd fault

  step_named : (text : List ℕ) (turn : Turn (Depth → Passage)) → Unit {0} → IsStep piece text turn → TurnPasses (λ _. Unit {0}) PassesNamed turn
  step_named text turn t (step r says) = outcome_named r.items r.outcome ((keeps_items IsNamed piece (λ _. Unit {0}) kept).passes text r tt says).items

  nested_named : (text : List ℕ) (found : Found) (rest : List ℕ) → IsNested piece text (Ok (found, rest)) → All IsNamed found.items
  nested_named text found rest is =
      let same : (is.passes outermost).found ≡ found = ap (λ (x : Found × List ℕ). x.0) (same_value is.found) in
      subst (λ (found : Found). All IsNamed found.items) same
      (turns_pass (λ _. Unit {0}) PassesNamed step_named text is.passes tt is.pieces outermost)

  emits_all_kept : (items : List Item) (closed : Bool) → All IsNamed items → KeptAny (emits_all items (gives closed))
  unfolding emits_all
  emits_all_kept [] closed all Q q = q closed
  emits_all_kept (item ∷ items) closed all Q q = (All-head IsNamed item items all, emits_all_kept items closed (All-tail IsNamed item items all) Q q)

  closing_kept : KeptAny (closing piece)
  unfolding closing
  closing_kept Q q = λ text found rest is. emits_all_kept found.items found.closed (nested_named text found rest is) Q q

-- Parts of code, and of tags

splices_kept : KeptAll splices
unfolding splices splice_turn splice repeat
splices_kept Q q = search q depth 9

tag_piece_kept : Kept tag_piece (λ _. Unit {0})
unfolding tag_piece
tag_piece_kept = search depth 9

name_begins : (text found rest : List ℕ) → IsSome NameByte text found rest → starts (holds NameByte) found ≡ true
name_begins text [] rest is = absurd (cc (is.begins, ap (starts (holds NameByte)) is.run.whole, is.run.longest))
name_begins text (b ∷ found) rest is = sym (ap (starts (holds NameByte)) is.run.whole) ∙ is.begins

-- len is the whole text's length
module _ (len : ℕ) where
  -- Code

  slash_piece_kept : (start : List ℕ) → Kept (slash_piece len start) (λ _. Unit {0})
  unfolding slash_piece code_comment comment_part line_part splice repeat
  slash_piece_kept start = search splices_kept depth 9

  code_quotes_kept : (start close : List ℕ) (kind : WordFaultKind) → Kept (code_quotes len start close kind) (λ _. Unit {0})
  unfolding code_quotes quotes_part escaped_part splice repeat
  code_quotes_kept start close kind = search splices_kept depth 9

  code_piece_kept : Kept (code_piece len) (λ _. Unit {0})
  unfolding code_piece less_piece percent_piece
  code_piece_kept = λ start. (λ _ _ _ _. tt, (slash_piece_kept start, (splices_kept _ (tt, (tt, tt)), (splices_kept _ (tt, tt), search code_quotes_kept depth 9))))

  code_kept : Kept (code len) (λ _. Unit {0})
  unfolding code braces code_end
  code_kept = search (closing_kept (code_piece len) code_piece_kept) depth 9

  predicate_kept : Kept (predicate len) (λ _. Unit {0})
  unfolding predicate braces code_end
  predicate_kept = search (closing_kept (code_piece len) code_piece_kept) depth 9

  prologue_kept : Kept (prologue len) (λ _. Unit {0})
  unfolding prologue prologue_piece prologue_end repeat
  prologue_kept = search code_piece_kept depth 9

  -- Literals and strings

  numbered_kept : (start : List ℕ) (class : Class) (base least most : ℕ) → KeptAny (numbered len start class base least most)
  unfolding numbered numbered_value
  numbered_kept start class base least most Q q = search q depth 9

  escape_kept : (start : List ℕ) → KeptAny (escape len start)
  unfolding escape illegal_escape
  escape_kept start Q q = search (numbered_kept, q) depth 9

  quoted_kept : (close : List ℕ) → KeptAny (quoted len close)
  unfolding quoted quoted_part
  quoted_kept close Q q = search (escape_kept, q) depth 9

  literal_word_kept : (start : List ℕ) (parts : Option (ℕ × Bool)) → KeptAll (literal_word len start parts)
  unfolding literal_word
  literal_word_kept start parts Q q = search q depth 9

  literal_kept : Kept (literal len) (λ _. Unit {0})
  unfolding literal quotes_end
  literal_kept = search (quoted_kept, literal_word_kept) depth 9

  string_kept : Kept (string len) (λ _. Unit {0})
  unfolding string string_word quotes_end
  string_kept = search quoted_kept depth 9

  translatable_kept : Kept (translatable len) (λ _. Unit {0})
  unfolding translatable string_word quotes_end
  translatable_kept = search quoted_kept depth 9

  -- Tags, and names in brackets

  tag_kept : Kept (tag len) (λ _. Unit {0})
  unfolding tag tag_end
  tag_kept = λ start. (search, (search, search (closing_kept tag_piece tag_piece_kept) depth 9))

  name_end_kept : (start opened : List ℕ) (found : Bool) → KeptAll (name_end len start opened found)
  unfolding name_end name_close
  name_end_kept start opened found Q q = search q depth 9

  name_kept : Kept (name len) (λ _. Unit {0})
  unfolding name inner_name
  name_kept = search (blank_kept len, name_end_kept) depth 9

  -- Identifiers, numbers and marks

  identifier_kept : Kept (identifier len) (λ _. Unit {0})
  unfolding identifier
  identifier_kept = λ start. (λ text found rest is _. (name_begins text found rest is, tt), tt)

  number_end_kept : (start : List ℕ) (base : ℕ) (digits : List ℕ) → Kept (number_end len start base digits) (λ _. Unit {0})
  unfolding number_end number_word
  number_end_kept start base digits = search depth 9

  number_kept : Kept (number len) (λ _. Unit {0})
  unfolding number hexadecimal
  number_kept = search number_end_kept depth 9

  mark_kept : Kept (mark len) (λ _. Unit {0})
  unfolding mark
  mark_kept = λ start. search depth 7

  odd_kept : Kept (odd len) (λ _. Unit {0})
  unfolding odd
  odd_kept = search depth 9

  -- Directives

  directive_word_kept : (start : List ℕ) (named : Option Directive) → KeptAll (directive_word len start named)
  unfolding directive_end equals
  directive_word_kept start (Some found) Q q = search q depth 9
  directive_word_kept start None Q q = search q depth 9

  directive_kept : Kept (directive len) (λ _. Unit {0})
  unfolding directive directive_name
  directive_kept = search directive_word_kept depth 9

  -- All words

  bracketed_kept : Kept (bracketed len) (λ _. Unit {0})
  unfolding bracketed
  bracketed_kept = search (literal_kept, string_kept, tag_kept, name_kept, code_kept, odd_kept) depth 9

  percent_kept : Kept (percent len) (λ _. Unit {0})
  unfolding percent
  percent_kept = search (prologue_kept, predicate_kept, directive_kept) depth 9

  word_kept : Kept (word len) (λ _. Unit {0})
  unfolding word
  word_kept = search (percent_kept, translatable_kept, identifier_kept, number_kept, mark_kept, bracketed_kept) depth 9

  words_kept : KeptAll (words len)
  unfolding words word_turn repeat
  words_kept Q q = (blank_kept len _ (λ _ _. tt, λ _ _. word_kept), λ _. q)

  text_words_kept : Kept (text_words len) (λ _. Unit {0})
  unfolding text_words sections mark_then epilogue repeat
  text_words_kept = line_number_kept _ (words_kept _ (λ start. (λ _. (tt, words_kept _ (λ start. (λ _. (tt, search code_piece_kept depth 9), search))), search)))

word_named : (item : Item) → IsNamed item → IfSome (word_in item) (λ word. BeginsAsName word.lexeme)
word_named (WordRead read) named = named
word_named _ named = tt

pub words_named : (text : List ℕ) → All (λ word. BeginsAsName word.lexeme) (words_in text)
words_named text =
    let items = items_kept IsNamed (text_words (length text)) (λ _. Unit {0}) (text_words_kept (length text)) text in
    All-filter_map (λ word. BeginsAsName word.lexeme) word_in _ (All-weaker IsNamed (λ item. IfSome (word_in item) (λ word. BeginsAsName word.lexeme)) word_named _ items)
