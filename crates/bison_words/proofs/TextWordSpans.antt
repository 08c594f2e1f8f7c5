-- Where the words of a text are.
use Rattle.std.proofs.Common.{ℕ, List, length, Option, Some, None, refl, arith}
use Rattle.std.specs.Str.{IsUtf8}
use Rattle.constructs.specs.Construct.{repeat, Says, computes}
use Rattle.constructs.proofs.Agree.{agree}
use Rattle.cfgwords.proofs.Cuts.{cut_here}
use Rattle.bison_words.specs.declared.directive.Directive.{Directive}
use Rattle.bison_words.specs.declared.words.WordFaultKind.TheVariants.{IllegalCharacters, UnknownDirective}
use Rattle.bison_words.specs.Words.{Directed, Mark, End}
use Rattle.bison_words.specs.Code.{code_piece}
use Rattle.bison_words.specs.Directives.{directive_named}
use Rattle.bison_words.specs.Here.{Lax}
use Rattle.bison_words.specs.TextWords.{directive_end, directive_word, directive_name, directive, percent, bracketed, word, word_turn, words, epilogue, mark_then, sections, text_words}
use Rattle.bison_words.proofs.Leads.{AreItemsAt, Gets, Leads, gives_gets, then_gets, choice_gets, emits_gets, repeat_leads}
use Rattle.bison_words.proofs.Passing.{gives_leads, then_leads, choice_leads, some_leads, equals_leads, line_number_leads}
use Rattle.bison_words.proofs.States.{From, Ready, from_on, ready_on, from_start, among_gets, after_gets, again_gets, case_from, word_from_gets, word_leads, odd_leads}
use Rattle.bison_words.proofs.CodeFaults.{code_piece_leads}
use Rattle.bison_words.proofs.BlankFaults.{blank_among}
use Rattle.bison_words.proofs.NameSpans.{identifier_leads, number_leads, mark_leads, odd_word_leads}
use Rattle.bison_words.proofs.QuoteSpans.{literal_leads, string_leads, translatable_leads, tag_leads, name_leads}
use Rattle.bison_words.proofs.CodeSpans.{code_leads, predicate_leads, prologue_leads}

module _ (whole : List ℕ) (utf8 : IsUtf8 whole) where
  module _ (start : List ℕ) (before : ℕ) (ready : Ready whole start before) where
    directive_end_leads : (directive : Directive) → Leads whole (From whole start before) (Ready whole) (Says (directive_end (length whole) start directive))
    unfolding directive_end
    directive_end_leads directive = then_leads (choice_leads (equals_leads from_on) gives_leads) (λ _. word_leads whole utf8 start before ready (Directed directive) (λ _. tt))

    directive_word_leads : (named : Option Directive) → Leads whole (From whole start before) (Ready whole) (Says (directive_word (length whole) start named))
    directive_word_leads (Some directive) = directive_end_leads directive
    directive_word_leads None = odd_leads whole utf8 start before ready UnknownDirective

    directive_name_leads : Leads whole (From whole start before) (Ready whole) (Says (directive_name (length whole) start))
    unfolding directive_name
    directive_name_leads = some_leads from_on (λ name. then_leads (directive_word_leads (directive_named name)) (λ _. gives_leads))
        (then_leads (odd_leads whole utf8 start before ready IllegalCharacters) (λ _. gives_leads))

    directive_here : Gets whole (Says (directive (length whole)) start) before (λ _. Ready whole)
    unfolding directive
    directive_here = case_from (from_start start ready.cut) refl
        (λ rest e f. choice_gets (directive_name_leads.gets rest before f) (again_gets ((odd_leads whole utf8 start before ready IllegalCharacters).gets rest before f)))
        (gives_gets ready)

    mark_then_here : (c : Lax (Unit {0})) → Leads whole (Ready whole) (Ready whole) (Says c) → Gets whole (Says (mark_then (length whole) c) start) before (λ _. Ready whole)
    unfolding mark_then
    mark_then_here c p = case_from (from_start start ready.cut) refl
        (λ rest e f. after_gets ((word_leads whole utf8 start before ready Mark (λ _. tt)).gets rest before f) (λ _ rest done ready. p.gets rest done ready))
        (gives_gets ready)

    code_pieces_here : Gets whole (Says (repeat (code_piece (length whole))) start) before (λ _. Ready whole)
    code_pieces_here = among_gets start before ready ((repeat_leads (code_piece (length whole)) (code_piece_leads whole utf8 start before)).gets start before (from_start start ready.cut))

  percent_leads : Leads whole (Ready whole) (Ready whole) (Says (percent (length whole)))
  unfolding percent
  percent_leads = choice_leads (prologue_leads whole utf8) (choice_leads (predicate_leads whole utf8) (record { gets = directive_here }))

  bracketed_leads : Leads whole (Ready whole) (Ready whole) (Says (bracketed (length whole)))
  unfolding bracketed
  bracketed_leads = choice_leads (literal_leads whole utf8)
      (choice_leads (string_leads whole utf8)
      (choice_leads (tag_leads whole utf8)
      (choice_leads (name_leads whole utf8)
      (choice_leads (code_leads whole utf8)
      (odd_word_leads whole utf8)))))

  any_word_leads : Leads whole (Ready whole) (Ready whole) (Says (word (length whole)))
  unfolding word
  any_word_leads = choice_leads percent_leads
      (choice_leads (translatable_leads whole utf8)
      (identifier_leads whole utf8
      (choice_leads (number_leads whole utf8)
      (choice_leads (mark_leads whole utf8)
      bracketed_leads))))

  word_turn_leads : Leads whole (Ready whole) (Ready whole) (Says (word_turn (length whole)))
  unfolding word_turn
  word_turn_leads = then_leads (blank_among whole utf8) (λ _. choice_leads gives_leads any_word_leads)

  words_leads : Leads whole (Ready whole) (Ready whole) (Says (words (length whole)))
  unfolding words
  words_leads = repeat_leads (word_turn (length whole)) word_turn_leads

  epilogue_leads : Leads whole (Ready whole) (Ready whole) (Says (epilogue (length whole)))
  unfolding epilogue
  epilogue_leads = record { gets = λ text done ready. then_gets (emits_gets tt (code_pieces_here text done ready)) }

  -- the second section, and what follows it
  last_leads : Leads whole (Ready whole) (Ready whole) (Says (mark_then (length whole) (epilogue (length whole))))
  last_leads = record { gets = λ text done ready. mark_then_here text done ready (epilogue (length whole)) epilogue_leads }

  sections_leads : Leads whole (Ready whole) (Ready whole) (Says (sections (length whole)))
  unfolding sections
  sections_leads = then_leads words_leads (λ _. record { gets = λ text done ready. mark_then_here text done ready _ (then_leads words_leads (λ _. last_leads)) })

  text_words_leads : Leads whole (Ready whole) (Ready whole) (Says (text_words (length whole)))
  unfolding text_words
  text_words_leads = then_leads (line_number_leads ready_on)
      (λ _. then_leads sections_leads (λ _. record { gets = λ text done ready. word_from_gets whole utf8 text done End ready text done (from_start text ready.cut) tt }))

  pub items_at : AreItemsAt whole 0 (computes (text_words (length whole)) whole).items
  items_at = ((text_words_leads.gets whole 0 (record { cut = cut_here whole; passed = omega arith })).ends _ ((agree (text_words (length whole))).sound whole)).items
