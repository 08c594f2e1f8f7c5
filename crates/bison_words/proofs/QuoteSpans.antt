-- Where character literals, strings, tags and names in brackets are.
use Rattle.std.proofs.Common.{◌≡◌, ℕ, Bool, true, List, [], length, refl, arith}
use Rattle.std.specs.Prelude.{codes}
use Rattle.std.specs.Str.{IsUtf8}
use Rattle.constructs.specs.Construct.{Says}
use Rattle.cfgbase.specs.declared.span.Span.{Span}
use Rattle.cfgwords.proofs.Cuts.{IsCut, cut_here, cut_on}
use Rattle.bison_words.specs.declared.class.Class.TheVariants.{Any}
use Rattle.bison_words.specs.declared.words.WordFaultKind.TheVariants.{EmptyLiteral, LongLiteral, IncompleteLiteral, IncompleteString, IncompleteTag, IncompleteName, IllegalName}
use Rattle.bison_words.specs.Words.{Lexeme, Literal, String, Translatable, Tag, AnyTag, NoTag, Name}
use Rattle.bison_words.specs.Quotes.{before as before_rest, literal_of, if_closed, literal_word, literal, string_word, string, translatable}
use Rattle.bison_words.specs.Brackets.{tag_piece, tag_end, tag, name_close, name_end, name}
use Rattle.bison_words.specs.WordSpans.{IsLexemeAt}
use Rattle.bison_words.proofs.Leads.{Gets, Leads, gives_gets, weaker_gets, word_gets}
use Rattle.bison_words.proofs.NestedLeads.{closing_leads}
use Rattle.bison_words.proofs.Passing.{gives_leads, then_leads, choice_leads, later_leads, passes_leads, inner_name_leads, tag_piece_leads}
use Rattle.bison_words.proofs.PieceCuts.{is_ascii_word, first_cut, piece_between}
use Rattle.bison_words.proofs.States.{From, Ready, from_on, from_start, from_ready, after_gets, again_gets, case_from, fault_from_leads, fault_between_leads, odd_between_leads, word_from_gets, word_leads}
use Rattle.bison_words.proofs.CodeFaults.{first_piece}
use Rattle.bison_words.proofs.QuoteFaults.{quoted_leads, quotes_end_leads}
use Rattle.bison_words.proofs.BlankFaults.{blank_leads}

module _ (whole : List ℕ) (utf8 : IsUtf8 whole) where
  module _ (start : List ℕ) (before : ℕ) (ready : Ready whole start before) where
    literal_word_leads : (parts : _) → Leads whole (From whole start before) (Ready whole) (Says (literal_word (length whole) start parts))
    unfolding literal_word
    literal_word_leads parts = then_leads
        (choice_leads (fault_from_leads whole utf8 start before EmptyLiteral) (choice_leads (fault_from_leads whole utf8 start before LongLiteral) gives_leads))
        (λ _. word_leads whole utf8 start before ready (Literal (literal_of parts)) (λ _. tt))

    literal_here : Gets whole (Says (literal (length whole)) start) before (λ _. Ready whole)
    unfolding literal
    literal_here =
        let t = from_start start ready.cut in
        case_from t refl
        (λ opened e f.
        let piece = first_piece whole utf8 start 39 opened ready.cut (omega arith) e in
        after_gets ((quoted_leads whole utf8 (codes "'") start before).gets opened before f)
        (λ parts rest done f. after_gets ((quotes_end_leads whole utf8 start before start (codes "'") IncompleteLiteral refl piece).gets rest done f)
        (λ closed rest done f. again_gets ((literal_word_leads (if_closed closed parts)).gets rest done f))))
        (gives_gets ready)

    string_gets : (close : List ℕ) (lexeme : List ℕ → Lexeme) → is_ascii_word close ≡ true → ((span : Span) (text : List ℕ) → IsLexemeAt whole span (lexeme text))
        → (quote : List ℕ) (done : ℕ) → From whole start before quote done → Gets whole (Says (string_word (length whole) start close lexeme) quote) done (λ _. Ready whole)
    unfolding string_word
    string_gets close lexeme ascii is quote done t =
        case_from t refl
        (λ opened e f.
        let piece = first_piece whole utf8 quote 34 opened (cut_on whole start quote t.origin t.further) (omega arith) e in
        after_gets ((quoted_leads whole utf8 close start before).gets opened done f)
        (λ parts closing done f. after_gets ((quotes_end_leads whole utf8 start before quote close IncompleteString ascii piece).gets closing done f)
        (λ closed rest done f. again_gets (word_from_gets whole utf8 start before (lexeme (before_rest opened closing)) ready rest done f (is _ _)))))
        (gives_gets (from_ready start before ready quote done t))

    string_here : Gets whole (Says (string (length whole)) start) before (λ _. Ready whole)
    unfolding string
    string_here = string_gets (codes "\"") String refl (λ span text. tt) start before (from_start start ready.cut)

    translatable_here : Gets whole (Says (translatable (length whole)) start) before (λ _. Ready whole)
    unfolding translatable
    translatable_here = case_from (from_start start ready.cut) refl (λ rest e f. string_gets (codes "\")") Translatable refl (λ span text. tt) rest before f) (gives_gets ready)

    -- brackets
    tag_end_leads : (opened : List ℕ) (closed : Bool) → IsCut start opened → Leads whole (From whole start before) (Ready whole) (Says (tag_end (length whole) start opened closed))
    unfolding tag_end
    tag_end_leads opened closed cut = choice_leads (word_leads whole utf8 start before ready Tag (λ _. tt))
        (later_leads (from_ready start before ready) (odd_between_leads whole utf8 start opened IncompleteTag ready.cut cut))

    tag_here : Gets whole (Says (tag (length whole)) start) before (λ _. Ready whole)
    unfolding tag
    tag_here =
        let t = from_start start ready.cut in
        case_from t refl (λ rest e f. again_gets ((word_leads whole utf8 start before ready AnyTag (λ _. tt)).gets rest before f))
        (case_from t refl (λ rest e f. again_gets ((word_leads whole utf8 start before ready NoTag (λ _. tt)).gets rest before f))
        (case_from t refl
        (λ opened e f. after_gets ((closing_leads tag_piece (tag_piece_leads from_on)).gets opened before f)
        (λ closed rest done g. again_gets ((tag_end_leads opened closed f.further).gets rest done g)))
        (gives_gets ready)))

    name_close_leads : (close : List ℕ) (proper : Bool) → IsCut whole close → Leads whole (From whole start before) (Ready whole) (Says (name_close (length whole) start close proper))
    unfolding name_close
    name_close_leads close proper cut = then_leads
        (choice_leads gives_leads (fault_between_leads close close IllegalName (piece_between whole close close utf8 cut (cut_here close))))
        (λ _. word_leads whole utf8 start before ready Name (λ _. tt))

    name_end_gets : (opened : List ℕ) (found : Bool) → IsCut start opened → (close : List ℕ) (done : ℕ) → From whole start before close done
        → Gets whole (Says (name_end (length whole) start opened found) close) done (λ _. Ready whole)
    unfolding name_end
    name_end_gets opened found cut close done t = word_gets
        (λ body rest is. (name_close_leads close _ (cut_on whole start close t.origin t.further)).gets rest done (from_on close rest done t (first_cut 93 [] close body rest (omega arith) refl is)))
        (after_gets ((odd_between_leads whole utf8 start opened IncompleteName ready.cut cut).gets close done t)
        (λ _ rest done f. weaker_gets (λ a later last g. from_ready start before ready later last g) ((passes_leads from_on Any).gets rest done f)))

    name_here : Gets whole (Says (name (length whole)) start) before (λ _. Ready whole)
    unfolding name
    name_here = case_from (from_start start ready.cut) refl
        (λ opened e f. after_gets ((blank_leads whole utf8 start before).gets opened before f)
        (λ _ text done t. after_gets ((inner_name_leads from_on).gets text done t)
        (λ found text done t. after_gets ((blank_leads whole utf8 start before).gets text done t)
        (λ _ text done t. again_gets (name_end_gets opened found f.further text done t)))))
        (gives_gets ready)

  pub literal_leads : Leads whole (Ready whole) (Ready whole) (Says (literal (length whole)))
  literal_leads = record { gets = literal_here }

  pub string_leads : Leads whole (Ready whole) (Ready whole) (Says (string (length whole)))
  string_leads = record { gets = string_here }

  pub translatable_leads : Leads whole (Ready whole) (Ready whole) (Says (translatable (length whole)))
  translatable_leads = record { gets = translatable_here }

  pub tag_leads : Leads whole (Ready whole) (Ready whole) (Says (tag (length whole)))
  tag_leads = record { gets = tag_here }

  pub name_leads : Leads whole (Ready whole) (Ready whole) (Says (name (length whole)))
  name_leads = record { gets = name_here }
