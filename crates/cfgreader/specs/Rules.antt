-- Rules, construct by construct: what follows the first `%%`. `do` is sequence.
use Rattle.std.specs.Prelude.{ℕ, Bool, true, false, ◌==◌, ◌||◌, ◌&&◌, not, Option, Some, None, List, [], ◌∷◌, ◌++◌, option_map, unwrap_or, codes}
use Rattle.std.specs.List.{filter_map}
use Rattle.std.specs.Option.{option_or}
use Rattle.constructs.specs.Pieces.{starts}
use Rattle.constructs.specs.Construct.{◌>>=◌, ◌>>◌, then, case_of, choice, here, again, goes_on, ends, many, repeat, word_or, gives, emits, fails, expect}
use Rattle.cfgbase.specs.declared.span.Span.{Span}
use Rattle.cfgwords.specs.declared.fault.Fault.{Fault}
use Rattle.cfgwords.specs.declared.fault.FaultKind.{FaultKind}
use Rattle.cfgwords.specs.declared.fault.FaultKind.TheVariants.{IllegalString, IncompleteAction, IncompleteRule, MissingColon, MissingRightArrow, NonEmptyProduction, ProductionNotTerminated}
use Rattle.cfgwords.specs.Text.{offset_of, fault_at}
use Rattle.cfgwords.specs.FileWords.{Token, word_of}
use Rattle.cfgwords.specs.Actions.{action_at}
use Rattle.cfgitems.specs.Syntax.{last_of}
use Rattle.cfgitems.specs.Items.{Item, RuleHead, Body, RuleBegun, RuleNamed, TokenQuoted, PrecedenceUsed, Alternative}
use Rattle.cfgkinds.specs.declared.kind.YaccKind.{YaccKind}
use Rattle.cfgkinds.specs.declared.kind.YaccKind.TheVariants.{Grmtools}
use Rattle.cfgreader.specs.FileWordKinds.{action_kind}
use Rattle.cfgreader.specs.Here.{Strict, Lax, Turn, is_open, holds, blank_here, name_here, token_or, token_here, colon_text_here}

-- a part of a production: a symbol, the token after a `%prec`, or an `%empty`, with the offset where it ends
pub data Part : Type 0 where
  SymbolPart : Token → Part
  PrecedencePart : Token → Part
  EmptyPart : ℕ → Part

abbrev pub part_end : Part → ℕ
part_end (SymbolPart token) = token.end
part_end (PrecedencePart token) = token.end
part_end (EmptyPart end) = end

-- what was read of a production: its symbols, the tokens after its `%prec`s, and the offset where its last part ends
pub record Parts : Type 0 where
  pub symbols : List Token
  pub precedences : List Token
  pub end : Option ℕ

abbrev pub no_parts : Parts
no_parts = record { symbols = []; precedences = []; end = None }

abbrev pub symbol_in : Part → Option Token
symbol_in (SymbolPart token) = Some token
symbol_in _ = None

abbrev pub precedence_in : Part → Option Token
precedence_in (PrecedencePart token) = Some token
precedence_in _ = None

-- with more parts added: the symbols and the tokens after `%prec`s among them, and the end of the last one
abbrev pub with_parts : Parts → List Part → Parts
with_parts before more = record {
  symbols = before.symbols ++ filter_map symbol_in more;
  precedences = before.precedences ++ filter_map precedence_in more;
  end = option_or (option_map part_end (last_of more)) before.end;
}

-- where a production without an action ends: after its last part, or, without parts, at the given offset
abbrev pub end_of : Parts → ℕ → ℕ
end_of parts offset_of = unwrap_or parts.end offset_of

abbrev pub body_of : Parts → Option (List ℕ × Span) → Span → Body
body_of parts action span = record { symbols = parts.symbols; precedences = parts.precedences; action = action; span = span }

-- what may follow an `%empty`: `|`, `;`, an action or a `%prec`
abbrev pub may_follow_empty : List ℕ → Bool
may_follow_empty text = starts (λ b. b == 124 || b == 59 || b == 123) text || holds (codes "%prec") text

-- the fault if there is neither a part nor an action: at an opening brace, that no brace balances it
abbrev pub brace_fault : Bool → FaultKind
brace_fault true = IncompleteAction
brace_fault false = IllegalString

abbrev pub is_grmtools : YaccKind → Bool
is_grmtools Grmtools = true
is_grmtools _ = false

-- rules continue until the second `%%` or the end
abbrev pub is_rule_next : List ℕ → Bool
is_rule_next text = is_open text && not (holds (codes "%%") text)

-- a sequence of parts, after those that were read before
unfoldable pub parts_sequence : Turn Part → Parts → Lax Parts
parts_sequence c before = do
  parts ← many c
  gives (with_parts before parts)

-- len is the whole text's length
module _ (len : ℕ) where
  -- a quoted use of a token names the token
  abbrev pub quoted_use : Token → Lax (Unit {0})
  quoted_use token = choice (λ _. token.quoted) (emits (TokenQuoted (word_of token))) (gives tt)

  -- what follows `%prec`
  unfoldable pub precedence : Strict Part
  precedence = do
    blank_here len true
    token ← token_here len
    emits (PrecedenceUsed (word_of token))
    blank_here len true
    gives (PrecedencePart token)

  -- what follows the `%empty` that begins at text, if no symbol precedes it,
  unfoldable pub empty : List ℕ → Lax Part
  empty text = here (λ after. do
    blank_here len true
    choice may_follow_empty (gives (EmptyPart (offset_of len after))) (fails (λ _. fault_at len NonEmptyProduction text)))

  -- and if one does
  unfoldable pub misplaced_empty : List ℕ → Strict Part
  misplaced_empty text = do
    blank_here len true
    fails (λ _. fault_at len NonEmptyProduction text)

  -- a part before the first symbol
  unfoldable pub prefix_part : Turn Part
  prefix_part = here (λ text.
      case_of (codes "%prec") (then precedence again)
      (case_of (codes "%empty") (then (empty text) again)
      ends))

  -- a symbol, if there is one here
  unfoldable pub symbol_part : Turn Part
  symbol_part = token_or len (λ token. do
    blank_here len true
    quoted_use token
    again (SymbolPart token))
      ends

  -- a part from the first symbol on
  unfoldable pub part : Turn Part
  part = here (λ text.
      case_of (codes "%prec") (then precedence again)
      (case_of (codes "%empty") (then (misplaced_empty text) again)
      symbol_part))

  -- the parts before the first symbol, and those from it on
  abbrev pub prefix_parts : Lax Parts
  prefix_parts = parts_sequence prefix_part no_parts

  abbrev pub more_parts : Parts → Lax Parts
  more_parts prefix = parts_sequence part prefix

  -- the fault if there is no `|` or `;`: after an action, and elsewhere in a body
  abbrev pub end_fault : Bool → List ℕ → Fault
  end_fault true text = fault_at len ProductionNotTerminated text
  end_fault false [] = fault_at len IncompleteRule []
  end_fault false (b ∷ text) = fault_at len (brace_fault (b == 123)) (b ∷ text)

  -- whether another production follows: after `|` there is one, and `;` ends the rule
  unfoldable pub another : Bool → Strict Bool
  another has_action =
      case_of (codes "|") (gives true)
      (case_of (codes ";") (gives false)
      (fails (end_fault has_action)))

  -- what follows a production; from there on it counts as read
  unfoldable pub finish : Bool → Item → Turn (Unit {0})
  finish has_action production = do
    follows ← another has_action
    emits production
    blank_here len true
    gives (goes_on follows)

  -- the end of a production that begins at text: its action, if it has one, and what ends it
  unfoldable pub production_end : RuleHead → ℕ → Parts → Turn (Unit {0})
  production_end head start parts = here (λ after.
      word_or action_kind (action_at len)
      (λ action. do
        blank_here len true
        finish true (Alternative head (body_of parts (Some action) (record { start = start; end = offset_of len after }))))
      (finish false (Alternative head (body_of parts None (record { start = start; end = end_of parts (offset_of len after) })))))

  unfoldable pub production : RuleHead → Turn (Unit {0})
  production head = here (λ text. do
    prefix ← prefix_parts
    parts ← more_parts prefix
    production_end head (offset_of len text) parts)

  -- what is between a rule's name and its colon in a Grmtools file
  unfoldable pub rule_type : Strict (Option (List ℕ))
  rule_type = do
    blank_here len true
    expect (codes "->") (fault_at len MissingRightArrow)
    blank_here len true
    action_type ← colon_text_here len
    gives (Some action_type)

  -- what follows a rule's name, or its type
  unfoldable pub rule_body : RuleHead → Strict (Unit {0})
  rule_body head = do
    blank_here len true
    expect (codes ":") (fault_at len MissingColon)
    blank_here len true
    repeat (production head)

  unfoldable pub rule : YaccKind → Strict (Unit {0})
  rule kind = do
    name ← name_here len
    emits (RuleBegun name)
    action_type ← choice (λ _. is_grmtools kind) rule_type (gives None)
    emits (RuleNamed (record { name = name; action_type = action_type }))
    rule_body (record { name = name; action_type = action_type })
