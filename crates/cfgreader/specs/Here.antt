-- Words and blanks of a grammar file, each where it is required. `Says` of a construct is its meaning.
use Rattle.std.specs.Prelude.{ℕ, Bool, true, false, List, not}
use Rattle.std.specs.Option.{option_map_or}
use Rattle.constructs.specs.Pieces.{starts, strip}
use Rattle.constructs.specs.Leaves.{Gives, One, OneOrEnd, Leaves, Less, NoMore}
use Rattle.constructs.specs.Construct.{Construct, ◌>>◌, here, word_or, silently, gives, fails}
use Rattle.cfgbase.specs.declared.span.Span.{Span}
use Rattle.cfgwords.specs.declared.fault.Fault.{Fault}
use Rattle.cfgwords.specs.declared.fault.FaultKind.TheVariants.{IllegalInteger, IllegalName, IllegalString}
use Rattle.cfgwords.specs.Text.{fault_at}
use Rattle.cfgwords.specs.Blank.{passes_line_end}
use Rattle.cfgwords.specs.FileWords.{Word, Token, word_at, token_at, integer_at}
use Rattle.cfgitems.specs.Items.{Item}
use Rattle.cfgreader.specs.FileWordKinds.{name_kind, token_kind, integer_kind, blank_kind, line_rest_kind, epp_string_kind, colon_text_kind}

-- a construct that leaves a shorter rest, as each turn of a repetition must
abbrev pub Strict : Type 0 → Type 1
Strict A = Construct Item Fault Less (One A)

-- a construct that may leave the whole text
abbrev pub Lax : Type 0 → Type 1
Lax A = Construct Item Fault NoMore (One A)

-- a turn of a repetition: a value, or the end
abbrev pub Turn : Type 0 → Type 1
Turn A = Construct Item Fault Less (OneOrEnd A)

-- this is not the text's end
abbrev pub is_open : List ℕ → Bool
is_open text = starts (λ b. true) text

-- the text begins with the word
abbrev pub holds : List ℕ → List ℕ → Bool
holds word text = option_map_or (λ _. true) (strip word text) false

-- len is the whole text's length
module _ (len : ℕ) where
  abbrev pub blank_here : Bool → Lax (Unit {0})
  blank_here lines = silently (blank_kind len lines)

  -- a blank, and whether it stays on its line
  unfoldable pub line_blank : Lax Bool
  line_blank = here (λ text. do
    blank_here true
    here (λ rest. gives (not (passes_line_end text rest))))

  abbrev pub name_here : Strict Word
  name_here = word_or name_kind (word_at len) gives (fails (fault_at len IllegalName))

  -- what a token is followed by, or d if there is no token
  abbrev pub token_or : {l m : Leaves} {G : Gives} → (Token → Construct Item Fault l G) → Construct Item Fault m G → Construct Item Fault m G
  token_or c d = word_or token_kind (token_at len) c d

  abbrev pub token_here : Strict Token
  token_here = token_or gives (fails (fault_at len IllegalString))

  abbrev pub integer_here : Strict (ℕ × Span)
  integer_here = word_or integer_kind (integer_at len) gives (fails (fault_at len IllegalInteger))

  abbrev pub line_rest_here : Lax (List ℕ)
  line_rest_here = silently line_rest_kind

  abbrev pub epp_string_here : Lax (List ℕ)
  epp_string_here = silently (epp_string_kind len)

  abbrev pub colon_text_here : Lax (List ℕ)
  colon_text_here = silently (colon_text_kind len)
