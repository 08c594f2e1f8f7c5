-- The kinds of words and of other pieces in a grammar file. Each includes the proofs that its program finds exactly it, so this file refers
-- to proofs.
use Rattle.std.specs.Prelude.{ℕ, Bool, List}
use Rattle.constructs.specs.WordKind.{WordKind}
use Rattle.constructs.specs.Silent.{PieceKind}
use Rattle.cfgwords.specs.declared.fault.Fault.{Fault}
use Rattle.cfgwords.specs.Actions.{IsAction, action_of}
use Rattle.cfgwords.specs.Blank.{Blank, blank}
use Rattle.cfgwords.specs.ColonText.{ColonText, colon_text}
use Rattle.cfgwords.specs.Strings.{EppString, epp_string}
use Rattle.cfgwords.specs.FileWords.{TokenText, IsName, IsToken, IsInteger, LineRest, name_of, token_of, integer_of, line_rest}
use Rattle.cfgwords.proofs.Blanks.{blank_graph, blank_no_longer}
use Rattle.cfgwords.proofs.ColonTexts.{colon_text_graph, colon_text_no_longer}
use Rattle.cfgwords.proofs.EppStrings.{epp_string_graph, epp_string_no_longer}
use Rattle.cfgwords.proofs.Finders.{name_finder, name_shorter, token_finder, token_shorter, integer_finder, integer_shorter, action_finder, action_shorter}
use Rattle.cfgwords.proofs.LineRests.{line_rest_graph, line_rest_no_longer}

abbrev pub name_kind : WordKind (List ℕ)
name_kind = record { Is = IsName; find = name_of; finds = name_finder; shortens = name_shorter }

abbrev pub token_kind : WordKind TokenText
token_kind = record { Is = IsToken; find = token_of; finds = token_finder; shortens = token_shorter }

abbrev pub integer_kind : WordKind ℕ
integer_kind = record { Is = IsInteger; find = integer_of; finds = integer_finder; shortens = integer_shorter }

abbrev pub action_kind : WordKind (List ℕ)
action_kind = record { Is = IsAction; find = action_of; finds = action_finder; shortens = action_shorter }

abbrev pub line_rest_kind : PieceKind Fault (List ℕ)
line_rest_kind = record { Is = LineRest; reads = line_rest; graph = line_rest_graph; no_longer = line_rest_no_longer }

-- len is the whole text's length
module _ (len : ℕ) where
  abbrev pub blank_kind : Bool → PieceKind Fault (Unit {0})
  blank_kind lines = record { Is = Blank len lines; reads = blank len lines; graph = blank_graph len lines; no_longer = blank_no_longer len lines }

  abbrev pub epp_string_kind : PieceKind Fault (List ℕ)
  epp_string_kind = record { Is = EppString len; reads = epp_string len; graph = epp_string_graph len; no_longer = epp_string_no_longer len }

  abbrev pub colon_text_kind : PieceKind Fault (List ℕ)
  colon_text_kind = record { Is = ColonText len; reads = colon_text len; graph = colon_text_graph len; no_longer = colon_text_no_longer len }
