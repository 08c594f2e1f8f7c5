-- The kinds of words in a section. Each includes the proofs that its program finds exactly it, so this file refers to proofs.
use Rattle.std.specs.Prelude.{ℕ, List}
use Rattle.constructs.specs.WordKind.{WordKind}
use Rattle.cfgwords.specs.SectionWords.{IsName, IsText, name_of, text_of}
use Rattle.cfgwords.specs.FileWords.{IsInteger, integer_of}
use Rattle.cfgwords.proofs.Finders.{integer_finder, integer_shorter}
use Rattle.cfgwords.proofs.SectionFinders.{name_finder, name_shorter, text_finder, text_shorter}

abbrev pub name_kind : WordKind (List ℕ)
name_kind = record { Is = IsName; find = name_of; finds = name_finder; shortens = name_shorter }

abbrev pub text_kind : WordKind (List ℕ)
text_kind = record { Is = IsText; find = text_of; finds = text_finder; shortens = text_shorter }

abbrev pub integer_kind : WordKind ℕ
integer_kind = record { Is = IsInteger; find = integer_of; finds = integer_finder; shortens = integer_shorter }
