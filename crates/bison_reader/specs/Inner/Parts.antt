-- A symbol or code in a production, with the name in brackets after it.
use Rattle.std.specs.Prelude.{ℕ, List}
use Rattle.constructs.specs.Construct.{◌>>=◌, gives}
use Rattle.bison_reader.specs.declared.item.Part.{Part}
use Rattle.bison_reader.specs.declared.item.PartKind.{PartKind}
use Rattle.bison_reader.specs.declared.sort.Sort.{Sort}
use Rattle.bison_reader.specs.Here.{Lax}
use Rattle.bison_reader.specs.Rules.{part_of, with_name}

abbrev pub named_part : List Sort → PartKind → ℕ → Lax Part
named_part words kind word = do
  last ← with_name words word
  gives (part_of kind word last)
