-- Groups of sorts of words, by what may be at some place.
use Rattle.std.specs.Prelude.{Bool, true, false, not}
use Rattle.bison_reader.specs.declared.group.Group.{Group}
use Rattle.bison_reader.specs.declared.group.Group.TheVariants as groups
use Rattle.bison_reader.specs.declared.sort.Declaration.{Declaration}
use Rattle.bison_reader.specs.declared.sort.Declaration.TheVariants.{OnlyCode, Codes, Variable, Expect, ExpectReduceReduce, Text, OptionalText, Flag}
use Rattle.bison_reader.specs.declared.sort.Sort.{Sort}
use Rattle.bison_reader.specs.declared.sort.Sort.TheVariants.{Identifier, Literal, String, Translatable, Number, Tag, OtherTag, Name, Code, Predicate, Prologue, Colon, Semicolon, Bar, Mark, Fault, End}
use Rattle.bison_reader.specs.declared.sort.Sort.TheVariants as sorts

-- whether it may also be among the rules
abbrev pub is_among_rules : Declaration → Bool
is_among_rules OnlyCode = false
is_among_rules Codes = false
is_among_rules Variable = false
is_among_rules Expect = false
is_among_rules ExpectReduceReduce = false
is_among_rules Text = false
is_among_rules OptionalText = false
is_among_rules Flag = false
is_among_rules _ = true

-- whether words of the sort are of the group; colon says whether a colon follows, or a name in brackets and a colon
abbrev pub is_symbol : Sort → Bool → Bool
is_symbol Identifier colon = not colon
is_symbol Literal colon = true
is_symbol String colon = true
is_symbol _ colon = false

abbrev pub is_rule_declaration : Sort → Bool
is_rule_declaration (sorts.Declaration declaration) = is_among_rules declaration
is_rule_declaration _ = false

abbrev pub is_modifier : Sort → Bool
is_modifier (sorts.Modifier modifier) = true
is_modifier (sorts.Declaration Expect) = true
is_modifier (sorts.Declaration ExpectReduceReduce) = true
is_modifier _ = false

abbrev pub ends_production : Sort → Bool → Bool
ends_production Identifier colon = colon
ends_production Bar colon = true
ends_production Semicolon colon = true
ends_production Mark colon = true
ends_production End colon = true
ends_production (sorts.Declaration declaration) colon = is_among_rules declaration
ends_production _ colon = false

abbrev pub belongs : Group → Sort → Bool → Bool
belongs groups.Identifier Identifier colon = not colon
belongs groups.TokenName Identifier colon = not colon
belongs groups.TokenName Literal colon = true
belongs groups.Symbol sort colon = is_symbol sort colon
belongs groups.SymbolOrTag Tag colon = true
belongs groups.SymbolOrTag OtherTag colon = true
belongs groups.SymbolOrTag sort colon = is_symbol sort colon
belongs groups.String String colon = true
belongs groups.AnyString String colon = true
belongs groups.AnyString Translatable colon = true
belongs groups.Number Number colon = true
belongs groups.Code Code colon = true
belongs groups.Predicate Predicate colon = true
belongs groups.Tag Tag colon = true
belongs groups.Name Name colon = true
belongs groups.Colon Colon colon = true
belongs groups.Semicolon Semicolon colon = true
belongs groups.Bar Bar colon = true
belongs groups.Mark Mark colon = true
belongs groups.Head Identifier colon = colon
belongs groups.Value Identifier colon = not colon
belongs groups.Value String colon = true
belongs groups.Value Code colon = true
belongs groups.Declaration (sorts.Declaration declaration) colon = true
belongs groups.RuleDeclaration sort colon = is_rule_declaration sort
belongs groups.Modifier sort colon = is_modifier sort
belongs groups.Ignored Semicolon colon = true
belongs groups.Ignored Prologue colon = true
belongs groups.Fault Fault colon = true
belongs groups.End End colon = true
belongs groups.InDeclaration Mark colon = false
belongs groups.InDeclaration Prologue colon = false
belongs groups.InDeclaration (sorts.Declaration declaration) colon = false
belongs groups.InDeclaration End colon = false
belongs groups.InDeclaration sort colon = true
belongs groups.InRule Semicolon colon = false
belongs groups.InRule Mark colon = false
belongs groups.InRule End colon = false
belongs groups.InRule sort colon = true
belongs groups.ProductionEnd sort colon = ends_production sort colon
belongs groups.RulesEnd Mark colon = true
belongs groups.RulesEnd End colon = true
belongs groups.Any sort colon = true
belongs _ _ colon = false
