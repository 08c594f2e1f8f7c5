-- Directives, by their names after the `%`.
use Rattle.std.specs.Prelude.{ℕ, Bool, true, false, List, [], ◌∷◌, Option, Some, None, codes, bytes_eq, if◌then◌else◌}
use Rattle.bison_words.specs.declared.directive.Directive.{Directive}
use Rattle.bison_words.specs.declared.directive.Directive.TheVariants.{Token, Term, Nterm, SymbolType, Left, Right, Nonassoc, Binary, Precedence, Start, Union, Code, Destructor, Printer, DefaultPrec, NoDefaultPrec, Debug, ErrorVerbose, FixedOutputFiles, GlrParser, Locations, NoLines, NondeterministicParser, PureParser, TokenTable, Verbose, Yacc, FilePrefix, Language, NamePrefix, Output, Require, Skeleton, Define, Defines, Expect, ExpectRr, Header, InitialAction, LexParam, Param, ParseParam, Prec, Empty, Dprec, Merge}

-- each spelling: old names may have `_` in place of any `-`
abbrev pub spellings : List (List ℕ × Directive)
spellings =
    (codes "token", Token)
    ∷ (codes "term", Term)
    ∷ (codes "nterm", Nterm)
    ∷ (codes "type", SymbolType)
    ∷ (codes "left", Left)
    ∷ (codes "right", Right)
    ∷ (codes "nonassoc", Nonassoc)
    ∷ (codes "binary", Binary)
    ∷ (codes "precedence", Precedence)
    ∷ (codes "start", Start)
    ∷ (codes "union", Union)
    ∷ (codes "code", Code)
    ∷ (codes "destructor", Destructor)
    ∷ (codes "printer", Printer)
    ∷ (codes "default-prec", DefaultPrec)
    ∷ (codes "default_prec", DefaultPrec)
    ∷ (codes "no-default-prec", NoDefaultPrec)
    ∷ (codes "no-default_prec", NoDefaultPrec)
    ∷ (codes "no_default-prec", NoDefaultPrec)
    ∷ (codes "no_default_prec", NoDefaultPrec)
    ∷ (codes "debug", Debug)
    ∷ (codes "error-verbose", ErrorVerbose)
    ∷ (codes "error_verbose", ErrorVerbose)
    ∷ (codes "fixed-output-files", FixedOutputFiles)
    ∷ (codes "fixed-output_files", FixedOutputFiles)
    ∷ (codes "fixed_output-files", FixedOutputFiles)
    ∷ (codes "fixed_output_files", FixedOutputFiles)
    ∷ (codes "glr-parser", GlrParser)
    ∷ (codes "locations", Locations)
    ∷ (codes "no-lines", NoLines)
    ∷ (codes "no_lines", NoLines)
    ∷ (codes "nondeterministic-parser", NondeterministicParser)
    ∷ (codes "pure-parser", PureParser)
    ∷ (codes "pure_parser", PureParser)
    ∷ (codes "token-table", TokenTable)
    ∷ (codes "token_table", TokenTable)
    ∷ (codes "verbose", Verbose)
    ∷ (codes "yacc", Yacc)
    ∷ (codes "file-prefix", FilePrefix)
    ∷ (codes "language", Language)
    ∷ (codes "name-prefix", NamePrefix)
    ∷ (codes "name_prefix", NamePrefix)
    ∷ (codes "output", Output)
    ∷ (codes "require", Require)
    ∷ (codes "skeleton", Skeleton)
    ∷ (codes "define", Define)
    ∷ (codes "defines", Defines)
    ∷ (codes "expect", Expect)
    ∷ (codes "expect-rr", ExpectRr)
    ∷ (codes "expect_rr", ExpectRr)
    ∷ (codes "header", Header)
    ∷ (codes "initial-action", InitialAction)
    ∷ (codes "lex-param", LexParam)
    ∷ (codes "param", Param)
    ∷ (codes "parse-param", ParseParam)
    ∷ (codes "prec", Prec)
    ∷ (codes "empty", Empty)
    ∷ (codes "dprec", Dprec)
    ∷ (codes "merge", Merge)
    ∷ []

unfoldable pub named : List (List ℕ × Directive) → List ℕ → Option Directive
named [] name = None
named ((spelling, directive) ∷ others) name = if bytes_eq spelling name then Some directive else named others name

abbrev pub directive_named : List ℕ → Option Directive
directive_named name = named spellings name

-- those that an `=` may follow
abbrev pub takes_equals : Directive → Bool
takes_equals FilePrefix = true
takes_equals NamePrefix = true
takes_equals Output = true
takes_equals _ = false
