-- What users name in their own contracts and theorems: each file with definitions that a contract of a public call cites, under its name,
-- and after these the types themselves, which name their variants.

-- Spans, and lines of a text.
pub use Rattle.cfgbase.specs.Locations
pub use Rattle.cfgbase.specs.Spans
pub use Rattle.cfglines.specs.Characters
pub use Rattle.cfglines.specs.FeedTexts
pub use Rattle.cfglines.specs.Lines
pub use Rattle.cfgrender.specs.Render
pub use Rattle.cfgrender.specs.Visible
-- Indices, and the marked map.
pub use Rattle.cfgindex.specs.SymbolCopies
pub use Rattle.cfgindex.specs.BitWords
pub use Rattle.cfgmarks.specs.FaultTexts
pub use Rattle.cfgmarks.specs.MarkEntry
pub use Rattle.cfgmarks.specs.MarkLends
pub use Rattle.cfgmarks.specs.MarkSame
pub use Rattle.cfgmarks.specs.MarkWord
pub use Rattle.cfgmarks.specs.Marks
pub use Rattle.cfgmarks.specs.MergeFaults
pub use Rattle.cfgmarks.specs.Merging
-- Grammars, what they derive, and what that costs.
pub use Rattle.derivation.specs.Grammar
pub use Rattle.derivation.specs.Derivation
pub use Rattle.derivation.specs.Concatenation
pub use Rattle.derivation.specs.Tree
pub use Rattle.derivation.specs.Sentence
pub use Rattle.derivation.specs.Productive
pub use Rattle.derivation.specs.First
pub use Rattle.derivation.specs.Follow
pub use Rattle.derivation.specs.Path
pub use Rattle.derivation.specs.Costs
pub use Rattle.derivation.specs.Cycles
pub use Rattle.derivation.specs.UnitPaths
pub use Rattle.derivation.specs.Uses
pub use Rattle.derivation.specs.FirstSets
pub use Rattle.derivation.specs.FollowSets
pub use Rattle.derivation.specs.Sums
pub use Rattle.derivation.specs.CostLists
pub use Rattle.derivation.specs.CostErrorTexts
pub use Rattle.cfgtables.specs.NumberedSymbols
pub use Rattle.cfgtables.specs.Openings
pub use Rattle.cfgcycles.specs.CyclicGroups
pub use Rattle.cfgcycles.specs.StepLists
pub use Rattle.cfgcycles.specs.StepPaths
pub use Rattle.cfgcycles.specs.UnitSteps
pub use Rattle.cfgsets.specs.Table
pub use Rattle.cfganalysis.specs.Firsts
pub use Rattle.cfganalysis.specs.Follows
pub use Rattle.cfganalysis.specs.Paths
pub use Rattle.cfganalysis.specs.ProductiveRules
pub use Rattle.cfgleast.specs.Certificate
pub use Rattle.cfgleast.specs.Generator
pub use Rattle.cfgchoices.specs.Splits
pub use Rattle.cfgchoices.specs.Chains
pub use Rattle.cfgchoices.specs.FirstSentence
pub use Rattle.cfgcosts.specs.Sentences
pub use Rattle.cfgcosts.specs.DerivedBy
-- How a text is read, and the words, sections and declarations of a Yacc file.
pub use Rattle.constructs.specs.Construct
pub use Rattle.constructs.specs.Graph
pub use Rattle.constructs.specs.Leaves
pub use Rattle.constructs.specs.Pieces
pub use Rattle.constructs.specs.Read
pub use Rattle.constructs.specs.Silent
pub use Rattle.constructs.specs.Steps
pub use Rattle.constructs.specs.Turns
pub use Rattle.constructs.specs.WordKind
pub use Rattle.cfgwords.specs.Actions
pub use Rattle.cfgwords.specs.Blank
pub use Rattle.cfgwords.specs.Bytes
pub use Rattle.cfgwords.specs.ColonText
pub use Rattle.cfgwords.specs.Passed
pub use Rattle.cfgwords.specs.TextSpans
pub use Rattle.cfgwords.specs.SectionWords
pub use Rattle.cfgwords.specs.Strings
pub use Rattle.cfgwords.specs.Text
pub use Rattle.cfgwords.specs.FileWords
pub use Rattle.cfgerrors.specs.Errors
pub use Rattle.cfgerrors.specs.HeaderErrors
pub use Rattle.cfgerrors.specs.HeaderTexts
pub use Rattle.cfgerrors.specs.Refusal
pub use Rattle.cfgerrors.specs.ErrorTexts
pub use Rattle.cfgerrors.specs.Warnings
pub use Rattle.cfgerrors.specs.WarningTexts
pub use Rattle.cfghints.specs.Hints
pub use Rattle.cfgkinds.specs.YaccKinds
pub use Rattle.cfgkinds.specs.SameValues
pub use Rattle.cfgkinds.specs.ValueErrorTexts
pub use Rattle.cfgkinds.specs.Values
pub use Rattle.cfgsection.specs.SectionWordKinds
pub use Rattle.cfgsection.specs.Named
pub use Rattle.cfgsection.specs.SectionRefusal
pub use Rattle.cfgsection.specs.SectionErrors
pub use Rattle.cfgsection.specs.SectionGrammar
pub use Rattle.cfgsection.specs.SectionOffsets
pub use Rattle.cfgsection.specs.SectionReads
pub use Rattle.cfgsection.specs.SectionTexts
pub use Rattle.cfgheader.specs.Headers
pub use Rattle.cfgreader.specs.Declarations
pub use Rattle.cfgreader.specs.FileGrammar
pub use Rattle.cfgreader.specs.Here
pub use Rattle.cfgreader.specs.Keywords
pub use Rattle.cfgreader.specs.FileWordKinds
pub use Rattle.cfgreader.specs.Rules
-- The syntax of a file, the tree that stores it, and the tables made from it.
pub use Rattle.cfgitems.specs.Items
pub use Rattle.cfgitems.specs.Occurrences
pub use Rattle.cfgitems.specs.Syntax
pub use Rattle.cfgitems.specs.Building
pub use Rattle.cfgitems.specs.SyntaxView
pub use Rattle.cfgast.specs.Check
pub use Rattle.cfgast.specs.Duplicates
pub use Rattle.cfgast.specs.Sound
pub use Rattle.cfgast.specs.TreeView
pub use Rattle.cfgast.specs.WellFormed
pub use Rattle.cfgast.specs.Unused
pub use Rattle.cfgast.specs.Writing
pub use Rattle.cfgnumbers.specs.Fits
pub use Rattle.cfgnumbers.specs.Numbered
pub use Rattle.cfgnumbers.specs.Accessors
pub use Rattle.cfgnumbers.specs.TablesView
pub use Rattle.cfgnumbers.specs.WellNumbered
pub use Rattle.cfgvalidation.specs.EveryError
pub use Rattle.cfgfaults.specs.FaultErrors
pub use Rattle.cfgfaults.specs.StartFaultTexts
pub use Rattle.cfgsyntax.specs.Faults
pub use Rattle.cfgsyntax.specs.SelfNamed
pub use Rattle.cfgsyntax.specs.Parsed
pub use Rattle.cfgsyntax.specs.Reads
pub use Rattle.cfgsyntax.specs.ErrorSpans
pub use Rattle.cfgsyntax.specs.Starts
pub use Rattle.cfgyacc.specs.Answer
pub use Rattle.cfgyacc.specs.Counting
pub use Rattle.cfgyacc.specs.GrammarOf
pub use Rattle.cfgyacc.specs.TokenNames
pub use Rattle.cfgyacc.specs.GrammarSpans
-- Yacc and Bison files: their words, what these say, the tree of that, what is wrong with it, and the grammar.
pub use Rattle.bison_words.specs.Blanks as BisonBlanks
pub use Rattle.bison_words.specs.Brackets as BisonBrackets
pub use Rattle.bison_words.specs.Bytes as BisonBytes
pub use Rattle.bison_words.specs.Code as BisonCode
pub use Rattle.bison_words.specs.Digits as BisonDigits
pub use Rattle.bison_words.specs.Directives as BisonDirectives
pub use Rattle.bison_words.specs.Here as BisonWordHere
pub use Rattle.bison_words.specs.Names as BisonWordNames
pub use Rattle.bison_words.specs.Nested as BisonNested
pub use Rattle.bison_words.specs.NestedHere as BisonNestedHere
pub use Rattle.bison_words.specs.Quotes as BisonQuotes
pub use Rattle.bison_words.specs.Runs as BisonRuns
pub use Rattle.bison_words.specs.TextWords as BisonTextWords
pub use Rattle.bison_words.specs.WordKinds as BisonWordKinds
pub use Rattle.bison_words.specs.Words as BisonWords
pub use Rattle.bison_reader.specs.Declarations as BisonDeclarations
pub use Rattle.bison_reader.specs.FileGrammar as BisonFileGrammar
pub use Rattle.bison_reader.specs.Groups as BisonGroups
pub use Rattle.bison_reader.specs.Here as BisonItemHere
pub use Rattle.bison_reader.specs.Items as BisonItems
pub use Rattle.bison_reader.specs.Rules as BisonRules
pub use Rattle.bison_reader.specs.Sorts as BisonSorts
pub use Rattle.bison_tree.specs.Names as BisonTreeNames
pub use Rattle.bison_tree.specs.Productions as BisonProductions
pub use Rattle.bison_tree.specs.Tokens as BisonTokens
pub use Rattle.bison_tree.specs.Tree as BisonTree
pub use Rattle.bison_errors.specs.Errors as BisonErrors
pub use Rattle.bison_errors.specs.ErrorSpans as BisonErrorSpans
pub use Rattle.bison_errors.specs.ErrorTexts as BisonErrorTexts
pub use Rattle.bison_errors.specs.ErrorWords as BisonErrorWords
pub use Rattle.bison_errors.specs.Reading as BisonReading
pub mod BisonParsedFile
pub mod BisonErrorPlaces
pub mod BisonAnswer
pub mod BisonFaultTexts
-- Lists.
pub use Rattle.lemmas.specs.Lists
-- Types.
pub use Rattle.cfgbase.specs.declared.span.Span
pub use Rattle.cfgbase.specs.declared.span.Location
pub use Rattle.cfgbase.specs.declared.span.SpansKind
pub use Rattle.cfgindex.specs.declared.idxnewtype.RIdx
pub use Rattle.cfgindex.specs.declared.idxnewtype.PIdx
pub use Rattle.cfgindex.specs.declared.idxnewtype.SIdx
pub use Rattle.cfgindex.specs.declared.idxnewtype.TIdx
pub use Rattle.cfgindex.specs.declared.idxnewtype.Symbol
pub use Rattle.cfglines.specs.declared.newlinecache.FeedError
pub use Rattle.cfgrender.specs.declared.column_unit.ColumnUnit
pub use Rattle.cfgrender.specs.declared.source.Source
pub use Rattle.cfgrender.specs.declared.visible.Visible as VisibleText
pub use Rattle.cfgmarks.specs.declared.markmap.behavior.MergeBehavior
pub use Rattle.cfgmarks.specs.declared.markmap.fault.MergeError
pub use Rattle.cfgmarks.specs.declared.markmap.fault.MergeFault
pub use Rattle.derivation.specs.declared.errors.CostError
pub use Rattle.cfgcosts.specs.declared.errors.SentenceError
pub use Rattle.cfgcycles.specs.declared.groups.CyclicGroup
pub use Rattle.cfgcycles.specs.declared.step_paths.UnitStep
pub use Rattle.cfgerrors.specs.declared.header.HeaderErrorKind
pub use Rattle.cfgerrors.specs.declared.header.HeaderError
pub use Rattle.cfgerrors.specs.declared.error.YaccGrammarErrorKind
pub use Rattle.cfgerrors.specs.declared.error.YaccGrammarError
pub use Rattle.cfgerrors.specs.declared.error.YaccFault
pub use Rattle.cfgerrors.specs.declared.warning.YaccGrammarWarningKind
pub use Rattle.cfgerrors.specs.declared.warning.YaccGrammarWarning
pub use Rattle.cfghints.specs.declared.hint.Hint
pub use Rattle.cfgkinds.specs.declared.value.Namespaced
pub use Rattle.cfgkinds.specs.declared.value.Setting
pub use Rattle.cfgkinds.specs.declared.value.Value
pub use Rattle.cfgkinds.specs.declared.value.HeaderValue
pub use Rattle.cfgkinds.specs.declared.kind.YaccOriginalActionKind
pub use Rattle.cfgkinds.specs.declared.kind.YaccKind
pub use Rattle.cfgkinds.specs.declared.fault.KindFault
pub use Rattle.cfgsection.specs.declared.section.header_fault.HeaderFault
pub use Rattle.cfgitems.specs.declared.symbol.Symbol as AstSymbol
pub use Rattle.cfgitems.specs.declared.production.Production as AstProduction
pub use Rattle.cfgitems.specs.declared.rule.Rule as AstRule
pub use Rattle.cfgitems.specs.declared.precedence.AssocKind
pub use Rattle.cfgitems.specs.declared.precedence.Precedence
pub use Rattle.cfgast.specs.declared.ast.GrammarAST
pub use Rattle.cfgsyntax.specs.declared.yacc.ast.ASTWithValidityInfo
pub use Rattle.cfgfaults.specs.declared.source.KindSource
pub use Rattle.cfgfaults.specs.declared.start.ASTModificationError
pub use Rattle.cfgfaults.specs.declared.start.StartFault
pub use Rattle.cfgyacc.specs.declared.grammar.tables.YaccGrammar
pub use Rattle.bison_words.specs.declared.words.WordFaultKind as BisonWordFaultKind
pub use Rattle.bison_reader.specs.declared.item.Associativity
pub use Rattle.bison_reader.specs.declared.item.Expected as BisonExpected
pub use Rattle.bison_errors.specs.declared.error.ErrorKind as BisonErrorKind
pub use Rattle.bison_errors.specs.declared.error.Error as BisonError
pub use Rattle.cfgrammar.specs.declared.bison.fault.BisonFault
pub use Rattle.cfgrammar.specs.declared.bison.file.BisonFile
