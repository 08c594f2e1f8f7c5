-- What a tree shows, and what is declared more than once.
use Rattle.std.specs.Prelude.{Vec}
use Rattle.std.specs.Borrow.{Bor}
use Rattle.std.specs.declared.alloc.Global.{Global}
use Rattle.cfgbase.specs.declared.span.Span.{Span}
use Rattle.cfgitems.specs.Syntax.{Syntax}
use Rattle.cfgitems.specs.SyntaxView.{syntax_view, unique_view}
use Rattle.cfgitems.specs.declared.occurrence.Unique.{Unique}
use Rattle.cfgast.specs.Duplicates.{Duplicate}
use Rattle.cfgast.specs.declared.ast.GrammarAST.{GrammarAST}

unfoldable pub syntax : GrammarAST → Syntax
syntax ast = syntax_view ast.syntax

-- what is declared more than once, as an entry
abbrev pub duplicate_view : Bor Unique × Vec Span Global → Duplicate
duplicate_view entry = record { what = unique_view entry.0.now; spans = entry.1.items }
