use Rattle.std.proofs.Common.{◌≡◌, List, Option, All, option_map, refl, sym, subst, ap, ◌∙◌}
use Rattle.std.specs.Prelude.{IfOk}
use Rattle.cfgsyntax.specs.Faults.{all_errors, errors_of}
use Rattle.cfgsyntax.specs.Inner.Steps.{stop_view}
use Rattle.cfgsyntax.specs.Reads.{Reads, Stop}
use Rattle.cfgast.specs.Check.{check_of}
use Rattle.cfgast.specs.TreeView.{syntax}
use Rattle.cfgast.specs.WellFormed.{IsWellFormed}
use Rattle.cfgast.proofs.WellFormedLemmas.{syntax_of-IsWellFormed}
use Rattle.cfgwords.proofs.NameStarts.{begins_as_name}
use Rattle.cfgwords.specs.TextSpans.{IsPiece, IsWithin}
use Rattle.cfgitems.specs.Items.{Item}
use Rattle.cfgitems.specs.Syntax.{EachSpan, syntax_of}
use Rattle.cfgsyntax.proofs.ErrorOffsets.{IsErrorAt, read_syntax_at, read_names, read_errors_at}
use Rattle.cfgsyntax.proofs.SoundLemmas.{of_reading, checked, errors_read}
use Rattle.cfgsyntax.proofs.yacc.ast.ASTWithValidityInfo.read.Goals as goal

-- the tree is the one that was read
same_syntax : (c : goal.In_ok-ast-2) → syntax c.in_ok-ast-2.ast ≡ syntax c.in_ok-ast.ast
same_syntax c = ap syntax c.in_ok-ast-2.ensures.made.0

-- the errors are those that were found
found : (c : goal.In_ok-ast-2) → c.in_ok-ast-2.errors.items ≡ all_errors (syntax c.in_ok-ast.ast) (option_map stop_view c.in_ok-ast.stop)
found c = subst (λ made. IfOk made (λ errors. errors.items ≡ all_errors (syntax c.in_ok-ast.ast) (option_map stop_view c.in_ok-ast.stop)))
    c.in_ok-ast-2.ensures.made.1 c.errors_found-errors.ensures

syntax_is : (c : goal.In_ok-ast-2) (items : List Item) (stop : Option Stop) → Reads c.args.kind c.args.text.now items stop
    → syntax c.in_ok-ast-2.ast ≡ syntax_of items
syntax_is c items stop reads = same_syntax c ∙ (c.in_ok-ast.ensures.read items stop reads).0

errors_are : (c : goal.In_ok-ast-2) (items : List Item) (stop : Option Stop) → Reads c.args.kind c.args.text.now items stop
    → c.in_ok-ast-2.errors.items ≡ errors_of items stop
errors_are c items stop reads =
    errors_read c.in_ok-ast-2.errors.items _ (option_map stop_view c.in_ok-ast.stop) items stop (found c) (c.in_ok-ast.ensures.read items stop reads)

pub returns-clause-parsed : goal.returns-clause-parsed
returns-clause-parsed c = record { one = c.in_ok-ast.ensures.one; kind_is = refl; syntax = syntax_is c; errors = errors_are c }

pub returns-clause-offsets : goal.returns-clause-offsets
returns-clause-offsets c =
    let one = c.in_ok-ast.ensures.one in
    let errors = errors_are c one.items one.stop one.reads in
    record {
      errors = subst (All (IsErrorAt c.args.text.now)) (sym errors) (read_errors_at c.args.kind c.args.text.now c.utf8.text one.items one.stop one.reads);
      syntax = of_reading c.args.kind c.args.text.now _ (EachSpan (IsPiece c.args.text.now) (IsWithin c.args.text.now)) one
          (syntax_is c) (read_syntax_at c.args.kind c.args.text.now c.utf8.text);
    }

pub invariant_of-result : goal.invariant_of-result
invariant_of-result c =
    let read = of_reading c.args.kind c.args.text.now _ (λ s. IsWellFormed s × All (λ rule. begins_as_name rule.0) s.rules)
    c.in_ok-ast.ensures.one (syntax_is c)
    (λ items stop reads. (syntax_of-IsWellFormed items, read_names c.args.kind c.args.text.now c.utf8.text items stop reads)) in
    record {
      well_formed = read.0;
      rules_are_names = read.1;
      checked = checked c.in_ok-ast-2.errors.items _ _ (check_of _) (found c ∙ ap (λ s. all_errors s (option_map stop_view c.in_ok-ast.stop)) (sym (same_syntax c)));
    }
