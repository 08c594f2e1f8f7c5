use Rattle.std.proofs.Common.{List, Bool, Option, ℕ, false, length, replicate, ap, refl, sym, subst, ◌∙◌}
use Rattle.std.specs.List.{flat_map}
use Rattle.std.proofs.lemmas.List.{length-replicate}
use Rattle.cfgrammar.specs.Span.{Span}
use Rattle.cfgrammar.specs.SyntaxView.{precedence_entry}
use Rattle.cfgrammar.specs.TreeView.{syntax}
use Rattle.cfgfindings.specs.Findings.{IsUsed}
use Rattle.cfgfindings.specs.Inner.Marks.{Marks, precedence_keys, production_names}
use Rattle.cfgfindings.proofs.Marking.{are_marked, entry_count, from_used, marks_none, marks_then, table_names, used, used_names}
use Rattle.cfgfindings.proofs.precedences.used_tokens.Goals as goal
use Rattle.cfgfindings.proofs.precedences.used_tokens.Goals.{in-Some, in_default}

pub mark_productions-requires : goal.mark_productions-requires
mark_productions-requires c =
    ap length c.in_ok-used.ensures ∙ length-replicate c.len.result false ∙ c.len.ensures.len
    ∙ entry_count precedence_entry (λ e. refl) c.precs.result.now.entries (syntax c.args.ast.now).tables.precedences c.precs.ensures

pub mark_table-requires : goal.mark_table-requires
mark_table-requires c =
    c.mark_productions.ensures.shape ∙ ap length c.in_ok-used.ensures ∙ length-replicate c.len.result false ∙ c.len.ensures.len
    ∙ entry_count precedence_entry (λ e. refl) c.precs.result.now.entries (syntax c.args.ast.now).tables.precedences c.precs.ensures

pub returns : goal.returns
returns c =
    let s = syntax c.args.ast.now in
    let none = replicate c.len.result false in
    let mid = c.mark_productions.new.marks in
    let new = c.match-implicit_tokens.used in
    let held : Marks (precedence_keys s) (flat_map production_names s.productions) none mid =
    subst (λ (old : List Bool). Marks (precedence_keys s) (flat_map production_names s.productions) old mid) c.in_ok-used.ensures c.mark_productions.ensures in
    let implicit : Marks (precedence_keys s) (table_names s.tables.implicit_tokens) mid new = elim c.match-implicit_tokens.branch [
      | in-Some w ↦
          subst (λ (o : Option (List (List ℕ × Span))). Marks (precedence_keys s) (table_names o) mid new) (rw w.in-Some.is at c.implicit_tokens.ensures)
          (subst (Marks (precedence_keys s) _ mid) (sym w.used-is) w.mark_table.ensures)
      | in_default w ↦
          subst (λ (o : Option (List (List ℕ × Span))). Marks (precedence_keys s) (table_names o) mid new) (rw w.in_default.is at c.implicit_tokens.ensures)
          (subst (Marks (precedence_keys s) _ mid) (sym w.used-is) (marks_none (precedence_keys s) mid))
    ] in
    are_marked (precedence_keys s) (IsUsed s) (used_names s) (used s) (from_used s) c.len.result new (marks_then (precedence_keys s) _ _ none mid new held implicit)
