use Rattle.std.proofs.Common.{◌≡◌, ◌<◌, ◌+◌, [], ◌∷◌, Some, None, String, Global, arith, length, take, sym, subst, ◌∙◌}
use Rattle.std.specs.List.{flat_map}
use Rattle.std.proofs.lemmas.List.Concat.{flat_map_single}
use Rattle.std.proofs.lemmas.Option.{get_or_from_slice_get}
use Rattle.std.proofs.lemmas.Simd.{map-map}
use Rattle.cfgrammar.proofs.Elements.{element_at}
use Rattle.cfgrammar.specs.Span.{Span}
use Rattle.cfgrammar.specs.Syntax.{entry_name}
use Rattle.cfgrammar.specs.SyntaxView.{span_entry}
use Rattle.cfgrammar.specs.TreeView.{syntax}
use Rattle.cfgfindings.specs.Inner.Marks.{Marks, precedence_keys}
use Rattle.cfgfindings.proofs.Marking.{marks_all, marks_more, marks_none}
use Rattle.cfgfindings.proofs.precedences.mark_table.Goals as goal
use Rattle.cfgfindings.proofs.precedences.mark_table.Goals.{in-Some, in_default}

pub loop-index-init : goal.loop-index-init
loop-index-init c = marks_none _ _

pub mark-requires : goal.mark-requires
mark-requires c = c.loop-index.invariant.shape ∙ c.requires

pub loop-index-preserved : goal.loop-index-preserved
loop-index-preserved c =
    let s = syntax c.args.ast.now in
    let entries = c.args.table.now.entries in
    let index = c.loop-index.index in
    let names = λ (entry : String Global × Span). entry_name (span_entry entry) ∷ [] in
    let within : index < length entries = omega (arith, c.loop-index-test.true, c.len-index-end.ensures.len) in
    elim c.match-get_index.branch [
      | in-Some w ↦
          let at = sym w.in-Some.ensures.entry in
          subst (Marks (precedence_keys s) (flat_map names (take (index + 1) entries)) c.args.used.now) (sym w.used-is)
          (marks_more (precedence_keys s) names entries index _ _ _ _ within (sym (get_or_from_slice_get entries index _ _ at)) c.loop-index.invariant
          (subst (λ name. Marks (precedence_keys s) (name ∷ []) c.loop-index.used w.mark.new.marks) w.deref.ensures w.mark.ensures))
      | in_default w ↦
          let (entry, at) = element_at entries index within in
          let no : None ≡ Some entry = w.in_default.ensures.entry ∙ at in cc
    ]

pub returns : goal.returns
returns c =
    let entries = c.args.table.now.entries in
    let names = λ (entry : String Global × Span). entry_name (span_entry entry) ∷ [] in
    subst (λ all. Marks (precedence_keys (syntax c.args.ast.now)) all c.args.used.now c.loop-index.used)
    (flat_map_single (λ (entry : String Global × Span). entry_name (span_entry entry)) entries ∙ sym (map-map entry_name span_entry entries))
    (marks_all _ names entries _ _ _ (omega (arith, c.loop-index-test.false, c.len-index-end.ensures.len)) c.loop-index.invariant)
