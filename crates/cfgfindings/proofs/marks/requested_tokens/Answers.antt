use Rattle.std.proofs.Common.{Bool, List, false, length, string_bytes, ap, sym, subst, ◌∙◌}
use Rattle.std.specs.List.{flat_map}
use Rattle.std.proofs.lemmas.List.{length-map, length-replicate}
use Rattle.cfgrammar.specs.TreeView.{syntax}
use Rattle.cfgfindings.specs.Findings.{IsRequested}
use Rattle.cfgfindings.specs.Inner.Marks.{Marks, requested_names}
use Rattle.cfgfindings.proofs.Marking.{are_marked, from_requests, requests}
use Rattle.cfgfindings.proofs.marks.requested_tokens.Goals as goal

pub mark_productions-requires : goal.mark_productions-requires
mark_productions-requires c =
    ap length c.in_ok-requested.ensures ∙ length-replicate c.len.result false ∙ c.len.ensures.len
    ∙ sym (length-map c.tokens.result.now.keys string_bytes) ∙ ap length c.tokens.ensures

pub returns : goal.returns
returns c =
    let s = syntax c.args.ast.now in
    let new = c.mark_productions.new.marks in
    are_marked s.tokens (IsRequested s) (flat_map requested_names s.productions) (requests s) (from_requests s) c.len.result new
    (subst (λ (old : List Bool). Marks s.tokens (flat_map requested_names s.productions) old new) c.in_ok-requested.ensures c.mark_productions.ensures)
