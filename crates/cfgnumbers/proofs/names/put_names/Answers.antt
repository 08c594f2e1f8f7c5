use Rattle.std.proofs.Common.{Some, option_map, string_bytes, sym, ap, ◌∙◌}
use Rattle.std.specs.Map.Iter.{deref_pair}
use Rattle.std.proofs.lemmas.Option.{slice_get-map}
use Rattle.cfgindex.specs.declared.idxnewtype.TIdx.{TIdx}
use Rattle.cfgnumbers.specs.TablesView.{names}
use Rattle.cfgnumbers.proofs.Lookups.{names-distinct, token_put}
use Rattle.cfgnumbers.proofs.names.put_names.Goals as goal

pub loop-index-preserved : goal.loop-index-preserved
loop-index-preserved g c =
    let entries = c.args.rows.now.entries in
    let at = slice_get-map (λ e. string_bytes e.0) entries c.loop-index.index
    ∙ ap (option_map (λ e. string_bytes e.0)) (sym c.get_index.ensures.entry ∙ ap (option_map deref_pair) c.unwrap.ensures) ∙ ap Some (sym c.as_str.ensures.value) in
    token_put (λ (x : TIdx g.row.S.Denot). g.S.Storage.number x.0) c.loop-index.map c.insert.new.self c.as_str.result.now (record { 0 = c.to_storage.result }) c.in_ok-insert.ensures.updates
    (names entries) c.loop-index.index c.to_storage.ensures (names-distinct entries c.len-index-end.ensures.unique) at c.loop-index.invariant
