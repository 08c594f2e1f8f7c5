use Rattle.std.proofs.Common.{◌≡◌, subst, sym, ◌∙◌}
use Rattle.std.specs.Map.{lookup}
use Rattle.indexmap.proofs.CallerLemmas.{insert_entry-new}
use Rattle.lemmas.proofs.Options.{None-from_is_some}
use Rattle.lr_conflicts.specs.contracts.examples.nodes.NodePartialEq.TheImpl.{ghosts as compared}
use Rattle.lr_conflicts.specs.Inner.Searches.{setting}
use Rattle.lr_conflicts.specs.Inner.Ways.{HasNode}
use Rattle.lr_conflicts.proofs.Found.{finds_known, finds_one}
use Rattle.lr_conflicts.proofs.Compared.{known_step}
use Rattle.lr_conflicts.proofs.examples.ways.Ways.add.Goals as goal

pub returns-in_ok-insert : goal.returns-in_ok-insert
returns-in_ok-insert c =
    let w = setting c.args.self.now in
    let absent = None-from_is_some (lookup (compared.eq c.args.node) c.args.found.now.entries) (sym c.contains_key.ensures ∙ c.if-not-contains_key.true) in
    finds_one w c.args.node c.args.step c.args.found.now.entries c.insert.new.self.entries
    (c.in_ok-insert.ensures.entries ∙ insert_entry-new compared.eq c.args.found.now c.args.node c.args.step absent) c.requires.shown

pub returns-else-not-contains_key : goal.returns-else-not-contains_key
returns-else-not-contains_key c =
    let w = setting c.args.self.now in
    let known = known_step c.args.node c.args.found.now.entries (sym c.contains_key.ensures ∙ c.if-not-contains_key.false) in
    finds_known w (λ n. n ≡ c.args.node) c.args.found.now.entries
    (λ n same. subst (HasNode c.args.found.now.entries) (sym same) known)
