use Rattle.std.proofs.Common.{◌<◌, map, subst, sym, ◌∙◌}
use Rattle.std.specs.Map.{lookup}
use Rattle.std.proofs.lemmas.List.{length-map}
use Rattle.cfgrammar.specs.Numbered.{production_core}
use Rattle.lemmas.proofs.Options.{None-from_is_some}
use Rattle.lr_conflicts.specs.declared.examples.nodes.Node.TheVariants as nodes
use Rattle.lr_conflicts.specs.contracts.examples.nodes.NodePartialEq.TheImpl.{ghosts as compared}
use Rattle.lr_conflicts.specs.Inner.Searches.{setting}
use Rattle.lr_conflicts.proofs.Compared.{known_step, none_known}
use Rattle.lr_conflicts.proofs.Showing.{f}
use Rattle.lr_conflicts.proofs.Sides.{whole_shown}
use Rattle.lr_conflicts.proofs.Walked.{known_shown}
use Rattle.lr_conflicts.proofs.examples.ways.Ways.whole_side.Goals as goal

pub unread-requires-clause-within : goal.unread-requires-clause-within
unread-requires-clause-within c =
    let w = setting c.args.self.now in
    let es = c.in_ok-found.found.entries in
    let known = known_step (nodes.Item c.args.at) es (sym c.contains_key.ensures ∙ c.if-not-contains_key.false) in
    let shown = known_shown w es c.in_ok-found.ensures.steps (nodes.Item c.args.at) known in
    subst (λ n. c.args.at.item.production < n) (length-map c.args.self.now.grammar.now.productions production_core) shown.shown.0.used.within

pub unread-requires-clause-read : goal.unread-requires-clause-read
unread-requires-clause-read c =
    let w = setting c.args.self.now in
    let es = c.in_ok-found.found.entries in
    let known = known_step (nodes.Item c.args.at) es (sym c.contains_key.ensures ∙ c.if-not-contains_key.false) in
    (known_shown w es c.in_ok-found.ensures.steps (nodes.Item c.args.at) known).shown.0.read

pub side-requires-clause-there : goal.side-requires-clause-there
side-requires-clause-there c = known_step (nodes.Item c.args.at) c.in_ok-found.found.entries (sym c.contains_key.ensures ∙ c.if-not-contains_key.false)

pub returns-then-not-contains_key : goal.returns-then-not-contains_key
returns-then-not-contains_key c = λ reached.
    let node = nodes.Item c.args.at in
    let es = c.in_ok-found.found.entries in
    let there = c.in_ok-found.ensures.has reached in
    none_known node there.0 es there.1 (None-from_is_some (lookup (compared.eq node) es) (sym c.contains_key.ensures ∙ c.if-not-contains_key.true))

pub returns : goal.returns
returns c =
    let w = setting c.args.self.now in
    whole_shown w c.args.at (map f c.unread.result.now) c.in_ok-side.field-0 c.unread.ensures c.in_ok-side.ensures
