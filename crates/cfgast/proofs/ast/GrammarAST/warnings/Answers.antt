use Rattle.std.proofs.Common.{◌+◌, [], List, take, arith, sym, subst}
use Rattle.cfgerrors.specs.Warnings.{GrammarWarning}
use Rattle.cfgast.specs.Unused.{Warned, none, possible_warnings}
use Rattle.cfgast.specs.TreeView.{syntax}
use Rattle.cfgast.proofs.Warning.{unused, warned_more, warned_known, warned_past, warned_all}
use Rattle.cfgast.proofs.ast.GrammarAST.warnings.Goals as goal
use Rattle.cfgast.proofs.ast.GrammarAST.warnings.Goals.{then-not-is_reachable+in-Some+in_ok-warning_at+in_ok-push, then-not-is_reachable+in_default, else-not-is_reachable}

pub loop-node-init : goal.loop-node-init
loop-node-init c = subst (Warned (syntax c.args.self.now) []) (sym c.new-warnings.ensures.items) none

pub kind_and_span-requires : goal.kind_and_span-requires
kind_and_span-requires c = omega (arith, c.loop-node-test.true, c.node_count-node-end.ensures.count)

pub loop-node-preserved : goal.loop-node-preserved
loop-node-preserved c =
    let s = syntax c.args.self.now in
    let i = c.loop-node.node in
    let reported = c.loop-node.warnings.items in
    let Prefix = λ (l : List GrammarWarning). Warned s (take (i + 1) (possible_warnings s)) l in
    elim c.if-not-is_reachable.branch [
      | then-not-is_reachable+in-Some+in_ok-warning_at+in_ok-push w ↦ subst (λ l. Prefix l.items) (sym w.warnings-is)
          (warned_more s i reported c.loop-node.invariant _ _ _ w.in-Some.ensures
          (unused s c.in_ok-known.known c.in_ok-known.ensures i (sym w.if-not-is_reachable.ensures))
          w.in_ok-warning_at.ensures w.in_ok-push.ensures.items)
      | then-not-is_reachable+in_default w ↦ subst (λ l. Prefix l.items) (sym w.warnings-is) (warned_past s i reported c.loop-node.invariant w.in_default.ensures)
      | else-not-is_reachable w ↦ subst (λ l. Prefix l.items) (sym w.warnings-is)
          (warned_known s i reported c.loop-node.invariant c.in_ok-known.known c.in_ok-known.ensures (sym w.if-not-is_reachable.ensures))
    ]

pub returns : goal.returns
returns c = warned_all (syntax c.args.self.now) c.loop-node.node c.loop-node.warnings.items c.loop-node.invariant (omega (arith, c.loop-node-test.false, c.node_count-node-end.ensures.count))
