use Rattle.std.proofs.Common.{◌<◌, arith, subst, sym, ◌∙◌}
use Rattle.std.proofs.lemmas.List.{length-map}
use Rattle.cfgrammar.specs.Numbered.{production_core}
use Rattle.lr_states.proofs.Stepped.{read_fits}
use Rattle.cfgrammar.specs.NumberedSymbols.{sym_of}
use Rattle.lr_conflicts.specs.Inner.Searches.{setting}
use Rattle.lr_conflicts.proofs.Shown.{read_shown}
use Rattle.lr_conflicts.proofs.examples.ways.Ways.read.Goals as goal

pub overflow_add-item : goal.overflow_add-item
overflow_add-item c =
    let g = c.args.self.now.grammar.now in
    let within = subst (λ n. c.args.at.item.production < n) (length-map g.productions production_core) c.requires.shown.shown.0.used.within in
    let fits = read_fits _ g c.invariant_holds.ensures c.args.at.item within (sym_of (λ s. s) c.args.symbol) c.requires.next in
    omega (arith, fits)

pub add-requires : goal.add-requires
add-requires c =
    let w = setting c.args.self.now in
    let at = c.args.at in
    record {
      shown = λ prefix after h. (
        read_shown w at.place c.in-Some.place at.item (sym_of (λ s. s) c.args.symbol) prefix after c.requires.next
            (sym c.step.ensures ∙ c.in-Some.is) h.0,
        h.1,
      );
    }
