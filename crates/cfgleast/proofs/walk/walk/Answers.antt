use Rattle.std.proofs.Common.{◌≡◌, ◌+◌, ◌≤◌, List, min, map, length, refl, sym, ap, subst, ◌∙◌, arith}
use Rattle.std.proofs.lemmas.List.{get_or-map, length-map, take_all}
use Rattle.std.specs.List.{slice_index}
use Rattle.derivation.specs.Grammar.{Sym, Rule}
use Rattle.cfgtables.specs.NumberedSymbols.{sym_of}
use Rattle.derivation.specs.CostLists.{IsListed, rule_cost}
use Rattle.derivation.proofs.Sequences.{shown_at, shown_within, shown_holds}
use Rattle.cfgleast.specs.CutSums.{IsCutSum}
use Rattle.cfgleast.proofs.Walked.{cut_more}
use Rattle.cfgleast.proofs.walk.walk.Goals as goal

pub settled_cost-requires : goal.settled_cost-requires
settled_cost-requires g c = shown_holds (sym_of g.S.Storage.number) c.args.symbols.now c.loop-index.index _ c.loop-index-test.true c.index-symbols-index.is
    (IsListed (length c.args.least.now) (length c.args.costs.now)) c.requires.listed

pub loop-index-preserved : goal.loop-index-preserved
loop-index-preserved g c =
    let made : c.min-sum.result ≡ min 65536 (c.loop-index.sum + c.in-Ok.cost) = omega (arith, c.min-sum.ensures, c.saturating_add.ensures) in
    cut_more (slice_index c.args.costs.now) (rule_cost c.args.least.now) (map (sym_of g.S.Storage.number) c.args.symbols.now) c.loop-index.index _ c.loop-index.sum c.in-Ok.cost _
    (shown_within (sym_of g.S.Storage.number) c.args.symbols.now c.loop-index.index _ c.loop-index-test.true c.index-symbols-index.is)
    (shown_at (sym_of g.S.Storage.number) c.args.symbols.now c.loop-index.index _ c.loop-index-test.true c.index-symbols-index.is)
    c.loop-index.invariant c.in-Ok.ensures.cost made

pub loop-index-init : goal.loop-index-init
loop-index-init g c = c.requires.sum

pub returns-in-Err-clause-stop : goal.returns-in-Err-clause-stop
returns-in-Err-clause-stop g c =
    let show = sym_of g.S.Storage.number in
    record {
      taken = shown_within show c.args.symbols.now c.loop-index.index _ c.loop-index-test.true c.index-symbols-index.is;
      symbol = get_or-map show c.args.symbols.now c.loop-index.index c.index-symbols-index.result (Rule c.in-Err.rule) c.loop-index-test.true
          ∙ ap show (sym c.index-symbols-index.is) ∙ c.in-Err.ensures.rule;
      sum = c.loop-index.invariant;
      unset = c.in-Err.ensures.unset;
    }

pub returns-in-Err-clause-same : goal.returns-in-Err-clause-same
returns-in-Err-clause-same g c = refl

pub returns-clause-whole : goal.returns-clause-whole
returns-clause-whole g c =
    let symbols = map (sym_of g.S.Storage.number) c.args.symbols.now in
    subst (λ (l : List Sym). IsCutSum (slice_index c.args.costs.now) (rule_cost c.args.least.now) l c.loop-index.sum)
    (take_all c.loop-index.index symbols (subst (λ n. n ≤ c.loop-index.index) (sym (length-map c.args.symbols.now (sym_of g.S.Storage.number))) c.loop-index-test.false))
    c.loop-index.invariant
