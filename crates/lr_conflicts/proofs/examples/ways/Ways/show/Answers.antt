use Rattle.std.proofs.Common.{ℕ, [], ◌∷◌, arith, get_or, map, refl, subst, sym, ◌∙◌, true≢false}
use Rattle.std.proofs.lemmas.List.{length-map, take_all}
use Rattle.cfgindex.specs.declared.idxnewtype.Symbol.{Symbol}
use Rattle.cfgindex.specs.declared.idxnewtype.Symbol.TheVariants as symbols
use Rattle.cfgrammar.specs.Derivation.{none}
use Rattle.cfgrammar.specs.NumberedSymbols.{sym_of}
use Rattle.lr_conflicts.specs.Inner.Searches.{setting}
use Rattle.lr_conflicts.specs.Inner.Ways.{IsNullable}
use Rattle.lr_conflicts.proofs.Showing.{below_all, below_more, below_none, below_stop, not_nullable, nullable_more, symbol_at}
use Rattle.lr_conflicts.proofs.Shown.{dropped_shown}
use Rattle.lr_conflicts.proofs.examples.ways.Ways.show.Goals as goal

pub show_first-requires-clause-opened : goal.show_first-requires-clause-opened
show_first-requires-clause-opened c =
    let w = setting c.args.self.now in
    λ prefix after h. dropped_shown w c.args.place c.args.rule prefix (map (sym_of (λ s. s)) c.args.symbols.now) after
    c.loop-index.index c.loop-index.invariant.nullable (c.requires.opened prefix after h)

pub loop-index-init : goal.loop-index-init
loop-index-init c =
    let w = setting c.args.self.now in
    record {
      found = below_none w c.args.place c.args.rule (map (sym_of (λ s. s)) c.args.symbols.now) c.args.found.now.entries;
      nullable = none;
    }

pub loop-index-preserved : goal.loop-index-preserved
loop-index-preserved c =
    let w = setting c.args.self.now in
    let i = c.loop-index.index in
    let list = map (sym_of (λ s. s)) c.args.symbols.now in
    let d : Symbol ℕ = symbols.Rule (record { 0 = 0 }) in
    let at = symbol_at i c.args.symbols.now d (get_or c.args.symbols.now i d) c.loop-index-test.true refl in
    let one = c.is_nullable.ensures.0 c.if-not-is_nullable.false in
    record {
      found = below_more w c.args.place c.args.rule list i c.loop-index.invariant.nullable _ _ _ c.loop-index.invariant.found
          c.in_ok-show_first.ensures;
      nullable = nullable_more w c.args.place c.args.rule list i _ at c.loop-index.invariant.nullable one;
    }

pub returns : goal.returns
returns c =
    let w = setting c.args.self.now in
    let i = c.loop-index.index in
    let list = map (sym_of (λ s. s)) c.args.symbols.now in
    let long = length-map c.args.symbols.now (sym_of (λ s. s)) in
    record {
      found = below_all w c.args.place c.args.rule list i (omega (arith, long, c.loop-index-test.false)) _ _ c.loop-index.invariant.found;
      nullable = ((λ yes. subst (IsNullable w) (take_all i list (omega (arith, long, c.loop-index-test.false))) c.loop-index.invariant.nullable), (λ d. refl));
    }

pub returns-then-not-is_nullable : goal.returns-then-not-is_nullable
returns-then-not-is_nullable c =
    let w = setting c.args.self.now in
    let i = c.loop-index.index in
    let list = map (sym_of (λ s. s)) c.args.symbols.now in
    let d : Symbol ℕ = symbols.Rule (record { 0 = 0 }) in
    let at = symbol_at i c.args.symbols.now d (get_or c.args.symbols.now i d) c.loop-index-test.true refl in
    let some : IsNullable w (sym_of (λ s. s) (get_or c.args.symbols.now i d) ∷ []) → ⊥ = λ e. true≢false (sym (c.is_nullable.ensures.1 e) ∙ c.if-not-is_nullable.true) in
    record {
      found = below_stop w c.args.place c.args.rule list i _ at some _ _
          (below_more w c.args.place c.args.rule list i c.loop-index.invariant.nullable _ _ _ c.loop-index.invariant.found
          c.in_ok-show_first.ensures);
      nullable = ((λ no. absurd (true≢false (sym no))), (λ e. absurd (not_nullable w c.args.place c.args.rule list i _ at some e)));
    }
