use Rattle.std.proofs.Common.{◌≡◌, ◌+◌, ◌<◌, ℕ, List, Some, ap, arith, get_or, length, map, option_map, slice_get, subst, sym, true≢false, ◌∙◌}
use Rattle.std.proofs.lemmas.List.{length-map}
use Rattle.std.proofs.lemmas.Option.{slice_get-get_or, slice_get-map}
use Rattle.cfgindex.specs.declared.idxnewtype.Symbol.{Symbol}
use Rattle.cfgrammar.specs.Grammar.{Sym}
use Rattle.cfgrammar.specs.Numbered.{core, production_core}
use Rattle.cfgrammar.specs.NumberedSymbols.{sym_of}
use Rattle.cfgrammar.specs.Openings.{nth_production}
use Rattle.lr_states.specs.Viable.{IsUsed, item_at}
use Rattle.lr_states.proofs.Bits.{bit_read}
use Rattle.lr_states.specs.Inner.Edges.{AddsEdges, BeginEdge, Below, ProductionEdge, SymbolEdge}
use Rattle.lr_states.specs.Inner.Numbers.{numbers_of, rest_number}
use Rattle.lr_states.proofs.Adds.{IsOne, adds_as, adds_none, adds_one, adds_then, below_more, below_none}
use Rattle.lr_states.proofs.Pushed.{symbol_one}
use Rattle.lr_states.proofs.Ready.{begun_low, rest_low}
use Rattle.lr_states.proofs.lookaheads.edges.Graph.push_production.Goals as goal

pub returns-then-not-unwrap_or : goal.returns-then-not-unwrap_or
returns-then-not-unwrap_or c =
    let g = core c.args.self.now.grammar.now in
    let bits = c.args.self.now.used.now in
    let read = bit_read bits c.args.production c.get.result c.unwrap_or.result c.get.ensures c.unwrap_or.ensures in
    adds_none (ProductionEdge g (IsUsed g) (numbers_of c.args.self.now.nodes.now) c.args.self.now.states.now c.args.production) c.args.edges.now
    (λ a b e.
    let on = (c.requires.graph.used c.args.production).1 e.used in
    true≢false (sym (read ∙ on) ∙ c.if-not-unwrap_or.true))

-- the symbol with an index
symbol_at : (all : List (Symbol ℕ)) (symbols : List Sym) → map (sym_of (λ s. s)) all ≡ symbols → (i : ℕ) (d : Symbol ℕ) → i < length all → slice_get symbols i ≡ Some (sym_of (λ s. s) (get_or all i d))
symbol_at all symbols is i d within =
    subst (λ l. slice_get l i ≡ Some (sym_of (λ s. s) (get_or all i d))) is
    (slice_get-map (sym_of (λ s. s)) all i ∙ ap (option_map (sym_of (λ s. s))) (slice_get-get_or all i d within))

pub begun-rule-requires : goal.begun-rule-requires
begun-rule-requires c =
    let low = begun_low (core c.args.self.now.grammar.now) c.args.self.now.states.now (numbers_of c.args.self.now.nodes.now) c.requires.graph.ready c.args.production in
    omega (arith, low, c.rule_of.ensures)

pub rest-requires-clause-node : goal.rest-requires-clause-node
rest-requires-clause-node c =
    let products = length-map c.args.self.now.grammar.now.productions production_core in
    (rest_low (core c.args.self.now.grammar.now) c.args.self.now.states.now (numbers_of c.args.self.now.nodes.now) c.requires.graph.ready (item_at c.args.production 0)
    (omega (arith, products, c.requires.production), omega arith)).1

pub push-requires : goal.push-requires
push-requires c =
    let low = begun_low (core c.args.self.now.grammar.now) c.args.self.now.states.now (numbers_of c.args.self.now.nodes.now) c.requires.graph.ready c.args.production in
    omega (arith, low, c.rule_of.ensures, c.begun-rule.ensures, c.requires.nodes)

pub loop-read-init : goal.loop-read-init
loop-read-init c = below_none _ _

pub push_rest-requires-clause-next : goal.push_rest-requires-clause-next
push_rest-requires-clause-next c = symbol_at c.symbols_of-symbols.result.now _ c.symbols_of-symbols.ensures.symbols c.loop-read.read _ c.loop-read-test.true

pub loop-read-preserved : goal.loop-read-preserved
loop-read-preserved c =
    let g = core c.args.self.now.grammar.now in
    let n = numbers_of c.args.self.now.nodes.now in
    let x = c.args.self.now.states.now in
    let p = c.args.production in
    let at = symbol_at c.symbols_of-symbols.result.now _ c.symbols_of-symbols.ensures.symbols c.loop-read.read _ c.loop-read-test.true in
    below_more (SymbolEdge g (IsUsed g) n x p) c.loop-read.read _ c.loop-read.edges c.push_rest.new.edges c.loop-read.invariant
    (symbol_one g (IsUsed g) n x p c.loop-read.read _ at c.loop-read.edges c.push_rest.new.edges c.in_ok-push_rest.ensures)

pub returns : goal.returns
returns c =
    let g = core c.args.self.now.grammar.now in
    let n = numbers_of c.args.self.now.nodes.now in
    let x = c.args.self.now.states.now in
    let p = c.args.production in
    let bits = c.args.self.now.used.now in
    let read = bit_read bits p c.get.result c.unwrap_or.result c.get.ensures c.unwrap_or.ensures in
    let used = (c.requires.graph.used p).0 (sym read ∙ c.if-not-unwrap_or.false) in
    let long = sym (length-map c.symbols_of-symbols.result.now (sym_of (λ s. s))) ∙ ap length c.symbols_of-symbols.ensures.symbols in
    let end : c.loop-read.read ≡ length (nth_production g p).symbols = omega (arith, long, c.loop-read-test.false, c.loop-read.auto.read-end) in
    let low = begun_low g x n c.requires.graph.ready p in
    let from : c.begun-rule.result ≡ n.tokens + (nth_production g p).rule = omega (arith, c.begun-rule.ensures, c.rule_of.ensures) in
    let room : c.begun-rule.result < length c.args.edges.now = omega (arith, low, from, c.requires.nodes) in
    let one = adds_one c.args.edges.now c.push.new.self c.begun-rule.result c.rest.result room c.in_ok-push.ensures.ok in
    adds_as _ (ProductionEdge g (IsUsed g) n x p) c.args.edges.now c.loop-read.edges
    (λ a b e. record { used = used; edge = e }) (λ a b e. e.edge)
    (adds_then (BeginEdge g (IsUsed g) n x p) _ c.args.edges.now c.push.new.self c.loop-read.edges
    (subst (λ m. AddsEdges (IsOne m (rest_number n (item_at p 0))) c.args.edges.now c.push.new.self) from
    (subst (λ m. AddsEdges (IsOne c.begun-rule.result m) c.args.edges.now c.push.new.self) c.rest.ensures one))
    (subst (λ m. AddsEdges (Below (SymbolEdge g (IsUsed g) n x p) m) c.push.new.self c.loop-read.edges) end c.loop-read.invariant))
