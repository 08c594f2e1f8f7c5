use Rattle.std.proofs.Common.{◌≡◌, ◌<◌, ◌≤◌, inl, inr, List, Contains, get_or, length, subst, sym, ◌∙◌, true≢false}
use Rattle.std.proofs.lemmas.List.{take_all}
use Rattle.cfgrammar.proofs.Taken.{contains_taken}
use Rattle.lr_conflicts.specs.Inner.Choices.{Takes, items_in}
use Rattle.lr_conflicts.specs.declared.parser.Reduction.{Reduction}
use Rattle.lr_conflicts.proofs.Taken.{first_takes, none_takes}
use Rattle.lr_conflicts.proofs.parser.Parser.taker.Goals as goal

pub returns-then-takes_shift : goal.returns-then-takes_shift
returns-then-takes_shift c =
    let x = c.args.self.now in
    let rs = c.args.state.now.reductions.items in
    let i = c.loop-reduction.reduction-index in
    let r = c.reduction-item.result in
    let same = c.deref-reduction-items.ensures.value in
    first_takes x.grammar.now x.levels.now (items_in x c.args.state.now.number) rs c.requires.state.reductions c.args.token c.requires.token i r
    (subst (λ (l : List Reduction). i < length l) same c.loop-reduction-test.true) (subst (λ (l : List Reduction). r ≡ get_or l i r) same c.reduction-item.is)
    c.loop-reduction.invariant (c.takes_shift.ensures.0 c.if-takes_shift.true)

pub loop-reduction-preserved : goal.loop-reduction-preserved
loop-reduction-preserved c = λ other among takes.
    let x = c.args.self.now in
    let rs = c.args.state.now.reductions.items in
    let i = c.loop-reduction.reduction-index in
    let r = c.reduction-item.result in
    let same = c.deref-reduction-items.ensures.value in
    let within = subst (λ (l : List Reduction). i < length l) same c.loop-reduction-test.true in
    let is = subst (λ (l : List Reduction). r ≡ get_or l i r) same c.reduction-item.is in
    elim ((contains_taken rs i r within is other).0 among) [
      | inl early ↦ c.loop-reduction.invariant other early takes
      | inr equal ↦ true≢false (sym (c.takes_shift.ensures.1 (subst (Takes x.grammar.now x.levels.now c.args.token) equal takes)) ∙ c.if-takes_shift.false)
    ]

pub returns : goal.returns
returns c =
    let x = c.args.self.now in
    let rs = c.args.state.now.reductions.items in
    let i = c.loop-reduction.reduction-index in
    let most = subst (λ (l : List Reduction). length l ≤ i) c.deref-reduction-items.ensures.value c.loop-reduction-test.false in
    none_takes x.grammar.now x.levels.now (items_in x c.args.state.now.number) rs c.requires.state.reductions c.args.token c.requires.token
    (λ r among takes. c.loop-reduction.invariant r (subst (λ l. Contains l r) (sym (take_all i rs most)) among) takes)
