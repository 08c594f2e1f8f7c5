use Rattle.std.proofs.Common.{◌≡◌, ◌⊎◌, inl, inr, ◌++◌, [], List, IsTrue, false, map, subst, sym, true, true≢false}
use Rattle.std.proofs.lemmas.Result.{IfOk-weaker}
use Rattle.cfgrammar.specs.Grammar.{Sym, Rule}
use Rattle.cfgrammar.specs.NumberedSymbols.{sym_of}
use Rattle.lr_states.proofs.Closed.{next_symbol}
use Rattle.lr_conflicts.specs.declared.examples.nodes.Node.{Node}
use Rattle.lr_conflicts.specs.Inner.Searches.{grammar_of, setting}
use Rattle.lr_conflicts.specs.Inner.Ways.{ByShown, Enters, IsNullable, IsOpen, Opens, back_of, ends, enters, shows}
use Rattle.lr_conflicts.proofs.Found.{finds_then}
use Rattle.lr_conflicts.proofs.Shown.{next_shown, open_derives}
use Rattle.lr_conflicts.proofs.examples.ways.Ways.open.Goals as goal

pub show-requires-clause-rule : goal.show-requires-clause-rule
show-requires-clause-rule c = next_symbol (grammar_of c.args.self.now) c.requires.ready.grammar c.args.at.item (Rule c.args.rule) c.requires.next

pub show-requires-clause-opened : goal.show-requires-clause-opened
show-requires-clause-opened c =
    let w = setting c.args.self.now in
    let at = c.args.at in
    λ prefix after h. subst (λ l. IsOpen w at.place c.args.rule prefix (l ++ after)) (sym c.back-back.ensures.symbols)
    (next_shown w at.place at.item c.args.rule prefix after c.requires.next h.0)

pub enter-requires-clause-within : goal.enter-requires-clause-within
enter-requires-clause-within c = next_symbol (grammar_of c.args.self.now) c.requires.ready.grammar c.args.at.item (Rule c.args.rule) c.requires.next

pub enter-requires-clause-next : goal.enter-requires-clause-next
enter-requires-clause-next c =
    let w = setting c.args.self.now in
    let at = c.args.at in
    λ prefix after h. (
      subst (λ l. IsOpen w at.place c.args.rule prefix (l ++ after)) (sym c.back-back.ensures.symbols)
          (next_shown w at.place at.item c.args.rule prefix after c.requires.next h.0),
      (λ no. absurd (true≢false (sym no))),
    )

pub enter_last-requires-clause-within : goal.enter_last-requires-clause-within
enter_last-requires-clause-within c = next_symbol (grammar_of c.args.self.now) c.requires.ready.grammar c.args.at.item (Rule c.args.rule) c.requires.next

pub enter_last-requires-clause-opened : goal.enter_last-requires-clause-opened
enter_last-requires-clause-opened c =
    let w = setting c.args.self.now in
    let g = w.grammar in
    let at = c.args.at in
    let back = back_of w at.item in
    λ on prefix after h. open_derives w at.place c.args.rule prefix back [] after
    (subst (IsNullable w) c.back-back.ensures.symbols (c.in_ok-nullable.ensures.nullable.0 on))
    (next_shown w at.place at.item c.args.rule prefix after c.requires.next h.0)

pub returns : goal.returns
returns c =
    let w = setting c.args.self.now in
    let g = w.grammar in
    let at = c.args.at in
    let list : List Sym = map (sym_of (λ s. s)) c.back-back.result.now in
    let is : list ≡ back_of w at.item = c.back-back.ensures.symbols in
    let shown : Node → Type 0 = ByShown w at.place c.args.rule list in
    let last : Node → Type 0 = λ n. IsTrue at.followed × IsTrue c.in_ok-nullable.nullable × Enters w at.place c.args.rule true n in
    IfOk-weaker c.enter_last.result _ _
    (λ _ v. finds_then w (Enters w at.place c.args.rule false) (λ n. shown n ⊎ last n)
    (Opens w at.place at.item at.followed c.args.rule) _ _ _
    (λ n h. elim h [
      | enters e ↦ inl e
      | shows b ↦ inr (inl (subst (λ l. ByShown w at.place c.args.rule l n) (sym is) b))
      | ends follows d e ↦ inr (inr (follows, c.in_ok-nullable.ensures.nullable.1 (subst (IsNullable w) (sym is) d), e))
    ])
    c.in_ok-enter.ensures
    (finds_then w shown last (λ n. shown n ⊎ last n) _ _ _ (λ n h. h) c.in_ok-nullable.ensures.found v))
    c.enter_last.ensures
