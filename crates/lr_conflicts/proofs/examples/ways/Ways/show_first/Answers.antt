use Rattle.std.proofs.Common.{◌≡◌, ◌+◌, ◌-◌, ◌<◌, ◌++◌, ◌∷◌, ℕ, ap, drop, length, map, slice_get, subst, sym, take, true, ◌∙◌}
use Rattle.std.proofs.lemmas.Result.{IfOk-weaker}
use Rattle.cfgindex.specs.declared.idxnewtype.Symbol.{Symbol}
use Rattle.cfgindex.specs.declared.idxnewtype.Symbol.TheVariants as symbols
use Rattle.cfgrammar.specs.Accessors.{IsSymbolWithin}
use Rattle.cfgrammar.specs.Grammar.{Rule, Token}
use Rattle.lr_conflicts.specs.Examples.{token}
use Rattle.lr_conflicts.specs.Inner.Searches.{setting}
use Rattle.lr_conflicts.specs.Inner.Ways.{ByNext, Enters, IsOpen, opened_node}
use Rattle.lr_conflicts.proofs.Found.{finds_as, finds_none}
use Rattle.lr_conflicts.proofs.Showing.{f, symbol_at, tail_at, tail_of}
use Rattle.lr_conflicts.proofs.examples.ways.Ways.show_first.Goals as goal

abbrev d : Symbol ℕ
d = symbols.Rule (record { 0 = 0 })

pub add-requires : goal.add-requires
add-requires c =
    let w = setting c.args.self.now in
    let xs = c.args.symbols.now in
    let i = c.args.index in
    let first = c.in-Rule.first in
    let back = map f (take (length xs - (i + 1)) (drop (i + 1) xs)) in
    record {
      shown = λ prefix after h. (
        subst (IsOpen w c.args.place c.args.rule prefix)
            (ap (λ l. l ++ after) (tail_at i xs d (symbols.Rule first) c.requires.index c.in-Rule.is) ∙ ap (λ n. Rule n ∷ (back ++ after)) (sym c.from.ensures)) (c.requires.opened prefix after h),
        c.requires.rule,
        subst (λ n. n < length c.args.self.now.grammar.now.rules) (sym c.from.ensures) (subst (IsSymbolWithin (λ s. s) c.args.self.now.grammar.now) c.in-Rule.is (c.requires.within i d c.requires.index)),
      );
    }

pub enter-requires-clause-next : goal.enter-requires-clause-next
enter-requires-clause-next c =
    let w = setting c.args.self.now in
    let xs = c.args.symbols.now in
    let i = c.args.index in
    let back = map f (take (length xs - (i + 1)) (drop (i + 1) xs)) in
    let is : c.in-Token.token.0 ≡ w.token = sym c.from-in-Token-1.ensures ∙ c.if-from-self.true in
    λ prefix after h. (
      subst (λ l. IsOpen w c.args.place c.args.rule prefix (l ++ after)) (sym (tail_of i xs)) (c.requires.opened prefix after h),
      (λ yes. token (back ++ after)
          (ap (λ l. l ++ after) (tail_of i xs) ∙ ap (λ l. l ++ after) (tail_at i xs d (symbols.Token c.in-Token.token) c.requires.index c.in-Token.is) ∙ ap (λ n. Token n ∷ (back ++ after)) is)),
    )

pub returns-in-Rule : goal.returns-in-Rule
returns-in-Rule c =
    let w = setting c.args.self.now in
    let q = c.args.place in
    let rule = c.args.rule in
    let at = symbol_at c.args.index c.args.symbols.now d (symbols.Rule c.in-Rule.first) c.requires.index c.in-Rule.is in
    IfOk-weaker c.add.result _ _
    (λ _ v. finds_as w (λ n. n ≡ opened_node q rule c.from.result) (ByNext w q rule (slice_get (map f c.args.symbols.now) c.args.index)) _ _
    (λ n h. subst (λ o. ByNext w q rule o n) at h ∙ ap (opened_node q rule) (sym c.from.ensures)) v)
    c.add.ensures

pub returns-in-Token : goal.returns-in-Token
returns-in-Token c =
    let w = setting c.args.self.now in
    let q = c.args.place in
    let rule = c.args.rule in
    let at = symbol_at c.args.index c.args.symbols.now d (symbols.Token c.in-Token.token) c.requires.index c.in-Token.is in
    IfOk-weaker c.enter.result _ _
    (λ _ v. finds_as w (Enters w q rule true) (ByNext w q rule (slice_get (map f c.args.symbols.now) c.args.index)) _ _
    (λ n h. (subst (λ o. ByNext w q rule o n) at h).1) v)
    c.enter.ensures

pub returns-in-Token-2 : goal.returns-in-Token-2
returns-in-Token-2 c =
    let w = setting c.args.self.now in
    let q = c.args.place in
    let rule = c.args.rule in
    let at = symbol_at c.args.index c.args.symbols.now d (symbols.Token c.in-Token.token) c.requires.index c.in-Token.is in
    finds_none w (ByNext w q rule (slice_get (map f c.args.symbols.now) c.args.index)) _
    (λ n h. c.if-from-self.false (c.from-in-Token-1.ensures ∙ (subst (λ o. ByNext w q rule o n) at h).0))
