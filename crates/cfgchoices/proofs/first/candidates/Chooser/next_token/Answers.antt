use Rattle.std.proofs.Common.{◌≡◌, ◌<◌, ◌-◌, ◌++◌, [], ◌∷◌, Option, map, take, None, length, sym, ap, subst, ◌∙◌, arith}
use Rattle.std.proofs.lemmas.List.{length-map}
use Rattle.derivation.specs.Grammar.{Rule, Token}
use Rattle.cfgtables.specs.NumberedSymbols.{sym_of}
use Rattle.cfgleast.specs.Certificate.{choice_of, rule_choice}
use Rattle.cfgchoices.specs.Inner.Candidates.{Pends, left_to_open, candidates_of}
use Rattle.cfgchoices.proofs.Pending.{GoesOn, choice_shown, goes_on_free, goes_on_opened, last_shown, none_pending, rule_less, rule_within, symbol_less, token_pending, turned_shown}
use Rattle.cfgchoices.proofs.first.candidates.Chooser.next_token.Given.{Over}
use Rattle.cfgchoices.proofs.first.candidates.Chooser.next_token.Goals.{After-from, After-index}
use Rattle.cfgchoices.proofs.first.candidates.Chooser.next_token.Goals as goal

split : (g : Over) (c : After-from g) → map (sym_of g.S.Storage.number) c.loop-symbol.pending.items ≡ map (sym_of g.S.Storage.number) c.pop.new.self.items ++ Rule (g.S.Storage.number c.in-Rule.rule.0) ∷ []
split g c = last_shown g.S.Storage.number _ _ _ _ c.in-Some.ensures.items c.in-Rule.is

popped : (g : Over) (c : After-from g) → GoesOn c.args.optimal.now.tables (candidates_of g.S.Storage.number c.args.self.now).choices (map (sym_of g.S.Storage.number) c.args.pending.now.items)
    (map (sym_of g.S.Storage.number) c.pop.new.self.items ++ Rule (g.S.Storage.number c.in-Rule.rule.0) ∷ [])
popped g c = subst (GoesOn c.args.optimal.now.tables (candidates_of g.S.Storage.number c.args.self.now).choices (map (sym_of g.S.Storage.number) c.args.pending.now.items)) (split g c) c.loop-symbol.invariant

within : (g : Over) (c : After-from g) → g.S.Storage.number c.in-Rule.rule.0 < length c.args.self.now.choices.items
within g c =
    let (w, h) = c.requires.given in
    let (m, known) = c.invariant_holds.ensures in
    subst (λ n. g.S.Storage.number c.in-Rule.rule.0 < n) (length-map c.args.self.now.choices.items (choice_of g.S.Storage.number))
    (rule_within _ _ _ c.requires.choosing (map (sym_of g.S.Storage.number) c.pop.new.self.items) m known.generator _ w ((popped g c).same w h))

choice : (g : Over) (c : After-index g) → g.S.Storage.number c.in-Rule.rule.0 < length c.args.self.now.choices.items → (o : Option _) → c.index.result.now ≡ o
    → rule_choice (candidates_of g.S.Storage.number c.args.self.now).choices (g.S.Storage.number c.in-Rule.rule.0) ≡ choice_of g.S.Storage.number o
choice g c lt o is = choice_shown g.S.Storage.number c.args.self.now.choices.items c.from.result (g.S.Storage.number c.in-Rule.rule.0) _ o c.from.ensures lt (sym c.index.ensures ∙ is)

pub loop-symbol-init : goal.loop-symbol-init
loop-symbol-init g c = record { same = λ w h. h; left = omega arith }

pub index-requires : goal.index-requires
index-requires g c = omega (arith, within g (goal.at.index-requires g c).After-from, c.from.ensures, c.args.self.now.choices.ok.0)

pub loop-symbol-preserved : goal.loop-symbol-preserved
loop-symbol-preserved g c =
    let at = goal.at.loop-symbol-preserved g c in
    goes_on_free _ _ _ c.requires.choosing _ _ _ (choice g at.After-index (within g at.After-from) None c.in_default-index.is) (popped g at.After-from)

pub loop-symbol-smaller : goal.loop-symbol-smaller
loop-symbol-smaller g c =
    let less = symbol_less c.args.optimal.now.tables _ _ c.requires.choosing (map (sym_of g.S.Storage.number) c.pop.new.self.items) (Rule (g.S.Storage.number c.in-Rule.rule.0)) in
    omega (arith, less, ap (left_to_open c.args.optimal.now.tables (candidates_of g.S.Storage.number c.args.self.now).choices) (split g (goal.at.loop-symbol-smaller g c).After-from))

pub symbols-requires : goal.symbols-requires
symbols-requires g c =
    let at = goal.at.symbols-requires g c in
    (c.requires.choosing.each _ _ _ (choice g at.After-index (within g at.After-from) _ c.in-Some-index.is)).0.optimal.index

pub loop-symbol-preserved-in-Continue-1 : goal.loop-symbol-preserved-in-Continue-1
loop-symbol-preserved-in-Continue-1 g c =
    let at = goal.at.loop-symbol-preserved-in-Continue-1 g c in
    subst (GoesOn c.args.optimal.now.tables (candidates_of g.S.Storage.number c.args.self.now).choices (map (sym_of g.S.Storage.number) c.args.pending.now.items))
    (sym (turned_shown g.S.Storage.number _ _ _ _ c.in_ok-push_turned-in-Rule.ensures c.symbols.ensures))
    (goes_on_opened _ _ _ c.requires.choosing _ _ _ _ _ (choice g at.After-index (within g at.After-from) _ c.in-Some-index.is) (popped g at.After-from))

pub loop-symbol-smaller-in-Continue-1 : goal.loop-symbol-smaller-in-Continue-1
loop-symbol-smaller-in-Continue-1 g c =
    let at = goal.at.loop-symbol-smaller-in-Continue-1 g c in
    let size = left_to_open c.args.optimal.now.tables (candidates_of g.S.Storage.number c.args.self.now).choices in
    let less = rule_less _ _ _ c.requires.choosing (map (sym_of g.S.Storage.number) c.pop.new.self.items) _ _ _ (choice g at.After-index (within g at.After-from) _ c.in-Some-index.is) in
    let now = ap size (turned_shown g.S.Storage.number c.push_turned.new.pending.items c.pop.new.self.items c.symbols.result.now _ c.in_ok-push_turned-in-Rule.ensures c.symbols.ensures) in
    omega (arith, less, ap size (split g at.After-from), now)

pub returns-in-Token : goal.returns-in-Token
returns-in-Token g c =
    let x = c.args.optimal.now.tables in
    let l = (candidates_of g.S.Storage.number c.args.self.now).choices in
    let rest = map (sym_of g.S.Storage.number) c.pop.new.self.items in
    let split = last_shown g.S.Storage.number _ _ _ _ c.in-Some.ensures.items c.in-Token.is in
    record {
      next = λ w h. token_pending x l _ c.requires.choosing rest _ w (subst (λ a. Pends x l a w) split (c.loop-symbol.invariant.same w h));
      less = omega (arith, symbol_less x l _ c.requires.choosing rest (Token (g.S.Storage.number c.in-Token.token.0)), c.loop-symbol.invariant.left, ap (left_to_open x l) split);
    }

pub returns : goal.returns
returns g c =
    let rest : c.pop.new.self.items ≡ [] = c.in_default.ensures.rest ∙ ap (λ n. take (n - 1) c.loop-symbol.pending.items) c.in_default.ensures.cases.0 in
    let none : c.loop-symbol.pending.items ≡ [] = c.in_default.ensures.items ∙ ap (λ l. l ++ []) rest in
    record {
      next = λ w h. none_pending c.args.optimal.now.tables (candidates_of g.S.Storage.number c.args.self.now).choices _ c.requires.choosing [] w
          (subst (λ a. Pends c.args.optimal.now.tables (candidates_of g.S.Storage.number c.args.self.now).choices (map (sym_of g.S.Storage.number) a) w) none (c.loop-symbol.invariant.same w h));
      less = tt;
    }
