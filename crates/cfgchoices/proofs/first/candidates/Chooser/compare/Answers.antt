use Rattle.std.proofs.Common.{ℕ, List, ◌<◌, map, refl, sym, subst, ◌∙◌}
use Rattle.std.specs.Prelude.{IfSome}
use Rattle.cfgtables.specs.NumberedSymbols.{sym_of}
use Rattle.cfgindex.specs.declared.idxnewtype.Symbol.{Symbol}
use Rattle.cfgindex.specs.declared.idxnewtype.TIdx.{TIdx}
use Rattle.cfgchoices.specs.Choices.{ChoicesGive}
use Rattle.cfgchoices.specs.Inner.Candidates.{Gives, Pends, with_choices, left_to_open, candidates_of, sequence}
use Rattle.cfgchoices.proofs.Compared.{Begins, Next, ended, first_differ, next, some_first, some_second}
use Rattle.cfgchoices.proofs.Nominated.{nominated_given}
use Rattle.cfgchoices.proofs.first.candidates.Chooser.compare.Given.{Over}
use Rattle.cfgchoices.proofs.first.candidates.Chooser.compare.Goals.{After-cmp-ordering}
use Rattle.cfgchoices.proofs.first.candidates.Chooser.compare.Goals as goal

compared : (g : Over) (c : After-cmp-ordering g) (u v : List ℕ) → Gives c.args.optimal.now.tables (candidates_of g.S.Storage.number c.args.self.now).choices (sequence c.args.optimal.now.tables (g.S.Storage.number c.args.one.0)) u
    → Gives c.args.optimal.now.tables (candidates_of g.S.Storage.number c.args.self.now).choices (sequence c.args.optimal.now.tables (g.S.Storage.number c.args.other.0)) v
    → Next (Pends c.args.optimal.now.tables (candidates_of g.S.Storage.number c.args.self.now).choices (map (sym_of g.S.Storage.number) c.next_token.new.pending.items))
    (Pends c.args.optimal.now.tables (candidates_of g.S.Storage.number c.args.self.now).choices (map (sym_of g.S.Storage.number) c.next_token-in-Some.new.pending.items)) u v c.cmp-ordering.result
compared g c u v h k =
    let number = λ (t : TIdx _). g.S.Storage.number t.0 in
    let pends = λ (items : List (Symbol _)). Pends c.args.optimal.now.tables (candidates_of g.S.Storage.number c.args.self.now).choices (map (sym_of g.S.Storage.number) items) in
    let r = c.loop-others.invariant u v h k in
    subst (Next (pends c.next_token.new.pending.items) (pends c.next_token-in-Some.new.pending.items) u v) (sym c.cmp-ordering.ensures)
    (next number _ (λ a b. g.met.S.Storage.ordered a.0 b.0) (pends c.loop-others.ones.items) (pends c.loop-others.others.items) (pends c.next_token.new.pending.items) (pends c.next_token-in-Some.new.pending.items)
    c.in-Some.token c.in_ok-next_token.field-0 u v r (subst (Begins number (pends c.next_token.new.pending.items) r.one) c.in-Some.is (c.in_ok-token.ensures.next r.one r.first))
    (c.in_ok-next_token.ensures.next r.other r.second))

pub loop-others-init : goal.loop-others-init
loop-others-init g c =
    let x = c.args.optimal.now.tables in
    let l = (candidates_of g.S.Storage.number c.args.self.now).choices in
    λ u v h k. record {
      one = u;
      other = v;
      first = subst (λ a. Gives x l a u) (sym c.in_ok-ones.ensures) h;
      second = subst (λ a. Gives x l a v) (sym c.in_ok-others.ensures) k;
      same = refl;
    }

pub next_token-requires-clause-given : goal.next_token-requires-clause-given
next_token-requires-clause-given g c =
    some_first c.loop-others.invariant (nominated_given _ _ _ c.requires.choosing _ _ c.requires.one) (nominated_given _ _ _ c.requires.choosing _ _ c.requires.other)

pub next_token-requires-in-Some-clause-given : goal.next_token-requires-in-Some-clause-given
next_token-requires-in-Some-clause-given g c =
    some_second c.loop-others.invariant (nominated_given _ _ _ c.requires.choosing _ _ c.requires.one) (nominated_given _ _ _ c.requires.choosing _ _ c.requires.other)

pub next_token-requires-2-clause-given : goal.next_token-requires-2-clause-given
next_token-requires-2-clause-given g c =
    some_second c.loop-others.invariant (nominated_given _ _ _ c.requires.choosing _ _ c.requires.one) (nominated_given _ _ _ c.requires.choosing _ _ c.requires.other)

pub loop-others-preserved : goal.loop-others-preserved
loop-others-preserved g c = λ u v h k. (compared g (goal.at.loop-others-preserved g c).After-cmp-ordering u v h k).goes_on (sym c.is_ne-in-Some.ensures ∙ c.if-is_ne-2.false)

pub loop-others-smaller : goal.loop-others-smaller
loop-others-smaller g c =
    let size = λ (pending : List (Symbol _)). left_to_open c.args.optimal.now.tables (candidates_of g.S.Storage.number c.args.self.now).choices (map (sym_of g.S.Storage.number) pending) in
    subst (λ o. IfSome o (λ _. size c.next_token.new.pending.items < size c.loop-others.ones.items)) c.in-Some.is c.in_ok-token.ensures.less

pub returns-then-is_ne-2 : goal.returns-then-is_ne-2
returns-then-is_ne-2 g c = λ u v h k. (compared g (goal.at.returns-then-is_ne-2 g c).After-cmp-ordering u v h k).differs (sym c.is_ne-in-Some.ensures ∙ c.if-is_ne-2.true)

pub returns : goal.returns
returns g c =
    let number = g.S.Storage.number in
    let x = c.args.optimal.now.tables in
    let l = (candidates_of number c.args.self.now).choices in
    let One' = Pends x l (map (sym_of number) c.next_token.new.pending.items) in
    let Other' = Pends x l (map (sym_of number) c.next_token-2.new.pending.items) in
    λ u v h k.
    let r = c.loop-others.invariant u v h k in
    c.cmp.ensures
    ∙ ended (λ t. number t.0) _ (λ a b. g.met.S.Storage.ordered a.0 b.0) (Pends x l (map (sym_of number) c.loop-others.ones.items)) (Pends x l (map (sym_of number) c.loop-others.others.items))
    One' Other' c.in_ok-next_token-2.field-0 u v r (subst (Begins (λ (t : TIdx _). number t.0) One' r.one) c.in_default.is (c.in_ok-token.ensures.next r.one r.first))
    (c.in_ok-next_token-2.ensures.next r.other r.second)

pub returns-then-is_ne : goal.returns-then-is_ne
returns-then-is_ne g c =
    let ne = sym c.is_ne.ensures ∙ c.if-is_ne.true in
    let x = with_choices c.args.optimal.now.tables (candidates_of g.S.Storage.number c.args.self.now).choices in
    λ u v h k. first_differ x _ _ c.first_tokens-first.result (c.first_tokens-first.ensures ne) ne u v
    (subst (λ a. ChoicesGive x a u) (sym c.symbols.ensures) h) (subst (λ a. ChoicesGive x a v) (sym c.symbols-2.ensures) k)
