use Rattle.std.proofs.Common.{◌↔◌, ◌++◌, ◌∷◌, inl, inr, ℕ, [], Contains, ap, get_or, map, subst, sym, take, ◌∙◌}
use Rattle.std.proofs.lemmas.List.{map_push, take_all, take_more}
use Rattle.std.proofs.lemmas.List.Elements.{Contains-get_or, Contains-push_cases}
use Rattle.lr_conflicts.specs.Conflicts.{read_item}
use Rattle.lr_conflicts.specs.Inner.Choices.{IsReductionAt}
use Rattle.lr_conflicts.specs.declared.parser.Reduction.{Reduction}
use Rattle.lr_conflicts.proofs.Read.{IsReadIn, reductions_are}
use Rattle.lr_conflicts.proofs.parser.Parser.state.Goals as goal

abbrev number : Reduction → ℕ
number r = r.production

pub reduction-requires-clause-item : goal.reduction-requires-clause-item
reduction-requires-clause-item c =
    let x = c.args.self.now in
    let i = c.loop-production.production-index in
    let p = get_or c.deref-production-items.result.now i 0 in
    let among = subst (λ l. Contains l p) c.deref-production-items.ensures.value (Contains-get_or c.deref-production-items.result.now i 0 c.loop-production-test.true) in
    subst (λ l. Contains l (read_item x.grammar.now p)) c.items.ensures ((c.in_ok-read_productions.ensures.all p).0 among).1

pub loop-production-preserved : goal.loop-production-preserved
loop-production-preserved c =
    let x = c.args.self.now in
    let i = c.loop-production.production-index in
    let all = c.deref-production-items.result.now in
    let rs = c.loop-production.reductions.items in
    let r = c.reduction.result in
    record {
      productions = ap (map number) c.in_ok-push.ensures.items ∙ map_push number rs r ∙ ap (λ l. l ++ r.production ∷ []) c.loop-production.invariant.productions
          ∙ ap (λ n. take i all ++ n ∷ []) c.reduction.ensures.production ∙ sym (take_more all i 0 c.loop-production-test.true);
      each = λ other among. elim (Contains-push_cases rs r other (subst (λ l. Contains l other) c.in_ok-push.ensures.items among)) [
        | inl early ↦ c.loop-production.invariant.each other early
        | inr same ↦ subst (IsReductionAt x.grammar.now x.lookaheads.now c.args.number) same c.reduction.ensures.reduction
      ];
    }

pub returns-clause-state : goal.returns-clause-state
returns-clause-state c =
    let x = c.args.self.now in
    let all = c.deref-production-items.result.now in
    let same = take_all c.loop-production.production-index all c.loop-production-test.false ∙ c.deref-production-items.ensures.value in
    record {
      within = c.requires.number;
      reductions = reductions_are x.grammar.now x.levels.now x.lookaheads.now c.requires.tables.lookaheads c.args.number c.requires.number
          c.in_ok-read_productions.field-0.items
          (λ p. subst (λ l. Contains c.in_ok-read_productions.field-0.items p ↔ IsReadIn x.grammar.now l p) c.items.ensures (c.in_ok-read_productions.ensures.all p))
          c.in_ok-read_productions.ensures.ascending c.loop-production.reductions.items (c.loop-production.invariant.productions ∙ same) c.loop-production.invariant.each;
    }
