use Rattle.std.proofs.Common.{inl, inr, Contains, IfSome, ap, is_some, subst, sym, ◌≡◌, ◌∙◌}
use Rattle.std.proofs.lemmas.Bool.{cases_Bool}
use Rattle.lemmas.proofs.Options.{None-from_is_some}
use Rattle.lr_states.specs.Lookaheads.{tokens_of}
use Rattle.lr_conflicts.specs.Inner.Choices.{items_in}
use Rattle.lr_conflicts.proofs.parser.Parser.reduction.Goals as goal

pub unwrap-requires : goal.unwrap-requires
unwrap-requires c =
    elim (cases_Bool (is_some c.tokens.result)) [
      | inl some ↦ some
      | inr none ↦ absurd (c.tokens.ensures.none.0 (None-from_is_some c.tokens.result none)
          (c.requires.state, subst (Contains (items_in c.args.self.now c.args.state)) (sym c.read_item-item.ensures) c.requires.item))
    ]

pub returns-clause-reduction : goal.returns-clause-reduction
returns-clause-reduction c =
    let x = c.args.self.now.lookaheads.now in
    let q = c.args.state in
    record {
      tokens = subst (λ o. IfSome o (λ row. row.now ≡ tokens_of x q c.read_item-item.result)) c.unwrap.ensures c.tokens.ensures.some ∙ ap (tokens_of x q) c.read_item-item.ensures;
      precedence = c.production_precedence.ensures;
    }
