use Rattle.std.proofs.Common.{◌≡◌, Bool, ℕ, List, false, true, get_or, not, sym, subst, ap, ◌∙◌, true≢false}
use Rattle.std.specs.Option.{unwrap_or}
use Rattle.std.proofs.lemmas.Option.{unwrap_or-slice_get}
use Rattle.cfgrammar.specs.Numbered.{Numbered, core}
use Rattle.cfgrammar.specs.ProductiveRules.{AreProductiveRules}
use Rattle.cfgfindings.specs.Inner.Unproductive.{UnproductiveOrNot}
use Rattle.cfgfindings.proofs.sentences.Unproductive.contains.Goals as goal

-- the rule's bit says whether it is productive
known : (g : Numbered) (bits : List Bool) → AreProductiveRules (core g) bits → (r : ℕ) (bit : Bool) → bit ≡ get_or bits r false → UnproductiveOrNot g r (not bit)
known g bits are r true is = (are.productive r).0 (sym is)
known g bits are r false is = λ w sentence. true≢false (sym ((are.productive r).1 (w, sentence)) ∙ sym is)

pub returns : goal.returns
returns c =
    let bits = c.self.inside.productive in
    let are = subst (λ (g : Numbered). AreProductiveRules (core g) bits) c.self.view_is c.self.invariant in
    known c.args.self.now bits are c.args.rule.0 _
    (c.unwrap_or.ensures ∙ ap (λ o. unwrap_or o false) c.get.ensures ∙ unwrap_or-slice_get bits c.from.result false
    ∙ ap (λ r. get_or bits r false) c.from.ensures)
