use Rattle.std.proofs.Common.{◌≡◌, inl, inr, Some, ap, subst, sym, ◌∙◌}
use Rattle.std.proofs.lemmas.Result.{IfOk-weaker}
use Rattle.cfgrammar.specs.Grammar.{Sym, Rule}
use Rattle.cfgrammar.specs.NumberedSymbols.{sym_of}
use Rattle.lr_conflicts.specs.declared.examples.nodes.Node.TheVariants as nodes
use Rattle.lr_conflicts.specs.Inner.Searches.{setting}
use Rattle.lr_conflicts.specs.Inner.Ways.{Leads, Opens, Reads, opens, reads}
use Rattle.lr_conflicts.proofs.Found.{finds_none, finds_then}
use Rattle.lr_conflicts.proofs.examples.ways.Ways.go_on_item.Goals as goal

pub returns-in_default : goal.returns-in_default
returns-in_default c =
    let w = setting c.args.self.now in
    finds_none w (Leads w (nodes.Item c.args.at)) _
    (λ n h. elim h [ reads symbol next r ↦ absurd (cc (c.in_default.ensures.is ∙ next)) | opens rule next o ↦ absurd (cc (c.in_default.ensures.is ∙ next)) ])

pub returns-in-Rule : goal.returns-in-Rule
returns-in-Rule c =
    let w = setting c.args.self.now in
    let at = c.args.at in
    let mine : Sym = sym_of (λ s. s) c.in-Some.symbol in
    IfOk-weaker c.open.result _ _
    (λ _ v. finds_then w (Reads w at.place at.item at.followed mine)
    (Opens w at.place at.item at.followed c.from.result) (Leads w (nodes.Item at)) _ _ _
    (λ n h. elim h [
      | reads symbol next r ↦
          let same : symbol ≡ mine = let both = c.in-Some.ensures.is ∙ next in cc in
          inl (subst (λ s. Reads w at.place at.item at.followed s n) same r)
      | opens rule next o ↦
          let same : rule ≡ c.from.result =
          let both : Rule c.in-Rule.rule.0 ≡ Rule rule = let e = sym (ap (λ s. Some (sym_of (λ t. t) s)) c.in-Rule.is) ∙ c.in-Some.ensures.is ∙ next in cc in
          let one : c.in-Rule.rule.0 ≡ rule = cc in
          sym (c.from.ensures ∙ one) in
          inr (subst (λ r. Opens w at.place at.item at.followed r n) same o)
    ])
    c.in_ok-read.ensures v)
    c.open.ensures
