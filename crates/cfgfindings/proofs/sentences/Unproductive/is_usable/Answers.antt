use Rattle.std.proofs.Common.{◌<◌, All, length, map, refl, sym, subst, true≢false}
use Rattle.cfgrammar.specs.Accessors.{IsSymbolWithin}
use Rattle.cfgrammar.specs.Numbered.{Numbered, core}
use Rattle.cfgrammar.specs.NumberedSymbols.{sym_of}
use Rattle.cfgfindings.proofs.Read.{production_seen}
use Rattle.cfgfindings.proofs.Unusable.{is_usable, not_usable}
use Rattle.cfgfindings.proofs.sentences.Unproductive.is_usable.Goals as goal

pub prod-requires : goal.prod-requires
prod-requires c = subst (λ (g : Numbered). c.args.production.0 < length g.productions) (sym c.self.view_is) c.requires

pub first_among-requires : goal.first_among-requires
first_among-requires c = subst (λ g. All (IsSymbolWithin (λ s. s) g) c.prod.result.now) c.self.view_is c.prod.ensures.within

pub returns-in-Some : goal.returns-in-Some
returns-in-Some c =
    let g = c.args.self.now in
    let p = c.args.production.0 in
    let symbols = map (sym_of (λ s. s)) c.prod.result.now in
    let held = production_seen g c.self.inside.grammar.now c.self.view_is p p refl symbols (λ production. production.symbols) c.prod.ensures.value in (
      (λ no. absurd (true≢false (sym no))),
      (λ usable. absurd (not_usable g (c.usable_productions_hold_sentences.ensures (core g)) p c.requires symbols held c.in-Some.field-0.0 c.in-Some.ensures.first usable)),
    )

pub returns-in-None : goal.returns-in-None
returns-in-None c =
    let g = c.args.self.now in
    let p = c.args.production.0 in
    let symbols = map (sym_of (λ s. s)) c.prod.result.now in
    let held = production_seen g c.self.inside.grammar.now c.self.view_is p p refl symbols (λ production. production.symbols) c.prod.ensures.value in (
      (λ _. is_usable g (c.usable_productions_hold_sentences.ensures (core g)) p c.requires symbols held c.in-None.ensures.first),
      (λ _. refl),
    )
