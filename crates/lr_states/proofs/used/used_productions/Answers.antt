use Rattle.std.proofs.Common.{◌↔◌, ◌+◌, ◌<◌, ℕ, length, map, sym, subst, ap, ◌∙◌, arith, length-set}
use Rattle.std.proofs.lemmas.List.{length-map}
use Rattle.cfgrammar.specs.Numbered.{core, production_core}
use Rattle.cfgrammar.specs.NumberedSymbols.{sym_of}
use Rattle.lr_states.specs.Inner.Closure.{IsOn}
use Rattle.lr_states.specs.Viable.{IsUsed}
use Rattle.lr_states.proofs.Bits.{bits_more}
use Rattle.lr_states.proofs.Rules.{used_is}
use Rattle.lr_states.proofs.used.used_productions.Goals as goal

pub loop-production-preserved : goal.loop-production-preserved
loop-production-preserved c =
    let g = core c.args.grammar.now in
    let i = c.loop-production.production in
    let bits = c.loop-production.used in
    let known = c.loop-production.invariant in
    let within : i < length bits = omega (arith, c.loop-production-test.true, known.long) in
    let there : i < length g.productions = subst (λ n. i < n) (sym (length-map c.args.grammar.now.productions production_core))
    (omega (arith, c.loop-production-test.true, c.from-count.ensures, c.prods_len.ensures)) in
    record {
      long = ap length c.set.ensures.bits ∙ length-set bits i c.have_sentences.result ∙ known.long;
      bits = subst (λ l. (p : ℕ) → IsOn l p ↔ ((p < i + 1) × IsUsed g p)) (sym c.set.ensures.bits)
          (bits_more (IsUsed g) bits i c.have_sentences.result within known.bits
          (used_is g i there c.in_ok-productive.productive c.in_ok-productive.ensures (map (sym_of (λ s. s)) c.symbols_of.result.now) c.symbols_of.ensures.symbols
          c.have_sentences.result c.have_sentences.ensures));
    }

pub returns : goal.returns
returns c = λ p. (
  (λ on. ((c.loop-production.invariant.bits p).0 on).1),
  (λ used.
      let there : p < length c.args.grammar.now.productions = subst (λ n. p < n) (length-map c.args.grammar.now.productions production_core) used.within in
      (c.loop-production.invariant.bits p).1 (omega (arith, there, c.loop-production-test.false, c.from-count.ensures, c.prods_len.ensures), used)),
)
