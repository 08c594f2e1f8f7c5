-- What a visit adds to the productive rules, and that all are found in the end.
use Rattle.std.proofs.Common.{◌≡◌, ℕ, ◌+◌, ◌<◌, inl, inr, Bool, true, false, ◌⊎◌, List, [], ◌∷◌, ◌++◌, IsTrue, Some, get_or, length, slice_set, refl, sym, ap, subst, ◌∙◌, arith, true≢false, length-set, get_or-set_same, append-nil, slice_get, replicate}
use Rattle.std.proofs.lemmas.Bool.{cases_eq}
use Rattle.std.proofs.lemmas.List.{get_or_default, length-replicate}
use Rattle.std.proofs.lemmas.Option.{unwrap_or-slice_get}
use Rattle.std.specs.Option.{unwrap_or}
use Rattle.std.proofs.lemmas.List.Elements.{All-cons, All-head, All-nil, All-tail}
use Rattle.lemmas.proofs.Elements.{get_or-replicate_default, set-slice_get}
use Rattle.derivation.specs.Grammar.{Sym, Rule, Token, Grammar, Production, HasProduction}
use Rattle.derivation.specs.Tree.{Yields, empty, token, opened}
use Rattle.derivation.specs.Productive.{Productive}
use Rattle.derivation.proofs.Trees.{derivation_from_trees, trees_from_derivation, trees_join}
use Rattle.cfgsets.specs.Growth.{CoversEach, AddsProduction}
use Rattle.cfganalysis.specs.Inner.GrowingFirsts.{ProductionRefers}
use Rattle.cfgsets.specs.Waiting.{NoneWaits, Waits}
use Rattle.cfganalysis.specs.ProductiveRules.{AreProductiveRules, AreProductiveSymbols, is_productive, is_productive_symbol}
use Rattle.cfgsets.specs.Table.{bits_on}
use Rattle.search.proofs.Bits.{bit_put, bits_on-set}
use Rattle.cfganalysis.specs.Inner.GrowingProductive.{AreSoundProductive, CoverProductiveOf, IsNoMoreProductive}

pub none_productive : (g : Grammar) (rules : ℕ) (bits : List Bool) → rules ≡ g.rules → bits ≡ replicate rules false → AreSoundProductive g bits
none_productive g rules bits e is = subst (AreSoundProductive g) (sym is) (record {
  rules = length-replicate rules false ∙ e;
  productive = λ r on. absurd (true≢false (sym on ∙ get_or-replicate_default rules r false));
})

-- lists of tokens and productive rules yield words
productive_word : (g : Grammar) (bits : List Bool) → AreSoundProductive g bits → (a : List Sym) → AreProductiveSymbols bits a → (w : List ℕ) × Yields (HasProduction g) a w
productive_word g bits sound [] all = ([], empty)
productive_word g bits sound (Token t ∷ a) all =
    let rest = productive_word g bits sound a (All-tail (λ s. IsTrue (is_productive_symbol bits s)) (Token t) a all) in
    (t ∷ rest.0, token rest.1)
productive_word g bits sound (Rule r ∷ a) all =
    let first = sound.productive r (All-head (λ s. IsTrue (is_productive_symbol bits s)) (Rule r) a all) in
    let rest = productive_word g bits sound a (All-tail (λ s. IsTrue (is_productive_symbol bits s)) (Rule r) a all) in
    (first.0 ++ rest.0, trees_join (HasProduction g) (trees_from_derivation (HasProduction g) (Rule r ∷ []) first.0 first.1) rest.1)

module _ (p : Production) (old : List Bool) (waiting : List Bool) (none : NoneWaits waiting) where
  -- the bit of the rule stays as it was
  pub takes_none : (new : List Bool) → new ≡ old → CoverProductiveOf old p → AddsProduction AreSoundProductive CoverProductiveOf bits_on ProductionRefers IsNoMoreProductive p old new (Waits waiting)
  takes_none new same covers = subst (λ n. AddsProduction AreSoundProductive CoverProductiveOf bits_on ProductionRefers IsNoMoreProductive p old n (Waits waiting)) (sym same) (record {
    sound = λ g is has sound. sound;
    no_less = omega arith;
    more = λ r w. absurd (true≢false (sym w ∙ none r));
    gains = λ r. ((λ w. absurd (true≢false (sym w ∙ none r))), (λ unless. absurd (unless (λ h. h))));
    closed = λ _. covers;
    stays = λ q _ h. h;
  })

  -- the bit of the rule is turned on, and the rule waits
  pub takes_rule : (new waiting' : List Bool) → p.rule < length old → p.rule < length waiting → is_productive old p.rule ≡ false → AreProductiveSymbols old p.symbols
      → new ≡ slice_set old p.rule true → waiting' ≡ slice_set waiting p.rule true → AddsProduction AreSoundProductive CoverProductiveOf bits_on ProductionRefers IsNoMoreProductive p old new (Waits waiting')
  takes_rule new waiting' within among was all put waits = record {
    sound = λ g is has sound. record {
      rules = ap length put ∙ length-set old p.rule true ∙ sound.rules;
      productive = λ r on. elim (back r on) [
        | inl h ↦ sound.productive r h
        | inr e ↦ let w = productive_word g old sound p.symbols all in subst (Productive (HasProduction g)) (sym e)
            (w.0, derivation_from_trees (HasProduction g) (opened has w.1 empty (sym (append-nil w.0))))
      ];
    };
    no_less = let k = counted in omega (arith, k);
    more = λ r w. let k = counted in omega (arith, k);
    gains = λ r. (
      (λ w no_more. elim ((bit_put waiting p.rule among r).0 (subst (λ l. Waits l r) waits w)) [
        | inl i ↦ absurd (true≢false (sym i ∙ none r))
        | inr e ↦ absurd (true≢false (sym (no_more (subst (λ q. IsTrue (is_productive new q)) (sym e) here)) ∙ ap (is_productive old) e ∙ was))
      ]),
      (λ unless. elim (cases_eq r p.rule) [
        | inl e ↦ grown r e
        | inr ne ↦ absurd (unless (λ on. elim (back r on) [ inl h ↦ h | inr e ↦ absurd (ne e) ]))
      ]),
    );
    closed = λ _ _. here;
    stays = λ q depends covers all'. kept q.rule (covers (λ k d lt. still (get_or q.symbols k d) (λ r e on. elim (back r on) [
      | inl h ↦ h
      | inr same ↦ absurd (depends r (k, lt, get_or_default q.symbols k (Rule r) d lt ∙ e) (grown r same))
    ]) (all' k d lt)));
  }
    where
      here : IsTrue (is_productive new p.rule)
      here = ap (λ l. is_productive l p.rule) put ∙ get_or-set_same old p.rule true false within

      counted : bits_on new ≡ bits_on old + 1
      counted = ap bits_on put ∙ bits_on-set old p.rule within was

      back : (r : ℕ) → IsTrue (is_productive new r) → IsTrue (is_productive old r) ⊎ (r ≡ p.rule)
      back r on = (bit_put old p.rule within r).0 (subst (λ l. IsTrue (is_productive l r)) put on)

      kept : (r : ℕ) → IsTrue (is_productive old r) → IsTrue (is_productive new r)
      kept r on = subst (λ l. IsTrue (is_productive l r)) (sym put) ((bit_put old p.rule within r).1 (inl on))

      grown : (r : ℕ) → r ≡ p.rule → Waits waiting' r
      grown r e = subst (λ l. Waits l r) (sym waits) ((bit_put waiting p.rule among r).1 (inr e))

      still : (s : Sym) → ((r : ℕ) → s ≡ Rule r → IsTrue (is_productive new r) → IsTrue (is_productive old r)) → IsTrue (is_productive_symbol new s) → IsTrue (is_productive_symbol old s)
      still (Rule r) h on = h r refl on
      still (Token t) h on = refl

  -- the rule's bit was set, at the index of its number: it was on, or is turned on
  module _ (index : ℕ) (at : index ≡ p.rule) (within : p.rule < length old) (all : AreProductiveSymbols old p.symbols) (new : List Bool) (put : new ≡ slice_set old index true) where
    is_at : {b : Bool} → slice_get old index ≡ Some b → is_productive old index ≡ b
    is_at had = sym (unwrap_or-slice_get old index false) ∙ ap (λ o. unwrap_or o false) had

    pub takes_set : slice_get old index ≡ Some true → (waiting' : List Bool) → waiting' ≡ waiting
        → AddsProduction AreSoundProductive CoverProductiveOf bits_on ProductionRefers IsNoMoreProductive p old new (Waits waiting')
    takes_set had waiting' waits = subst (λ l. AddsProduction AreSoundProductive CoverProductiveOf bits_on ProductionRefers IsNoMoreProductive p old new (Waits l)) (sym waits)
        (takes_none new (put ∙ set-slice_get old index true had) (λ _. ap (is_productive old) (sym at) ∙ is_at had))

    pub takes_new : slice_get old index ≡ Some false → p.rule < length waiting → (waiting' : List Bool) → waiting' ≡ slice_set waiting index true
        → AddsProduction AreSoundProductive CoverProductiveOf bits_on ProductionRefers IsNoMoreProductive p old new (Waits waiting')
    takes_new had among waiting' waits = takes_rule new waiting' within among (ap (is_productive old) (sym at) ∙ is_at had) all
        (put ∙ ap (λ n. slice_set old n true) at) (waits ∙ ap (λ n. slice_set waiting n true) at)

-- if no production turns a bit on, a list that yields a word contains only rules whose bits are on
module _ (g : Grammar) (bits : List Bool) (covered : CoversEach CoverProductiveOf g bits) where
  sequence_productive : {a : List Sym} {w : List ℕ} → Yields (HasProduction g) a w → AreProductiveSymbols bits a
  sequence_productive empty = All-nil (λ s. IsTrue (is_productive_symbol bits s))
  sequence_productive (token {t = t} {a = a} h) = All-cons (λ s. IsTrue (is_productive_symbol bits s)) (Token t) a refl (sequence_productive h)
  sequence_productive (opened {r = r} {symbols = symbols} {a = a} has h k e) = All-cons (λ s. IsTrue (is_productive_symbol bits s)) (Rule r) a
      (subst (CoverProductiveOf bits) (get_or_default g.productions has.0 _ _ has.1 ∙ has.2) (covered has.0 has.1) (sequence_productive h)) (sequence_productive k)

  pub are_productive : AreSoundProductive g bits → AreProductiveRules g bits
  are_productive sound = record {
    rules = sound.rules;
    productive = λ r. (
      sound.productive r,
      (λ has. All-head (λ s. IsTrue (is_productive_symbol bits s)) (Rule r) []
          (sequence_productive (trees_from_derivation (HasProduction g) (Rule r ∷ []) has.0 has.1))),
    );
  }
