-- What the counts of productions say of a walk that opened them, and of a rule of cost 0, if one of its productions alone was opened.
use Rattle.std.proofs.Common.{◌≡◌, ◌⊎◌, inl, inr, ℕ, ◌<◌, List, [], ◌∷◌, ◌++◌, length, Result, Ok, Err, append-nil, arith, refl, ap, subst, sym, ◌∙◌, ◌↔◌, ◌+◌, ◌*◌, ◌≤◌, All}
use Rattle.std.specs.Prelude.{IfOk, slice_index}
use Rattle.std.proofs.lemmas.List.{length-append}
use Rattle.std.proofs.Math.Nat.{mul-le-mul_right}
use Rattle.lemmas.proofs.Popped.{none_left}
use Rattle.derivation.specs.Grammar.{Grammar, Sym, IsGrammar, HasProduction}
use Rattle.derivation.specs.Sentence.{Sentence, cost_of}
use Rattle.derivation.specs.Costs.{Least, Minimal}
use Rattle.derivation.specs.Tree as trees
use Rattle.derivation.specs.Productive.{Unproductive}
use Rattle.derivation.proofs.Costs.{least_is_one, minimal_costs_least}
use Rattle.derivation.proofs.Trees.{derivation_from_trees, trees_from_derivation}
use Rattle.cfgtables.specs.Openings.{OpensOne, nth_production}
use Rattle.cfgtables.proofs.Located.{same_production}
use Rattle.cfgleast.specs.Generator.{CostTables, IsGenerator, IsLeastProduction, token_cost}
use Rattle.cfgchoices.specs.Splits.{Split, done, part}
use Rattle.cfgchoices.proofs.Lengths.{sentence_length}
use Rattle.cfgchoices.proofs.Splits.{Split-map}
use Rattle.cfgcosts.specs.declared.errors.SentenceError.{SentenceError}
use Rattle.cfgcosts.specs.declared.errors.SentenceError.TheVariants.{NoSentence, CostTooLarge, OutOfMemory}
use Rattle.cfgcosts.specs.DerivedBy.{IsDerivedBy, IsFree, OpensNoneFree, none, next, times}
use Rattle.cfgcosts.specs.Inner.Walk.{AreCountsOf, HasStopped, HasWalked}
use Rattle.cfgcosts.proofs.Counts.{counts_more}

module _ (g content : Grammar) (cost : ℕ → ℕ) (r : ℕ) (opened : ℕ → ℕ) (all : ℕ) (same : content ≡ g) where
  pub derived_by : (w : List ℕ) → HasWalked g cost r (AreCountsOf content opened all) w → IsDerivedBy g cost opened all r w
  derived_by w h = record {
    positions = h.positions;
    list = h.list;
    derived = h.derived;
    tokens = h.tokens;
    counted = λ p within. h.opened.each p (subst (λ (g : Grammar). p < length g.productions) (sym same) within);
    together = h.opened.together;
  }

  none_free : (positions : List ℕ) → AreCountsOf content opened all positions → OpensNoneFree g cost (λ p. times p positions) → OpensNoneFree g cost opened
  none_free positions counts free p within least = counts.each p (subst (λ (g : Grammar). p < length g.productions) (sym same) within) ∙ free p within least

  -- whatever the result is
  pub free_after : {A : Type 0} (f : A → List ℕ) (result : Result A SentenceError) → IfOk result (λ a. HasWalked g cost r (AreCountsOf content opened all) (f a))
      → (result ≡ Err OutOfMemory → HasStopped g cost r (AreCountsOf content opened all))
      → ((result ≡ Err NoSentence) ⊎ (result ≡ Err CostTooLarge) → OpensNoneFree g cost opened) → OpensNoneFree g cost opened
  free_after f (Ok a) walked stopped refused = none_free walked.positions walked.opened walked.free
  free_after f (Err OutOfMemory) walked stopped refused = let h = stopped refl in none_free h.positions h.opened h.free
  free_after f (Err NoSentence) walked stopped refused = refused (inl refl)
  free_after f (Err CostTooLarge) walked stopped refused = refused (inr refl)

-- (cited by the wrong body free-rules-opened alone, from here on) what yields nothing consists of rules of cost 0
free_parts : (g : Grammar) (cost : ℕ → ℕ) {a : List Sym} {w : List ℕ} → trees.Yields (HasProduction g) a w → w ≡ [] → Split (IsFree g cost) a w
free_parts g cost trees.empty nil = done
free_parts g cost (trees.token h) nil = absurd (cc)
free_parts g cost (trees.opened {r = r} {u = u} {w = w} has h k e) nil =
    let both : length (u ++ w) ≡ 0 = ap length (sym e ∙ nil) in
    let longer = length-append u w in
    let first = none_left u (omega (arith, both, longer)) in
    let sentence = subst (Sentence (HasProduction g) r) first (derivation_from_trees (HasProduction g) (trees.opened has h trees.empty (sym (append-nil u)))) in
    part ((([], sentence, refl), λ v s. omega arith), first) (free_parts g cost k (none_left w (omega (arith, both, longer)))) e

module _ (x : CostTables) (n : ℕ) (is : IsGenerator x n) (grammar : IsGrammar x.grammar) (r c : ℕ) (free : c ≡ 0) (least : Least (HasProduction x.grammar) (token_cost x) r c) where
  empty_word : (w : List ℕ) → Minimal (HasProduction x.grammar) (token_cost x) r w → w ≡ []
  empty_word w m =
      let one = least_is_one (HasProduction x.grammar) (token_cost x) r _ c (minimal_costs_least (HasProduction x.grammar) (token_cost x) r w m) least in
      let short = sentence_length x.grammar x.costs grammar is.tokens is.positive r w m.0 in
      none_left w (omega (arith, one, short, free))

  -- opening a production of least cost, and no other one, derives the rule's minimal sentence
  pub opened_alone : (p : ℕ) (content content' : Grammar) (opened opened' : ℕ → ℕ) (all all' : ℕ) → OpensOne p content content' opened opened' all all' → content ≡ x.grammar
      → ((q : ℕ) → q < length x.grammar.productions → opened q ≡ 0) → all ≡ 0 → IsLeastProduction x.grammar (token_cost x) r p
      → (w : List ℕ) → Minimal (HasProduction x.grammar) (token_cost x) r w → IsDerivedBy x.grammar (token_cost x) opened' all' r w
  opened_alone p content content' opened opened' all all' o same fresh all_fresh production w m =
      let within = λ (q : ℕ) (h : q < length content.productions). subst (λ (g : Grammar). q < length g.productions) same h in
      let counts = counts_more content content' p opened opened' all all' [] o (record { each = λ q h. fresh q (within q h); together = all_fresh }) in
      let symbols = (nth_production x.grammar p).symbols in
      let nothing = empty_word production.word production.minimal in
      subst (IsDerivedBy x.grammar (token_cost x) opened' all' r) (sym (empty_word w m)) (record {
        positions = p ∷ [];
        list = symbols;
        derived = next (record {
          before = [];
          rule = r;
          after = [];
          symbols = symbols;
          has = (production.index, same_production (nth_production x.grammar p) (record { rule = r; symbols = symbols }) production.owner refl);
          source = refl;
          target = sym (append-nil symbols);
        }) none;
        tokens = subst (Split (IsFree x.grammar (token_cost x)) symbols) nothing
            (free_parts x.grammar (token_cost x) (trees_from_derivation (HasProduction x.grammar) symbols production.word production.derived) nothing);
        counted = λ q h. counts.each q (subst (λ (g : Grammar). q < length g.productions) (sym (o.stays ∙ same)) h);
        together = counts.together;
      })

-- (cited by the wrong body walk-to-a-costlier-sentence alone, from here on) rules of cost 0 are the same, whatever the tokens cost
free_still : (g : Grammar) (costs : List ℕ) (other : ℕ → ℕ) → IsGrammar g → length costs ≡ g.tokens → All (λ c. 0 < c) costs
    → (r : ℕ) → Least (HasProduction g) (slice_index costs) r 0 → Least (HasProduction g) other r 0
free_still g costs other grammar tokens positive r least =
    let (w, sentence, nothing) = least.0 in
    let short = sentence_length g costs grammar tokens positive r w sentence in
    let empty : w ≡ [] = none_left w (omega (arith, short, nothing)) in
    ((w, sentence, ap (cost_of other) empty), λ v s. omega arith)

-- what a walk by another generator of the same grammar gave, by the costs of this one
module _ {x y : CostTables} (grammar : IsGrammar x.grammar) (is : (n : ℕ) × IsGenerator x n) (other : (n : ℕ) × IsGenerator y n) (same : y.grammar ≡ x.grammar) where
  pub short_still : (r : ℕ) (w : List ℕ) → Sentence (HasProduction y.grammar) r w → length w ≤ cost_of (token_cost x) w
  short_still r w sentence = sentence_length x.grammar x.costs grammar is.1.tokens is.1.positive r w (subst (λ g. Sentence (HasProduction g) r w) same sentence)

  pub within_still : (w : List ℕ) → All (λ t. t + 1 < y.grammar.tokens) w → All (λ t. t + 1 < x.grammar.tokens) w
  within_still w h = subst (λ (g : Grammar). All (λ t. t + 1 < g.tokens) w) same h

  pub few_still : (n many : ℕ) → n ≤ 1 + many * y.grammar.rules → n ≤ 1 + many * x.grammar.rules
  few_still n many h = subst (λ (g : Grammar). n ≤ 1 + many * g.rules) same h

  pub none_still : {A : Type 0} (r : ℕ) → A ↔ Unproductive (HasProduction y.grammar) r → A ↔ Unproductive (HasProduction x.grammar) r
  none_still {A} r h = subst (λ g. A ↔ Unproductive (HasProduction g) r) same h

  pub none_free_still : (opened : ℕ → ℕ) → OpensNoneFree y.grammar (token_cost y) opened → OpensNoneFree x.grammar (token_cost x) opened
  none_free_still opened free p within least =
      subst (λ g. OpensNoneFree g (token_cost y) opened) same free p within
      (free_still x.grammar x.costs (token_cost y) grammar is.1.tokens is.1.positive (nth_production x.grammar p).rule least)

  pub derived_still : (opened : ℕ → ℕ) (all r : ℕ) (w : List ℕ) → IsDerivedBy y.grammar (token_cost y) opened all r w → IsDerivedBy x.grammar (token_cost x) opened all r w
  derived_still opened all r w h =
      let d = subst (λ g. IsDerivedBy g (token_cost y) opened all r w) same h in
      let tokens : length y.costs ≡ x.grammar.tokens = other.1.tokens ∙ ap (λ (g : Grammar). g.tokens) same in
      record {
        positions = d.positions;
        list = d.list;
        derived = d.derived;
        tokens = Split-map (IsFree x.grammar (token_cost y)) (IsFree x.grammar (token_cost x))
            (λ q u free. (free_still x.grammar y.costs (token_cost x) grammar tokens other.1.positive q free.0, free.1)) d.tokens;
        counted = d.counted;
        together = d.together;
      }

  -- if the rule's least cost by those of the other is no greater
  pub stopped_still : (r n least fewest c : ℕ) → Least (HasProduction x.grammar) (token_cost x) r least → fewest ≤ least → n ≤ 1 + fewest * y.grammar.rules
      → Least (HasProduction x.grammar) (token_cost x) r c → n ≤ 1 + c * x.grammar.rules
  stopped_still r n least fewest c found fits few h =
      let one = least_is_one (HasProduction x.grammar) (token_cost x) r least c found h in
      let most : fewest * x.grammar.rules ≤ c * x.grammar.rules = mul-le-mul_right x.grammar.rules (omega (arith, one, fits)) in
      let own = few_still n fewest few in
      omega (arith, most, own)
