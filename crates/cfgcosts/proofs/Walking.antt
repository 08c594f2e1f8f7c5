-- The pending symbols, followed by the tokens collected, are on the way from a rule to its first minimal sentence.
use mathlib.Core.List.{reverse_aux-append}
use Rattle.std.proofs.Common.{◌≡◌, ℕ, ◌+◌, ◌*◌, ◌<◌, ◌≤◌, inl, inr, List, [], ◌∷◌, ◌++◌, length, get_or, map, reverse, Option, Some, None, Result, Ok, Err, OnErr, ◌-◌, ◌^◌, arith, refl, sym, ap, subst, ◌∙◌, append-nil, append_assoc}
use Rattle.std.proofs.Math.Nat.{mul-le-mul_right}
use Rattle.std.proofs.lemmas.Bool.Decides.{eqb_tells}
use Rattle.std.proofs.lemmas.List.{reverse-append, reverse-reverse, length-append}
use Rattle.cfgindex.specs.declared.idxnewtype.PIdx.{PIdx}
use Rattle.cfgindex.specs.declared.idxnewtype.Symbol.{Symbol}
use Rattle.cfgtables.specs.NumberedSymbols.{sym_of}
use Rattle.derivation.specs.Grammar.{Sym, Rule, Token, Grammar, IsGrammar, HasProduction}
use Rattle.derivation.specs.Derivation.{Step}
use Rattle.derivation.specs.Sentence.{cost_of}
use Rattle.derivation.specs.Costs.{Least}
use Rattle.derivation.proofs.Costs.{least_is_one, minimal_costs_least}
use Rattle.cfgtables.specs.Openings.{nth_production}
use Rattle.cfgtables.proofs.Located.{same_production}
use Rattle.derivation.specs.CostLists.{rule_cost}
use Rattle.derivation.proofs.Sequences.{item_shown}
use Rattle.derivation.proofs.Sums.{plus_zero}
use Rattle.cfgleast.specs.Certificate.{choice_of, rule_choice}
use Rattle.cfgleast.specs.Generator.{CostTables, cost_answer, token_cost}
use Rattle.cfgleast.proofs.Generated.{answered_some}
use Rattle.cfgchoices.specs.Choices.{ChoicesGive}
use Rattle.cfgchoices.specs.FirstChoices.{AreFirst, AreChosen}
use Rattle.cfgchoices.specs.Splits.{Split, done, itself, part}
use Rattle.cfgchoices.proofs.Pending.{last_shown, map_reverse}
use Rattle.cfgchoices.proofs.FirstChosen.{first_given, gives_some, known}
use Rattle.cfgchoices.proofs.Lengths.{sentence_length}
use Rattle.cfgchoices.proofs.SentenceTokens.{sentence_tokens}
use Rattle.cfgchoices.proofs.Optimal.{least_of}
use Rattle.cfgcosts.specs.DerivedBy.{IsProductionAt, DerivesBy, none, next, IsFree, OpensNoneFree, times}
use Rattle.cfgcosts.specs.Inner.Walk.{IsFirstSentence, HasStopped, HasWalked}
use Rattle.cfgcosts.proofs.Counts.{times_other}
use Rattle.cfgcosts.proofs.Plans.{Chosen, Planned, plan_of, plan_ended, plan_token, plan_free, plan_opened, plan_within}

derives_more : (g : Grammar) (p : ℕ) {positions : List ℕ} {a b c : List Sym} → DerivesBy g positions a b → Step (IsProductionAt g p) b c → DerivesBy g (positions ++ p ∷ []) a c
derives_more g p none s = next s none
derives_more g p (next t d) s = next t (derives_more g p d s)

-- where a walk goes: to what the choices give for a rule, which is its first minimal sentence
pub record WalksTo (x : CostTables) (r : ℕ) (sentence : List ℕ) : Type 0 where
  pub walks : AreChosen x
  pub grammar : IsGrammar x.grammar
  pub first : AreFirst x
  pub rule : r < x.grammar.rules
  pub given : ChoicesGive x (Rule r ∷ []) sentence

-- The opened productions derive the pending symbols, followed by the tokens of the word with rules of cost 0 between them.
pub record IsOnTheWay (x : CostTables) (r : ℕ) (HasOpened : List ℕ → Type 0) (pending : List Sym) (word : List ℕ) : Type 0 where
  pub sentence : List ℕ
  pub goal : WalksTo x r sentence
  pub later : List ℕ
  pub left : ℕ
  pub plan : Planned x (reverse pending) later left
  pub whole : word ++ later ≡ reverse sentence
  pub positions : List ℕ
  pub opened : HasOpened positions
  pub free : OpensNoneFree x.grammar (token_cost x) (λ p. times p positions)
  pub few : length positions + left ≤ length sentence * x.grammar.rules
  pub suffix : List Sym
  pub derived : DerivesBy x.grammar positions (Rule r ∷ []) (pending ++ suffix)
  pub between : Split (IsFree x.grammar (token_cost x)) suffix (reverse word)

module _ (x : CostTables) (r : ℕ) (HasOpened : List ℕ → Type 0) where
  pub begins : (c : ℕ) → AreChosen x → IsGrammar x.grammar → AreFirst x → r < x.grammar.rules → cost_answer x r ≡ Some c → HasOpened []
      → (pending : List Sym) (word : List ℕ) → pending ≡ Rule r ∷ [] → word ≡ [] → IsOnTheWay x r HasOpened pending word
  begins c walks grammar first rule answer fresh pending word e f =
      let read = answered_some (rule_cost x.least r) c answer in
      let (w, given) = gives_some x walks grammar (Rule r ∷ []) c (plus_zero (rule_cost x.least r) ∙ read.0) read.1 in
      let p = plan_of x walks grammar r w given in
      subst (λ a. IsOnTheWay x r HasOpened a word) (sym e) (subst (IsOnTheWay x r HasOpened (Rule r ∷ [])) (sym f) (record {
        sentence = w;
        goal = record { walks = walks; grammar = grammar; first = first; rule = rule; given = given };
        later = reverse w;
        left = p.openings;
        plan = p.plan;
        whole = refl;
        positions = [];
        opened = fresh;
        free = λ p within least. refl;
        few = omega (arith, p.few);
        suffix = [];
        derived = none;
        between = done;
      }))

  module _ (rest : List Sym) (word : List ℕ) where
    pub after_token : (t : ℕ) → IsOnTheWay x r HasOpened (rest ++ Token t ∷ []) word → IsOnTheWay x r HasOpened rest (word ++ t ∷ [])
    after_token t way =
        let l = way.goal in
        let (later, e, plan) = plan_token x l.walks l.grammar t (reverse rest) way.later way.left
        (subst (λ a. Planned x a way.later way.left) (reverse-append rest (Token t ∷ [])) way.plan) in
        record {
          sentence = way.sentence;
          goal = l;
          later = later;
          left = way.left;
          plan = plan;
          whole = append_assoc word (t ∷ []) later ∙ ap (λ l. word ++ l) (sym e) ∙ way.whole;
          positions = way.positions;
          opened = way.opened;
          free = way.free;
          few = way.few;
          suffix = Token t ∷ way.suffix;
          derived = subst (DerivesBy x.grammar way.positions (Rule r ∷ [])) (append_assoc rest (Token t ∷ []) way.suffix) way.derived;
          between = subst (Split (IsFree x.grammar (token_cost x)) (Token t ∷ way.suffix)) (sym (reverse-append word (t ∷ []))) (itself way.between);
        }

    pub after_free : (q : ℕ) → rule_choice x.choices q ≡ None → IsOnTheWay x r HasOpened (rest ++ Rule q ∷ []) word → IsOnTheWay x r HasOpened rest word
    after_free q unchosen way =
        let l = way.goal in
        let (nothing, plan) = plan_free x l.walks l.grammar q (reverse rest) way.later way.left
        (subst (λ a. Planned x a way.later way.left) (reverse-append rest (Rule q ∷ [])) way.plan) unchosen in
        record {
          sentence = way.sentence;
          goal = l;
          later = way.later;
          left = way.left;
          plan = plan;
          whole = way.whole;
          positions = way.positions;
          opened = way.opened;
          free = way.free;
          few = way.few;
          suffix = Rule q ∷ way.suffix;
          derived = subst (DerivesBy x.grammar way.positions (Rule r ∷ [])) (append_assoc rest (Rule q ∷ []) way.suffix) way.derived;
          between = part (least_of (known x l.walks l.grammar) l.walks.number l.walks.generator l.grammar q 0 nothing, refl) way.between refl;
        }

    pub rule_within : (q : ℕ) → IsOnTheWay x r HasOpened (rest ++ Rule q ∷ []) word → q < x.grammar.rules
    rule_within q way = plan_within x way.goal.walks way.goal.grammar q (reverse rest) way.later way.left
        (subst (λ a. Planned x a way.later way.left) (reverse-append rest (Rule q ∷ [])) way.plan)

    -- the choice of a rule, as it is read
    pub choice_at : {S : Type 0} (number : S → ℕ) (items : List (Option (PIdx S × ℕ))) (q i : ℕ) (entry found : Option (PIdx S × ℕ)) → map (choice_of number) items ≡ x.choices → i ≡ q
        → entry ≡ get_or items i entry → entry ≡ found → IsOnTheWay x r HasOpened (rest ++ Rule q ∷ []) word → rule_choice x.choices q ≡ choice_of number found
    choice_at number items q i entry found shown holds at is way =
        item_shown (choice_of number) items x.choices q entry None shown (subst (λ m. q < m) (sym way.goal.walks.listed) (rule_within q way))
        (subst (λ m. entry ≡ get_or items m entry) holds at) ∙ ap (choice_of number) is

    -- the production that is opened next
    pub chosen_next : (q p m : ℕ) → rule_choice x.choices q ≡ Some (p, m) → IsOnTheWay x r HasOpened (rest ++ Rule q ∷ []) word → Chosen x q p m
    chosen_next q p m choice way = (plan_opened x way.goal.walks way.goal.grammar q (p, m) (reverse rest) way.later way.left
        (subst (λ a. Planned x a way.later way.left) (reverse-append rest (Rule q ∷ [])) way.plan) choice).chosen

    pub after_opened : (q p m : ℕ) → rule_choice x.choices q ≡ Some (p, m) → (way : IsOnTheWay x r HasOpened (rest ++ Rule q ∷ []) word) → (HasOpened' : List ℕ → Type 0)
        → ((positions : List ℕ) → HasOpened positions → HasOpened' (positions ++ p ∷ [])) → (pending : List Sym) → pending ≡ rest ++ (nth_production x.grammar p).symbols
        → IsOnTheWay x r HasOpened' pending word
    after_opened q p m choice way HasOpened' more pending e =
        let l = way.goal in
        let symbols = (nth_production x.grammar p).symbols in
        let next = plan_opened x l.walks l.grammar q (p, m) (reverse rest) way.later way.left
        (subst (λ a. Planned x a way.later way.left) (reverse-append rest (Rule q ∷ [])) way.plan) choice in
        let c = next.chosen in
        let owner = c.opens.owner in
        let longer = length-append way.positions (p ∷ []) in
        subst (λ a. IsOnTheWay x r HasOpened' a word) (sym e) (record {
          sentence = way.sentence;
          goal = l;
          later = way.later;
          left = next.left;
          plan = subst (λ a. Planned x a way.later next.left) (sym (reverse_aux-append rest symbols [])) next.plan;
          whole = way.whole;
          positions = way.positions ++ p ∷ [];
          opened = more way.positions way.opened;
          free = λ i within least. elim (eqb_tells i p) [
            | inl h ↦
                let here = subst (λ s. Least (HasProduction x.grammar) (token_cost x) s 0) (ap (λ j. (nth_production x.grammar j).rule) h.1 ∙ owner) least in
                let none = least_is_one (HasProduction x.grammar) (token_cost x) q c.cost 0
                (least_of (known x l.walks l.grammar) l.walks.number l.walks.generator l.grammar q c.cost c.answer) here in
                absurd (omega (arith, none, c.some))
            | inr h ↦ times_other i way.positions p h.1 ∙ way.free i within least
          ];
          few = omega (arith, way.few, next.one, longer);
          suffix = way.suffix;
          derived = derives_more x.grammar p way.derived (record {
            before = rest;
            rule = q;
            after = way.suffix;
            symbols = symbols;
            has = (c.opens.index, same_production (nth_production x.grammar p) (record { rule = q; symbols = symbols }) owner refl);
            source = append_assoc rest (Rule q ∷ []) way.suffix;
            target = append_assoc rest symbols way.suffix;
          });
          between = way.between;
        })

  module _ (pending : List Sym) (word : List ℕ) (way : IsOnTheWay x r HasOpened pending word) where
    is_first : IsFirstSentence x.grammar (token_cost x) r way.sentence
    is_first =
        let l = way.goal in
        let found = first_given x l.walks l.grammar l.first r way.sentence l.given in
        record {
          first = found;
          short = sentence_length x.grammar x.costs l.grammar l.walks.generator.tokens l.walks.generator.positive r way.sentence found.0.0;
          within = sentence_tokens x.grammar l.grammar r way.sentence l.rule found.0.0;
        }

    few_opened : (c : ℕ) → Least (HasProduction x.grammar) (token_cost x) r c → length way.positions ≤ c * x.grammar.rules
    few_opened c least =
        let same = least_is_one (HasProduction x.grammar) (token_cost x) r (cost_of (token_cost x) way.sentence) c
        (minimal_costs_least (HasProduction x.grammar) (token_cost x) r way.sentence is_first.first.0) least in
        let most : length way.sentence * x.grammar.rules ≤ c * x.grammar.rules = mul-le-mul_right x.grammar.rules (omega (arith, is_first.short, same)) in
        omega (arith, way.few, most)

    -- no count is too large
    pub countable : (c : ℕ) → cost_answer x r ≡ Some c → x.grammar.rules < 2 ^ 32 → (positions : List ℕ) × HasOpened positions × (length positions < 2 ^ 64 - 1)
    countable c answer fits =
        let l = way.goal in
        let few = few_opened c (least_of (known x l.walks l.grammar) l.walks.number l.walks.generator l.grammar r c answer) in
        let most : c * x.grammar.rules ≤ 65535 * x.grammar.rules = mul-le-mul_right x.grammar.rules (answered_some (rule_cost x.least r) c answer).1 in
        (way.positions, way.opened, omega (arith, few, most, fits))

    pub stopped : HasStopped x.grammar (token_cost x) r HasOpened
    stopped = record {
      positions = way.positions;
      opened = way.opened;
      few = λ c least. let few = few_opened c least in omega (arith, few);
      free = way.free;
    }

  -- when nothing is pending, the word in reverse is the first minimal sentence
  walked : (word : List ℕ) → IsOnTheWay x r HasOpened [] word → HasWalked x.grammar (token_cost x) r HasOpened (reverse word)
  walked word way =
      let none = plan_ended x way.goal.walks way.goal.grammar way.later way.left way.plan in
      let same : way.sentence ≡ reverse word =
      sym (reverse-reverse way.sentence) ∙ ap reverse (sym way.whole ∙ ap (λ l. word ++ l) none ∙ append-nil word) in
      let few = subst (λ (w : List ℕ). length way.positions + way.left ≤ length w * x.grammar.rules) same way.few in
      record {
        found = subst (IsFirstSentence x.grammar (token_cost x) r) same (is_first [] word way);
        positions = way.positions;
        opened = way.opened;
        list = way.suffix;
        derived = way.derived;
        tokens = way.between;
        few = omega (arith, few);
        free = way.free;
      }

  -- the tokens in the order of the sentence, when all symbols were used
  pub finished : {A : Type 0} (f : A → ℕ) (items turned : List A) (pending : List Sym) → turned ≡ reverse items → pending ≡ [] → IsOnTheWay x r HasOpened pending (map f items)
      → HasWalked x.grammar (token_cost x) r HasOpened (map f turned)
  finished f items turned pending e empty way = subst (HasWalked x.grammar (token_cost x) r HasOpened) (sym (ap (map f) e ∙ map_reverse f items))
      (walked (map f items) (subst (λ a. IsOnTheWay x r HasOpened a (map f items)) empty way))

-- the symbol that was popped from the pending ones
pub popped : {S : Type 0} (number : S → ℕ) (x : CostTables) {r : ℕ} {HasOpened : List ℕ → Type 0} {word : List ℕ} (items rest : List (Symbol S)) (symbol is : Symbol S) → items ≡ rest ++ symbol ∷ [] → symbol ≡ is
    → IsOnTheWay x r HasOpened (map (sym_of number) items) word → IsOnTheWay x r HasOpened (map (sym_of number) rest ++ sym_of number is ∷ []) word
popped number x {r} {HasOpened} {word} items rest symbol is e f = subst (λ a. IsOnTheWay x r HasOpened a word) (last_shown number items rest symbol is e f)

pub on_err : {A E Q : Type 0} (r : Result A E) → Q → OnErr r Q
on_err (Ok a) q = tt
on_err (Err e) q = q
