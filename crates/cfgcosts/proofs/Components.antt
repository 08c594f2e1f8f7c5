-- A table that is filled component by component lists the minimal sentences of all rules: components of the graph in which optimal
-- productions lead to the rules in them.
use Rattle.std.proofs.Common.{◌≡◌, ◌↔◌, ℕ, ◌+◌, ◌<◌, ◌≤◌, ◌⊎◌, inl, inr, List, [], ◌∷◌, ◌++◌, Some, Result, Ok, Err, IfOk, All, Contains, get_or, length, slice_index, take, append-nil, arith, refl, sym, ap, subst, ◌∙◌}
use Rattle.std.specs.List.Sorted.{IsStrictlySortedBy}
use Rattle.std.proofs.lemmas.Bool.{cases_eq}
use Rattle.std.proofs.lemmas.List.{get_or_append_left, get_or_default, get_or_push, length_push}
use Rattle.std.proofs.lemmas.List.Elements.{All-head, All-tail}
use Rattle.lemmas.proofs.Contained.{contains_first, contains_later, contains_none, contains_one}
use Rattle.lemmas.proofs.Taken.{contains_taken}
use Rattle.derivation.specs.Grammar.{Sym, Rule, Token, IsGrammar, HasProduction}
use Rattle.derivation.specs.Sentence.{cost_of}
use Rattle.derivation.specs.CostLists.{rule_cost}
use Rattle.derivation.specs.Sums.{symbol_cost}
use Rattle.derivation.proofs.Costs.{least_is_one, minimal_costs_least}
use Rattle.search.specs.Components.{AreComponents, ReachableFrom}
use Rattle.search.specs.Reachable.{FoundBy, Reaches, SearchState, led, seed}
use Rattle.search.proofs.Reaching.{reaches_as}
use Rattle.cfganalysis.specs.Paths.{ProductionRefersAt}
use Rattle.cfgtables.specs.Openings.{nth_production}
use Rattle.cfgleast.specs.Generator.{CostTables, IsGenerator, cost_answer, token_cost}
use Rattle.cfgleast.proofs.Gains.{part_at}
use Rattle.cfgleast.proofs.Generated.{answered_some, some_answered}
use Rattle.cfgchoices.specs.Chains.{Along, here, next}
use Rattle.cfgchoices.specs.FirstSentence.{lexicographic}
use Rattle.cfgchoices.specs.Kinds.{LeadsTo, IsBase, IsMinimal, IsOptimal}
use Rattle.cfgchoices.specs.Splits.{Split, done, part}
use Rattle.cfgchoices.proofs.Chains.{made_minimal}
use Rattle.cfgchoices.proofs.Lengths.{IsPaid}
use Rattle.cfgchoices.proofs.Optimal.{CostsNothing, LinksTo, in_prefix, further, answer_of, base_less, base_makes, chains_target, free_minimal, least_of, minimal_made, one_cost, optimal_sum, paid}
use Rattle.cfgcosts.specs.Inner.Minimal.{AreListed, AreMinimal, HasSentence, IsMadeBy, IsReadyComponent, Lists, Puts, PutsEach, Uses}
use Rattle.cfgcosts.proofs.Filled.{cut_within, free_alone}
use Rattle.cfgcosts.proofs.OnlyTargets.{along_both}
use Rattle.cfgcosts.proofs.ReachedBases.{along_reached}

-- sentences that are put for some rules, one rule after the other
pub puts_none : (words : List (List ℕ)) (sentences : ℕ → List (List ℕ)) → PutsEach [] words sentences sentences
puts_none words sentences = record { here = λ r h. absurd (contains_none r h); others = λ q apart. refl }

pub puts_more : (rules : List ℕ) (words : List (List ℕ)) (old mid new : ℕ → List (List ℕ)) (i : ℕ) → i < length rules → PutsEach (take i rules) words old mid
    → (copy : List (List ℕ)) → copy ≡ words → Puts (get_or rules i 0) copy mid new → PutsEach (take (i + 1) rules) words old new
puts_more rules words old mid new i lt before copy same puts = record {
  here = λ r h. elim (cases_eq r rule) [
    | inl e ↦ ap new e ∙ puts.here ∙ same
    | inr apart ↦ elim ((taken r).0 h) [
      | inl earlier ↦ puts.others r apart ∙ before.here r earlier
      | inr e ↦ absurd (apart e)
    ]
  ];
  others = λ q apart. puts.others q (λ e. apart ((taken q).1 (inr e))) ∙ before.others q (λ h. apart ((taken q).1 (inl h)));
}
  where
    rule : ℕ
    rule = get_or rules i 0

    taken : (y : ℕ) → Contains (take (i + 1) rules) y ↔ (Contains (take i rules) y ⊎ (y ≡ rule))
    taken = contains_taken rules i rule lt (get_or_default rules i 0 rule lt)

module _ (x : CostTables) where
  -- the optimal productions of some rules, one rule after the other
  abbrev pub AreOptimal : List ℕ → List ℕ → Type 0
  AreOptimal rules listed = (p : ℕ) → Contains listed p ↔ (Contains rules (nth_production x.grammar p).rule × IsOptimal x p)

  pub optimal_none : AreOptimal [] []
  optimal_none p = (λ h. absurd (contains_none p h), λ h. absurd (contains_none (nth_production x.grammar p).rule h.0))

  pub optimal_more : (rules : List ℕ) (i r : ℕ) (old new : List ℕ) → i < length rules → r ≡ get_or rules i 0 → AreOptimal (take i rules) old
      → Lists (λ p. ((nth_production x.grammar p).rule ≡ r) × IsOptimal x p) old new → AreOptimal (take (i + 1) rules) new
  optimal_more rules i r old new lt is before lists p =
      let owner = (nth_production x.grammar p).rule in
      let taken = contains_taken rules i r lt (is ∙ get_or_default rules i 0 r lt) owner in (
        (λ h. elim ((lists p).0 h) [
          | inl earlier ↦ let b = (before p).0 earlier in (taken.1 (inl b.0), b.1)
          | inr now ↦ (taken.1 (inr now.0), now.1)
        ]),
        (λ h. (lists p).1 (elim (taken.0 h.0) [
          | inl earlier ↦ inl ((before p).1 (earlier, h.1))
          | inr now ↦ inr (now, h.1)
        ])),
      )

  -- the rules in the optimal productions of a rule
  pub uses_found : (r : ℕ) (listed : List ℕ) → AreOptimal (r ∷ []) listed → (old new : SearchState) → Reaches (FoundBy (ProductionRefersAt x.grammar) listed) old new
      → Reaches (Uses x r) old new
  uses_found r listed all old new w = reaches_as (FoundBy (ProductionRefersAt x.grammar) listed) (Uses x r) old new
      (λ q h. let a = (all h.thing).0 h.among in record { index = h.thing; optimal = a.1; owner = sym (contains_one r (nth_production x.grammar h.thing).rule a.0); holds = h.finds })
      (λ q h. record { thing = h.index; among = (all h.index).1 (subst (Contains (r ∷ [])) (sym h.owner) (contains_first r []), h.optimal); finds = h.holds })
      w

  abbrev costs : List ℕ → ℕ
  costs = cost_of (token_cost x)

  -- A list in which a rule has this part, and the other rules cost nothing, has just the part.
  module _ (F : ℕ → List ℕ → Type 0) where
    abbrev FreePart : List Sym → Type 0
    FreePart a = (s : ℕ) → Contains a (Rule s) → rule_cost x.least s ≡ Some 0 → F s []

    abbrev IsFreePaid : Sym → Type 0
    IsFreePaid = IsPaid (token_cost x)

    no_token : (t : ℕ) → CostsNothing x (Token t) → IsFreePaid (Token t) → ⊥
    no_token t none some = let zero : token_cost x t ≡ 0 = cc in omega (arith, zero, some)

    split_free : (a : List Sym) → All (CostsNothing x) a → All IsFreePaid a → FreePart a → Split F a []
    split_free [] free all parts = done
    split_free (Token t ∷ a) free all parts = absurd (no_token t (All-head (CostsNothing x) (Token t) a free) (All-head IsFreePaid (Token t) a all))
    split_free (Rule r ∷ a) free all parts =
        part (parts r (contains_first (Rule r) a) (All-head (CostsNothing x) (Rule r) a free))
        (split_free a (All-tail (CostsNothing x) (Rule r) a free) (All-tail IsFreePaid (Rule r) a all) (λ s h. parts s (contains_later (Rule r) (Rule s) a h))) refl

    split_linked : {q : ℕ} {a : List Sym} (w : List ℕ) → LinksTo x q a → All IsFreePaid a → F q w → FreePart a → Split F a w
    split_linked {q} w (in_prefix {a = a} free) all has parts =
        part has (split_free a free (All-tail IsFreePaid (Rule q) a all) (λ s h. parts s (contains_later (Rule q) (Rule s) a h))) (sym (append-nil w))
    split_linked w (further {s = Token t} {a = a} free links) all has parts = absurd (no_token t free (All-head IsFreePaid (Token t) a all))
    split_linked w (further {s = Rule r} {a = a} free links) all has parts =
        part (parts r (contains_first (Rule r) a) free)
        (split_linked w links (All-tail IsFreePaid (Rule r) a all) has (λ s h. parts s (contains_later (Rule r) (Rule s) a h))) refl

  module _ (n : ℕ) (is : IsGenerator x n) (grammar : IsGrammar x.grammar) where
    -- a rule costs at least what those that it uses do; if it costs as much as one, chain productions lead to that
    record IsReached (r q c : ℕ) : Type 0 where
      cost : ℕ
      answer : cost_answer x q ≡ Some cost
      low : cost ≤ c
      leads : c ≤ cost → ReachableFrom (LeadsTo x) r q

    used_cost : (r q : ℕ) (u : Uses x r q) → (d : ℕ) × (cost_answer x q ≡ Some d) × (d ≤ u.optimal.cost)
    used_cost r q u =
        let p = nth_production x.grammar u.index in
        let known = answered_some (rule_cost x.least p.rule) u.optimal.cost u.optimal.rule in
        let one = part_at (symbol_cost (token_cost x) (rule_cost x.least)) p.symbols u.holds.0 (Rule q) u.optimal.cost u.holds.1 u.holds.2
        (optimal_sum x n is grammar u.index u.optimal) in
        (one.value, some_answered (rule_cost x.least q) one.value one.is (omega (arith, one.within, known.1)), one.within)

    used_by : (r q : ℕ) (u : Uses x r q) → cost_answer x r ≡ Some u.optimal.cost
    used_by r q u = ap (cost_answer x) (sym u.owner) ∙ u.optimal.rule

    reached : {r q : ℕ} (c : ℕ) → ReachableFrom (Uses x) r q → cost_answer x r ≡ Some c → IsReached r q c
    reached {r} {q} c (seed e) answer = record { cost = c; answer = subst (λ m. cost_answer x m ≡ Some c) (sym e) answer; low = omega arith; leads = λ le. seed e }
    reached {r} {q} c (led {a = a} h u) answer =
        let before = reached c h answer in
        let (d, known, low) = used_cost a q u in
        let same = one_cost x a u.optimal.cost before.cost (used_by a q u) before.answer in
        let less = before.low in
        record {
          cost = d;
          answer = known;
          low = omega (arith, low, same, less);
          leads = λ le. led (before.leads (omega (arith, low, same, le))) (record {
            index = u.index;
            owner = u.owner;
            target = record { optimal = u.optimal; among = u.holds; same = known ∙ ap Some (omega (arith, low, same, le, less)) };
          });
        }

    -- a minimal sentence of a rule that chain productions lead to is one of the rule
    passed_back : (r q c : ℕ) (w : List ℕ) → Along (LeadsTo x) r q → cost_answer x q ≡ Some c → 0 < c → IsMinimal x q w → IsMinimal x r w
    passed_back r q c w along answer some m =
        let made = minimal_made x n is grammar q c w answer some m in
        base_makes x n is grammar r made.index w (record { leads = along_both along made.reaches.leads; base = made.reaches.base }) made.parts

    cost_is : (r c : ℕ) (w : List ℕ) → cost_answer x r ≡ Some c → IsMinimal x r w → costs w ≡ c
    cost_is r c w answer m =
        least_is_one (HasProduction x.grammar) (token_cost x) r (costs w) c (minimal_costs_least (HasProduction x.grammar) (token_cost x) r w m) (least_of x n is grammar r c answer)

    small : (r c : ℕ) (w : List ℕ) → cost_answer x r ≡ Some c → IsMinimal x r w → costs w ≤ 65535
    small r c w answer m = let known = answered_some (rule_cost x.least r) c answer in omega (arith, cost_is r c w answer m, known.1)

    pub minimal_listed : (r c : ℕ) (words : List (List ℕ)) → cost_answer x r ≡ Some c → AreMinimal x r words → AreListed x r words
    minimal_listed r c words answer are = record {
      all = λ w. ((λ h. let m = (are.all w).0 h in (m, small r c w answer m)), (λ k. (are.all w).1 k.0));
      order = are.order;
    }

    module _ (sentences : ℕ → List (List ℕ)) (rules : List ℕ) (ready : IsReadyComponent x sentences rules) where
      -- rules of the component cost the same, and chain productions lead from each to each other one
      alike : (r q c : ℕ) → Contains rules r → Contains rules q → cost_answer x r ≡ Some c → (cost_answer x q ≡ Some c) × Along (LeadsTo x) r q
      alike r q c h k answer =
          let there = reached c (ready.together r q h k) answer in
          let back = reached there.cost (ready.together q r k h) there.answer in
          let same = one_cost x r c back.cost answer back.answer in
          let low = there.low in
          let high = back.low in
          let one : there.cost ≡ c = omega (arith, same, low, high) in
          (there.answer ∙ ap Some one, along_reached (LeadsTo x) r (there.leads (omega (arith, one))))

      pub free_listed : (q r : ℕ) → Contains rules q → Contains rules r → cost_answer x q ≡ Some 0 → AreListed x r ([] ∷ [])
      free_listed q r h k answer =
          let free = (alike q r 0 h k answer).0 in
          minimal_listed r 0 ([] ∷ []) free (free_alone x n is grammar r 0 free refl)

      module _ (positions : List ℕ) (all : AreOptimal rules positions) where
        -- what optimal productions of the component make of the table are minimal sentences
        made_listed : (r : ℕ) (w : List ℕ) → Contains rules r → IsMadeBy x.grammar sentences positions w → IsMinimal x r w × (costs w ≤ 65535)
        made_listed r w inside m =
            let p = nth_production x.grammar m.index in
            let (among, optimal) = (all m.index).0 m.among in
            let part_minimal = λ (q : ℕ) (u : List ℕ) (holds : Contains p.symbols (Rule q)) (has : Contains (sentences q) u).
            elim (ready.used p.rule q among (record { index = m.index; optimal = optimal; owner = refl; holds = holds })) as (λ _. IsMinimal x q u) [
              | inl within ↦ absurd (contains_none u (subst (λ l. Contains l u) (ready.none q within) has))
              | inr listed ↦ ((listed.all u).0 has).0
            ] in
            let cut = cut_within (HasSentence sentences) (IsMinimal x) part_minimal m.parts in
            let minimal = made_minimal (HasProduction x.grammar) (token_cost x) p.rule p.symbols optimal.cost w optimal.is cut in
            let (answer, _) = alike p.rule r optimal.cost among inside optimal.rule in
            let (_, along) = alike r p.rule optimal.cost inside among answer in
            let passed = passed_back r p.rule optimal.cost w along optimal.rule optimal.positive minimal in
            (passed, small r optimal.cost w answer passed)

        -- the table has what a base production of the component needs
        base_sentence : (p : ℕ) → IsBase x p → Contains rules (nth_production x.grammar p).rule
            → (q : ℕ) (u : List ℕ) → Contains (nth_production x.grammar p).symbols (Rule q) → IsMinimal x q u → Contains (sentences q) u
        base_sentence p base inside q u holds m =
            let owner = (nth_production x.grammar p).rule in
            let used : Uses x owner q = record { index = p; optimal = base.optimal; owner = refl; holds = holds } in
            let (d, answer, low) = used_cost owner q used in
            elim (ready.used owner q inside used) [
              | inl within ↦
                  let same = (alike owner q base.optimal.cost inside within base.optimal.rule).0 in
                  let less = base_less x n is grammar owner p base.optimal.cost q base.optimal.cost (record { leads = here; base = base }) base.optimal.rule holds same in
                  absurd (omega (arith, less))
              | inr listed ↦ (listed.all u).1 (m, small q d u answer m)
            ]

        -- each minimal sentence is made by one of them
        made_along : (p : ℕ) (w : List ℕ) (base : IsBase x p) → Split (IsMinimal x) (nth_production x.grammar p).symbols w → {a o : ℕ} → o ≡ (nth_production x.grammar p).rule
            → Contains rules a → Along (LeadsTo x) a o → IsMadeBy x.grammar sentences positions w
        made_along p w base parts e inside here = record {
          index = p;
          among = (all p).1 (subst (Contains rules) e inside, base.optimal);
          parts = cut_within (IsMinimal x) (HasSentence sentences) (base_sentence p base (subst (Contains rules) e inside)) parts;
        }
        made_along p w base parts {a = a} e inside (next {b = b} h k) =
            let c = h.target.optimal.cost in
            let i = h.index in
            let owner = subst (Contains rules) (sym h.owner) inside in
            elim (ready.used a b inside (record { index = i; optimal = h.target.optimal; owner = h.owner; holds = h.target.among })) [
              | inl within ↦ made_along p w base parts e within k
              | inr listed ↦
                  let minimal = base_makes x n is grammar b p w (record { leads = subst (Along (LeadsTo x) b) e k; base = base }) parts in
                  record {
                    index = i;
                    among = (all i).1 (owner, h.target.optimal);
                    parts = split_linked (HasSentence sentences) w (chains_target x n is grammar i b h.target)
                        (paid x n is grammar (nth_production x.grammar i).rule (nth_production x.grammar i).symbols h.target.optimal.is.has)
                        ((listed.all w).1 (minimal, small b c w h.target.same minimal))
                        (λ s holds nothing.
                        let free = some_answered (rule_cost x.least s) 0 nothing (omega arith) in
                        elim (ready.used a s inside (record { index = i; optimal = h.target.optimal; owner = h.owner; holds = holds })) [
                          | inl within ↦
                              let same = (alike a s c inside within (ap (cost_answer x) (sym h.owner) ∙ h.target.optimal.rule)).0 in
                              let none = one_cost x s c 0 same free in
                              let some = h.target.optimal.positive in
                              absurd (omega (arith, none, some))
                          | inr listed ↦ (listed.all []).1 (free_minimal x n is grammar s free, omega arith)
                        ]);
                  }
            ]

        component_listed : (r : ℕ) (words : List (List ℕ)) → Contains rules r → (cost_answer x r ≡ Some 0 → ⊥)
            → ((w : List ℕ) → Contains words w ↔ IsMadeBy x.grammar sentences positions w) → IsStrictlySortedBy lexicographic words → AreListed x r words
        component_listed r words inside some made order = record { all = λ w. ((λ h. made_listed r w inside ((made w).0 h)), (λ k. (made w).1 (listed_made w k.0 k.1))); order = order }
          where
            listed_made : (w : List ℕ) → IsMinimal x r w → costs w ≤ 65535 → IsMadeBy x.grammar sentences positions w
            listed_made w m low =
                let answer = answer_of x n is grammar r (costs w) (minimal_costs_least (HasProduction x.grammar) (token_cost x) r w m) low in
                elim (cases_eq (costs w) 0) [
                  | inl none ↦ absurd (some (answer ∙ ap Some none))
                  | inr apart ↦
                      let by = minimal_made x n is grammar r (costs w) w answer (omega (arith, apart)) m in
                      made_along by.index w by.reaches.base by.parts refl inside by.reaches.leads
                ]

        pub component_all : (q : ℕ) → Contains rules q → (cost_answer x q ≡ Some 0 → ⊥)
            → {A E : Type 0} (f : A → List (List ℕ)) (result : Result A E) → IfOk result (λ words. (w : List ℕ) → Contains (f words) w ↔ IsMadeBy x.grammar sentences positions w)
            → IfOk result (λ words. IsStrictlySortedBy lexicographic (f words)) → IfOk result (λ words. (r : ℕ) → Contains rules r → AreListed x r (f words))
        component_all q inside some f (Ok words) made order = λ r among. component_listed r (f words) among (λ none. some (alike r q 0 among inside none).0) made order
        component_all q inside some f (Err e) made order = tt

  -- the rules in components with lower numbers have their sentences, and the others none
  pub record AreFilled (numbers : List ℕ) (number : ℕ) (sentences : ℕ → List (List ℕ)) : Type 0 where
    pub listed : (r : ℕ) → r < x.grammar.rules → slice_index numbers r < number → AreListed x r (sentences r)
    pub none : (r : ℕ) → r < x.grammar.rules → number ≤ slice_index numbers r → sentences r ≡ []

  pub filled_begins : (numbers : List ℕ) (sentences : ℕ → List (List ℕ)) → ((r : ℕ) → sentences r ≡ []) → AreFilled numbers 0 sentences
  filled_begins numbers sentences none = record { listed = λ r lt below. absurd (omega (arith, below)); none = λ r lt above. none r }

  module _ (numbers : List ℕ) (members : List (List ℕ)) (components : AreComponents (Uses x) x.grammar.rules numbers members)
      (number : ℕ) (sentences : ℕ → List (List ℕ)) (filled : AreFilled numbers number sentences) where
    abbrev of : List ℕ
    of = get_or members number []

    member : (r : ℕ) → Contains of r ↔ ((r < x.grammar.rules) × (slice_index numbers r ≡ number))
    member = (components.each number).all

    pub component_ready : IsReadyComponent x sentences of
    component_ready = record {
      within = λ r h. ((member r).0 h).0;
      together = λ r q h k. let a = (member r).0 h in let b = (member q).0 k in ((components.same r q a.0 b.0).0 (a.1 ∙ sym b.1)).0;
      none = λ r h. let a = (member r).0 h in filled.none r a.0 (omega (arith, a.1));
      used = λ r q h u.
          let a = (member r).0 h in
          let to = components.order r q a.0 u in
          elim (cases_eq (slice_index numbers q) number) [
            | inl same ↦ inl ((member q).1 (to.0, same))
            | inr apart ↦ inr (filled.listed q to.0 (let le = to.1 in omega (arith, le, a.1, apart)))
          ];
    }

    pub component_some : number < length members → 0 < length of
    component_some lt = let h = components.some number lt in let among = h.1.1 in omega (arith, among)

    pub filled_more : (sentences' : ℕ → List (List ℕ)) (words : List (List ℕ)) → PutsEach of words sentences sentences' → ((r : ℕ) → Contains of r → AreListed x r words)
        → AreFilled numbers (number + 1) sentences'
    filled_more sentences' words puts are = record {
      listed = λ r lt below. elim (cases_eq (slice_index numbers r) number) [
        | inl same ↦ let h = (member r).1 (lt, same) in subst (AreListed x r) (sym (puts.here r h)) (are r h)
        | inr apart ↦ subst (AreListed x r) (sym (puts.others r (λ h. apart ((member r).0 h).1))) (filled.listed r lt (omega (arith, below, apart)))
      ];
      none = λ r lt above. puts.others r (λ h. let a = (member r).0 h in omega (arith, above, a.1)) ∙ filled.none r lt (omega (arith, above));
    }

    pub filled_ends : length members ≤ number → (r : ℕ) → r < x.grammar.rules → AreListed x r (sentences r)
    filled_ends past r lt = filled.listed r lt (let within = components.within r lt in omega (arith, within, past))

  -- sentences that are moved from the table into a list, one rule after the other
  pub record AreMoved (number : ℕ) (all : List (List (List ℕ))) (sentences : ℕ → List (List ℕ)) : Type 0 where
    pub entries : length all ≡ number
    pub listed : (r : ℕ) → r < number → AreListed x r (get_or all r [])
    pub left : (r : ℕ) → r < x.grammar.rules → number ≤ r → AreListed x r (sentences r)

  pub moved_more : (number : ℕ) (all : List (List (List ℕ))) (words : List (List ℕ)) (sentences sentences' : ℕ → List (List ℕ)) → AreMoved number all sentences → number < x.grammar.rules
      → words ≡ sentences number → ((q : ℕ) → (q ≡ number → ⊥) → sentences' q ≡ sentences q) → AreMoved (number + 1) (all ++ words ∷ []) sentences'
  moved_more number all words sentences sentences' moved lt is keeps = record {
    entries = length_push all words ∙ ap (λ n. n + 1) moved.entries;
    listed = λ r below. elim (cases_eq r number) [
      | inl same ↦ subst (AreListed x r) (sym (get_or_push all words [] r (moved.entries ∙ sym same) ∙ is ∙ ap sentences (sym same)))
          (moved.left r (omega (arith, same, lt)) (omega (arith, same)))
      | inr apart ↦ subst (AreListed x r) (sym (get_or_append_left all (words ∷ []) [] r (let entries = moved.entries in omega (arith, entries, below, apart))))
          (moved.listed r (omega (arith, below, apart)))
    ];
    left = λ r inside above. subst (AreListed x r) (sym (keeps r (λ e. omega (arith, above, e)))) (moved.left r inside (omega (arith, above)));
  }
