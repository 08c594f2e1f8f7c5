-- The minimal sentences of a rule are those that base productions make, of the rules that chain productions lead to from it.
use Rattle.std.proofs.Common.{◌≡◌, ℕ, ◌+◌, ◌<◌, ◌≤◌, ◌⊎◌, inl, inr, List, [], ◌∷◌, ◌++◌, append-nil, All, Contains, arith, refl, sym, ap, subst, ◌∙◌}
use Rattle.std.proofs.lemmas.Bool.{cases_lt}
use Rattle.std.proofs.lemmas.List.Sums.{sum_by-append}
use Rattle.std.proofs.lemmas.List.Elements.{All-head, All-tail}
use Rattle.derivation.specs.Grammar.{Sym, Rule, Token}
use Rattle.derivation.specs.Sentence.{Sentence, cost_of}
use Rattle.derivation.specs.Costs.{Least, Minimal}
use Rattle.derivation.specs.Tree.{Yields, empty, token, opened}
use Rattle.derivation.proofs.Trees.{trees_join, trees_from_derivation, derivation_from_trees}
use Rattle.derivation.proofs.Costs.{least_is_one, minimal_costs_least}
use Rattle.cfgchoices.specs.Splits.{Split, done, itself, part}
use Rattle.cfgchoices.specs.Chains.{Along, here, next, IsOptimal, LeadsTo, IsMadeByBase}
use Rattle.derivation.proofs.Made.{cost_of-token}
use Rattle.lemmas.proofs.Contained.{contains_first, contains_later, contains_none, contains_cases}
use Rattle.cfgchoices.proofs.Lengths.{IsPaid, positive_empty, sentence_positive, tokens_positive}
use Rattle.cfgchoices.proofs.Splits.{Split-map, IsYielded, IsYieldedAnd, trees_from_split, by_rules}

pub no_rule : (t b : ℕ) → Token t ≡ Rule b → ⊥
no_rule t b e = cc

module _ (P : ℕ → List Sym → Type 0) (cost : ℕ → ℕ) where
  abbrev Cut : List Sym → List ℕ → Type 0
  Cut = Split (Minimal P cost)

  -- minimal sentences of a list's symbols cost the same, whichever they are
  pub same_cost : {a : List Sym} {w v : List ℕ} → Cut a w → Cut a v → cost_of cost w ≡ cost_of cost v
  same_cost done done = refl
  same_cost (itself {t = t} {w = w} s) (itself {w = v} k) = cost_of-token cost t w ∙ ap (λ n. cost t + n) (same_cost s k) ∙ sym (cost_of-token cost t v)
  same_cost (part {u = u} {w = w} m s e) (part {u = u'} {w = w'} m' s' e') =
      let le = m.1 u' m'.0 in
      let ge = m'.1 u m.0 in
      let rest = same_cost s s' in
      let both = ap (cost_of cost) e ∙ sum_by-append cost u w in
      let both' = ap (cost_of cost) e' ∙ sum_by-append cost u' w' in
      omega (arith, le, ge, rest, both, both')

  pub trees_of_cut : {a : List Sym} {w : List ℕ} → Cut a w → Yields P a w
  trees_of_cut s = trees_from_split P (Split-map (Minimal P cost) (IsYielded P) (λ r u m. trees_from_derivation P (Rule r ∷ []) u m.0) s)

  -- an optimal production makes minimal sentences of minimal sentences
  pub made_minimal : (r : ℕ) (symbols : List Sym) (c : ℕ) (w : List ℕ) → IsOptimal P cost r symbols c → Cut symbols w → Minimal P cost r w
  made_minimal r symbols c w optimal s = (
    derivation_from_trees P (opened optimal.has (trees_of_cut s) empty (sym (append-nil w))),
    (λ v d. let least = optimal.least.1 v d in let same = same_cost s optimal.parts in omega (arith, least, same, optimal.is)),
  )

  -- a list costs at least what a rule in it does
  pub at_least : {a : List Sym} {w : List ℕ} (q d : ℕ) → Cut a w → Contains a (Rule q) → Least P cost q d → d ≤ cost_of cost w
  at_least q d done h l = absurd (contains_none (Rule q) h)
  at_least q d (itself {t = t} {a = a} {w = w} s) h l = elim (contains_cases (Token t) (Rule q) a h) [
    | inl never ↦ absurd (no_rule t q never)
    | inr later ↦ let rest = at_least q d s later l in let both = cost_of-token cost t w in omega (arith, rest, both)
  ]
  at_least q d (part {r = r} {a = a} {u = u} {w = w} m s e) h l =
      let both = ap (cost_of cost) e ∙ sum_by-append cost u w in
      elim (contains_cases (Rule r) (Rule q) a h) [
        | inl same ↦ let is : r ≡ q = cc in let low = l.1 u (subst (λ n. Minimal P cost n u) is m).0 in omega (arith, low, both)
        | inr later ↦ let rest = at_least q d s later l in omega (arith, rest, both)
      ]

  module _ (paid : (r : ℕ) (symbols : List Sym) → P r symbols → All (IsPaid cost) symbols) where
    nothing : {a : List Sym} {w : List ℕ} → Yields P a w → All (IsPaid cost) a → cost_of cost w ≤ 0 → w ≡ []
    nothing {w = w} tree all none = positive_empty cost w (tokens_positive P cost paid tree all) none

    pub rule_nothing : (r : ℕ) (u : List ℕ) → Sentence P r u → cost_of cost u ≤ 0 → u ≡ []
    rule_nothing r u s none = positive_empty cost u (sentence_positive P cost paid r u s) none

    -- a minimal sentence of a rule in a list that costs no more is a sentence of the list
    handed_back : {a : List Sym} {v : List ℕ} (b c : ℕ) (w : List ℕ) → Cut a v → All (IsPaid cost) a → Contains a (Rule b) → Least P cost b c → cost_of cost v ≤ c
        → Minimal P cost b w → Cut a w
    handed_back b c w done all h l small m = absurd (contains_none (Rule b) h)
    handed_back b c w (itself {t = t} {a = a} {w = v} s) all h l small m = elim (contains_cases (Token t) (Rule b) a h) [
      | inl never ↦ absurd (no_rule t b never)
      | inr later ↦
          let rest = at_least b c s later l in
          let both = cost_of-token cost t v in
          let some = All-head (IsPaid cost) (Token t) a all in
          absurd (omega (arith, rest, both, some, small))
    ]
    handed_back b c w (part {r = r} {a = a} {u = u} {w = v} m' s e) all h l small m =
        let both = ap (cost_of cost) e ∙ sum_by-append cost u v in
        let others = All-tail (IsPaid cost) (Rule r) a all in
        elim (contains_cases (Rule r) (Rule b) a h) [
          | inl same ↦
              let is : r ≡ b = cc in
              let low = l.1 u (subst (λ n. Minimal P cost n u) is m').0 in
              let none = nothing (trees_of_cut s) others (omega (arith, low, both, small)) in
              part (subst (λ n. Minimal P cost n w) (sym is) m) (subst (Cut a) none s) (sym (append-nil w))
          | inr later ↦
              let rest = at_least b c s later l in
              let none = rule_nothing r u m'.0 (omega (arith, rest, both, small)) in
              part m' (handed_back b c w s others later l (omega (arith, both, small)) m) (sym (ap (λ l. l ++ w) none))
        ]

    pub along_back : {r b : ℕ} (w : List ℕ) → Along (LeadsTo P cost) r b → Minimal P cost b w → Minimal P cost r w
    along_back w here m = m
    along_back {r = r} w (next {b = b} h k) m =
        let optimal = h.optimal in
        made_minimal r h.symbols h.least w optimal
        (handed_back b h.least w optimal.parts (paid r h.symbols optimal.has) h.among h.same (omega (arith, optimal.is)) (along_back w k m))

    pub made_by_base_minimal : (r : ℕ) (w : List ℕ) → IsMadeByBase P cost r w → Minimal P cost r w
    made_by_base_minimal r w h = along_back w h.reaches.leads (made_minimal h.owner h.symbols h.reaches.base.least w h.reaches.base.optimal h.parts)

    -- the parts of a list's least word are minimal
    module _ (F : ℕ → List ℕ → Type 0) where
      abbrev pub IsMinimalAnd : ℕ → List ℕ → Type 0
      IsMinimalAnd r w = Minimal P cost r w × F r w

      pub minimal_parts : {a : List Sym} {w : List ℕ} → Split (IsYieldedAnd P F) a w → ((v : List ℕ) → Yields P a v → cost_of cost w ≤ cost_of cost v) → Split IsMinimalAnd a w
      minimal_parts done low = done
      minimal_parts (itself {t = t} {w = w} s) low = itself (minimal_parts s (λ v tree.
          let le = low (t ∷ v) (token tree) in let one = cost_of-token cost t w in let two = cost_of-token cost t v in omega (arith, le, one, two)))
      minimal_parts (part {r = r} {a = a} {u = u} {w = w} (tree, f) s e) low =
          let rest = trees_from_split P (Split-map (IsYieldedAnd P F) (IsYielded P) (λ r u h. h.0) s) in
          let both = ap (cost_of cost) e ∙ sum_by-append cost u w in
          part (
            (
              derivation_from_trees P tree,
              (λ v d.
                  let le = low (v ++ w) (trees_join P (trees_from_derivation P (Rule r ∷ []) v d) rest) in let two = sum_by-append cost v w in omega (arith, le, both, two)),
            ),
            f,
          )
          (minimal_parts s (λ v t. let le = low (u ++ v) (trees_join P tree t) in let two = sum_by-append cost u v in omega (arith, le, both, two))) e

      -- a rule of the list costs as much as the whole, and its part is the whole
      record Target (a : List Sym) (w : List ℕ) (c : ℕ) : Type 0 where
        rule : ℕ
        among : Contains a (Rule rule)
        same : Least P cost rule c
        holds : IsMinimalAnd rule w

      target_or_less : {a : List Sym} {w : List ℕ} (c : ℕ) → Split IsMinimalAnd a w → All (IsPaid cost) a → cost_of cost w ≤ c → Target a w c ⊎ ((q d : ℕ) → Contains a (Rule q) → Least P cost q d → d < c)
      target_or_less c done all small = inr (λ q d h l. absurd (contains_none (Rule q) h))
      target_or_less c (itself {t = t} {a = a} {w = w} s) all small =
          let both = cost_of-token cost t w in
          let some = All-head (IsPaid cost) (Token t) a all in
          elim (target_or_less c s (All-tail (IsPaid cost) (Token t) a all) (omega (arith, both, small))) [
            | inl target ↦
                let low = target.same.1 w target.holds.0.0 in
                absurd (omega (arith, low, both, some, small))
            | inr less ↦ inr (λ q d h l. elim (contains_cases (Token t) (Rule q) a h) [ inl never ↦ absurd (no_rule t q never) | inr later ↦ less q d later l ])
          ]
      target_or_less c (part {r = r} {a = a} {u = u} {w = w} {v = v} h s e) all small =
          let both = ap (cost_of cost) e ∙ sum_by-append cost u w in
          let others = All-tail (IsPaid cost) (Rule r) a all in
          let least = minimal_costs_least P cost r u h.0 in
          elim (cases_lt (cost_of cost u) c) [
            | inl lt ↦ elim (target_or_less c s others (omega (arith, both, small))) [
              | inl target ↦
                  let low = target.same.1 w target.holds.0.0 in
                  let none = rule_nothing r u h.0.0 (omega (arith, low, both, small)) in
                  inl (record {
                    rule = target.rule;
                    among = contains_later (Rule r) (Rule target.rule) a target.among;
                    same = target.same;
                    holds = subst (IsMinimalAnd target.rule) (sym (e ∙ ap (λ l. l ++ w) none)) target.holds;
                  })
              | inr less ↦ inr (λ q d k l. elim (contains_cases (Rule r) (Rule q) a k) [
                | inl same ↦
                    let is : r ≡ q = cc in
                    let one = least_is_one P cost q d (cost_of cost u) l (subst (λ n. Least P cost n (cost_of cost u)) is least) in
                    omega (arith, one, lt)
                | inr later ↦ less q d later l
              ])
            ]
            | inr ge ↦
                let tree = trees_of_cut (Split-map IsMinimalAnd (Minimal P cost) (λ r u k. k.0) s) in
                let none = nothing tree others (omega (arith, ge, both, small)) in
                let same : cost_of cost u ≡ c = omega (arith, ge, both, small) in
                inl (record {
                  rule = r;
                  among = contains_first (Rule r) a;
                  same = subst (Least P cost r) same least;
                  holds = subst (IsMinimalAnd r) (sym (e ∙ ap (λ l. u ++ l) none ∙ append-nil u)) h;
                })
          ]

    abbrev Comes : ℕ → List ℕ → Type 0
    Comes r w = Minimal P cost r w → IsMadeByBase P cost r w

    comes_up : (r : ℕ) (symbols : List Sym) (w : List ℕ) → P r symbols → Yields P symbols w → Split (IsYieldedAnd P Comes) symbols w → Comes r w
    comes_up r symbols w has tree s m =
        let up = λ (v : List ℕ) (t : Yields P symbols v). m.1 v (derivation_from_trees P (opened has t empty (sym (append-nil v)))) in
        let parts = minimal_parts Comes s up in
        let cut = Split-map (IsMinimalAnd Comes) (Minimal P cost) (λ r u k. k.0) parts in
        let optimal : IsOptimal P cost r symbols (cost_of cost w) = record { has = has; least = minimal_costs_least P cost r w m; word = w; parts = cut; is = refl } in
        elim (target_or_less Comes (cost_of cost w) parts (paid r symbols has) (omega arith)) [
          | inl target ↦
              let down = target.holds.1 target.holds.0 in
              let link : LeadsTo P cost r target.rule = record { symbols = symbols; least = cost_of cost w; optimal = optimal; among = target.among; same = target.same } in
              record {
                owner = down.owner;
                symbols = down.symbols;
                reaches = record { leads = next link down.reaches.leads; base = down.reaches.base };
                parts = down.parts;
              }
          | inr less ↦ record {
            owner = r;
            symbols = symbols;
            reaches = record { leads = here; base = record { least = cost_of cost w; optimal = optimal; less = less } };
            parts = cut;
          }
        ]

    pub minimal_made_by_base : (r : ℕ) (w : List ℕ) → Minimal P cost r w → IsMadeByBase P cost r w
    minimal_made_by_base r w m = by_rules P Comes comes_up r w (trees_from_derivation P (Rule r ∷ []) w m.0) m
