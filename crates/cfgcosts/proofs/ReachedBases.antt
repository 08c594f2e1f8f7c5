-- The base productions that a rule reaches are found by a search along chain productions.
use Rattle.std.proofs.Common.{◌≡◌, ◌↔◌, ℕ, ◌+◌, ◌<◌, ◌≤◌, inl, inr, List, [], ◌∷◌, ◌++◌, Contains, get_or, length, take, refl, sym, ap, subst, ◌∙◌}
use Rattle.std.proofs.lemmas.List.{take_all, take_more}
use Rattle.std.proofs.lemmas.List.Elements.{Contains-append_left, Contains-push, Contains-push_cases}
use Rattle.derivation.specs.Grammar.{Grammar}
use Rattle.cfgtables.specs.Openings.{nth_production, ArePositionsOf}
use Rattle.search.specs.Reachable.{FoundBy, Reachable, Reaches, SearchState, led, seed}
use Rattle.search.proofs.Reaching.{Begun, Searching, popped_reachable, reaches_as, search_begins, search_ends, search_goes_on}
use Rattle.cfgleast.specs.Generator.{CostTables}
use Rattle.cfgchoices.specs.Chains.{Along, here, next}
use Rattle.cfgchoices.specs.Kinds.{LeadsTo, IsBase, IsChain, ReachesBase}
use Rattle.cfgcosts.specs.Inner.Minimal.{Lists}
use Rattle.lemmas.proofs.Contained.{contains_none}

pub lists_none : (base : List ℕ) (Is : ℕ → Type 0) → ((p : ℕ) → Is p → ⊥) → Lists Is base base
lists_none base Is never p = (λ h. inl h, λ h. elim h [ inl i ↦ i | inr i ↦ absurd (never p i) ])

pub lists_one : (base base' : List ℕ) (Is : ℕ → Type 0) (p : ℕ) → base' ≡ base ++ p ∷ [] → ((q : ℕ) → q ≡ p → Is q) → ((q : ℕ) → Is q → q ≡ p) → Lists Is base base'
lists_one base base' Is p e to from q = (
  (λ h. elim (Contains-push_cases base p q (subst (λ l. Contains l q) e h)) [ inl i ↦ inl i | inr i ↦ inr (to q (sym i)) ]),
  (λ h. subst (λ l. Contains l q) (sym e) (elim h [
    | inl i ↦ Contains-append_left base (p ∷ []) q i
    | inr i ↦ subst (Contains (base ++ p ∷ [])) (sym (from q i)) (Contains-push base p)
  ])),
)

-- of the productions with these numbers those that satisfy `Is`
module _ (Is : ℕ → Type 0) where
  abbrev pub IsAmong : List ℕ → ℕ → Type 0
  IsAmong positions q = Contains positions q × Is q

  module _ (positions : List ℕ) where
    pub owns_begin : (listed : List ℕ) → Lists (IsAmong (take 0 positions)) listed listed
    owns_begin listed = lists_none listed (IsAmong []) (λ p h. contains_none p h.0)

    module _ (n p : ℕ) (lt : n < length positions) (is : p ≡ get_or positions n p) where
      longer : take (n + 1) positions ≡ take n positions ++ (p ∷ [])
      longer = take_more positions n p lt ∙ ap (λ q. take n positions ++ (q ∷ [])) (sym is)

      pub owns_more : (old mid new : List ℕ) → Lists (IsAmong (take n positions)) old mid → Lists (λ q. (q ≡ p) × Is q) mid new
          → Lists (IsAmong (take (n + 1) positions)) old new
      owns_more old mid new w v q = (
        (λ h. elim ((v q).0 h) [
          | inl i ↦ elim ((w q).0 i) [
            | inl j ↦ inl j
            | inr j ↦ inr (subst (λ l. Contains l q) (sym longer) (Contains-append_left (take n positions) (p ∷ []) q j.0), j.1)
          ]
          | inr i ↦ inr (subst (λ l. Contains l q) (sym longer) (subst (Contains (take n positions ++ p ∷ [])) (sym i.0) (Contains-push (take n positions) p)), i.1)
        ]),
        (λ h. (v q).1 (elim h [
          | inl i ↦ inl ((w q).1 (inl i))
          | inr i ↦ elim (Contains-push_cases (take n positions) p q (subst (λ l. Contains l q) longer i.0)) [
            | inl j ↦ inl ((w q).1 (inr (j, i.1)))
            | inr e ↦ inr (sym e, i.1)
          ]
        ])),
      )

    module _ (g : Grammar) (rule : ℕ) (are : ArePositionsOf g rule positions) (within : (p : ℕ) → Is p → p < length g.productions) where
      pub owns_end : (n : ℕ) → length positions ≤ n → (old new : List ℕ) → Lists (IsAmong (take n positions)) old new
          → Lists (λ p. ((nth_production g p).rule ≡ rule) × Is p) old new
      owns_end n le old new w q =
          let all = subst (λ l. Lists (IsAmong l) old new) (take_all n positions le) w in (
            (λ h. elim ((all q).0 h) [ inl i ↦ inl i | inr i ↦ inr ((are.listed q (within q i.1)).0 i.0, i.1) ]),
            (λ h. (all q).1 (elim h [ inl i ↦ inl i | inr i ↦ inr ((are.listed q (within q i.1)).1 i.0, i.1) ])),
          )

-- the rules that chain productions lead to
pub targets_end : (x : CostTables) (positions : List ℕ) (rule : ℕ) → ArePositionsOf x.grammar rule positions
    → (old new : SearchState) → Reaches (FoundBy (IsChain x) positions) old new → Reaches (LeadsTo x rule) old new
targets_end x positions rule are old new w = reaches_as (FoundBy (IsChain x) positions) (LeadsTo x rule) old new
    (λ q h. record { index = h.thing; owner = (are.listed h.thing h.finds.optimal.index).0 h.among; target = h.finds })
    (λ q h. record { thing = h.index; among = (are.listed h.index h.target.optimal.index).1 h.owner; finds = h.target })
    w

-- rules that links reach from a rule are those along the links
module _ (Link : ℕ → ℕ → Type 0) (r : ℕ) where
  pub along_reached : {b : ℕ} → Reachable (λ q. q ≡ r) Link b → Along Link r b
  along_reached (seed {a = b} e) = subst (λ a. Along Link a b) e here
  along_reached (led k l) = along_more (along_reached k) l
    where
      along_more : {a b c : ℕ} → Along Link a b → Link b c → Along Link a c
      along_more here h = next h here
      along_more (next k l) h = next k (along_more l h)

  pub reached_along : {b : ℕ} → Along Link r b → Reachable (λ q. q ≡ r) Link b
  reached_along along = go (seed refl) along
    where
      go : {a b : ℕ} → Reachable (λ q. q ≡ r) Link a → Along Link a b → Reachable (λ q. q ≡ r) Link b
      go k here = k
      go k (next l along) = go (led k l) along

-- a search along chain productions lists the base productions of the rules that were visited
module _ (x : CostTables) (r : ℕ) where
  abbrev BaseListed : List ℕ → ℕ → Type 0
  BaseListed base b = (p : ℕ) → (nth_production x.grammar p).rule ≡ b → IsBase x p → Contains base p

  pub record BaseSearch (base : List ℕ) (s : SearchState) : Type 0 where
    pub search : Searching x.grammar.rules (λ q. q ≡ r) (LeadsTo x) (BaseListed base) s
    pub reached : (p : ℕ) → Contains base p → ReachesBase x r p

  pub base_search_begins : (s : SearchState) → Begun x.grammar.rules (λ q. q ≡ r) s → BaseSearch [] s
  base_search_begins s b = record {
    search = search_begins x.grammar.rules (λ q. q ≡ r) (LeadsTo x) (BaseListed []) s b;
    reached = λ p h. absurd (contains_none p h);
  }

  pub base_search_goes_on : (b : ℕ) (old mid new : SearchState) (base base' : List ℕ) → BaseSearch base old → mid.reachable ≡ old.reachable → old.waiting ≡ mid.waiting ++ b ∷ []
      → Reaches (LeadsTo x b) mid new → Lists (λ p. ((nth_production x.grammar p).rule ≡ b) × IsBase x p) base base' → BaseSearch base' new
  base_search_goes_on b old mid new base base' l same popped w lists = record {
    search = search_goes_on x.grammar.rules (λ q. q ≡ r) (LeadsTo x) (BaseListed base) b old mid l.search popped new (BaseListed base')
        (λ a d p owner without. (lists p).1 (inl (d p owner without))) (λ p owner without. (lists p).1 (inr (owner, without))) same w;
    reached = λ p h. elim ((lists p).0 h) [
      | inl i ↦ l.reached p i
      | inr i ↦ record { leads = subst (Along (LeadsTo x) r) (sym i.0) leads; base = i.1 }
    ];
  }
    where
      leads : Along (LeadsTo x) r b
      leads = along_reached (LeadsTo x) r (l.search.sound b (popped_reachable x.grammar.rules (λ q. q ≡ r) (LeadsTo x) (BaseListed base) b old mid l.search popped))

  pub base_search_ends : (base : List ℕ) (s : SearchState) → BaseSearch base s → s.waiting ≡ [] → (p : ℕ) → Contains base p ↔ ReachesBase x r p
  base_search_ends base s l none p = (
    l.reached p,
    (λ h. (search_ends x.grammar.rules (λ q. q ≡ r) (LeadsTo x) (BaseListed base) s l.search none (reached_along (LeadsTo x) r h.leads)).1 p refl h.base),
  )
