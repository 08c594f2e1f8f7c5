-- The symbols of lists that the start rule derives.
use Rattle.std.proofs.Common.{◌≡◌, inl, inr, ℕ, List, [], ◌∷◌, ◌++◌, Some, Contains, drop, length, length-append, refl, sym, ap, subst, take, take-append-drop, ◌∙◌, arith}
use Rattle.std.proofs.lemmas.List.{nil_from_length}
use Rattle.std.proofs.lemmas.List.Elements.{Contains-append_cases, Contains-append_left, Contains-append_right}
use Rattle.std.proofs.lemmas.Option.{slice_get-get_or}
use Rattle.cfgrammar.specs.Grammar.{Grammar, IsGrammar, IsSymbolOf, Sym, Rule}
use Rattle.cfgrammar.specs.Derivation.{Derives, Step, next, none}
use Rattle.cfgrammar.specs.Openings.{nth_production}
use Rattle.cfgrammar.proofs.Contained.{contains_first, contains_later, contains_none, contains_one}
use Rattle.lr_states.specs.Viable.{item_at}
use Rattle.lr_states.specs.declared.Item.{Item}
use Rattle.lr_states.proofs.Closed.{next_symbol}
use Rattle.lr_states.specs.Lookaheads.{HasUsed}
use Rattle.lr_conflicts.specs.declared.examples.Side.{Side}
use Rattle.lr_conflicts.specs.Examples.{IsSide, IsStartApart, prefix_of}

module _ (g : Grammar) (Used : ℕ → Type 0) where
  abbrev P : ℕ → List Sym → Type 0
  P = HasUsed g Used

  -- whatever is true of the symbols of productions stays true of all symbols
  module _ (Is : Sym → Type 0) (mine : (p : ℕ) (s : Sym) → Contains (nth_production g p).symbols s → Is s) where
    step_keeps : {a b : List Sym} (w : Step P a b) → ((s : Sym) → Contains w.before s → Is s) → ((s : Sym) → Contains w.after s → Is s) → (s : Sym) → Contains b s → Is s
    step_keeps w left right s h = elim (Contains-append_cases w.before (w.symbols ++ w.after) s (subst (λ l. Contains l s) w.target h)) [
      | inl before ↦ left s before
      | inr later ↦ elim (Contains-append_cases w.symbols w.after s later) [
        | inl new ↦ mine w.has.index s (subst (λ l. Contains l s) (sym w.has.is) new)
        | inr after ↦ right s after
      ]
    ]

    derived_keeps : {a b : List Sym} → Derives P a b → ((s : Sym) → Contains a s → Is s) → (s : Sym) → Contains b s → Is s
    derived_keeps none all = all
    derived_keeps (next w d) all = derived_keeps d (step_keeps w
        (λ s h. all s (subst (λ l. Contains l s) (sym w.source) (Contains-append_left w.before (Rule w.rule ∷ w.after) s h)))
        (λ s h. all s (subst (λ l. Contains l s) (sym w.source) (Contains-append_right w.before (Rule w.rule ∷ w.after) s (contains_later (Rule w.rule) s w.after h)))))

  module _ (grammar : IsGrammar g) where
    production_symbols : (p : ℕ) (s : Sym) → Contains (nth_production g p).symbols s → IsSymbolOf g s
    production_symbols p s (k, within, at) = next_symbol g grammar (item_at p k) s (slice_get-get_or (nth_production g p).symbols k s within ∙ ap Some at)

    derived_symbols : (list : List Sym) → Derives P (Rule 0 ∷ []) list → (s : Sym) → Contains list s → IsSymbolOf g s
    derived_symbols list d = derived_keeps (IsSymbolOf g) production_symbols d (λ s h. subst (IsSymbolOf g) (contains_one (Rule 0) s h) grammar.start)

    -- the prefix of a side has symbols of the grammar
    pub prefix_symbols : (item : Item) (side : Side) → IsSide g Used item side → (s : Sym) → Contains (prefix_of side) s → IsSymbolOf g s
    prefix_symbols item side w s h =
        let list = (nth_production g item.production).symbols in
        elim (Contains-append_cases w.before (take item.read list) s (subst (λ l. Contains l s) w.prefix h)) [
          | inl before ↦ derived_symbols (w.before ++ Rule (nth_production g item.production).rule ∷ w.after) w.derived s
              (Contains-append_left w.before (Rule (nth_production g item.production).rule ∷ w.after) s before)
          | inr read ↦ production_symbols item.production s
              (subst (λ l. Contains l s) (take-append-drop item.read list) (Contains-append_left (take item.read list) (drop item.read list) s read))
        ]

  -- nothing is beside the only symbol
  alone : (s : Sym) (before after : List Sym) (x : Sym) → s ∷ [] ≡ before ++ x ∷ after → (before ≡ []) × (after ≡ [])
  alone s before after x e =
      let long = ap length e in
      let parts = length-append before (x ∷ after) in
      (nil_from_length before (omega (arith, long, parts)), nil_from_length after (omega (arith, long, parts)))

  -- if no production has the start rule, nothing is beside it
  pub start_alone : IsStartApart g → (before after : List Sym) → Derives P (Rule 0 ∷ []) (before ++ Rule 0 ∷ after) → after ≡ []
  start_alone apart before after d = by d refl refl
    where
      by : {a b : List Sym} → Derives P a b → a ≡ Rule 0 ∷ [] → b ≡ before ++ Rule 0 ∷ after → after ≡ []
      by none one is = (alone (Rule 0) before after (Rule 0) (sym one ∙ is)).1
      by (next w d) one is =
          let (left, right) = alone (Rule 0) w.before w.after (Rule w.rule) (sym one ∙ w.source) in
          let Not : Sym → Type 0 = λ s. s ≡ Rule 0 → ⊥ in
          let mine : (p : ℕ) (s : Sym) → Contains (nth_production g p).symbols s → Not s = λ p s h same. apart p (subst (Contains (nth_production g p).symbols) same h) in
          absurd (derived_keeps Not mine d
          (step_keeps Not mine w (λ s h. absurd (contains_none s (subst (λ l. Contains l s) left h))) (λ s h. absurd (contains_none s (subst (λ l. Contains l s) right h))))
          (Rule 0) (subst (λ l. Contains l (Rule 0)) (sym is) (Contains-append_right before (Rule 0 ∷ after) (Rule 0) (contains_first (Rule 0) after))) refl)
