-- Symbols lead from the first state exactly to the state of the prefix that they are.
use Rattle.std.proofs.Common.{◌≡◌, ℕ, ◌<◌, cond, List, [], ◌∷◌, ◌++◌, Option, None, Some, Contains, get_or, length, nat_lt, append-nil, append_assoc, lt-ltb, refl, sym, ap, subst, ◌∙◌, arith}
use Rattle.std.specs.Option.{option_and_then}
use Rattle.cfgrammar.specs.Grammar.{Grammar, IsGrammar, IsSymbolOf, Sym}
use Rattle.cfgrammar.proofs.Contained.{contains_first, contains_later}
use Rattle.lr_states.specs.declared.Item.{Item}
use Rattle.lr_states.specs.Automaton.{AreGotos, Automaton, IsGoto, goto_of}
use Rattle.lr_states.specs.Viable.{AreStates, IsStateOf, IsViable, item_at}
use Rattle.lr_states.proofs.Closed.{next_symbol}
use Rattle.lr_states.proofs.Spines.{viable_prefix, viable_read}
use Rattle.lr_conflicts.specs.Inner.Ways.{run}
use Rattle.lr_conflicts.proofs.Runs.{run_first}

module _ (g : Grammar) (grammar : IsGrammar g) (Used : ℕ → Type 0) (x : Automaton) (are : AreStates g Used x.states) (gotos : AreGotos g Used x) where
  abbrev state_at : ℕ → List Item
  state_at q = get_or x.states q []

  abbrev pub step : ℕ → Sym → Option ℕ
  step q symbol = cond (nat_lt q (length x.states)) (goto_of x q symbol) None

  -- the prefix has this state
  abbrev IsAt : List Sym → ℕ → Type 0
  IsAt prefix q = (q < length x.states) × IsStateOf g Used prefix (state_at q)

  step_is : (q : ℕ) (symbol : Sym) → q < length x.states → step q symbol ≡ goto_of x q symbol
  step_is q symbol within = ap (λ b. cond b (goto_of x q symbol) None) (lt-ltb q (length x.states) within)

  one_led : (prefix : List Sym) (symbol : Sym) (q r : ℕ) → IsAt prefix q → IsSymbolOf g symbol → step q symbol ≡ Some r → IsAt (prefix ++ symbol ∷ []) r
  one_led prefix symbol q r at is e =
      let (within, leads) = subst (IsGoto g Used x.states q symbol) (sym (step_is q symbol at.0) ∙ e) (gotos q at.0 symbol is) in
      (within, leads prefix at.1)

  led : (prefix symbols : List Sym) (q r : ℕ) → IsAt prefix q → ((s : Sym) → Contains symbols s → IsSymbolOf g s) → run step q symbols ≡ Some r → IsAt (prefix ++ symbols) r
  led prefix [] q r at all e =
      let same : q ≡ r = cc in
      subst (IsAt (prefix ++ [])) same (subst (λ l. IsAt l q) (sym (append-nil prefix)) at)
  led prefix (s ∷ symbols) q r at all e =
      let (m, is, rest) = run_first step q r s symbols e in
      subst (λ l. IsAt l r) (append_assoc prefix (s ∷ []) symbols)
      (led (prefix ++ s ∷ []) symbols m r (one_led prefix s q m at (all s (contains_first s symbols)) is) (λ y h. all y (contains_later s y symbols h)) rest)

  -- states of one prefix are the same
  state_same : (prefix : List Sym) (q r : ℕ) → IsAt prefix q → IsAt prefix r → q ≡ r
  state_same prefix q r one two = are.distinct q r one.0 two.0 (λ item. ((λ h. (two.1 item).1 ((one.1 item).0 h)), (λ h. (one.1 item).1 ((two.1 item).0 h))))

  leads : (prefix symbols : List Sym) (q r : ℕ) → IsAt prefix q → IsViable g Used (prefix ++ symbols) → IsAt (prefix ++ symbols) r → run step q symbols ≡ Some r
  leads prefix [] q r at viable to = ap Some (state_same prefix q r at (subst (λ l. IsAt l r) (append-nil prefix) to))
  leads prefix (s ∷ symbols) q r at viable to =
      let assoc : prefix ++ s ∷ symbols ≡ (prefix ++ s ∷ []) ++ symbols = sym (append_assoc prefix (s ∷ []) symbols) in
      let whole : IsViable g Used ((prefix ++ s ∷ []) ++ symbols) = subst (IsViable g Used) assoc viable in
      let shorter : IsViable g Used (prefix ++ s ∷ []) = viable_prefix g Used (prefix ++ s ∷ []) symbols whole in
      let read = viable_read g Used prefix s shorter in
      let symbol : IsSymbolOf g s = next_symbol g grammar (item_at read.production read.read) s read.next in
      go (λ m there. leads (prefix ++ s ∷ []) symbols m r there whole (subst (λ l. IsAt l r) assoc to)) shorter (goto_of x q s) refl (gotos q at.0 s symbol)
    where
      go : ((m : ℕ) → IsAt (prefix ++ s ∷ []) m → run step m symbols ≡ Some r) → IsViable g Used (prefix ++ s ∷ []) → (o : Option ℕ) → goto_of x q s ≡ o
          → IsGoto g Used x.states q s o → run step q (s ∷ symbols) ≡ Some r
      go more shorter None is none = absurd (none prefix at.1 shorter)
      go more shorter (Some m) is (there, goes) = ap (option_and_then (λ m. run step m symbols)) (step_is q s at.0 ∙ is) ∙ more m (there, goes prefix at.1)

  module _ (prefix : List Sym) (q : ℕ) (within : q < length x.states) where
    first_at : IsAt [] 0
    first_at = let some : 0 < length x.states = omega (arith, within) in (some, are.first some)

    pub led_state : ((s : Sym) → Contains prefix s → IsSymbolOf g s) → run step 0 prefix ≡ Some q → IsStateOf g Used prefix (state_at q)
    led_state all e = (led [] prefix 0 q first_at all e).1

    pub state_leads : IsViable g Used prefix → IsStateOf g Used prefix (state_at q) → run step 0 prefix ≡ Some q
    state_leads viable state = leads [] prefix 0 q first_at viable (within, state)
