-- The items of a state by those with symbols read, and those of the next one by its symbol.
use Rattle.std.proofs.Common.{◌≡◌, inl, inr, ℕ, ◌+◌, ◌-◌, ◌<◌, List, [], ◌∷◌, ◌++◌, All, Contains, length, refl, sym, ap, subst, ◌∙◌, arith}
use Rattle.std.proofs.lemmas.Bool.{cases_eq, cases_lt}
use Rattle.std.proofs.lemmas.List.{get_or_past}
use Rattle.std.proofs.lemmas.List.Elements.{All-contains, Contains-get_or}
use Rattle.std.proofs.lemmas.Option.{get_or_from_slice_get, slice_get_within}
use Rattle.search.specs.Reachable.{Reachable, led, seed}
use Rattle.cfgrammar.specs.Grammar.{Grammar, IsGrammar, IsSymbolOf, Production, Sym, Rule, Token}
use Rattle.cfgrammar.specs.Openings.{nth_production}
use Rattle.cfgrammar.proofs.Contained.{contains_first, contains_none}
use Rattle.lr_states.specs.declared.Item.{Item}
use Rattle.lr_states.specs.Inner.Closure.{AreAdvanced, Enters, IsClosure, IsKernelOf, IsSeed, first, next, node_of}
use Rattle.lr_states.specs.Viable.{AreSorted, HasNext, IsStateOf, IsValid, item_at}
use Rattle.lr_states.proofs.Spines.{IsSeedAt, IsRead, none_read, opened_reached, opened_valid, read_back, read_one, reached_opened, valid_opened, viable_prefix, viable_read}
use Rattle.lr_states.proofs.Spines as spines

pub reachable_as : {Seed Seed' : ℕ → Type 0} {Leads Leads' : ℕ → ℕ → Type 0} → ((n : ℕ) → Seed n → Seed' n) → ((a b : ℕ) → Leads a b → Leads' a b) → {n : ℕ}
    → Reachable Seed Leads n → Reachable Seed' Leads' n
reachable_as more on (seed {a = n} h) = seed (more n h)
reachable_as more on (led {a = a} {b = b} h k) = led (reachable_as more on h) (on a b k)

pub enters_as : (g : Grammar) {Used Used' : ℕ → Type 0} → ((p : ℕ) → Used p → Used' p) → {a b : ℕ} → Enters g Used a b → Enters g Used' a b
enters_as g to e = record { index = e.index; used = to e.index e.used; owner = e.owner; begins = e.begins }

none_from : (xs : List Item) → ((x : Item) → Contains xs x → ⊥) → xs ≡ []
none_from [] none = refl
none_from (x ∷ xs) none = absurd (none x (contains_first x xs))

module _ (g : Grammar) (Used : ℕ → Type 0) (prefix : List Sym) (kernel : List Item) (is : IsKernelOf g Used prefix kernel) where
  valid_empty : (item : Item) → prefix ≡ [] → 0 < item.read → IsValid g Used prefix item → ⊥
  valid_empty item empty some v =
      let i = item.read - 1 in
      let more : item.read ≡ i + 1 = omega (arith, some) in
      none_read g Used item.production i (subst (λ n. IsValid g Used [] (item_at item.production n)) more (subst (λ l. IsValid g Used l item) empty v))

  kernel_empty : prefix ≡ [] → kernel ≡ []
  kernel_empty empty = none_from kernel (λ x h. let a = (is.all x).0 h in valid_empty x empty a.0 a.1)

  seed_at : (rule : ℕ) → IsSeed g kernel rule → IsSeedAt g Used prefix rule
  seed_at rule (first none zero) = spines.first (is.empty none) zero
  seed_at rule (next item among at) = let a = (is.all item).0 among in spines.next item a.0 a.1 at

  seed_from : (rule : ℕ) → IsSeedAt g Used prefix rule → IsSeed g kernel rule
  seed_from rule (spines.first empty zero) = first (kernel_empty empty) zero
  seed_from rule (spines.next item some v at) = next item ((is.all item).1 (some, v)) at

  module _ (items : List Item) (closure : IsClosure g Used kernel items) where
    pub closure_state : IsStateOf g Used prefix items
    closure_state item = (
      (λ h. elim ((closure.all item).0 h) [
        | inl among ↦ ((is.all item).0 among).1
        | inr e ↦ opened_valid g Used prefix item e.unread e.used (reached_opened g Used prefix (reachable_as seed_at (λ a b k. k) e.reached))
      ]),
      (λ v. (closure.all item).1 (elim (cases_eq item.read 0) [
        | inl unread ↦ inr (record {
          unread = unread;
          used = v.used;
          reached = reachable_as seed_from (λ a b k. k) (opened_reached g Used prefix (nth_production g item.production).rule (valid_opened g Used prefix item unread v));
        })
        | inr some ↦ inl ((is.all item).1 (omega (arith, some), v))
      ])),
    )

    pub closure_sorted : AreSorted items
    closure_sorted = closure.sorted is.sorted (λ item h. ((is.all item).0 h).0)

-- Symbols have different numbers.
symbol_there : (g : Grammar) (a b : Sym) → IsSymbolOf g a → IsSymbolOf g b → node_of g a ≡ node_of g b → a ≡ b
symbol_there g (Rule r) (Rule q) is other same = ap Rule same
symbol_there g (Rule r) (Token t) is other same = absurd (omega (arith, is, same))
symbol_there g (Token t) (Rule r) is other same = absurd (omega (arith, other, same))
symbol_there g (Token t) (Token u) is other same = let index : t ≡ u = omega (arith, same) in ap Token index

pub next_within : (g : Grammar) (item : Item) (x : Sym) → HasNext g item x → item.production < length g.productions
next_within g item x at = elim (cases_lt item.production (length g.productions)) [
  | inl within ↦ within
  | inr past ↦
      let none : (nth_production g item.production).symbols ≡ [] = ap (λ (p : Production). p.symbols) (get_or_past g.productions item.production _ past) in
      absurd (contains_none x (subst (λ l. Contains l x) none (
        item.read,
        slice_get_within (nth_production g item.production).symbols item.read x at,
        get_or_from_slice_get (nth_production g item.production).symbols item.read x x at,
      )))
]

pub next_symbol : (g : Grammar) → IsGrammar g → (item : Item) (x : Sym) → HasNext g item x → IsSymbolOf g x
next_symbol g is item x at =
    let p = item.production in
    let list = (nth_production g p).symbols in
    let within = next_within g item x at in
    All-contains (IsSymbolOf g) list x
    (All-contains (λ (p : Production). All (IsSymbolOf g) p.symbols) g.productions (nth_production g p) is.symbols
    (Contains-get_or g.productions p (record { rule = 0; symbols = [] }) within))
    (item.read, slice_get_within list item.read x at, get_or_from_slice_get list item.read x x at)

module _ (g : Grammar) (grammar : IsGrammar g) (Used : ℕ → Type 0) (prefix : List Sym) (items : List Item) (state : IsStateOf g Used prefix items)
    (sorted : AreSorted items) (node : ℕ) (kernel : List Item) (advanced : AreAdvanced g items node kernel) where
  -- the items that are read past a symbol are the kernel of the next state
  pub kernel_next : (x : Sym) → IsSymbolOf g x → node_of g x ≡ node → (item : Item) → Contains kernel item → IsKernelOf g Used (prefix ++ x ∷ []) kernel
  kernel_next x symbol at some among = record {
    all = λ item. (to item, from item);
    empty = λ none. absurd (contains_none some (subst (λ l. Contains l some) none among));
    sorted = advanced.sorted sorted;
  }
    where
      to : (item : Item) → Contains kernel item → (0 < item.read) × IsValid g Used (prefix ++ x ∷ []) item
      to item h =
          let a = (advanced.all item).0 h in
          let is = a.is in
          let same : a.symbol ≡ x = symbol_there g a.symbol x (next_symbol g grammar (item_at item.production a.read) a.symbol a.next) symbol (a.at ∙ sym at) in (
            omega (arith, is),
            subst (λ n. IsValid g Used (prefix ++ x ∷ []) (item_at item.production n)) (sym is)
                (read_one g Used prefix x item.production a.read (subst (HasNext g (item_at item.production a.read)) same a.next)
                ((state (item_at item.production a.read)).0 a.from)),
          )

      from : (item : Item) → (0 < item.read) × IsValid g Used (prefix ++ x ∷ []) item → Contains kernel item
      from item (some, v) =
          let i = item.read - 1 in
          let is : item.read ≡ i + 1 = omega (arith, some) in
          let back = read_back g Used prefix x item.production i (subst (λ n. IsValid g Used (prefix ++ x ∷ []) (item_at item.production n)) is v) in
          (advanced.all item).1 (record { read = i; is = is; from = (state (item_at item.production i)).1 back.1; symbol = x; next = back.0; at = at })

  -- that state is the one of a viable prefix
  pub next_viable : (item : Item) → Contains kernel item → (x : Sym) × IsKernelOf g Used (prefix ++ x ∷ []) kernel
  next_viable item among =
      let a = (advanced.all item).0 among in
      (a.symbol, kernel_next a.symbol (next_symbol g grammar (item_at item.production a.read) a.symbol a.next) a.at item among)

-- the productions of a state's items exist if those of its kernel do
pub closure_within : (g : Grammar) (Used : ℕ → Type 0) (kernel items : List Item) → IsClosure g Used kernel items → (n : ℕ) → ((item : Item) → Contains kernel item → item.production < n)
    → ((p : ℕ) → Used p → p < n) → (item : Item) → Contains items item → item.production < n
closure_within g Used kernel items closure n among used item h = elim ((closure.all item).0 h) [ inl k ↦ among item k | inr e ↦ used item.production e.used ]
