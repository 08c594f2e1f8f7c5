-- Ways that a parser could take: nodes are reached by reading symbols, and by opening productions of rules that are next.
use Rattle.std.specs.Prelude.{◌≡◌, ◌+◌, ◌<◌, ◌≤◌, ℕ, Bool, false, true, List, [], ◌∷◌, ◌++◌, Option, None, Some, Contains, IsTrue, drop, length, map, slice_get, take}
use Rattle.std.specs.Option.{option_and_then}
use Rattle.search.specs.Reachable.{Reachable}
use Rattle.cfgrammar.specs.Grammar.{Grammar, Sym, Rule, Token}
use Rattle.cfgrammar.specs.Derivation.{Derives}
use Rattle.cfgrammar.specs.NumberedSymbols.{sym_of}
use Rattle.cfgrammar.specs.Openings.{nth_production}
use Rattle.lr_states.specs.declared.Item.{Item}
use Rattle.lr_states.specs.Viable.{HasNext, item_at}
use Rattle.lr_states.specs.Lookaheads.{HasUsed}
use Rattle.lr_conflicts.specs.declared.examples.Side.{Side}
use Rattle.lr_conflicts.specs.declared.examples.nodes.ItemAt.{ItemAt}
use Rattle.lr_conflicts.specs.declared.examples.nodes.Node.{Node}
use Rattle.lr_conflicts.specs.declared.examples.nodes.Node.TheVariants as nodes
use Rattle.lr_conflicts.specs.declared.examples.nodes.Step.{Step}
use Rattle.lr_conflicts.specs.declared.examples.nodes.Step.TheVariants as steps
use Rattle.lr_conflicts.specs.Examples.{BeginsAt, IsSide, prefix_of, rest_of}

-- where symbols lead from a place
abbrev pub run : (ℕ → Sym → Option ℕ) → ℕ → List Sym → Option ℕ
run step q [] = Some q
run step q (x ∷ symbols) = option_and_then (λ r. run step r symbols) (step q x)

abbrev pub item_node : ℕ → Item → Bool → Node
item_node q item followed = nodes.Item (record { place = q; item = item; followed = followed })

abbrev pub opened_node : ℕ → ℕ → ℕ → Node
opened_node q rule first = nodes.Opened (record { place = q; rule = rule; first = first })

-- the node that a step is from
abbrev pub parent_of : Step → Option Node
parent_of steps.First = None
parent_of (steps.Read node symbol) = Some node
parent_of (steps.Open node front) = Some node

abbrev pub HasNode : List (Node × Step) → Node → Type 0
HasNode found n = (step : Step) × Contains found (n, step)

-- one of the first nodes that were found
pub record IsFoundBefore (found : List (Node × Step)) (k : ℕ) (n : Node) : Type 0 where
  pub number : ℕ
  pub before : number < k
  pub step : Step
  pub is : slice_get found number ≡ Some (n, step)

-- What ways go by: used productions, and steps from place to place. The token is the one that is to come next in the end.
pub record Setting : Type 1 where
  pub grammar : Grammar
  pub Used : ℕ → Type 0
  pub step : ℕ → Sym → Option ℕ
  pub token : ℕ

module _ (S : Setting) where
  abbrev symbols : ℕ → List Sym
  symbols p = (nth_production S.grammar p).symbols

  abbrev pub IsNullable : List Sym → Type 0
  IsNullable list = Derives (HasUsed S.grammar S.Used) list []

  -- the start rule derives a list in which the rule comes after a prefix that leads to the place
  pub record IsOpen (q rule : ℕ) (prefix after : List Sym) : Type 0 where
    pub derived : Derives (HasUsed S.grammar S.Used) (Rule 0 ∷ []) (prefix ++ Rule rule ∷ after)
    pub leads : run S.step 0 prefix ≡ Some q

  -- and with the item's production in the place of the rule, and some of it read
  pub record IsRead (q : ℕ) (item : Item) (prefix after : List Sym) : Type 0 where
    pub before : List Sym
    pub derived : Derives (HasUsed S.grammar S.Used) (Rule 0 ∷ []) (before ++ Rule (nth_production S.grammar item.production).rule ∷ after)
    pub used : S.Used item.production
    pub read : item.read ≤ length (symbols item.production)
    pub is : prefix ≡ before ++ take item.read (symbols item.production)
    pub leads : run S.step 0 prefix ≡ Some q

  -- A prefix and a rest show that a node is reached: of an item what comes before and after its production, where the token comes first if it is
  -- followed by it; else what comes after the rule and the first of the symbols after it.
  abbrev pub Shown : Node → List Sym → List Sym → Type 0
  Shown (nodes.Item x) prefix after = IsRead x.place x.item prefix after × (IsTrue x.followed → BeginsAt S.grammar S.token after)
  Shown (nodes.Opened x) prefix after = IsOpen x.place x.rule prefix (Rule x.first ∷ after) × (x.rule < S.grammar.rules) × (x.first < S.grammar.rules)

  -- some do
  pub record IsShown (n : Node) : Type 0 where
    pub prefix : List Sym
    pub after : List Sym
    pub shown : Shown n prefix after

  -- each prefix and rest that show the node are so
  abbrev pub EachShown : Node → (List Sym → List Sym → Type 0) → Type 0
  EachShown n P = (prefix after : List Sym) → Shown n prefix after → P prefix after

  -- and so is each that a step makes of them: it reads a symbol more, or puts others before the rest
  abbrev pub EachMade : Step → (List Sym → List Sym → Type 0) → Type 0
  EachMade steps.First P = P [] []
  EachMade (steps.Read n x) P = EachShown n (λ prefix after. P (prefix ++ sym_of (λ s. s) x ∷ []) after)
  EachMade (steps.Open n front) P = EachShown n (λ prefix after. P prefix (map (sym_of (λ s. s)) front.now ++ after))

  -- the rule is next, and the token comes after it, if it is followed by it
  abbrev pub IsNext : ℕ → ℕ → Bool → List Sym → List Sym → Type 0
  IsNext q rule followed prefix after = IsOpen q rule prefix after × (IsTrue followed → BeginsAt S.grammar S.token after)

  -- a used production of the rule, of which nothing is read
  pub record Enters (q rule : ℕ) (followed : Bool) (n : Node) : Type 0 where
    pub production : ℕ
    pub used : S.Used production
    pub owner : (nth_production S.grammar production).rule ≡ rule
    pub is : n ≡ item_node q (item_at production 0) followed

  -- by the symbol right after the rule: the token follows, or that symbol is a rule
  abbrev pub ByNext : ℕ → ℕ → Option Sym → Node → Type 0
  ByNext q rule None n = ⊥
  ByNext q rule (Some (Token u)) n = (u ≡ S.token) × Enters q rule true n
  ByNext q rule (Some (Rule first)) n = n ≡ opened_node q rule first

  -- by one of the symbols after the rule, before which there are only nullable ones
  pub record ByShown (q rule : ℕ) (list : List Sym) (n : Node) : Type 0 where
    pub index : ℕ
    pub nullable : IsNullable (take index list)
    pub by : ByNext q rule (slice_get list index) n

  -- what comes after the item's next symbol in its production
  abbrev pub back_of : Item → List Sym
  back_of item = drop (item.read + 1) (symbols item.production)

  -- by reading the item's next symbol
  pub record Reads (q : ℕ) (item : Item) (followed : Bool) (symbol : Sym) (n : Node) : Type 0 where
    pub place : ℕ
    pub leads : S.step q symbol ≡ Some place
    pub is : n ≡ item_node place (item_at item.production (item.read + 1)) followed

  -- by the rule that is next in an item
  pub data Opens (q : ℕ) (item : Item) (followed : Bool) (rule : ℕ) (n : Node) : Type 0 where
    enters : Enters q rule false n → Opens q item followed rule n
    shows : ByShown q rule (back_of item) n → Opens q item followed rule n
    ends : IsTrue followed → IsNullable (back_of item) → Enters q rule true n → Opens q item followed rule n

  -- by this production of the first rule after another one, if it is used
  abbrev pub UnfoldsWith : ℕ → ℕ → ℕ → Node → Type 0
  UnfoldsWith q rule p n = S.Used p × ByShown q rule (symbols p) n

  -- by a used production of the first rule after another one
  pub record Unfolds (q rule first : ℕ) (n : Node) : Type 0 where
    pub production : ℕ
    pub used : S.Used production
    pub owner : (nth_production S.grammar production).rule ≡ first
    pub shows : ByShown q rule (symbols production) n

  -- by the item's next symbol
  pub data ByItem (q : ℕ) (item : Item) (followed : Bool) (n : Node) : Type 0 where
    reads : (symbol : Sym) → HasNext S.grammar item symbol → Reads q item followed symbol n → ByItem q item followed n
    opens : (rule : ℕ) → HasNext S.grammar item (Rule rule) → Opens q item followed rule n → ByItem q item followed n

  -- the ways on from a node
  abbrev pub Leads : Node → Node → Type 0
  Leads (nodes.Item x) n = ByItem x.place x.item x.followed n
  Leads (nodes.Opened x) n = Unfolds x.place x.rule x.first n

  -- where ways begin: productions of the start rule, after which the end token comes
  pub data Begins (n : Node) : Type 0 where
    any : Enters 0 0 false n → Begins n
    last : S.token + 1 ≡ S.grammar.tokens → Enters 0 0 true n → Begins n

  abbrev pub IsReached : Node → Type 0
  IsReached = Reachable Begins Leads

  -- these nodes are found too, each new one by a step from the same node, or from none; those that were there stay
  pub record Finds (from : Option Node) (Found : Node → Type 0) (old new : List (Node × Step)) : Type 0 where
    pub more : List (Node × Step)
    pub is : new ≡ old ++ more
    pub shown : (n : Node) (s : Step) → Contains more (n, s) → EachMade s (Shown n)
    pub parent : (n : Node) (s : Step) → Contains more (n, s) → parent_of s ≡ from
    pub found : (n : Node) → Found n → HasNode new n

  -- what each step makes shows its node, and the node that it is from was found earlier
  pub record AreSteps (found : List (Node × Step)) : Type 0 where
    pub shown : (n : Node) (s : Step) → Contains found (n, s) → EachMade s (Shown n)
    pub parent : (k : ℕ) (n : Node) (s : Step) → slice_get found k ≡ Some (n, s) → (m : Node) → parent_of s ≡ Some m → IsFoundBefore found k m

  -- nodes that are reached, with this one if it is
  pub record IsSearched (node : Node) (found : List (Node × Step)) : Type 0 where
    pub steps : AreSteps found
    pub has : IsReached node → HasNode found node

  -- a side that shows the node, with these symbols before its rest
  pub record IsSideWith (n : Node) (front : List Sym) (side : Side) : Type 0 where
    pub after : List Sym
    pub shown : Shown n (prefix_of side) after
    pub rest : rest_of side ≡ front ++ after

  -- a side of the item, whose prefix leads to the place
  pub record IsSideAt (x : ItemAt) (side : Side) : Type 0 where
    pub leads : run S.step 0 (prefix_of side) ≡ Some x.place
    pub is : IsSide S.grammar S.Used x.item side
    pub follows : IsTrue x.followed → x.item.read ≡ length (symbols x.item.production) → BeginsAt S.grammar S.token (rest_of side)

  -- such a side; none only if the item isn't reached
  abbrev pub IsFound : ItemAt → Option Side → Type 0
  IsFound x None = IsReached (nodes.Item x) → ⊥
  IsFound x (Some side) = IsSideAt x side
