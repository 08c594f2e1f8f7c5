-- Candidates, which are optimal productions, and choices: a rule's choice is its candidate that gives the lexicographically first sentence.
use Rattle.std.specs.Prelude.{◌≡◌, ℕ, zero, suc, ◌+◌, ◌-◌, ◌*◌, ◌<◌, ◌≤◌, ◌⊎◌, Bool, true, false, List, [], ◌∷◌, Option, Some, None, Contains, count_by, is_some, length, map, reverse, slice_index_or, sum_by}
use Rattle.std.specs.Ordering.{nat_cmp}
use Rattle.std.specs.declared.cmp.Ordering.{Ordering}
use Rattle.std.specs.declared.cmp.Ordering.TheVariants.{Greater}
use Rattle.cfgindex.specs.declared.idxnewtype.PIdx.{PIdx}
use Rattle.derivation.specs.Grammar.{Sym, Rule, Token, Grammar, IsGrammar}
use Rattle.cfgtables.specs.Openings.{nth_production}
use Rattle.cfgleast.specs.Certificate.{IsChosenBelow, choice_of, rule_choice}
use Rattle.cfgchoices.specs.Choices.{ChoicesGive}
use Rattle.cfgleast.specs.Generator.{CostTables, IsGenerator, cost_answer}
use Rattle.cfgchoices.specs.Kinds.{IsBase, IsChain, IsOptimal, production_numbers}
use Rattle.cfgchoices.specs.FirstSentence.{lexicographic}
use Rattle.cfgchoices.specs.declared.kinds.Kind.{Kind}
use Rattle.cfgchoices.specs.declared.kinds.Kind.TheVariants.{Suboptimal}
use Rattle.cfgchoices.specs.declared.first.lists.Listed.{Listed}
use Rattle.cfgchoices.specs.declared.first.lists.Listed.TheVariants.{Base, Chain}
use Rattle.cfgchoices.specs.declared.first.candidates.Chooser.{Chooser}

-- for each rule its choice, if any: a production, and a number that says when it was chosen
abbrev pub Choices : Type 0
Choices = List (Option (ℕ × ℕ))

-- the tables, but with these choices
abbrev pub with_choices : CostTables → Choices → CostTables
with_choices x l = record { grammar = x.grammar; costs = x.costs; least = x.least; choices = l }

-- rule q costs nothing, so that it needs no choice, or has one with a number less than n
abbrev pub IsFreeOrChosenBelow : CostTables → Choices → ℕ → ℕ → Type 0
IsFreeOrChosenBelow x l n q = (cost_answer x q ≡ Some 0) ⊎ IsChosenBelow l n (Rule q)

-- p may be the choice of rule r, with number m: an optimal production of r, and each rule in it is free or was chosen below m
pub record IsChoice (x : CostTables) (l : Choices) (r p m : ℕ) : Type 0 where
  pub optimal : IsOptimal x p
  pub owner : (nth_production x.grammar p).rule ≡ r
  pub below : (q : ℕ) → Contains (nth_production x.grammar p).symbols (Rule q) → IsFreeOrChosenBelow x l m q

-- n rules have choices so far
pub record Choosing (x : CostTables) (l : Choices) (n : ℕ) : Type 0 where
  pub listed : length l ≡ x.grammar.rules
  pub count : count_by is_some l ≡ n
  pub each : (r p m : ℕ) → rule_choice l r ≡ Some (p, m) → IsChoice x l r p m × (m < n)

-- the size of a rule's tree, if `f` gives the sizes of the trees of symbols in its chosen production: `each`, and those
abbrev pub tree_size_of : Grammar → ℕ → (Sym → ℕ) → Option (ℕ × ℕ) → ℕ
tree_size_of g each f None = each
tree_size_of g each f (Some choice) = sum_by f (nth_production g choice.0).symbols + each

-- the size of the tree that the choices give for a symbol, at most n choices deep: a token counts 1, and a rule `each`
unfoldable pub tree_size : Grammar → Choices → ℕ → ℕ → Sym → ℕ
tree_size g choices each zero (Token t) = 1
tree_size g choices each zero (Rule r) = each
tree_size g choices each (suc n) (Token t) = 1
tree_size g choices each (suc n) (Rule r) = tree_size_of g each (tree_size g choices each n) (rule_choice choices r)

-- R holds of each element and each later one
abbrev pub IsInOrder : {X : Type 0} → (X → X → Type 0) → X → List X → Type 0
IsInOrder R d xs = (i j : ℕ) → i < j → j < length xs → R (slice_index_or xs i d) (slice_index_or xs j d)

-- the symbols of production p
abbrev pub sequence : CostTables → ℕ → List Sym
sequence x p = (nth_production x.grammar p).symbols

-- the rule of production p
abbrev pub owner : CostTables → ℕ → ℕ
owner x p = (nth_production x.grammar p).rule

-- what the choices give for symbols
abbrev pub Gives : CostTables → Choices → List Sym → List ℕ → Type 0
Gives x l = ChoicesGive (with_choices x l)

-- what the choices give for the pending symbols: a stack, whose last symbol is expanded first
abbrev pub Pends : CostTables → Choices → List Sym → List ℕ → Type 0
Pends x l pending w = ChoicesGive (with_choices x l) (reverse pending) w

-- both lists of symbols begin with tokens, and `ordering` is how these two compare
pub record FirstTokensAre (a b : List Sym) (ordering : Ordering) : Type 0 where
  pub one : ℕ
  pub other : ℕ
  pub ones : List Sym
  pub others : List Sym
  pub first : a ≡ Token one ∷ ones
  pub second : b ≡ Token other ∷ others
  pub is : ordering ≡ nat_cmp one other

-- the size of the trees of all pending symbols
abbrev pub left_to_open : CostTables → Choices → List Sym → ℕ
left_to_open x l pending = sum_by (tree_size x.grammar l 1 x.grammar.rules) pending

-- what the choices give for a isn't greater than what they give for b
abbrev pub NotAfter : CostTables → Choices → List Sym → List Sym → Type 0
NotAfter x l a b = (u v : List ℕ) → ChoicesGive (with_choices x l) a u → ChoicesGive (with_choices x l) b v → lexicographic u v ≡ Greater → ⊥

-- rule r has a choice
abbrev pub HasChoice : Choices → ℕ → Type 0
HasChoice l r = (choice : ℕ × ℕ) × (rule_choice l r ≡ Some choice)

-- the rule of production p has a choice, which gives nothing greater than p
pub record IsDone (x : CostTables) (l : Choices) (p : ℕ) : Type 0 where
  pub chosen : HasChoice l (owner x p)
  pub given : (w : List ℕ) × ChoicesGive (with_choices x l) (sequence x p) w
  pub first : NotAfter x l (Rule (owner x p) ∷ []) (sequence x p)

-- p and q are productions of one rule, and p gives nothing greater than q
pub record GivesNoMore (x : CostTables) (l : Choices) (p q : ℕ) : Type 0 where
  pub same : owner x p ≡ owner x q
  pub given : (w : List ℕ) × ChoicesGive (with_choices x l) (sequence x q) w
  pub before : NotAfter x l (sequence x p) (sequence x q)

-- a generator's tables, which rules have only one optimal production, and a number above all costs
pub record Known : Type 0 where
  pub tables : CostTables
  pub sole : List Bool
  pub limit : ℕ

-- there is a list for this cost, or for this rule
abbrev pub HasList : {S : Type 0} → (S → ℕ) → Known → Listed S → Type 0
HasList number k (Base c) = c < k.limit
HasList number k (Chain r) = number r.0 < k.tables.grammar.rules

-- whether the rule is known to have only one optimal production
abbrev pub is_sole : Known → ℕ → Bool
is_sole k r = slice_index_or k.sole r false

-- rule r has at most one optimal production
abbrev pub IsSole : CostTables → ℕ → Type 0
IsSole x r = (p q : ℕ) → IsOptimal x p → IsOptimal x q → owner x p ≡ r → owner x q ≡ r → p ≡ q

-- what is known is true: the rules that `sole` marks have at most one optimal production, each optimal production is a base or a chain
-- production, and all costs are less than the limit
pub record IsKnown (k : Known) (n : ℕ) : Type 0 where
  pub generator : IsGenerator k.tables n
  pub grammar : IsGrammar k.tables.grammar
  pub flags : length k.sole ≡ k.tables.grammar.rules
  pub sole : (r : ℕ) → is_sole k r ≡ true → IsSole k.tables r
  pub kinds : (p : ℕ) → IsOptimal k.tables p → IsBase k.tables p ⊎ ((q : ℕ) × IsChain k.tables p q)
  pub costs : (r c : ℕ) → cost_answer k.tables r ≡ Some c → c < k.limit

-- production p is optimal, as its kind says
abbrev pub IsOptimalByKind : {S : Type 0} → List (Kind S) → ℕ → Type 0
IsOptimalByKind kinds p = (p < length kinds) × (slice_index_or kinds p Suboptimal ≡ Suboptimal → ⊥)

-- the production's number
abbrev pub production_number : {S : Type 0} → (S → ℕ) → Option (PIdx S) → Option ℕ
production_number number None = None
production_number number (Some p) = Some (number p.0)

-- The choices made so far, and their `number`; the cost of the current candidates; `ready`: those that are their rule's only optimal
-- production; `sorted`: the others; `foremost`: for each rule its candidate that gives the lexicographically first sentence.
pub record Candidates : Type 0 where
  pub choices : Choices
  pub number : ℕ
  pub cost : ℕ
  pub ready : List ℕ
  pub sorted : List ℕ
  pub foremost : List (Option ℕ)

-- the candidates and choices of the code
abbrev pub candidates_of : {S : Type 0} → (S → ℕ) → Chooser S → Candidates
candidates_of number f = record {
  choices = map (choice_of number) f.choices.items;
  number = f.number;
  cost = f.cost;
  ready = production_numbers number f.ready.items;
  sorted = production_numbers number f.sorted.items;
  foremost = map (production_number number) f.foremost.items;
}

-- production p is a candidate and wasn't chosen or dropped yet
abbrev pub Waits : Candidates → ℕ → Type 0
Waits f p = Contains f.ready p ⊎ Contains f.sorted p

-- how many candidates wait
abbrev pub waiting : Candidates → ℕ
waiting f = length f.ready + length f.sorted

-- production q is done, or a candidate of its rule waits that gives nothing greater
abbrev pub IsHandled : CostTables → Candidates → ℕ → Type 0
IsHandled x f q = IsDone x f.choices q ⊎ ((p : ℕ) × Waits f p × GivesNoMore x f.choices p q)

-- p gives nothing less than the choice of any rule that costs c and has more than one optimal production
abbrev pub IsFloor : Known → Choices → ℕ → ℕ → Type 0
IsFloor k l c p = (r : ℕ) → HasChoice l r → cost_answer k.tables r ≡ Some c → is_sole k r ≡ false → NotAfter k.tables l (Rule r ∷ []) (sequence k.tables p)

-- p is a candidate: an optimal production that costs c, in which each rule is free or has a choice
pub record IsCandidate (k : Known) (l : Choices) (n c p : ℕ) : Type 0 where
  pub optimal : IsOptimal k.tables p
  pub cost : optimal.cost ≡ c
  pub below : (q : ℕ) → Contains (sequence k.tables p) (Rule q) → IsFreeOrChosenBelow k.tables l n q
  pub floor : IsFloor k l c p

-- the productions that wait are candidates, and `sorted` is in descending lexicographic order
pub record AreCandidates (k : Known) (f : Candidates) : Type 0 where
  pub choosing : Choosing k.tables f.choices f.number
  pub costs : (r : ℕ) → HasChoice f.choices r → (d : ℕ) × (cost_answer k.tables r ≡ Some d) × (d ≤ f.cost)
  pub nominated : (p : ℕ) → Waits f p → IsCandidate k f.choices f.number f.cost p
  pub sole : (p : ℕ) → Contains f.ready p → is_sole k (owner k.tables p) ≡ true
  pub several : (p : ℕ) → Contains f.sorted p → is_sole k (owner k.tables p) ≡ false
  pub order : IsInOrder (λ p q. NotAfter k.tables f.choices (sequence k.tables q) (sequence k.tables p)) 0 f.sorted

-- a rule's foremost candidate waits, unless the rule has a choice
pub record Nominating (k : Known) (f : Candidates) : Type 0 where
  pub candidates : AreCandidates k f
  pub listed : length f.foremost ≡ k.tables.grammar.rules
  pub foremost : (r p : ℕ) → slice_index_or f.foremost r None ≡ Some p → (owner k.tables p ≡ r) × (Waits f p ⊎ HasChoice f.choices r)

-- the chain productions that lead to a rule with a choice are handled
pub record HandlesChains (k : Known) (f : Candidates) : Type 0 where
  pub nominating : Nominating k f
  pub chains : (p q : ℕ) → IsChain k.tables p q → HasChoice f.choices q → IsHandled k.tables f p

-- p can be chosen now: it is its rule's only optimal production, or no candidate gives less
pub record IsNext (k : Known) (f : Candidates) (p : ℕ) : Type 0 where
  pub nominated : IsCandidate k f.choices f.number f.cost p
  pub least : (is_sole k (owner k.tables p) ≡ true) ⊎ ((q : ℕ) → Waits f q → NotAfter k.tables f.choices (sequence k.tables p) (sequence k.tables q))

-- p, which can be chosen now, was removed from the candidates
pub record Takes (k : Known) (p : ℕ) (f f' : Candidates) : Type 0 where
  pub others : f' ≡ record { choices = f.choices; number = f.number; cost = f.cost; ready = f'.ready; sorted = f'.sorted; foremost = f.foremost }
  pub candidates : AreCandidates k f'
  pub next : IsNext k f' p
  pub waits : (q : ℕ) → Waits f q → Waits f' q ⊎ (q ≡ p)
  pub together : waiting f ≡ waiting f' + 1

-- nothing waits, and nothing changed
abbrev pub IsDrained : Candidates → Candidates → Type 0
IsDrained f f' = (waiting f ≡ 0) × (f' ≡ f)

-- what was handled still is, and the productions that `Is` has are handled too
abbrev pub Handles : CostTables → (ℕ → Type 0) → Candidates → Candidates → Type 0
Handles x Is f f' = (q : ℕ) → IsHandled x f q ⊎ Is q → IsHandled x f' q

-- the productions that `Is` has are handled now too, and at most n more wait
pub record Adds (x : CostTables) (Is : ℕ → Type 0) (n : ℕ) (f f' : Candidates) : Type 0 where
  pub choices : f'.choices ≡ f.choices
  pub number : f'.number ≡ f.number
  pub cost : f'.cost ≡ f.cost
  pub handles : Handles x Is f f'
  pub together : waiting f' ≤ waiting f + n

-- how many steps are left until there are no candidates
abbrev pub left_to_choose : Known → Candidates → ℕ
left_to_choose k f = (k.tables.grammar.rules - f.number) * (length k.tables.grammar.productions + 1) + waiting f

-- All rules that cost less than c have choices, which give their lexicographically first minimal sentences; no other rule has a choice.
pub record CheaperChosen (k : Known) (f : Candidates) (c : ℕ) : Type 0 where
  pub going : HandlesChains k f
  pub none : waiting f ≡ 0
  pub base : (p : ℕ) (base : IsBase k.tables p) → base.optimal.cost < c → IsDone k.tables f.choices p
  pub cheaper : (r d : ℕ) → HasChoice f.choices r → cost_answer k.tables r ≡ Some d → d < c
