-- All minimal sentences, from a table: of a rule, filled by increasing cost, or of all rules, filled component by component.
use Rattle.std.specs.Prelude.{◌≡◌, ◌↔◌, ℕ, ◌<◌, ◌⊎◌, List, [], ◌∷◌, ◌++◌, Some, Contains, map, Vec}
use Rattle.std.specs.Ordering.{nat_cmp}
use Rattle.std.specs.BTreeMap.{BTreeMap, get}
use Rattle.std.specs.List.{flat_map, fold}
use Rattle.std.specs.List.Sorted.{IsStrictlySortedBy}
use Rattle.std.specs.Option.{option_map, unwrap_or}
use Rattle.std.specs.declared.alloc.Global.{Global}
use Rattle.cfgindex.specs.declared.idxnewtype.TIdx.{TIdx}
use Rattle.derivation.specs.Grammar.{Grammar, Sym, Rule, Token, HasProduction}
use Rattle.cfgtables.specs.Openings.{nth_production}
use Rattle.cfgleast.specs.Generator.{CostTables, cost_answer, token_cost}
use Rattle.cfgchoices.specs.FirstSentence.{lexicographic}
use Rattle.cfgchoices.specs.Splits.{Split}
use Rattle.cfgchoices.specs.Kinds.{IsMinimal, IsOptimal, ReachesBase}
use Rattle.cfgcosts.specs.Sentences.{ListsMinimal, numbers_of}
use Rattle.search.specs.Components.{ReachableFrom}

-- the new list has what the old one has, and what satisfies `Is`
abbrev pub Lists : (ℕ → Type 0) → List ℕ → List ℕ → Type 0
Lists Is old new = (p : ℕ) → Contains new p ↔ (Contains old p ⊎ Is p)

-- the rule, and each rule in a base production that a listed rule reaches, is listed with its cost
pub record AreRequested (x : CostTables) (r : ℕ) (listed : List (ℕ × ℕ)) : Type 0 where
  pub costs : (c q : ℕ) → Contains listed (c, q) → cost_answer x q ≡ Some c
  pub first : (c : ℕ) × Contains listed (c, r)
  pub bases : (c q p s : ℕ) → Contains listed (c, q) → ReachesBase x q p → Contains (nth_production x.grammar p).symbols (Rule s)
      → (d : ℕ) × Contains listed (d, s)

-- the numbers of the tokens of words
abbrev pub words_of : {S : Type 0} → (S → ℕ) → Vec (Vec (TIdx S) Global) Global → List (List ℕ)
words_of number words = map (numbers_of number) words.items

-- the sentences that a table has for a rule
abbrev pub sentences_in : {S : Type 0} → (S → ℕ) → BTreeMap ℕ (Vec (Vec (TIdx S) Global) Global) → ℕ → List (List ℕ)
sentences_in number table r = unwrap_or (option_map (words_of number) (get nat_cmp table r)) []

-- w is among the sentences of rule r
abbrev pub HasSentence : (ℕ → List (List ℕ)) → ℕ → List ℕ → Type 0
HasSentence sentences r w = Contains (sentences r) w

-- each word of one list followed by each word of the other
abbrev pub joined : List (List ℕ) → List (List ℕ) → List (List ℕ)
joined prefixes suffixes = flat_map (λ prefix. map (λ suffix. prefix ++ suffix) suffixes) prefixes

-- the words of a symbol: the token itself, or the sentences of the rule
abbrev pub words_of_symbol : (ℕ → List (List ℕ)) → Sym → List (List ℕ)
words_of_symbol sentences (Token t) = (t ∷ []) ∷ []
words_of_symbol sentences (Rule r) = sentences r

-- the words of a list's symbols, concatenated
abbrev pub sequence_words : (ℕ → List (List ℕ)) → List Sym → List (List ℕ)
sequence_words sentences sequence = fold (λ words s. joined words (words_of_symbol sentences s)) ([] ∷ []) sequence

-- these are now the sentences of the rule, and the other rules keep theirs
pub record Puts (r : ℕ) (words : List (List ℕ)) (sentences sentences' : ℕ → List (List ℕ)) : Type 0 where
  pub here : sentences' r ≡ words
  pub others : (q : ℕ) → (q ≡ r → ⊥) → sentences' q ≡ sentences q

-- one of these productions makes w: it consists of a sentence for each of the production's symbols
pub record IsMadeBy (g : Grammar) (sentences : ℕ → List (List ℕ)) (positions : List ℕ) (w : List ℕ) : Type 0 where
  pub index : ℕ
  pub among : Contains positions index
  pub parts : Split (HasSentence sentences) (nth_production g index).symbols w

-- the words are exactly the minimal sentences of the rule, each once, in lexicographic order
pub record AreMinimal (x : CostTables) (r : ℕ) (words : List (List ℕ)) : Type 0 where
  pub all : (w : List ℕ) → Contains words w ↔ IsMinimal x r w
  pub order : IsStrictlySortedBy lexicographic words

-- the table has the minimal sentences of each rule in a base production that the rule reaches
abbrev pub IsReadyFor : CostTables → (ℕ → List (List ℕ)) → ℕ → Type 0
IsReadyFor x sentences r = (p q : ℕ) → ReachesBase x r p → Contains (nth_production x.grammar p).symbols (Rule q) → AreMinimal x q (sentences q)

-- the words are those that are to be listed for the rule
abbrev pub AreListed : CostTables → ℕ → List (List ℕ) → Type 0
AreListed x = ListsMinimal (HasProduction x.grammar) (token_cost x)

-- an optimal production of rule r contains rule q
pub record Uses (x : CostTables) (r q : ℕ) : Type 0 where
  pub index : ℕ
  pub optimal : IsOptimal x index
  pub owner : (nth_production x.grammar index).rule ≡ r
  pub holds : Contains (nth_production x.grammar index).symbols (Rule q)

-- Each of the rules uses each other one, and none has sentences yet. Those of the other rules that they use are listed.
pub record IsReadyComponent (x : CostTables) (sentences : ℕ → List (List ℕ)) (rules : List ℕ) : Type 0 where
  pub within : (r : ℕ) → Contains rules r → r < x.grammar.rules
  pub together : (r q : ℕ) → Contains rules r → Contains rules q → ReachableFrom (Uses x) r q
  pub none : (r : ℕ) → Contains rules r → sentences r ≡ []
  pub used : (r q : ℕ) → Contains rules r → Uses x r q → Contains rules q ⊎ AreListed x q (sentences q)

-- these are now the sentences of each of the rules, and the other rules keep theirs
pub record PutsEach (rules : List ℕ) (words : List (List ℕ)) (sentences sentences' : ℕ → List (List ℕ)) : Type 0 where
  pub here : (r : ℕ) → Contains rules r → sentences' r ≡ words
  pub others : (q : ℕ) → (Contains rules q → ⊥) → sentences' q ≡ sentences q
