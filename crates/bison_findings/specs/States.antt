-- The states of a grammar's parser as text, for reading a conflict by hand.
use Rattle.std.specs.Prelude.{◌≡◌, ◌==◌, ◌||◌, ℕ, ◌-◌, Bool, false, List, [], ◌++◌, codes, get_or, if◌then◌else◌, length, nat_lt, slice_index_or}
use Rattle.std.specs.Fmt.{decimal}
use Rattle.std.specs.List.{filter, flat_map, range_with_len}
use Rattle.cfgrammar.specs.Associativity.{Associativity}
use Rattle.cfgrammar.specs.Numbered.{Numbered, core}
use Rattle.cfgrammar.specs.Visible.{visible}
use Rattle.text_findings.specs.Named.{rule_name}
use Rattle.lr_states.specs.Automaton.{AreGotos, HaveTargets}
use Rattle.lr_states.specs.Viable.{AreStates, IsUsed}
use Rattle.lr_states.specs.declared.Item.{Item}
use Rattle.lr_states.specs.declared.kernels.Target.{Target}
use Rattle.lr_states.specs.Lookaheads.{AreLookaheads, tokens_of}
use Rattle.lr_conflicts.specs.declared.Conflict.{Conflict}
use Rattle.lr_conflicts.specs.Conflicts.{AreConflicts, ConflictTables}
use Rattle.bison_findings.specs.Shown.{item_text, production_text, symbols_of, token_text, tokens_text}

module _ (g : Numbered) where
  -- Items of which nothing is read follow from the others, but for that of the start rule. Those of empty productions are shown too, since
  -- they are reduced.
  abbrev pub is_shown : Item → Bool
  is_shown item = nat_lt 0 item.read || ((item.production == g.start_production) || (length (symbols_of g item.production) == 0))

  abbrev pub item_line : Item → List ℕ
  item_line item = if is_shown item then codes "  " ++ (item_text g item ++ codes "\n") else []

  -- rules have the first numbers of symbols, and tokens those after them
  abbrev pub symbol_text : ℕ → List ℕ
  symbol_text number = if nat_lt number (length g.rules) then codes "after " ++ visible (rule_name g number)
      else codes "at " ++ token_text g (number - length g.rules)

  abbrev pub target_line : Target → List ℕ
  target_line target = codes "    " ++ (symbol_text target.symbol ++ (codes ": go to state " ++ (decimal target.state ++ codes "\n")))

  -- the tokens whose bits are on
  abbrev pub tokens_in : List Bool → List ℕ
  tokens_in bits = filter (λ t. slice_index_or bits t false) (range_with_len 0 (length g.tokens))

  abbrev pub action_text : ℕ → List ℕ
  action_text p = if p == g.start_production then codes "accept" else codes "reduce  " ++ production_text g p

  abbrev pub conflict_line : ℕ → Conflict → List ℕ
  conflict_line q conflict = if conflict.state == q then codes "    conflict at " ++ (token_text g conflict.token ++ codes "\n") else []

  module _ (x : ConflictTables) where
    -- of an item of which all is read: at which tokens it is reduced
    abbrev pub action_line : ℕ → Item → List ℕ
    action_line q item = if item.read == length (symbols_of g item.production)
        then codes "    at " ++ (tokens_text g (tokens_in (tokens_of x.lookaheads q item)) ++ (codes ": " ++ (action_text item.production ++ codes "\n")))
        else []

    -- its items, where symbols lead from it, what is reduced, all before precedence settles anything; and the conflicts that are left after that
    abbrev pub state_text : ℕ → List ℕ
    state_text q = codes "State " ++ (decimal q ++ (codes "\n" ++ (flat_map item_line (get_or x.lookaheads.automaton.states q [])
        ++ (flat_map target_line (get_or x.lookaheads.automaton.targets q [])
        ++ (flat_map (action_line q) (get_or x.lookaheads.automaton.states q []) ++ flat_map (conflict_line q) x.conflicts)))))

    abbrev pub states_text : List ℕ
    states_text = flat_map state_text (range_with_len 0 (length x.lookaheads.automaton.states))

-- the text shows the states of the grammar
pub record IsStatesText (g : Numbered) (associativities : List Associativity) (text : List ℕ) : Type 0 where
  pub x : ConflictTables
  pub states : AreStates (core g) (IsUsed (core g)) x.lookaheads.automaton.states
  pub gotos : AreGotos (core g) (IsUsed (core g)) x.lookaheads.automaton
  pub targets : HaveTargets (core g) x.lookaheads.automaton
  pub lookaheads : AreLookaheads (core g) (IsUsed (core g)) x.lookaheads
  pub conflicts : AreConflicts g associativities x.lookaheads.automaton x.conflicts
  pub is : text ≡ states_text g x
