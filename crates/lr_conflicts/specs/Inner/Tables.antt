-- What a search for ways goes by.
use Rattle.std.specs.Prelude.{◌==◌, ◌+◌, ◌↔◌, ℕ, Bool, List, Option, None, Some, IsTrue, cond, false, length, map, nat_lt, slice_get, slice_index_or}
use Rattle.cfgrammar.specs.Grammar.{Grammar, IsGrammar, Sym, Rule, Token}
use Rattle.cfgrammar.specs.Firsts.{AreFirsts, FirstSets}
use Rattle.cfgrammar.specs.NumberedSymbols.{sym_of}
use Rattle.lr_states.specs.Automaton.{goto_of}
use Rattle.lr_states.specs.Viable.{IsUsed}
use Rattle.lr_conflicts.specs.declared.examples.roads.Road.{Road}
use Rattle.lr_conflicts.specs.declared.examples.roads.Road.TheVariants as roads

abbrev pub is_symbol : Sym → Sym → Bool
is_symbol (Rule a) (Rule b) = a == b
is_symbol (Token a) (Token b) = a == b
is_symbol _ _ = false

abbrev pub is_at : Option Sym → Sym → Bool
is_at None x = false
is_at (Some y) x = is_symbol y x

-- the place after one symbol more of a list
abbrev pub along : List Sym → ℕ → Sym → Option ℕ
along list q x = cond (is_at (slice_get list q) x) (Some (q + 1)) None

-- where a symbol leads from a place
abbrev pub step_of : Road → ℕ → Sym → Option ℕ
step_of (roads.States states) q x = cond (nat_lt q (length states.now.states)) (goto_of states.now q x) None
step_of (roads.Prefix list) q x = along (map (sym_of (λ s. s)) list.now) q x

pub record AreReady (g : Grammar) (sets : FirstSets) (bits : List Bool) : Type 0 where
  pub grammar : IsGrammar g
  pub firsts : AreFirsts g sets
  pub used : (p : ℕ) → IsTrue (slice_index_or bits p false) ↔ IsUsed g p
