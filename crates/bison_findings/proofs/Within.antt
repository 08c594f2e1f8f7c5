-- What clashes in conflicts exists, and so does what the states and the conflicts refer to.
use Rattle.std.proofs.Common.{ℕ, ◌+◌, ◌<◌, List, [], Contains, get_or, length, arith, sym, subst}
use Rattle.std.proofs.lemmas.List.{length-map}
use Rattle.cfgrammar.specs.Grammar.{IsSymbolOf, Sym, Rule, Token}
use Rattle.cfgrammar.specs.Numbered.{Numbered, core, production_core}
use Rattle.cfgrammar.proofs.Contained.{contains_first, contains_later}
use Rattle.lr_states.specs.Automaton.{HaveTargets, symbol_number}
use Rattle.lr_states.specs.Viable.{IsUsed, IsValid}
use Rattle.lr_states.specs.declared.Item.{Item}
use Rattle.lr_conflicts.specs.declared.Conflict.{Conflict}
use Rattle.lr_conflicts.specs.declared.clashes.Clash.{Clash}
use Rattle.lr_conflicts.specs.Clashes.{IsIn, ShiftsBy, next, accepts, shift, reduce}
use Rattle.lr_conflicts.specs.Conflicts.{ConflictTables, IsConflict, items_of, read_item}
use Rattle.lr_conflicts.specs.Examples.{AreOf}
use Rattle.bison_findings.specs.Inner.Within.{AreWithin, IsAmong, IsItem, IsWithin}

module _ (g : Numbered) (x : ConflictTables) (of : AreOf g x) where
  valid_item : (prefix : List Sym) (item : Item) → IsValid (core g) (IsUsed (core g)) prefix item → IsItem g item
  valid_item prefix item v = record {
    within = subst (λ n. item.production < n) (length-map g.productions production_core) v.used.within;
    read = v.read;
  }

  state_item : (q : ℕ) → q < length x.lookaheads.automaton.states → (item : Item) → Contains (get_or x.lookaheads.automaton.states q []) item → IsItem g item
  state_item q within item h = let (prefix, viable, is) = of.states.only q within in valid_item prefix item ((is item).0 h)

  module _ (conflict : Conflict) (c : IsConflict g of.levels x.lookaheads.automaton conflict) where
    item_in : (item : Item) → Contains (items_of x.lookaheads.automaton conflict.state) item → IsItem g item
    item_in item h = state_item conflict.state c.entered.within item h

    reduced_item : (p : ℕ) → Contains conflict.productions.items p → IsItem g (read_item g p)
    reduced_item p h = item_in (read_item g p) ((c.reduced p).0 h).reduces.read

    shifted_item : (item : Item) → ShiftsBy g x.lookaheads.automaton conflict item → IsItem g item
    shifted_item item (next h at) = item_in item h
    shifted_item item (accepts h end is) = subst (IsItem g) (sym is) (item_in (read_item g g.start_production) h)

    clash_within : (clash : Clash) → IsIn g x.lookaheads.automaton conflict clash → IsWithin g clash
    clash_within clash (shift shifts token is among other) =
        let item = shifted_item clash.other other in record {
          production = (reduced_item clash.production among).within;
          other = item.within;
          read = item.read;
          token = subst (λ t. t < length g.tokens) (sym token) c.token;
        }
    clash_within clash (reduce first rest list token isnt among other) =
        let item = subst (IsItem g) (sym other) (reduced_item first (subst (λ l. Contains l first) (sym list) (contains_first first rest))) in record {
          production = (reduced_item clash.production (subst (λ l. Contains l clash.production) (sym list) (contains_later first clash.production rest among))).within;
          other = item.within;
          read = item.read;
          token = subst (λ t. t < length g.tokens) (sym token) c.token;
        }

  pub among_within : (clash : Clash) → IsAmong g x clash → IsWithin g clash
  among_within clash (conflict, among, is) = clash_within conflict (of.conflicts.each conflict among) clash is

  numbered_within : (symbol : Sym) → IsSymbolOf (core g) symbol → symbol_number (length g.rules) symbol < length g.rules + length g.tokens
  numbered_within (Rule r) within = omega (arith, within)
  numbered_within (Token t) within = omega (arith, within)

  pub tables_within : HaveTargets (core g) x.lookaheads.automaton → AreWithin g x
  tables_within have = record {
    items = state_item;
    targets = λ q within target h. let (symbol, is, number) = have.symbols q within target h in
        subst (λ n. n < length g.rules + length g.tokens) number (numbered_within symbol is);
    conflicts = λ conflict h. (of.conflicts.each conflict h).token;
  }
