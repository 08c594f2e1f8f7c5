-- What a search for ways goes by.
use Rattle.cfgrammar.specs.Grammar.{Grammar}
use Rattle.cfgrammar.specs.Numbered.{core}
use Rattle.lr_states.specs.Viable.{IsUsed}
use Rattle.lr_conflicts.specs.declared.examples.ways.Ways.{Ways}
use Rattle.lr_conflicts.specs.Inner.Tables.{AreReady, step_of}
use Rattle.lr_conflicts.specs.Inner.Ways.{Setting}

abbrev pub grammar_of : Ways → Grammar
grammar_of w = core w.grammar.now

abbrev pub IsReady : Ways → Type 0
IsReady w = AreReady (grammar_of w) w.firsts.now w.used.now

abbrev pub setting : Ways → Setting
setting w = record { grammar = grammar_of w; Used = IsUsed (grammar_of w); step = step_of w.road; token = w.token }
