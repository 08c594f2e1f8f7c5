-- The texts and the spans of findings about conflicts.
use Rattle.std.specs.Prelude.{◌==◌, ℕ, ◌+◌, ◌||◌, List, [], ◌∷◌, ◌++◌, Option, None, Some, codes, drop, if◌then◌else◌, length, nat_lt, take}
use Rattle.std.specs.Fmt.{decimal}
use Rattle.std.specs.List.{flat_map}
use Rattle.std.specs.Str.{bytes_eq}
use Rattle.cfgrammar.specs.Accessors.{sym_name}
use Rattle.cfgrammar.specs.Grammar.{Sym}
use Rattle.cfgrammar.specs.Numbered.{Numbered, core}
use Rattle.cfgrammar.specs.Openings.{nth_production}
use Rattle.cfgrammar.specs.Span.{Span}
use Rattle.cfgrammar.specs.Visible.{visible}
use Rattle.finding_kinds.specs.declared.finding_kind.FindingKind.{FindingKind}
use Rattle.finding_kinds.specs.declared.finding_kind.FindingKind.TheVariants.{ReduceReduce, ShiftReduce, UnmetExpect}
use Rattle.text_findings.specs.Finding.{ShownFinding}
use Rattle.text_findings.specs.Named.{production_span, quoted, rule_name, token_name}
use Rattle.lr_states.specs.declared.Item.{Item}
use Rattle.lr_conflicts.specs.declared.clashes.Clash.{Clash}
use Rattle.lr_conflicts.specs.Examples.{prefix_of, rest_of}
use Rattle.lr_conflicts.specs.declared.examples.Example.{Example}
use Rattle.lr_conflicts.specs.declared.examples.Side.{Side}

abbrev pub clash_kind : Clash → FindingKind
clash_kind clash = if clash.shifts then ShiftReduce else ReduceReduce

abbrev pub clash_title : Clash → List ℕ
clash_title clash = if clash.shifts then codes "Shift/reduce conflict at " else codes "Reduce/reduce conflict at "

module _ (g : Numbered) where
  abbrev pub symbols_of : ℕ → List Sym
  symbols_of p = (nth_production (core g) p).symbols

  -- the token's name in quotes; the end token has no name
  abbrev pub token_text : ℕ → List ℕ
  token_text t = if t + 1 == length g.tokens then codes "the end of the text" else quoted (visible (token_name g t))

  abbrev pub tokens_text : List ℕ → List ℕ
  tokens_text [] = []
  tokens_text (t ∷ rest) = token_text t ++ flat_map (λ other. codes ", " ++ token_text other) rest

  -- the symbols' names, each after a blank
  abbrev pub symbols_text : List Sym → List ℕ
  symbols_text symbols = flat_map (λ symbol. codes " " ++ visible (sym_name g symbol)) symbols

  -- the production's rule and symbols, as `stmt: IF expr THEN stmt`
  abbrev pub production_text : ℕ → List ℕ
  production_text p = visible (rule_name g (nth_production (core g) p).rule) ++ (codes ":" ++ symbols_text (symbols_of p))

  -- the same with a dot before what isn't read
  abbrev pub item_text : Item → List ℕ
  item_text item = visible (rule_name g (nth_production (core g) item.production).rule) ++ (codes ":"
      ++ (symbols_text (take item.read (symbols_of item.production)) ++ (codes " ." ++ symbols_text (drop item.read (symbols_of item.production)))))

  -- what was certainly read: of what the two have read, the longer one
  abbrev pub read_symbols : Clash → List Sym
  read_symbols clash = let other = take clash.other.read (symbols_of clash.other.production) in
      if nat_lt (length (symbols_of clash.production)) (length other) then other else symbols_of clash.production

  abbrev pub after_text : List Sym → List ℕ
  after_text [] = []
  after_text (symbol ∷ rest) = codes "after " ++ (symbols_text (symbol ∷ rest) ++ codes "  ")

  abbrev pub other_text : Clash → List ℕ
  other_text clash = if clash.shifts
      then (if clash.other.production == g.start_production then codes "accepted" else codes "go on with  " ++ item_text clash.other)
      else codes "by  " ++ production_text clash.other.production

  -- the production, and the other one, if it is another one of the file
  abbrev pub clash_spans : Clash → List Span
  clash_spans clash = production_span g clash.production
      ∷ (if (clash.other.production == clash.production) || (clash.other.production == g.start_production) then [] else production_span g clash.other.production ∷ [])

  -- a list that the start rule derives, with a dot after what leads to the state
  abbrev pub side_text : Side → List ℕ
  side_text side = symbols_text (prefix_of side) ++ (codes " ." ++ symbols_text (rest_of side))

  -- the two lists of an example, or the one that both are
  abbrev pub example_text : Example → List ℕ
  example_text example = if bytes_eq (side_text example.reduced) (side_text example.other)
      then codes "for example both in " ++ side_text example.reduced
      else codes "for example the first in " ++ (side_text example.reduced ++ (codes "  and the second in " ++ side_text example.other))

  -- that the two clash at these tokens, with this note
  abbrev pub clash_finding : Clash → List ℕ → Option (List ℕ) → ShownFinding
  clash_finding clash tokens hint = record {
    kind = clash_kind clash;
    spans = clash_spans clash;
    hint = hint;
    text = clash_title clash ++ (tokens_text tokens ++ (codes ": " ++ (after_text (read_symbols clash)
        ++ (codes "it may be reduced by  " ++ (production_text clash.production ++ (codes "  or " ++ other_text clash))))));
  }

-- That there are so many conflicts, while so many are expected, as the declaration here says; nothing without a declaration, or if it is met.
abbrev pub unmet : List ℕ → ℕ → Option (ℕ × Span) → List ShownFinding
unmet title found None = []
unmet title found (Some (number, span)) = if number == found then [] else record {
  kind = UnmetExpect;
  spans = span ∷ [];
  hint = None;
  text = title ++ (decimal found ++ (codes " found, " ++ (decimal number ++ codes " expected")));
} ∷ []
