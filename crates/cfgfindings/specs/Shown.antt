-- The texts and the spans of findings.
use Rattle.std.specs.Prelude.{ℕ, ◌+◌, List, [], ◌∷◌, ◌++◌, None, drop, map, take, codes}
use Rattle.std.specs.List.{flat_map}
use Rattle.cfgrammar.specs.FileWords.{Word}
use Rattle.cfgrammar.specs.Grammar.{Sym}
use Rattle.cfgrammar.specs.UnitStep.{UnitStep}
use Rattle.cfgrammar.specs.Span.{Span}
use Rattle.cfgrammar.specs.Numbered.{Numbered, core}
use Rattle.cfgrammar.specs.Accessors.{sym_name}
use Rattle.cfgrammar.specs.Openings.{nth_production}
pub use Rattle.text_findings.specs.Finding.{ShownFinding, offset_of, spanskind_of}
pub use Rattle.text_findings.specs.Named.{production_span, quoted, rule_name, rule_span, token_name, token_span}
use Rattle.finding_kinds.specs.declared.finding_kind.FindingKind.{FindingKind}
use Rattle.finding_kinds.specs.declared.finding_kind.FindingKind.TheVariants.{CyclicRule, NoSentence, OverriddenPrecedence, RepeatedProduction, RepeatedToken, ShadowedRule, StartWithoutSentence, UnusableProduction, UnusableRule, UnusedPrecedence, UnusedRule, UnusedToken, UselessSymbol}

-- that the rule, or the token, with this name is unused
abbrev pub unused_rule : List ℕ → Span → ShownFinding
unused_rule name span = record { kind = UnusedRule; spans = span ∷ []; text = codes "Unused rule " ++ quoted name; hint = None }

abbrev pub unused_token : List ℕ → Span → ShownFinding
unused_token name span = record { kind = UnusedToken; spans = span ∷ []; text = codes "Unused token " ++ quoted name; hint = None }

-- that the rule with this name is never used, since the token that first occurs at the second span has the same name
abbrev pub shadowed_rule : List ℕ → Span → Span → ShownFinding
shadowed_rule name span token = record {
  kind = ShadowedRule;
  spans = span ∷ (token ∷ []);
  text = codes "Rule " ++ (quoted name ++ codes " is never used: its name is that of a token");
  hint = None;
}

module _ (g : Numbered) where
  -- that the rule, which is the start rule, has no sentence, nor have these others
  abbrev pub start_without_sentence : ℕ → List ℕ → ShownFinding
  start_without_sentence r others = record {
    kind = StartWithoutSentence;
    spans = map (rule_span g) (r ∷ others);
    text = codes "No sentence can be derived from the start rule " ++ quoted (rule_name g r);
    hint = None;
  }

  -- that the rule has no sentence, nor have these others
  abbrev pub no_sentence : ℕ → List ℕ → ShownFinding
  no_sentence r others = record {
    kind = NoSentence;
    spans = map (rule_span g) (r ∷ others);
    text = codes "Rule " ++ (quoted (rule_name g r) ++ codes " has no sentence");
    hint = None;
  }

  -- that the rule can't be used, since others have no sentence
  abbrev pub unusable_rule : ℕ → ShownFinding
  unusable_rule r = record {
    kind = UnusableRule;
    spans = rule_span g r ∷ [];
    text = codes "Unusable rule " ++ (quoted (rule_name g r) ++ codes ": each of its productions has a rule without a sentence");
    hint = None;
  }

  -- that the production can't be used, since this rule in it has no sentence
  abbrev pub unusable : ℕ → ℕ → ShownFinding
  unusable p q = record {
    kind = UnusableProduction;
    spans = production_span g p ∷ [];
    text = codes "Unusable production: rule " ++ (quoted (rule_name g q) ++ codes " has no sentence");
    hint = None;
  }

  -- that the rule, or the token, is reached only through unusable productions
  abbrev pub useless_rule : ℕ → ShownFinding
  useless_rule r = record {
    kind = UselessSymbol;
    spans = rule_span g r ∷ [];
    text = codes "Rule " ++ (quoted (rule_name g r) ++ codes " is reached only through unusable productions");
    hint = None;
  }

  abbrev pub useless_token : ℕ → ShownFinding
  useless_token t = record {
    kind = UselessSymbol;
    spans = token_span g t ∷ [];
    text = codes "Token " ++ (quoted (token_name g t) ++ codes " is reached only through unusable productions");
    hint = None;
  }

  -- ` [NAME]` for each symbol, which is nullable
  abbrev pub nullable : List Sym → List ℕ
  nullable symbols = flat_map (λ symbol. codes " [" ++ (sym_name g symbol ++ codes "]")) symbols

  -- ` -> ` and the symbols of the step's production: the rule that the step leads to, and the nullable symbols in brackets
  abbrev pub step_text : UnitStep → List ℕ
  step_text step =
      let symbols = (nth_production (core g) step.production).symbols in
      codes " ->" ++ (nullable (take step.index symbols) ++ (codes " " ++ (rule_name g step.rule ++ nullable (drop (step.index + 1) symbols))))

  -- that these rules are cyclic, and that the first of them is by this path of steps
  abbrev pub cyclic_finding : ℕ → List ℕ → List UnitStep → ShownFinding
  cyclic_finding r rules path = record {
    kind = CyclicRule;
    spans = map (rule_span g) rules;
    text = codes "Rule " ++ (quoted (rule_name g r) ++ (codes " derives itself: " ++ (rule_name g r ++ flat_map step_text path)));
    hint = None;
  }

  -- that the production has the symbols of an earlier one of its rule
  abbrev pub repeated : ℕ → ℕ → ShownFinding
  repeated p earlier = record {
    kind = RepeatedProduction;
    spans = production_span g p ∷ (production_span g earlier ∷ []);
    text = codes "Repeated production of rule '" ++ (rule_name g (nth_production (core g) p).rule ++ codes "': each sentence by it has two trees");
    hint = None;
  }

-- that the precedence of the token with this name, which is given here, is unused
abbrev pub unused_precedence : List ℕ → Span → ShownFinding
unused_precedence name span = record {
  kind = UnusedPrecedence;
  spans = span ∷ [];
  text = codes "Unused precedence: token " ++ (quoted name ++ codes " is not a symbol of any production, and none takes its precedence from it");
  hint = None;
}

-- a finding at a word: its text is `before`, the word's name in quotes, and `after`
abbrev pub at_word : FindingKind → List ℕ → List ℕ → Word → ShownFinding
at_word kind before after word = record { kind = kind; spans = word.span ∷ []; text = before ++ (quoted word.name ++ after); hint = None }

-- that a `%token` list has this token, which such a list has before
abbrev pub repeated_token : Word → ShownFinding
repeated_token = at_word RepeatedToken (codes "Repeated token ") (codes ": a %token list has it before")

-- that a later `%prec` of its production overrides the one with this token
abbrev pub overridden_precedence : Word → ShownFinding
overridden_precedence = at_word OverriddenPrecedence (codes "Overridden precedence: a later %prec of the production counts, and not that of token ") []
