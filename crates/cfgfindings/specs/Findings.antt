-- The findings about a grammar without errors, given its syntax and its numbers. None are about rules and productions that the file doesn't
-- have.
use Rattle.std.specs.Prelude.{◌≡◌, ◌↔◌, ◌⊎◌, ℕ, ◌+◌, ◌<◌, ◌≤◌, List, ◌∷◌, ◌++◌, Contains, Option, Some, None, if◌then◌else◌, is_some, length, map, slice_get}
use Rattle.std.specs.List.Sorted.{IsPermutation, IsSortedByKey, IsStableByKey, IsStrictlyIncreasing}
use Rattle.std.specs.Ordering.{nat_cmp}
use Rattle.cfgrammar.specs.Associativity.{Associativity}
use Rattle.cfgrammar.specs.Grammar.{Sym, Rule, Token, HasProduction}
use Rattle.cfgrammar.specs.UnitPaths.{DerivesRule, IsCyclic}
use Rattle.cfgrammar.specs.StepPaths.{IsShortestCycle}
use Rattle.cfgrammar.specs.UnitSteps.{IsStep}
use Rattle.cfgrammar.specs.Uses.{IsUsable}
use Rattle.cfgrammar.specs.UnitStep.{UnitStep}
use Rattle.cfgrammar.specs.Span.{Span}
use Rattle.cfgrammar.specs.Productive.{Productive, Unproductive}
use Rattle.cfgrammar.specs.Syntax.{Production, Rule as SyntaxRule, Syntax}
use Rattle.cfgrammar.specs.Precedence.{Precedence}
use Rattle.cfgrammar.specs.Unused.{IsStart, IsUnused, RuleName, TokenName, entry_token, name_of}
use Rattle.cfgrammar.specs.Openings.{nth_production}
use Rattle.cfgrammar.specs.Numbered.{Numbered, core}
use Rattle.cfgfindings.specs.SinkGroups.{DependsOn, IsInSinkGroup}
use Rattle.cfgfindings.specs.Shown.{ShownFinding, cyclic_finding, no_sentence, offset_of, overridden_precedence, repeated, repeated_token, rule_name, shadowed_rule, start_without_sentence, unusable, unusable_rule, unused_precedence, unused_rule, unused_token, useless_rule, useless_token}
use Rattle.cfgfindings.specs.Useless.{IsUseless}
use Rattle.text_findings.specs.Glued.{ReportsGlued}
use Rattle.text_findings.specs.Escapes.{ReportsEscaped}
use Rattle.text_findings.specs.Empty.{ReportsImplicitlyEmpty}
use Rattle.text_findings.specs.File.{AreFileFindings}
use Rattle.bison_findings.specs.Found.{AreBisonFindings}
pub use Rattle.text_findings.specs.Reports.{ReportsBelow, none, reported, left}
use Rattle.bison_findings.specs.Conflicts.{AreConflictFindings}
use Rattle.cfgfindings.specs.Needless.{ReportsUsedSymbol}
use Rattle.text_findings.specs.declared.words.Words.TheVariants.{Precedences, RepeatedTokens, Tokens}

module _ (g : Numbered) where
  -- how many rules are added before those of the file: the start rule, and in a file with implicit tokens two more for these
  abbrev pub rules_added : ℕ
  rules_added = if is_some g.implicit_rule then 3 else 1

  -- an unproductive rule of the file
  pub record IsUnproductiveRule (r : ℕ) : Type 0 where
    pub ours : rules_added ≤ r
    pub unproductive : Unproductive (HasProduction (core g)) r

  -- if the rule is in a sink group, exactly the other rules of the file in its group, in ascending order; otherwise none
  pub record AreOthers (r : ℕ) (others : List ℕ) : Type 0 where
    pub ascending : IsStrictlyIncreasing others
    pub all : (q : ℕ) → Contains others q
        ↔ ((rules_added ≤ q) × (q ≡ r → ⊥) × IsInSinkGroup (HasProduction (core g)) r × DependsOn (HasProduction (core g)) r q)

  -- a production of the file that no sentence of its rule uses, although the rule has one
  pub record IsUnusable (p : ℕ) : Type 0 where
    pub ours : p < g.start_production
    pub productive : Productive (HasProduction (core g)) (nth_production (core g) p).rule
    pub unused : IsUsable (HasProduction (core g)) (nth_production (core g) p).rule (nth_production (core g) p).symbols → ⊥

  -- the first unproductive rule among the symbols
  pub record IsFirstUnproductive (symbols : List Sym) (q : ℕ) : Type 0 where
    pub prefix : List Sym
    pub back : List Sym
    pub holds : symbols ≡ prefix ++ Rule q ∷ back
    pub unproductive : Unproductive (HasProduction (core g)) q
    pub before : (r : ℕ) → Contains prefix (Rule r) → Unproductive (HasProduction (core g)) r → ⊥

  abbrev pub ReportsUnusable : ℕ → Option ShownFinding → Type 0
  ReportsUnusable p (Some finding) = IsUnusable p × (q : ℕ) × IsFirstUnproductive (nth_production (core g) p).symbols q × (finding ≡ unusable g p q)
  ReportsUnusable p None = IsUnusable p → ⊥

  -- a rule of the file that is productive, but reachable only through unusable productions
  pub record IsUselessRule (r : ℕ) : Type 0 where
    pub ours : rules_added ≤ r
    pub productive : Productive (HasProduction (core g)) r
    pub useless : IsUseless (core g) (Rule r)

  abbrev pub ReportsUselessRule : ℕ → Option ShownFinding → Type 0
  ReportsUselessRule r (Some finding) = IsUselessRule r × (finding ≡ useless_rule g r)
  ReportsUselessRule r None = IsUselessRule r → ⊥

  -- a token that is reachable only through unusable productions, and isn't the end token, which has no name
  pub record IsUselessToken (t : ℕ) : Type 0 where
    pub named : t + 1 < length g.tokens
    pub useless : IsUseless (core g) (Token t)

  abbrev pub ReportsUselessToken : ℕ → Option ShownFinding → Type 0
  ReportsUselessToken t (Some finding) = IsUselessToken t × (finding ≡ useless_token g t)
  ReportsUselessToken t None = IsUselessToken t → ⊥

  -- a ⇒+ b ⇒+ a
  pub record DeriveEachOther (a b : ℕ) : Type 0 where
    pub there : DerivesRule (HasProduction (core g)) a b
    pub back : DerivesRule (HasProduction (core g)) b a

  -- The rule with the number `first` is cyclic, so that each of its sentences has infinitely many parse trees. Of the rules that it derives
  -- and that derive it, it has the lowest number, and those of the file are exactly `rules`, in ascending order.
  pub record IsCyclicGroup (first : ℕ) (rules : List ℕ) : Type 0 where
    pub cyclic : IsCyclic (HasProduction (core g)) first
    pub least : (rule : ℕ) → DeriveEachOther first rule → first ≤ rule
    pub ascending : IsStrictlyIncreasing rules
    pub all : (rule : ℕ) → Contains rules rule ↔ ((rules_added ≤ rule) × DeriveEachOther first rule)

  -- the finding for the group whose first rule has this number, if it has rules of the file: the first of these is r
  abbrev pub ReportsGroup : ℕ → Option ShownFinding → Type 0
  ReportsGroup first (Some finding) = (r : ℕ) × (others : List ℕ) × (path : List UnitStep) × IsCyclicGroup first (r ∷ others)
      × IsShortestCycle (IsStep (core g)) r path × (finding ≡ cyclic_finding g r (r ∷ others) path)
  ReportsGroup first None = (r : ℕ) (others : List ℕ) → IsCyclicGroup first (r ∷ others) → ⊥

  -- an earlier production of the same rule with the same symbols
  pub record Repeats (p earlier : ℕ) : Type 0 where
    pub ours : p < g.start_production
    pub before : earlier < p
    pub rule : (nth_production (core g) earlier).rule ≡ (nth_production (core g) p).rule
    pub symbols : (nth_production (core g) earlier).symbols ≡ (nth_production (core g) p).symbols

  -- if there are several, the finding is about the first
  abbrev pub ReportsRepeated : ℕ → Option ShownFinding → Type 0
  ReportsRepeated p (Some finding) = (earlier : ℕ) × Repeats p earlier × ((other : ℕ) → Repeats p other → earlier ≤ other) × (finding ≡ repeated g p earlier)
  ReportsRepeated p None = (earlier : ℕ) → Repeats p earlier → ⊥

-- the rule with this number has the name of the file's start rule
abbrev pub IsStartRule : Syntax → Numbered → ℕ → Type 0
IsStartRule s g r = IsStart s (RuleName (rule_name g r))

module _ (s : Syntax) (g : Numbered) where
  -- the unproductive start rule, which has a finding of its own
  pub record IsUnproductiveStart (r : ℕ) : Type 0 where
    pub unproductive : IsUnproductiveRule g r
    pub start : IsStartRule s g r

  -- of the file's rules in its sink group this is the first, and the file's start rule isn't in that group
  pub record IsFirstOfSinkGroup (r : ℕ) : Type 0 where
    pub ours : rules_added g ≤ r
    pub sink : IsInSinkGroup (HasProduction (core g)) r
    pub first : (q : ℕ) → rules_added g ≤ q → DependsOn (HasProduction (core g)) r q → r ≤ q
    pub no_start : (q : ℕ) → rules_added g ≤ q → DependsOn (HasProduction (core g)) r q → IsStartRule s g q → ⊥

  -- one finding for each sink group, and one for an unproductive start rule
  abbrev pub ReportsNoSentence : ℕ → Option ShownFinding → Type 0
  ReportsNoSentence r (Some finding) = (others : List ℕ) × AreOthers g r others
      × ((IsUnproductiveStart r × (finding ≡ start_without_sentence g r others)) ⊎ (IsFirstOfSinkGroup r × (finding ≡ no_sentence g r others)))
  ReportsNoSentence r None = (IsUnproductiveStart r → ⊥) × (IsFirstOfSinkGroup r → ⊥)

  -- an unproductive rule of the file that is neither its start rule nor in a sink group
  pub record IsUnusableRule (r : ℕ) : Type 0 where
    pub unproductive : IsUnproductiveRule g r
    pub no_sink : IsInSinkGroup (HasProduction (core g)) r → ⊥
    pub no_start : IsStartRule s g r → ⊥

  abbrev pub ReportsUnusableRule : ℕ → Option ShownFinding → Type 0
  ReportsUnusableRule r (Some finding) = IsUnusableRule r × (finding ≡ unusable_rule g r)
  ReportsUnusableRule r None = IsUnusableRule r → ⊥

module _ (s : Syntax) where
  -- a production contains the rule with this name
  pub record IsContained (name : List ℕ) : Type 0 where
    pub production : Production
    pub listed : Contains s.productions production
    pub holds : Contains (map name_of production.symbols) (RuleName name)

  -- A rule's name is that of the token that first occurs at this span, and no production contains the rule: its name always
  -- means the token. The start rule is used even so: it is shadowed only if a `%token` declares the token.
  pub record IsShadowed (name : List ℕ) (span : Span) : Type 0 where
    pub index : ℕ
    pub token : slice_get s.tokens index ≡ Some name
    pub there : slice_get s.spans index ≡ Some span
    pub unused : IsContained name → ⊥
    pub declared : IsStart s (RuleName name) → Contains s.token_directives index

  -- the n-th rule is shadowed by the token that first occurs at this span
  pub record IsShadowedRule (n : ℕ) (rule : List ℕ × SyntaxRule) (token : Span) : Type 0 where
    pub given : slice_get s.rules n ≡ Some rule
    pub shadowed : IsShadowed rule.0 token

  abbrev pub ReportsShadowedRule : ℕ → Option ShownFinding → Type 0
  ReportsShadowedRule n (Some finding) =
      (rule : List ℕ × SyntaxRule) × (token : Span) × IsShadowedRule n rule token × (finding ≡ shadowed_rule rule.0 rule.1.name.span token)
  ReportsShadowedRule n None = (rule : List ℕ × SyntaxRule) (token : Span) → IsShadowedRule n rule token → ⊥

  -- the n-th rule is unused, and not shadowed
  pub record IsUnusedRule (n : ℕ) (rule : List ℕ × SyntaxRule) : Type 0 where
    pub given : slice_get s.rules n ≡ Some rule
    pub unused : IsUnused s (RuleName rule.0)
    pub own : (token : Span) → IsShadowed rule.0 token → ⊥

  abbrev pub ReportsUnusedRule : ℕ → Option ShownFinding → Type 0
  ReportsUnusedRule n (Some finding) = (rule : List ℕ × SyntaxRule) × IsUnusedRule n rule × (finding ≡ unused_rule rule.0 rule.1.name.span)
  ReportsUnusedRule n None = (rule : List ℕ × SyntaxRule) → IsUnusedRule n rule → ⊥

  -- A production's `%prec` names the token, which then exists for its precedence. If a production has several `%prec`s, the last one counts.
  pub record IsRequested (name : List ℕ) : Type 0 where
    pub production : Production
    pub listed : Contains s.productions production
    pub requested : production.precedence ≡ Some name

  -- the n-th token, which first occurs at this span, is unused, and no production's `%prec` names it
  pub record IsUnusedToken (n : ℕ) (name : List ℕ) (span : Span) : Type 0 where
    pub token : slice_get s.tokens n ≡ Some name
    pub there : slice_get s.spans n ≡ Some span
    pub unused : IsUnused s (TokenName name)
    pub free : IsRequested name → ⊥

  abbrev pub ReportsUnusedToken : ℕ → Option ShownFinding → Type 0
  ReportsUnusedToken n (Some finding) = (name : List ℕ) × (span : Span) × IsUnusedToken n name span × (finding ≡ unused_token name span)
  ReportsUnusedToken n None = (name : List ℕ) (span : Span) → IsUnusedToken n name span → ⊥

  -- A token with this name is used: a production contains it, or a production's `%prec` names it, or it is an implicit token.
  pub data IsUsed (name : List ℕ) : Type 0 where
    held : {production : Production} → Contains s.productions production → Contains (map name_of production.symbols) (TokenName name) → IsUsed name
    requested : IsRequested name → IsUsed name
    implicit : {table : List (List ℕ × Span)} → s.tables.implicit_tokens ≡ Some table → Contains (map entry_token table) (TokenName name) → IsUsed name

  -- the n-th token that is given a precedence isn't used; most often its name is misspelled
  pub record IsUnusedPrecedence (n : ℕ) (name : List ℕ) (span : Span) : Type 0 where
    pub precedence : Precedence
    pub given : slice_get s.tables.precedences n ≡ Some (name, (precedence, span))
    pub unused : IsUsed name → ⊥

  abbrev pub ReportsUnusedPrecedence : ℕ → Option ShownFinding → Type 0
  ReportsUnusedPrecedence n (Some finding) = (name : List ℕ) × (span : Span) × IsUnusedPrecedence n name span × (finding ≡ unused_precedence name span)
  ReportsUnusedPrecedence n None = (name : List ℕ) (span : Span) → IsUnusedPrecedence n name span → ⊥

-- the n-th symbol of the `%expect-unused` lists is used
abbrev pub ReportsNeedless : Syntax → Numbered → ℕ → Option ShownFinding → Type 0
ReportsNeedless s g = ReportsUsedSymbol s.expect_unused g

-- the findings for rules and tokens of the syntax, then those for rules, productions, precedences and declarations, those for conflicts, and
-- at last those about what the file seems to lack, one list after the other
pub record AreReportedInTurn (text : List ℕ) (s : Syntax) (g : Numbered) (associativities : List Associativity) (reported : List ShownFinding) : Type 0 where
  pub unused_rules : List ShownFinding
  pub unused_tokens : List ShownFinding
  pub shadowed : List ShownFinding
  pub unproductive_rules : List ShownFinding
  pub unusable_rules : List ShownFinding
  pub unusable_productions : List ShownFinding
  pub useless_rules : List ShownFinding
  pub useless_tokens : List ShownFinding
  pub cycles : List ShownFinding
  pub repeats : List ShownFinding
  pub precedences : List ShownFinding
  pub glued_tokens : List ShownFinding
  pub glued_precedences : List ShownFinding
  pub glued_repeated_tokens : List ShownFinding
  pub needless : List ShownFinding
  pub escapes : List ShownFinding
  pub empty : List ShownFinding
  pub conflicts : List ShownFinding
  pub of_file : List ShownFinding
  pub of_bison : List ShownFinding
  pub are_unused_rules : ReportsBelow (ReportsUnusedRule s) (length s.rules) unused_rules
  pub are_unused_tokens : ReportsBelow (ReportsUnusedToken s) (length s.tokens) unused_tokens
  pub are_shadowed : ReportsBelow (ReportsShadowedRule s) (length s.rules) shadowed
  pub are_unproductive_rules : ReportsBelow (ReportsNoSentence s g) (length g.rules) unproductive_rules
  pub are_unusable_rules : ReportsBelow (ReportsUnusableRule s g) (length g.rules) unusable_rules
  pub are_unusable_productions : ReportsBelow (ReportsUnusable g) g.start_production unusable_productions
  pub are_useless_rules : ReportsBelow (ReportsUselessRule g) (length g.rules) useless_rules
  pub are_useless_tokens : ReportsBelow (ReportsUselessToken g) (length g.tokens) useless_tokens
  pub are_cycles : ReportsBelow (ReportsGroup g) (length g.rules) cycles
  pub are_repeats : ReportsBelow (ReportsRepeated g) g.start_production repeats
  pub are_precedences : ReportsBelow (ReportsUnusedPrecedence s) (length s.tables.precedences) precedences
  pub are_glued_tokens : ReportsBelow (ReportsGlued text s Tokens) (length s.tokens) glued_tokens
  pub are_glued_precedences : ReportsBelow (ReportsGlued text s Precedences) (length s.tables.precedences) glued_precedences
  pub are_glued_repeated_tokens : ReportsBelow (ReportsGlued text s RepeatedTokens) (length s.repeated_tokens) glued_repeated_tokens
  pub are_needless : ReportsBelow (ReportsNeedless s g) (length s.expect_unused) needless
  pub are_escapes : ReportsBelow (ReportsEscaped s) (length s.tokens) escapes
  pub are_empty : ReportsBelow (ReportsImplicitlyEmpty text s) (length s.productions) empty
  pub are_conflicts : AreConflictFindings g associativities s.settings conflicts
  pub are_of_file : AreFileFindings text s of_file
  pub are_of_bison : AreBisonFindings text of_bison
  pub is : reported ≡ unused_rules ++ (unused_tokens ++ (shadowed
      ++ (unproductive_rules ++ (unusable_rules ++ (unusable_productions ++ (useless_rules ++ (useless_tokens ++ (cycles ++ (repeats
      ++ (precedences ++ ((map repeated_token s.repeated_tokens ++ map overridden_precedence s.overridden_precedences)
      ++ (glued_tokens ++ (glued_precedences ++ (glued_repeated_tokens ++ (needless ++ (escapes ++ (empty ++ (conflicts ++ (of_file ++ of_bison)))))))))))))))))))

-- the same findings sorted by offset; those at the same offset stay in their order
pub record AreByOffset (reported all : List ShownFinding) : Type 0 where
  pub same : IsPermutation reported all
  pub sorted : IsSortedByKey offset_of nat_cmp all
  pub stable : IsStableByKey offset_of nat_cmp reported all

-- all findings about a text, each once
pub record AreFindings (text : List ℕ) (s : Syntax) (g : Numbered) (associativities : List Associativity) (all : List ShownFinding) : Type 0 where
  pub reported : List ShownFinding
  pub in_turn : AreReportedInTurn text s g associativities reported
  pub by_offset : AreByOffset reported all
