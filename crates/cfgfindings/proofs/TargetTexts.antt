-- The text for a cyclic rule.
use Rattle.std.proofs.Common.{◌≡◌, ℕ, ◌+◌, ◌-◌, ◌<◌, ◌≤◌, List, ◌++◌, All, Option, Some, None, option_map, codes, drop, length, map, slice_get, take, arith, refl, sym, ap, subst, ◌∙◌, append_assoc}
use Rattle.std.proofs.lemmas.List.{drop-drop, drop-map, length-drop, length-map, take-map, take_all}
use Rattle.std.proofs.lemmas.Option.{get_or_from_slice_get, same_Some, slice_get-map, slice_get_within}
use Rattle.std.specs.List.{flat_map}
use Rattle.cfgrammar.specs.Grammar.{Rule, Sym, Token}
use Rattle.cfgrammar.specs.Span.{Span}
use Rattle.cfgrammar.specs.Symbol.{Symbol}
use Rattle.cfgrammar.specs.Symbol.TheVariants as symbols
use Rattle.cfgrammar.specs.Openings.{nth_production}
use Rattle.cfgrammar.specs.NumberedSymbols.{sym_of}
use Rattle.cfgrammar.specs.Numbered.{Numbered, core}
use Rattle.cfgrammar.specs.Accessors.{IsSymbolWithin, production_part, rule_part}
use Rattle.cfgrammar.proofs.Shows.{rule_named}
use Rattle.cfgrammar.specs.UnitStep.{UnitStep}
use Rattle.cfgfindings.specs.Shown.{ShownFinding, cyclic_finding, rule_name, rule_span, step_text, nullable}
use Rattle.cfgfindings.proofs.Read.{production_there, symbols_read}
use Rattle.finding_kinds.specs.declared.finding_kind.FindingKind.TheVariants.{CyclicRule}

regroup : (t a b c d e : List ℕ) → (((t ++ a) ++ b) ++ (c ++ d)) ++ e ≡ t ++ (a ++ (b ++ (c ++ (d ++ e))))
regroup t a b c d e = simp append_assoc

-- the parts of a step's text, one after the other
pub step_written : (g : Numbered) (step : UnitStep) (prefix back : List Sym) (name before arrow nulled led now : List ℕ)
    → prefix ≡ take step.index (nth_production (core g) step.production).symbols
    → back ≡ drop (step.index + 1) (nth_production (core g) step.production).symbols
    → rule_name g step.rule ≡ name
    → arrow ≡ before ++ codes " ->" → nulled ≡ arrow ++ nullable g prefix → led ≡ nulled ++ (codes " " ++ name) → now ≡ led ++ nullable g back
    → now ≡ before ++ step_text g step
step_written g step prefix back name before arrow nulled led now before_it after named e f h k =
    k ∙ ap (λ t. t ++ nullable g back) (h ∙ ap (λ t. t ++ (codes " " ++ name)) (f ∙ ap (λ t. t ++ nullable g prefix) e))
    ∙ regroup before (codes " ->") (nullable g prefix) (codes " ") name (nullable g back)
    ∙ (λ i. before ++ (codes " ->" ++ (nullable g (before_it i) ++ (codes " " ++ (sym named i ++ nullable g (after i))))))

-- a rule among symbols of the grammar is a rule of the grammar
rule_among : (g : Numbered) (all : List (Symbol ℕ)) → All (IsSymbolWithin (λ s. s) g) all
    → (i r : ℕ) → slice_get (map (sym_of (λ s. s)) all) i ≡ Some (Rule r) → r < length g.rules
rule_among g all within i r at = go (slice_get all i) refl (sym (slice_get-map (sym_of {S = ℕ} (λ s. s)) all i) ∙ at)
  where
    go : (o : Option (Symbol ℕ)) → slice_get all i ≡ o → option_map (sym_of (λ s. s)) o ≡ Some (Rule r) → r < length g.rules
    go None read is = let no : None ≡ Some (Rule r) = is in cc
    go (Some (symbols.Rule rule)) read is =
        let x : Symbol ℕ = symbols.Rule rule in
        let there : rule.0 < length g.rules = subst (IsSymbolWithin (λ s. s) g) (get_or_from_slice_get all i x x read) (within i x (slice_get_within all i x read)) in
        let same : rule.0 ≡ r = cc in
        subst (λ n. n < length g.rules) same there
    go (Some (symbols.Token token)) read is = let no : Token token.0 ≡ Rule r = same_Some _ _ is in cc

-- the symbols before and after the index of a step, as they are read
module _ (g : Numbered) (step : UnitStep) (there : step.production < length (core g).productions) (stored : ℕ) (same : stored ≡ step.production)
    (symbols : List (Symbol ℕ)) (read : production_part (λ production. production.symbols) g stored ≡ Some (map (sym_of (λ s. s)) symbols)) where
  abbrev numbered : List Sym
  numbered = map (sym_of {S = ℕ} (λ s. s)) symbols

  held : numbered ≡ (nth_production (core g) step.production).symbols
  held = sym (symbols_read g step.production (production_there g step.production there) numbered
      (subst (λ p. production_part (λ production. production.symbols) g p ≡ Some numbered) same read))

  pub prefix_shown : (prefix : List (Symbol ℕ)) → prefix ≡ take step.index symbols → map (sym_of (λ s. s)) prefix ≡ take step.index (nth_production (core g) step.production).symbols
  prefix_shown prefix is =
      ap (map (sym_of {S = ℕ} (λ s. s))) is ∙ sym (take-map (sym_of {S = ℕ} (λ s. s)) step.index symbols) ∙ ap (take step.index) held

  pub back_shown : (back : List (Symbol ℕ)) → back ≡ drop step.index symbols
      → map (sym_of (λ s. s)) (take (length back - 1) (drop 1 back)) ≡ drop (step.index + 1) (nth_production (core g) step.production).symbols
  back_shown back is =
      let rest : take (length back - 1) (drop 1 back) ≡ drop 1 back = take_all (length back - 1) (drop 1 back) (omega (arith, length-drop 1 back)) in
      ap (map (sym_of {S = ℕ} (λ s. s))) (rest ∙ ap (drop 1) is ∙ drop-drop 1 step.index symbols)
      ∙ sym (drop-map (sym_of {S = ℕ} (λ s. s)) (step.index + 1) symbols) ∙ ap (drop (step.index + 1)) held

  -- the rule of a step is at its index
  module _ (holds : slice_get (nth_production (core g) step.production).symbols step.index ≡ Some (Rule step.rule)) where
    before_it : slice_get numbered step.index ≡ Some (Rule step.rule)
    before_it = subst (λ l. slice_get l step.index ≡ Some (Rule step.rule)) (sym held) holds

    position_before : step.index < length symbols
    position_before = subst (λ n. step.index < n) (length-map symbols (sym_of {S = ℕ} (λ s. s))) (slice_get_within numbered step.index (Rule step.rule) before_it)

    pub position_there : step.index ≤ length symbols
    position_there = let before = position_before in omega arith

    pub some_after : (back : List (Symbol ℕ)) → back ≡ drop step.index symbols → 1 ≤ length back
    some_after back is = let before = position_before in omega (arith, ap length is, length-drop step.index symbols)

    pub rule_there : All (IsSymbolWithin (λ s. s) g) symbols → step.rule < length g.rules
    rule_there within = rule_among g symbols within step.index step.rule before_it

quote : (name rest : List ℕ) → (codes "Rule '" ++ (name ++ (codes "' derives itself: " ++ name))) ++ rest
    ≡ codes "Rule " ++ ((codes "'" ++ (name ++ codes "'")) ++ (codes " derives itself: " ++ (name ++ rest)))
quote name rest = simp append_assoc

pub target_reported : (g : Numbered) (stored rule : ℕ) → stored ≡ rule → (name : List ℕ) → rule_part (λ rule. rule.name) g stored ≡ Some name
    → (rules : List ℕ) (spans : List Span) → spans ≡ map (rule_span g) rules → (path : List UnitStep) (begun text : List ℕ)
    → begun ≡ codes "Rule '" ++ (name ++ (codes "' derives itself: " ++ name)) → text ≡ begun ++ flat_map (step_text g) path
    → (finding : ShownFinding) → finding ≡ record { kind = CyclicRule; spans = spans; text = text; hint = None } → finding ≡ cyclic_finding g rule rules path
target_reported g stored rule same name named rules spans located path begun text first written finding is =
    let called : rule_name g rule ≡ name = ap (rule_name g) (sym same) ∙ rule_named g stored name named in
    let reported = written ∙ ap (λ t. t ++ flat_map (step_text g) path) first ∙ quote name (flat_map (step_text g) path) in
    is ∙ (λ i. record { kind = CyclicRule; spans = located i; text = reported i; hint = None })
    ∙ (λ i. record {
      kind = CyclicRule;
      spans = map (rule_span g) rules;
      text = codes "Rule " ++ ((codes "'" ++ (sym called i ++ codes "'")) ++ (codes " derives itself: " ++ (sym called i ++ flat_map (step_text g) path)));
      hint = None;
    })
