-- What the accessors of a grammar read from its tables, and its printed productions.
use Rattle.std.specs.Prelude.{ℕ, ◌+◌, ◌<◌, List, [], ◌++◌, map, length, Option, option_map, unwrap_or, slice_get, codes, Bool, false}
use Rattle.std.specs.List.{concat}
use Rattle.std.specs.Option.{option_map_or}
use Rattle.std.specs.Str.{bytes_eq}
use Rattle.derivation.specs.Grammar.{Sym, Rule, Token}
use Rattle.cfgindex.specs.declared.idxnewtype.Symbol.{Symbol}
use Rattle.cfgindex.specs.declared.idxnewtype.Symbol.TheVariants as symbols
use Rattle.cfgnumbers.specs.Numbered.{Numbered, NumberedRule, NumberedToken, NumberedProduction}

abbrev pub rule_part : {A : Type 0} → (NumberedRule → A) → Numbered → ℕ → Option A
rule_part part g r = option_map part (slice_get g.rules r)

abbrev pub token_part : {A : Type 0} → (NumberedToken → A) → Numbered → ℕ → Option A
token_part part g t = option_map part (slice_get g.tokens t)

abbrev pub production_part : {A : Type 0} → (NumberedProduction → A) → Numbered → ℕ → Option A
production_part part g p = option_map part (slice_get g.productions p)

-- The rule or token of a symbol exists, and isn't the end token, which is the last token.
abbrev pub IsSymbolWithin : {S : Type 0} → (S → ℕ) → Numbered → Symbol S → Type 0
IsSymbolWithin number g (symbols.Rule ridx) = number ridx.0 < length g.rules
IsSymbolWithin number g (symbols.Token tidx) = number tidx.0 + 1 < length g.tokens

-- the end token has no name
abbrev pub has_token_name : List ℕ → NumberedToken → Bool
has_token_name name token = option_map_or (bytes_eq name) token.name false

abbrev pub sym_name : Numbered → Sym → List ℕ
sym_name g (Rule r) = unwrap_or (rule_part (λ rule. rule.name) g r) []
sym_name g (Token t) = option_map_or (λ token. unwrap_or token.name []) (slice_get g.tokens t) []

-- ` "NAME"`
abbrev pub sym_text : Numbered → Sym → List ℕ
sym_text g sym = codes " \"" ++ (sym_name g sym ++ codes "\"")

-- `RULE: "NAME" "NAME"`
abbrev pub production_text : Numbered → NumberedProduction → List ℕ
production_text g production =
    sym_name g (Rule production.rule) ++ (codes ":" ++ concat (map (sym_text g) production.symbols))
