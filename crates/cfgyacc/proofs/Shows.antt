-- What accessors read from the tables.
use Rattle.std.proofs.Common.{◌≡◌, ℕ, zero, suc, ◌<◌, ◌≤◌, List, [], ◌∷◌, ◌++◌, codes, length, map, slice_get, Option, Some, None, option_map, unwrap_or, String, Global, refl, sym, ap, subst, ◌∙◌, arith}
use Rattle.std.specs.List.{concat}
use Rattle.std.specs.Map.{values_of}
use Rattle.std.specs.Option.{option_map_or}
use Rattle.std.proofs.lemmas.Option.{get_or_from_slice_get, slice_get_within}
use Rattle.cfgindex.specs.declared.idxnewtype.PIdx.{PIdx}
use Rattle.cfgindex.specs.declared.idxnewtype.RIdx.{RIdx}
use Rattle.cfgitems.specs.declared.settings.Settings.{Settings}
use Rattle.derivation.specs.Grammar.{Rule, Sym, Token}
use Rattle.cfgnumbers.specs.Numbered.{Numbered, NumberedRule, NumberedToken, NumberedProduction}
use Rattle.cfgnumbers.specs.Fits.{Fits}
use Rattle.cfgnumbers.specs.Accessors.{rule_part, token_part, production_part, production_text, sym_name, sym_text}
use Rattle.cfgnumbers.specs.TablesView.{rule_view, tables}
use Rattle.cfgnumbers.specs.declared.rows.RuleRow.{RuleRow}
use Rattle.cfgnumbers.specs.declared.rows.TokenRow.{TokenRow}

-- the name of a symbol is that of its rule or token
pub rule_named : (g : Numbered) (r : ℕ) (name : List ℕ) → rule_part (λ rule. rule.name) g r ≡ Some name → sym_name g (Rule r) ≡ name
rule_named g r name at = ap (λ o. unwrap_or o []) at

pub token_named : (g : Numbered) (t : ℕ) (name : Option (List ℕ)) → token_part (λ token. token.name) g t ≡ Some name → sym_name g (Token t) ≡ unwrap_or name []
token_named g t name at = go (slice_get g.tokens t) at
  where
    go : (o : Option NumberedToken) → option_map (λ token. token.name) o ≡ Some name → option_map_or (λ token. unwrap_or token.name []) o [] ≡ unwrap_or name []
    go None at = let no : None ≡ Some name = at in cc
    go (Some token) at =
        let same : token.name ≡ name = cc in
        ap (λ n. unwrap_or n []) same

-- the text of a production is that of its rule's name and its symbols
pub shown_text : (g : Numbered) (p r : ℕ) (symbols : List Sym) (name : List ℕ) → production_part (λ production. production.rule) g p ≡ Some r
    → production_part (λ production. production.symbols) g p ≡ Some symbols → rule_part (λ rule. rule.name) g r ≡ Some name
    → production_part (production_text g) g p ≡ Some (name ++ (codes ":" ++ concat (map (sym_text g) symbols)))
shown_text g p r symbols name owner held named = go (slice_get g.productions p) owner held
  where
    go : (o : Option NumberedProduction) → option_map (λ production. production.rule) o ≡ Some r → option_map (λ production. production.symbols) o ≡ Some symbols
        → option_map (production_text g) o ≡ Some (name ++ (codes ":" ++ concat (map (sym_text g) symbols)))
    go None owner held = let no : None ≡ Some r = owner in cc
    go (Some production) owner held =
        let rule : production.rule ≡ r = cc in
        let same : production.symbols ≡ symbols = cc in
        let called = ap (λ k. sym_name g (Rule k)) rule ∙ rule_named g r name named in
        λ i. Some (called i ++ (codes ":" ++ concat (map (sym_text g) (same i))))

module _ {S A : Type 0} (number : S → ℕ) (part : NumberedRule → A) (row : RuleRow S) (x : A) (shows : (key : String Global) → part (rule_view number (key, row)) ≡ x) where
  row_shown : (es : List (String Global × RuleRow S)) (i : ℕ) → slice_get (values_of es) i ≡ Some row → option_map part (slice_get (map (rule_view number) es) i) ≡ Some x
  row_shown [] i at = let no : None ≡ Some row = at in cc
  row_shown (e ∷ es) zero at = let same : e.1 ≡ row = cc in ap Some (ap (λ r. part (rule_view number (e.0, r))) same ∙ shows e.0)
  row_shown (e ∷ es) (suc i) at = row_shown es i at

  -- a part of a rule that its row shows
  pub rule_shown : (rules : List (String Global × RuleRow S)) (productions : List NumberedProduction) (tokens : List (String Global × TokenRow)) (start : PIdx S) (implicit : Option (RIdx S)) (settings : Settings) (g : Numbered)
      → tables number rules productions tokens start implicit settings ≡ g → (i r : ℕ) → i ≡ r → slice_get (values_of rules) i ≡ Some row → rule_part part g r ≡ Some x
  unfolding tables
  rule_shown rules productions tokens start implicit settings g view_is i r same at =
      ap (λ (t : Numbered). rule_part part t r) (sym view_is) ∙ ap (λ k. option_map part (slice_get (map (rule_view number) rules) k)) (sym same) ∙ row_shown rules i at

-- what is read of a production among those in the tables
module _ (productions : List NumberedProduction) (g : Numbered) (listed : productions ≡ g.productions) (i p : ℕ) (same : i ≡ p) where
  pub production_there : p < length g.productions → i < length productions
  production_there within = omega (arith, within, same, ap length listed)

  pub production_shown : {A : Type 0} (part : NumberedProduction → A) (x : A) → option_map part (slice_get productions i) ≡ Some x → production_part part g p ≡ Some x
  production_shown part x at = ap (λ k. option_map part (slice_get g.productions k)) (sym same) ∙ ap (λ l. option_map part (slice_get l i)) (sym listed) ∙ at

-- the symbols of a production can be counted
pub symbols_counted : (max : ℕ) (g : Numbered) → Fits max g → (p : ℕ) (symbols : List Sym) → production_part (λ production. production.symbols) g p ≡ Some symbols → length symbols ≤ max
symbols_counted max g fits p symbols held = go (slice_get g.productions p) refl held
  where
    go : (o : Option NumberedProduction) → slice_get g.productions p ≡ o → option_map (λ production. production.symbols) o ≡ Some symbols → length symbols ≤ max
    go None is held = let no : None ≡ Some symbols = held in cc
    go (Some production) is held =
        let same : production.symbols ≡ symbols = cc in
        subst (λ l. length l ≤ max) same
        (subst (λ (q : NumberedProduction). length q.symbols ≤ max) (get_or_from_slice_get g.productions p production production is)
        (fits.symbols p production (slice_get_within g.productions p production is)))

pub symbols_long : (g : Numbered) (p : ℕ) (symbols : List Sym) → production_part (λ production. production.symbols) g p ≡ Some symbols
    → production_part (λ production. length production.symbols) g p ≡ Some (length symbols)
symbols_long g p symbols held = go (slice_get g.productions p) held
  where
    go : (o : Option NumberedProduction) → option_map (λ production. production.symbols) o ≡ Some symbols → option_map (λ production. length production.symbols) o ≡ Some (length symbols)
    go None held = let no : None ≡ Some symbols = held in cc
    go (Some production) held =
        let same : production.symbols ≡ symbols = cc in
        ap (λ l. Some (length l)) same
