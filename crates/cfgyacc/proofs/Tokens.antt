-- What accessors of tokens read from the tables.
use Rattle.std.proofs.Common.{◌≡◌, ℕ, zero, suc, ◌<◌, List, [], ◌∷◌, ◌++◌, length, map, slice_get, Option, Some, None, option_map, String, Global, refl, sym, ap, ◌∙◌, arith}
use Rattle.cfgindex.specs.declared.idxnewtype.PIdx.{PIdx}
use Rattle.cfgindex.specs.declared.idxnewtype.RIdx.{RIdx}
use Rattle.cfgitems.specs.declared.settings.Settings.{Settings}
use Rattle.cfgnumbers.specs.Numbered.{Numbered, NumberedProduction, NumberedToken, end_token}
use Rattle.cfgnumbers.specs.Accessors.{token_part}
use Rattle.cfgnumbers.specs.TablesView.{token_view, tables}
use Rattle.cfgnumbers.specs.declared.rows.RuleRow.{RuleRow}
use Rattle.cfgnumbers.specs.declared.rows.TokenRow.{TokenRow}

-- the tokens of rows, and the end token
abbrev tokens_of : List (String Global × TokenRow) → List NumberedToken
tokens_of es = map token_view es ++ end_token ∷ []

at_entry : (es : List (String Global × TokenRow)) (i : ℕ) (e : String Global × TokenRow) → slice_get es i ≡ Some e → slice_get (tokens_of es) i ≡ Some (token_view e)
at_entry [] i e at = let no : None ≡ Some e = at in cc
at_entry (x ∷ es) zero e at = let same : x ≡ e = cc in ap (λ e. Some (token_view e)) same
at_entry (x ∷ es) (suc i) e at = at_entry es i e at

after_entries : (es : List (String Global × TokenRow)) (i : ℕ) → slice_get es i ≡ None → i < length (tokens_of es) → slice_get (tokens_of es) i ≡ Some end_token
after_entries [] zero none within = refl
after_entries [] (suc i) none within = absurd (omega (arith, within))
after_entries (x ∷ es) zero none within = let no : Some x ≡ None = none in cc
after_entries (x ∷ es) (suc i) none within = after_entries es i none (omega (arith, within))

module _ {S : Type 0} (number : S → ℕ) (rules : List (String Global × RuleRow S)) (productions : List NumberedProduction) (tokens : List (String Global × TokenRow)) (start : PIdx S) (implicit : Option (RIdx S)) (settings : Settings) (g : Numbered)
    (view_is : tables number rules productions tokens start implicit settings ≡ g) {A : Type 0} (part : NumberedToken → A) (i t : ℕ) (same : i ≡ t) where
  -- a part of a token that has a row
  pub token_shown : (e : String Global × TokenRow) → Some e ≡ slice_get tokens i → token_part part g t ≡ Some (part (token_view e))
  unfolding tables
  token_shown e at =
      ap (λ (g : Numbered). token_part part g t) (sym view_is) ∙ ap (λ k. option_map part (slice_get (tokens_of tokens) k)) (sym same) ∙ ap (option_map part) (at_entry tokens i e (sym at))

  -- a part of the end token, which has none
  pub end_shown : None ≡ slice_get tokens i → t < length g.tokens → token_part part g t ≡ Some (part end_token)
  unfolding tables
  end_shown none within =
      ap (λ (g : Numbered). token_part part g t) (sym view_is) ∙ ap (λ k. option_map part (slice_get (tokens_of tokens) k)) (sym same)
      ∙ ap (option_map part) (after_entries tokens i (sym none) (omega (arith, same, within, ap (λ (g : Numbered). length g.tokens) view_is)))
