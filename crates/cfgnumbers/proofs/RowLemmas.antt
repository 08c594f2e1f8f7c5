-- The rows of the tables are what the syntax says of its rules and tokens.
use Rattle.std.proofs.Common.{◌≡◌, ℕ, false, cond, List, [], ◌∷◌, ◌++◌, map, String, Global, string_bytes, string_eq, refl, ap, ◌∙◌, ◌+◌, get_or, option_map, Option, Some, None, Bor, Iter, sym, length}
use Rattle.derivation.specs.Grammar as numbers
use Rattle.cfgitems.specs.declared.precedence.Precedence.{Precedence}
use Rattle.cfgitems.specs.declared.production.Production as source_production
use Rattle.cfgitems.specs.declared.rule.Rule as source
use Rattle.std.specs.List.{list_any, range_with_len, zip, AllByRecursion, IsDistinct}
use Rattle.std.specs.Str.{bytes_eq}
use Rattle.std.specs.declared.iter.Zip.{Zip}
use Rattle.std.specs.Iterator.Adapters.{zip_first, zip_second}
use Rattle.std.specs.Option.{option_copied, option_map_or}
use Rattle.std.specs.Map.Iter.{TakesFirst, deref, deref_pair}
use Rattle.std.specs.Slice.Iter.{iter_rest}
use Rattle.std.proofs.lemmas.List.{map-append, map-id}
use Rattle.std.proofs.lemmas.Bool.{or_parts}
use Rattle.std.proofs.iter.Yields.{fronts}
use Rattle.std.proofs.lemmas.Iterator.{YieldsList, YieldsList-from_slice, YieldsList-from_zip, zips}
use Rattle.std.proofs.lemmas.Iterator.Consumers.{YieldsList-from_rest}
use Rattle.std.proofs.lemmas.List.Elements.{recursion_from_All, All-map}
use Rattle.std.proofs.lemmas.List.FromFn.{map-range_with_len_more}
use Rattle.std.proofs.lemmas.Map.Keys.{IsDistinct-cons}
use Rattle.std.proofs.lemmas.Simd.{map-map}
use Rattle.std.proofs.lemmas.Slice.Zip.{firsts-zip}
use Rattle.indexmap.specs.IndexMap.{insert_entry, IndexMap}
use Rattle.lemmas.proofs.Ended.{somes_same}
use Rattle.lemmas.proofs.Roads.{shown}
use Rattle.cfgindex.specs.declared.idxnewtype.PIdx.{PIdx}
use Rattle.cfgbase.specs.declared.span.Span.{Span}
use Rattle.cfgitems.specs.Building.{has_name}
use Rattle.cfgitems.specs.Syntax.{Syntax, Rule, Production, entry_name}
use Rattle.cfgitems.specs.SyntaxView.{span_entry, rule_entry, rule_view as plain_rule, production_view as plain_production}
use Rattle.cfgnumbers.specs.Numberable.{IsNumberable, reserved_names}
use Rattle.cfgnumbers.proofs.ReservedNames.{free_apart}
use Rattle.cfgnumbers.specs.TablesView.{names, rule_view, token_view}
use Rattle.cfgnumbers.specs.Numbered.{NumberedRule, NumberedToken, NumberedProduction, added_production, token_index, start_name, implicit_name, implicit_start_name, added_rules, file_rule, file_token, precedence_of_token, printed_form, avoids_insert}
use Rattle.cfgnumbers.specs.declared.rows.RuleRow.{RuleRow}
use Rattle.cfgnumbers.specs.declared.rows.TokenRow.{TokenRow}

pushes : {V : Type 0} (es : List (String Global × V)) (key : String Global) (value : V)
    → list_any (bytes_eq (string_bytes key)) (names es) ≡ false → insert_entry string_eq es key value ≡ es ++ (key, value) ∷ []
pushes [] key value new = refl
pushes (e ∷ es) key value new =
    let both = or_parts (bytes_eq (string_bytes key) (string_bytes e.0)) (list_any (bytes_eq (string_bytes key)) (names es)) new in
    ap (λ b. cond b ((e.0, value) ∷ es) (e ∷ insert_entry string_eq es key value)) both.0 ∙ ap (λ t. e ∷ t) (pushes es key value both.1)

-- what is shown of the entries, with one more under a new name
pub entry_put : {V A : Type 0} (view : String Global × V → A) (es new : List (String Global × V)) (key : String Global) (name : List ℕ) (value : V)
    → string_bytes key ≡ name → list_any (bytes_eq name) (names es) ≡ false → new ≡ insert_entry string_eq es key value
    → map view new ≡ map view es ++ view (key, value) ∷ []
entry_put view es new key name value is absent grown =
    ap (map view) (grown ∙ pushes es key value (ap (λ n. list_any (bytes_eq n) (names es)) is ∙ absent)) ∙ map-append view es ((key, value) ∷ [])

-- what the items of the loops over the tree show
abbrev pub rule_seen : Bor (String Global) × Bor source.Rule → List ℕ × Rule
rule_seen item = rule_entry (deref_pair item)

abbrev pub token_seen : Bor (String Global) × Bor Span → List ℕ × Span
token_seen item = (string_bytes item.0.now, item.1.now)

abbrev pub name_seen : {V : Type 0} → Bor (String Global) × Bor V → List ℕ
name_seen item = string_bytes item.0.now

abbrev pub production_seen : Bor ℕ × Bor source_production.Production → ℕ × Production
production_seen item = (item.0.now, plain_production item.1.now)

-- the names of the entries of a table that exists
pub names_shown : {H : Type 0} (table : Option (Bor (IndexMap (String Global) Span H))) → option_map (λ t. names t.now.entries) table
    ≡ option_map (map entry_name) (option_map (λ t. map span_entry t.entries) (option_copied table))
names_shown None = refl
names_shown (Some table) = ap Some (sym (map-map entry_name span_entry table.now.entries))

-- what they iterate over
pub rules_road : {it : List (String Global × source.Rule)} (s : Syntax) (entries : List (String Global × source.Rule)) → map rule_entry entries ≡ s.rules → it ≡ entries
    → YieldsList (TakesFirst deref_pair) rule_seen it s.rules
rules_road s entries same is = shown rule_entry entries s.rules same (YieldsList-from_rest entries is)

pub tokens_road : (s : Syntax) (it : Zip (List (String Global)) (Iter Span)) (keys : List (String Global)) → map string_bytes keys ≡ s.tokens → zip_first it ≡ keys → iter_rest (zip_second it) ≡ s.spans
    → YieldsList (zips (TakesFirst deref) fronts) token_seen it (zip s.tokens s.spans)
tokens_road s it keys same names_are spans_are =
    YieldsList-from_zip (shown string_bytes keys s.tokens same (YieldsList-from_rest keys names_are)) (YieldsList-from_slice s.spans spans_are)

pub names_road : {V : Type 0} {it : List (String Global × V)} (entries : List (String Global × V)) → it ≡ entries → YieldsList (TakesFirst deref_pair) name_seen it (names entries)
names_road entries is = shown (λ entry. string_bytes entry.0) entries (names entries) refl (YieldsList-from_rest entries is)

pub productions_road : (s : Syntax) (it : Zip (Iter ℕ) (Iter source_production.Production)) (prods : List source_production.Production) → map plain_production prods ≡ s.productions
    → iter_rest (zip_first it) ≡ s.production_rules → iter_rest (zip_second it) ≡ prods → YieldsList (zips fronts fronts) production_seen it (zip s.production_rules s.productions)
productions_road s it prods same rules_are prods_are =
    YieldsList-from_zip (YieldsList-from_slice s.production_rules rules_are) (shown plain_production prods s.productions same (YieldsList-from_slice prods prods_are))

-- the names of added rules, and of all rules
abbrev pub added_names : Option (List (List ℕ)) → List (List ℕ)
added_names None = start_name ∷ []
added_names (Some names) = start_name ∷ implicit_name ∷ implicit_start_name ∷ []

abbrev pub rule_names : Option (List (List ℕ)) → Syntax → List (List ℕ)
rule_names implicit s = added_names implicit ++ map (λ rule. rule.0) s.rules

pub rule_names-distinct : (implicit : Option (List (List ℕ))) (s : Syntax) → IsNumberable s → IsDistinct bytes_eq (rule_names implicit s)
rule_names-distinct implicit s numberable = go implicit
  where
    file_names : List (List ℕ)
    file_names = map (λ rule. rule.0) s.rules

    distinct : IsDistinct bytes_eq file_names
    distinct = numberable.well_formed.rules_distinct

    apart : (added : List ℕ) → ((name : List ℕ) → has_name name reserved_names ≡ false → bytes_eq added name ≡ false) → AllByRecursion (λ name. bytes_eq added name ≡ false) file_names
    apart added differs =
        recursion_from_All (λ name. bytes_eq added name ≡ false) file_names
        (All-map (λ name. bytes_eq added name ≡ false) (λ (rule : List ℕ × Rule). rule.0) s.rules
        (λ k d within. differs (get_or s.rules k d).0 (numberable.names_free k d within)))

    start_apart : AllByRecursion (λ name. bytes_eq start_name name ≡ false) file_names
    start_apart = apart start_name (λ name free. (free_apart name free).0)

    go : (o : Option (List (List ℕ))) → IsDistinct bytes_eq (added_names o ++ file_names)
    go None = IsDistinct-cons bytes_eq start_name file_names start_apart distinct
    go (Some names) =
        IsDistinct-cons bytes_eq start_name (implicit_name ∷ implicit_start_name ∷ file_names) (refl, (refl, start_apart))
        (IsDistinct-cons bytes_eq implicit_name (implicit_start_name ∷ file_names) (refl, apart implicit_name (λ name free. (free_apart name free).1))
        (IsDistinct-cons bytes_eq implicit_start_name file_names (apart implicit_start_name (λ name free. (free_apart name free).2)) distinct))

-- one more rule, under a new name
module _ {S : Type 0} (number : S → ℕ) where
  -- the names of rows that show these rules
  pub names_of_rows : (es : List (String Global × RuleRow S)) (rules : List NumberedRule) → map (rule_view number) es ≡ rules → names es ≡ map (λ rule. rule.name) rules
  names_of_rows es rules are = sym (map-map (λ (rule : NumberedRule). rule.name) (rule_view number) es) ∙ ap (map (λ (rule : NumberedRule). rule.name)) are

  pub rule_names_shown : (implicit : Option (List (List ℕ))) (n : ℕ) (es : List (String Global × RuleRow S)) (rules : List (List ℕ × Rule))
      → map (rule_view number) es ≡ added_rules implicit n ++ map file_rule rules → names es ≡ added_names implicit ++ map (λ rule. rule.0) rules
  rule_names_shown implicit n es rules are =
      names_of_rows es _ are ∙ map-append name_of (added_rules implicit n) (map file_rule rules)
      ∙ (λ i. added implicit i ++ map-map name_of file_rule rules i)
    where
      name_of : NumberedRule → List ℕ
      name_of rule = rule.name

      added : (o : Option (List (List ℕ))) → map name_of (added_rules o n) ≡ added_names o
      added None = refl
      added (Some names) = refl

  pub rule_put : (es new : List (String Global × RuleRow S)) (key : String Global) (name : List ℕ) (row : RuleRow S) (rule : source.Rule)
      → string_bytes key ≡ name → row.span ≡ rule.name.1 → map (λ (p : PIdx S). number p.0) row.prods.items ≡ rule.pidxs.items
      → option_map string_bytes row.actiont ≡ option_map string_bytes rule.actiont
      → list_any (bytes_eq name) (names es) ≡ false → new ≡ insert_entry string_eq es key row
      → map (rule_view number) new ≡ map (rule_view number) es ++ file_rule (name, plain_rule rule) ∷ []
  rule_put es new key name row rule is span productions action_type absent grown =
      entry_put (rule_view number) es new key name row is absent grown
      ∙ (λ i. map (rule_view number) es ++ record { name = is i; span = span i; productions = productions i; action_type = action_type i } ∷ [])

-- a token's name, if it has one
abbrev pub name_shown : NumberedToken → Option (List ℕ)
name_shown token = token.name

-- one more token, under a new name
pub token_names_shown : (s : Syntax) (es : List (String Global × TokenRow)) (tokens : List (List ℕ × Span)) → map token_view es ≡ map (file_token s) tokens
    → names es ≡ map (λ token. token.0) tokens
token_names_shown s es tokens are = somes_same (names es) (map (λ token. token.0) tokens)
    (map-map Some (λ (e : String Global × TokenRow). string_bytes e.0) es ∙ sym (map-map name_shown token_view es) ∙ ap (map name_shown) are
    ∙ map-map name_shown (file_token s) tokens ∙ sym (map-map Some (λ (token : List ℕ × Span). token.0) tokens))

pub token_put : (s : Syntax) (es new : List (String Global × TokenRow)) (key : String Global) (row : TokenRow) (token : List ℕ × Span)
    → string_bytes key ≡ token.0 → row.span ≡ token.1 → row.precedence ≡ precedence_of_token s token.0
    → option_map_or string_bytes row.printed token.0 ≡ printed_form s token.0 → row.avoid_insert ≡ avoids_insert s token.0
    → list_any (bytes_eq token.0) (names es) ≡ false → new ≡ insert_entry string_eq es key row
    → map token_view new ≡ map token_view es ++ file_token s token ∷ []
token_put s es new key row token is span precedence printed avoid_insert absent grown =
    let form = ap (option_map_or string_bytes row.printed) is ∙ printed in
    entry_put token_view es new key token.0 row is absent grown
    ∙ (λ i. map token_view es ++ record { name = Some (is i); span = Some (span i); precedence = precedence i; printed = Some (form i); avoid_insert = avoid_insert i } ∷ [])

-- the precedences of all tokens
abbrev precedence_shown : NumberedToken → Option Precedence
precedence_shown token = token.precedence

pub precedences_shown : (s : Syntax) (es : List (String Global × TokenRow)) → length s.spans ≡ length s.tokens → map token_view es ≡ map (file_token s) (zip s.tokens s.spans)
    → map (λ token. token.1.precedence) es ≡ map (precedence_of_token s) s.tokens
precedences_shown s es long are =
    sym (map-map precedence_shown token_view es) ∙ ap (map precedence_shown) are
    ∙ map-map precedence_shown (file_token s) (zip s.tokens s.spans)
    ∙ sym (map-map (precedence_of_token s) (λ (token : List ℕ × Span). token.0) (zip s.tokens s.spans))
    ∙ ap (map (precedence_of_token s)) (firsts-zip s.tokens s.spans long)

-- the production of the rule for implicit tokens that begins with a token
abbrev pub implicit_row : Syntax → List ℕ → NumberedProduction
implicit_row s name = added_production 1 (numbers.Token (token_index s name) ∷ numbers.Rule 1 ∷ [])

-- one more number after those in order
pub range-push : (a n : ℕ) → range_with_len a (n + 1) ≡ range_with_len a n ++ (a + n) ∷ []
range-push a n =
    sym (map-id (range_with_len a (n + 1))) ∙ map-range_with_len_more (λ k. k) a n (a + n) refl ∙ ap (λ xs. xs ++ (a + n) ∷ []) (map-id (range_with_len a n))
