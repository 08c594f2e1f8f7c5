-- Marks of names, one after another, and what all marks say in total.
use Rattle.std.proofs.Common.{◌≡◌, ℕ, ◌+◌, ◌<◌, ◌≤◌, Bool, true, false, ◌||◌, inl, inr, List, [], ◌∷◌, ◌++◌, Contains, String, Global, Option, Some, None, map, length, get_or, slice_get, slice_set, take, position, replicate, option_map, string_bytes, string_eq, MatchBool, unwrap_or, refl, sym, ap, subst, ◌∙◌}
use Rattle.std.specs.List.{IsDistinct, flat_map}
use Rattle.std.specs.Map.{keys_of}
use Rattle.std.specs.Option.{option_to_list}
use Rattle.std.specs.Str.{bytes_eq}
use Rattle.std.specs.Cmp.Lexicographic.{bytes_decides, nat_list_eq_equiv}
use Rattle.std.proofs.Math.Bool.{or-false, or-true, or_assoc}
use Rattle.std.proofs.lemmas.List.{flat_map_more, get_or-set_other, get_or-set_same, length-map, length-set, take_all, take_more}
use Rattle.std.proofs.lemmas.List.Elements.{Contains-append_cases, Contains-append_left, Contains-append_right}
use Rattle.std.proofs.lemmas.List.Folds.{list_any-append}
use Rattle.std.proofs.lemmas.List.Quantifiers.{position-Some}
use Rattle.std.proofs.lemmas.Map.Views.{Contains-from_any, list_any-from_Contains}
use Rattle.std.proofs.lemmas.Option.{same_Some, slice_get-get_or, slice_get-map, unwrap_or-slice_get}
use Rattle.cfgrammar.proofs.Contained.{contains_first, contains_mapped, contains_none, contains_one, contains_source}
use Rattle.cfgrammar.proofs.Elements.{get_or-replicate_default}
use Rattle.cfgrammar.proofs.ListPositions.{position-distinct, position-map}
use Rattle.cfgrammar.specs.Span.{Span}
use Rattle.cfgrammar.specs.Building.{has_name}
use Rattle.cfgrammar.specs.Syntax.{Production, RuleSymbol, Symbol, Syntax, TokenSymbol, entry_name}
use Rattle.cfgrammar.specs.Unused.{RuleName, TokenName, entry_token, name_of}
use Rattle.cfgrammar.proofs.Found.{names_differ}
use Rattle.cfgrammar.proofs.Joins.{flat_contains, flat_source}
use Rattle.cfgfindings.specs.Findings.{IsContained, IsRequested, IsUsed, requested, held, implicit}
use Rattle.cfgfindings.specs.Inner.Marks.{AreMarked, Marks, contained_names, production_names, requested_names, rule_names, token_names}

-- the key of an entry of a table
pub key_at : {A : Type 0} (entries : List (List ℕ × A)) (n : ℕ) (entry : List ℕ × A) → slice_get entries n ≡ Some entry
    → slice_get (map entry_name entries) n ≡ Some entry.0
key_at entries n entry at = slice_get-map entry_name entries n ∙ ap (option_map entry_name) at

-- a table is searched by its keys
module _ {A B : Type 0} (entry : String Global × A → List ℕ × B) (same : (e : String Global × A) → (entry e).0 ≡ string_bytes e.0) where
  entry_names : (es : List (String Global × A)) → map entry_name (map entry es) ≡ map string_bytes (keys_of es)
  entry_names [] = refl
  entry_names (e ∷ es) = λ i. same e i ∷ entry_names es i

  pub entry_position : (name : List ℕ) (es : List (String Global × A)) (table : List (List ℕ × B)) → map entry es ≡ table
      → position (λ key. bytes_eq name (string_bytes key)) (keys_of es) ≡ position (bytes_eq name) (map entry_name table)
  entry_position name es table are =
      sym (position-map (bytes_eq name) string_bytes (keys_of es))
      ∙ ap (position (bytes_eq name)) (sym (entry_names es) ∙ ap (map entry_name) are)

  pub entries_differ : (es : List (String Global × A)) (table : List (List ℕ × B)) → map entry es ≡ table → IsDistinct string_eq (keys_of es)
      → IsDistinct bytes_eq (map entry_name table)
  entries_differ es table are unique = subst (IsDistinct bytes_eq) (sym (entry_names es) ∙ ap (map entry_name) are) (names_differ (keys_of es) unique)

  pub entry_count : (es : List (String Global × A)) (table : List (List ℕ × B)) → map entry es ≡ table → length es ≡ length (map entry_name table)
  entry_count es table are = sym (length-map es entry) ∙ ap length are ∙ sym (length-map table entry_name)

module _ (keys : List (List ℕ)) where
  pub marks_none : (bits : List Bool) → Marks keys [] bits bits
  marks_none bits = record { shape = refl; each = λ n key at. sym (or-false (get_or bits n false)) }

  pub marks_then : (names others : List (List ℕ)) (old mid new : List Bool) → Marks keys names old mid → Marks keys others mid new → Marks keys (names ++ others) old new
  marks_then names others old mid new w v = record {
    shape = v.shape ∙ w.shape;
    each = λ n key at.
        v.each n key at ∙ ap (λ b. b || has_name key others) (w.each n key at)
        ∙ or_assoc (get_or old n false) (has_name key names) (has_name key others)
        ∙ ap (λ b. get_or old n false || b) (sym (list_any-append (bytes_eq key) names others));
  }

  pub marks_more : {A : Type 0} (names : A → List (List ℕ)) (xs : List A) (i : ℕ) (x : A) (old mid new : List Bool) → i < length xs → x ≡ get_or xs i x
      → Marks keys (flat_map names (take i xs)) old mid → Marks keys (names x) mid new → Marks keys (flat_map names (take (i + 1) xs)) old new
  marks_more names xs i x old mid new within at w v = subst (λ all. Marks keys all old new)
      (flat_map_more names [] (take i xs) x ∙ ap (λ e. flat_map names (take i xs ++ e ∷ [])) at ∙ sym (ap (flat_map names) (take_more xs i x within)))
      (marks_then (flat_map names (take i xs)) (names x) old mid new w v)

  pub marks_all : {A : Type 0} (names : A → List (List ℕ)) (xs : List A) (i : ℕ) (old new : List Bool) → length xs ≤ i
      → Marks keys (flat_map names (take i xs)) old new → Marks keys (flat_map names xs) old new
  marks_all names xs i old new past w = subst (λ l. Marks keys (flat_map names l) old new) (take_all i xs past) w

  -- if keys are distinct, a name is the key at its index
  module _ (distinct : IsDistinct bytes_eq keys) (name : List ℕ) where
    there : (n : ℕ) (key : List ℕ) → slice_get keys n ≡ Some key → bytes_eq key name ≡ true → position (bytes_eq name) keys ≡ Some n
    there n key at same = position-distinct nat_list_eq_equiv keys n name distinct (at ∙ ap Some ((bytes_decides _ _).0 same))

    pub marks_nothing : (bits : List Bool) → position (bytes_eq name) keys ≡ None → Marks keys (name ∷ []) bits bits
    marks_nothing bits nowhere = record { shape = refl; each = λ n key at. go n key at (bytes_eq key name) refl }
      where
        go : (n : ℕ) (key : List ℕ) → slice_get keys n ≡ Some key → (b : Bool) → bytes_eq key name ≡ b
            → get_or bits n false ≡ (get_or bits n false || (bytes_eq key name || false))
        go n key at true same = let no : None ≡ Some n = sym nowhere ∙ there n key at same in cc
        go n key at false other = sym (or-false (get_or bits n false)) ∙ ap (λ b. get_or bits n false || (b || false)) (sym other)

    pub marks_one : (bits : List Bool) (index : ℕ) → index < length bits → position (bytes_eq name) keys ≡ Some index
        → Marks keys (name ∷ []) bits (slice_set bits index true)
    marks_one bits index within found = record { shape = length-set bits index true; each = λ n key at. go n key at (bytes_eq key name) refl }
      where
        here : (n : ℕ) (key : List ℕ) → slice_get keys n ≡ Some key → n ≡ index → bytes_eq key name ≡ true
        here n key at same =
            let k = position-Some (bytes_eq name) keys index [] found in
            let named : slice_get keys index ≡ Some (get_or keys index []) = slice_get-get_or keys index [] k.0 in
            let is : key ≡ get_or keys index [] = same_Some _ _ (sym at ∙ ap (slice_get keys) same ∙ named) in
            ap (λ m. bytes_eq m name) (is ∙ sym ((bytes_decides _ _).0 k.1)) ∙ nat_list_eq_equiv.refl name

        go : (n : ℕ) (key : List ℕ) → slice_get keys n ≡ Some key → (b : Bool) → bytes_eq key name ≡ b
            → get_or (slice_set bits index true) n false ≡ (get_or bits n false || (bytes_eq key name || false))
        go n key at true same =
            let is : n ≡ index = same_Some _ _ (sym (there n key at same) ∙ found) in
            ap (λ m. get_or (slice_set bits index true) m false) is ∙ get_or-set_same bits index true false within
            ∙ sym (or-true (get_or bits n false)) ∙ ap (λ b. get_or bits n false || (b || false)) (sym same)
        go n key at false other =
            get_or-set_other bits index n true false (λ is. let no : true ≡ false = sym (here n key at is) ∙ other in cc)
            ∙ sym (or-false (get_or bits n false)) ∙ ap (λ b. get_or bits n false || (b || false)) (sym other)

  -- all marks of the names for which P holds
  pub are_marked : (P : List ℕ → Type 0) (names : List (List ℕ)) → ((name : List ℕ) → Contains names name → P name)
      → ((name : List ℕ) → P name → Contains names name) → (count : ℕ) (bits : List Bool) → Marks keys names (replicate count false) bits → AreMarked keys P bits
  are_marked P names sound complete count bits w n key at =
      go (get_or bits n false) (w.each n key at ∙ ap (λ b. b || has_name key names) (get_or-replicate_default count n false))
    where
      go : (b : Bool) → b ≡ has_name key names → MatchBool b (P key) (P key → ⊥)
      go true is = sound key (Contains-from_any (λ x y e. (bytes_decides x y).0 e) key names (sym is))
      go false is = λ h. let no : false ≡ true = is ∙ list_any-from_Contains nat_list_eq_equiv key names (complete key h) in cc

-- a bit that is read is on exactly if its key is marked
pub marked_as : (keys : List (List ℕ)) (P : List ℕ → Type 0) (bits : List Bool) → AreMarked keys P bits → (n : ℕ) (key : List ℕ) → slice_get keys n ≡ Some key
    → (read : Option Bool) → read ≡ slice_get bits n → (bit result : Bool) → bit ≡ unwrap_or read false → bit ≡ result → MatchBool result (P key) (P key → ⊥)
marked_as keys P bits are n key at read got bit result is known = subst (λ b. MatchBool b (P key) (P key → ⊥))
    (sym (unwrap_or-slice_get bits n false) ∙ ap (λ o. unwrap_or o false) (sym got) ∙ sym is ∙ known) (are n key at)

-- the names among an optional name
module _ (name : List ℕ) where
  given : (o : Option (List ℕ)) → Contains (option_to_list o) name → o ≡ Some name
  given None h = absurd (contains_none name h)
  given (Some other) h = ap Some (contains_one other name h)

  from_given : (o : Option (List ℕ)) → o ≡ Some name → Contains (option_to_list o) name
  from_given o is = subst (λ o. Contains (option_to_list o) name) (sym is) (contains_first name [])

  -- the rules and the tokens among symbols
  rule_named : (symbol : Symbol) → Contains (rule_names symbol) name → name_of symbol ≡ RuleName name
  rule_named (RuleSymbol word) h = ap RuleName (contains_one word.name name h)
  rule_named (TokenSymbol word) h = absurd (contains_none name h)

  names_rule : (symbol : Symbol) → name_of symbol ≡ RuleName name → Contains (rule_names symbol) name
  names_rule (RuleSymbol word) is = let same : word.name ≡ name = cc in subst (Contains (word.name ∷ [])) same (contains_first word.name [])
  names_rule (TokenSymbol word) is = cc

  token_named : (symbol : Symbol) → Contains (token_names symbol) name → name_of symbol ≡ TokenName name
  token_named (RuleSymbol word) h = absurd (contains_none name h)
  token_named (TokenSymbol word) h = ap TokenName (contains_one word.name name h)

  names_token : (symbol : Symbol) → name_of symbol ≡ TokenName name → Contains (token_names symbol) name
  names_token (RuleSymbol word) is = cc
  names_token (TokenSymbol word) is = let same : word.name ≡ name = cc in subst (Contains (word.name ∷ [])) same (contains_first word.name [])

abbrev pub table_names : Option (List (List ℕ × Span)) → List (List ℕ)
table_names None = []
table_names (Some table) = map entry_name table

-- the names of all tokens that are used, as often as they are
abbrev pub used_names : Syntax → List (List ℕ)
used_names s = flat_map production_names s.productions ++ table_names s.tables.implicit_tokens

module _ (s : Syntax) (name : List ℕ) where
  -- the rules that productions contain
  pub contained : Contains (flat_map contained_names s.productions) name → IsContained s name
  contained among =
      let (production, listed, h) = flat_source contained_names s.productions name among in
      let (symbol, holds, is) = flat_source rule_names production.symbols name h in
      record {
        production = production;
        listed = listed;
        holds = subst (Contains (map name_of production.symbols)) (rule_named name symbol is) (contains_mapped name_of production.symbols symbol holds);
      }

  pub from_contained : IsContained s name → Contains (flat_map contained_names s.productions) name
  from_contained h =
      let (symbol, among, is) = contains_source name_of h.production.symbols (RuleName name) h.holds in
      flat_contains contained_names s.productions h.production name h.listed
      (flat_contains rule_names h.production.symbols symbol name among (names_rule name symbol is))

  -- the tokens that a `%prec` names
  pub requests : Contains (flat_map requested_names s.productions) name → IsRequested s name
  requests among =
      let (production, listed, h) = flat_source requested_names s.productions name among in
      record { production = production; listed = listed; requested = given name production.precedence h }

  pub from_requests : IsRequested s name → Contains (flat_map requested_names s.productions) name
  from_requests h = flat_contains requested_names s.productions h.production name h.listed (from_given name h.production.precedence h.requested)

  -- a token is used if its name is among those
  pub used : Contains (used_names s) name → IsUsed s name
  used among = elim (Contains-append_cases (flat_map production_names s.productions) (table_names s.tables.implicit_tokens) name among) [
    | inl by ↦ let (production, listed, h) = flat_source production_names s.productions name by in
        elim (Contains-append_cases (flat_map token_names production.symbols) (requested_names production) name h) [
          | inl k ↦ let (symbol, holds, is) = flat_source token_names production.symbols name k in
              held listed (subst (Contains (map name_of production.symbols)) (token_named name symbol is) (contains_mapped name_of production.symbols symbol holds))
          | inr k ↦ requested (record { production = production; listed = listed; requested = given name production.precedence k })
        ]
    | inr by ↦ table s.tables.implicit_tokens refl by
  ]
    where
      table : (o : Option (List (List ℕ × Span))) → s.tables.implicit_tokens ≡ o → Contains (table_names o) name → IsUsed s name
      table None is h = absurd (contains_none name h)
      table (Some entries) is h = let (entry, at, same) = contains_source entry_name entries name h in
          implicit is (subst (Contains (map entry_token entries)) (ap TokenName same) (contains_mapped entry_token entries entry at))

  -- what a production names is named by the productions
  by_production : (production : Production) → Contains s.productions production → Contains (production_names production) name → Contains (used_names s) name
  by_production production listed h = Contains-append_left (flat_map production_names s.productions) (table_names s.tables.implicit_tokens) name
      (flat_contains production_names s.productions production name listed h)

  pub from_used : IsUsed s name → Contains (used_names s) name
  from_used (held {production = production} listed holds) = by_production production listed
      (Contains-append_left (flat_map token_names production.symbols) (requested_names production) name
      (let (symbol, among, is) = contains_source name_of production.symbols (TokenName name) holds in
      flat_contains token_names production.symbols symbol name among (names_token name symbol is)))
  from_used (requested h) = by_production h.production h.listed
      (Contains-append_right (flat_map token_names h.production.symbols) (requested_names h.production) name
      (from_given name h.production.precedence h.requested))
  from_used (implicit {table = table} listed holds) =
      Contains-append_right (flat_map production_names s.productions) (table_names s.tables.implicit_tokens) name
      (subst (λ o. Contains (table_names o) name) (sym listed)
      (let (entry, among, is) = contains_source entry_token table (TokenName name) holds in
      let same : entry.0 ≡ name = cc in
      subst (Contains (map entry_name table)) same (contains_mapped entry_name table entry among)))
