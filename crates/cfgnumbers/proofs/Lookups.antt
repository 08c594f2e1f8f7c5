-- Where names are found, and the map of tokens by name.
use Rattle.std.proofs.Common.{◌≡◌, ℕ, Bool, true, List, [], ◌∷◌, ◌++◌, map, position, Some, String, Global, string_bytes, refl, sym, ap, ◌∙◌, ◌+◌, ◌<◌, false, cond, get_or, length, take, slice_get, option_map, Option, Bor, string_eq, subst, arith}
use Rattle.cfgitems.specs.declared.rule.Rule as source
use Rattle.std.specs.HashMap as hash
use Rattle.std.specs.List.{position_or_len, AllByRecursion, IsDistinct}
use Rattle.std.specs.Map.{keys_of}
use Rattle.std.specs.Str.{bytes_eq}
use Rattle.std.specs.HashMap.{HashMap, get_by}
use Rattle.std.specs.Cmp.Lexicographic.{bytes_decides, nat_list_eq_equiv}
use Rattle.std.proofs.lemmas.List.{take_more, length-take-le}
use Rattle.std.proofs.lemmas.Map.Keys.{IsDistinct-cons, IsDistinct-head, IsDistinct-tail}
use Rattle.std.proofs.lemmas.Map.Text.{hash_map_updates_str}
use Rattle.std.proofs.lemmas.List.Quantifiers.{position-Some}
use Rattle.std.proofs.lemmas.Option.{get_or_from_slice_get, slice_get-get_or, slice_get_within}
use Rattle.indexmap.proofs.MapLemmas.{distinct-take}
use Rattle.lemmas.proofs.Positions.{position-map, position-push, first_position, position-distinct}
use Rattle.lemmas.proofs.Elements.{slice_get_push}
use Rattle.cfgitems.specs.Building.{has_name, has_rule}
use Rattle.cfgitems.specs.Syntax.{Syntax, Rule, index_of}
use Rattle.cfgitems.specs.SyntaxView.{rule_entry}
use Rattle.cfgitems.proofs.Views.{is_key}
use Rattle.cfgnumbers.specs.Numbered.{NumberedRule, end_token}
use Rattle.cfgnumbers.specs.Accessors.{has_token_name}
use Rattle.cfgnumbers.specs.TablesView.{names, rule_view, token_view}
use Rattle.cfgnumbers.specs.declared.rows.RuleRow.{RuleRow}
use Rattle.cfgnumbers.specs.declared.rows.TokenRow.{TokenRow}

-- an index among the keys of entries is one among the entries
pub position-keys : {V : Type 0} (name : List ℕ) (es : List (String Global × V)) → position (is_key name) (keys_of es) ≡ position (λ e. is_key name e.0) es
position-keys name es = position-map (is_key name) (λ e. e.0) es

pub rule_index : (name : List ℕ) (s : Syntax) (es : List (String Global × source.Rule)) → map rule_entry es ≡ s.rules → has_rule name s.rules ≡ true
    → position (is_key name) (keys_of es) ≡ Some (position_or_len (λ rule. bytes_eq name rule.0) s.rules)
rule_index name s es same known =
    position-keys name es ∙ sym (position-map (λ (rule : List ℕ × Rule). bytes_eq name rule.0) rule_entry es)
    ∙ ap (position (λ (rule : List ℕ × Rule). bytes_eq name rule.0)) same ∙ first_position (λ (rule : List ℕ × Rule). bytes_eq name rule.0) s.rules known

-- a token's name is at its index
pub token_at : (name : List ℕ) (tokens : List (List ℕ)) → has_name name tokens ≡ true → slice_get tokens (index_of name tokens) ≡ Some name
token_at name tokens known =
    let found = position-Some (bytes_eq name) tokens (index_of name tokens) name (first_position (bytes_eq name) tokens known) in
    slice_get-get_or tokens (index_of name tokens) name found.0
    ∙ ap Some (sym ((bytes_decides name (get_or tokens (index_of name tokens) name)).0 found.1))

pub token_index : (name : List ℕ) (s : Syntax) (keys : List (String Global)) → map string_bytes keys ≡ s.tokens → has_name name s.tokens ≡ true
    → position (is_key name) keys ≡ Some (index_of name s.tokens)
token_index name s keys same known =
    sym (position-map (bytes_eq name) string_bytes keys) ∙ ap (position (bytes_eq name)) same ∙ first_position (bytes_eq name) s.tokens known

-- a name's index among the rows of rules
pub rule_position : {S : Type 0} (number : S → ℕ) (name : List ℕ) (es : List (String Global × RuleRow S))
    → position (is_key name) (keys_of es) ≡ position (λ rule. bytes_eq name rule.name) (map (rule_view number) es)
rule_position number name es = position-keys name es ∙ sym (position-map (λ (rule : NumberedRule). bytes_eq name rule.name) (rule_view number) es)

-- the same for tokens; the end token has no name
pub token_position : (name : List ℕ) (es : List (String Global × TokenRow))
    → position (is_key name) (keys_of es) ≡ position (has_token_name name) (map token_view es ++ end_token ∷ [])
token_position name es =
    position-keys name es ∙ sym (position-map (has_token_name name) token_view es)
    ∙ sym (position-push (has_token_name name) (map token_view es) end_token refl)

-- the same for a token's name among the names of the rows
pub token_named : (name : List ℕ) (es : List (String Global × TokenRow)) → position (bytes_eq name) (names es) ≡ position (has_token_name name) (map token_view es ++ end_token ∷ [])
token_named name es = position-map (bytes_eq name) (λ (e : String Global × TokenRow). string_bytes e.0) es ∙ sym (position-keys name es) ∙ token_position name es

-- no two keys are equal, so no two names are
pub names-distinct : {V : Type 0} (es : List (String Global × V)) → IsDistinct string_eq (keys_of es) → IsDistinct bytes_eq (names es)
unfolding IsDistinct
names-distinct [] distinct = distinct
names-distinct {V} (e ∷ es) distinct =
    IsDistinct-cons bytes_eq (string_bytes e.0) (names es) (others es (IsDistinct-head string_eq e.0 (keys_of es) distinct)) (names-distinct es (IsDistinct-tail string_eq e.0 (keys_of es) distinct))
  where
    others : (fs : List (String Global × V)) → AllByRecursion (λ key. string_eq e.0 key ≡ false) (keys_of fs) → AllByRecursion (λ name. bytes_eq (string_bytes e.0) name ≡ false) (names fs)
    others [] apart = tt
    others (f ∷ fs) apart = (apart.0, others fs apart.1)

-- where a name is found among one more of the names
position_more : (all : List (List ℕ)) (n : ℕ) (key : List ℕ) → IsDistinct bytes_eq all → slice_get all n ≡ Some key → (name : List ℕ)
    → position (bytes_eq name) (take (n + 1) all) ≡ cond (bytes_eq key name) (Some n) (position (bytes_eq name) (take n all))
position_more all n key distinct at name = go (bytes_eq key name) refl
  where
    within : n < length all
    within = slice_get_within all n key at

    grown : take (n + 1) all ≡ take n all ++ key ∷ []
    grown = take_more all n key within ∙ ap (λ k. take n all ++ k ∷ []) (get_or_from_slice_get all n key key at)

    last : slice_get (take (n + 1) all) n ≡ Some key
    last = ap (λ xs. slice_get xs n) grown ∙ slice_get_push (take n all) key n (length-take-le n all (omega (arith, within)))

    go : (b : Bool) → bytes_eq key name ≡ b → position (bytes_eq name) (take (n + 1) all) ≡ cond b (Some n) (position (bytes_eq name) (take n all))
    go true same = subst (λ k. position (bytes_eq k) (take (n + 1) all) ≡ Some n) ((bytes_decides key name).0 same)
        (position-distinct nat_list_eq_equiv (take (n + 1) all) n key (distinct-take nat_list_eq_equiv (n + 1) all distinct) last)
    go false apart = ap (position (bytes_eq name)) grown ∙ position-push (bytes_eq name) (take n all) key (nat_list_eq_equiv.symm name key ∙ apart)

module _ {T S : Type 0} (number : T → ℕ) (old new : HashMap (Bor (List ℕ)) T S) (key : List ℕ) (token : T) where
  -- the map of the names before an index, with the name at the index added
  pub token_put : hash.UpdatesBy (λ x y. bytes_eq x.now y.now) (λ k. bytes_eq key k.now) old new (Some token)
      → (all : List (List ℕ)) (index : ℕ) → number token ≡ index → IsDistinct bytes_eq all → slice_get all index ≡ Some key
      → ((name : List ℕ) → option_map number (get_by (λ k. bytes_eq name k.now) old) ≡ position (bytes_eq name) (take index all))
      → (name : List ℕ) → option_map number (get_by (λ k. bytes_eq name k.now) new) ≡ position (bytes_eq name) (take (index + 1) all)
  token_put updates all index is distinct at before name =
      ap (option_map number) (hash_map_updates_str key old new (Some token) updates name)
      ∙ go (bytes_eq key name) (get_by (λ k. bytes_eq name k.now) old) (before name) ∙ sym (position_more all index key distinct at name)
    where
      go : (b : Bool) (found : Option T) → option_map number found ≡ position (bytes_eq name) (take index all)
          → option_map number (cond b (Some token) found) ≡ cond b (Some index) (position (bytes_eq name) (take index all))
      go true found same = ap Some is
      go false found same = same
