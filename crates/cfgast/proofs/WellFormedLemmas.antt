-- The syntax of a list of items is well formed.
use Rattle.std.proofs.Common.{◌≡◌, ℕ, ◌<◌, ◌==◌, true, false, List, [], ◌∷◌, map, length, filter_map, get_or, slice_get, All, Option, Some, None, IfSome, option_map, refl, sym, ap, subst, ◌∙◌}
use Rattle.std.specs.List.{IsDistinct, list_any}
use Rattle.std.specs.Option.{option_map_or}
use Rattle.std.specs.Str.{bytes_eq}
use Rattle.std.specs.Cmp.Lexicographic.{nat_list_eq_equiv}
use Rattle.std.proofs.lemmas.List.{length-map}
use Rattle.std.proofs.lemmas.List.Elements.{All-map}
use Rattle.std.proofs.lemmas.List.Folds.{list_any_at}
use Rattle.std.proofs.lemmas.Option.{slice_get-map, slice_get_within, get_or_from_slice_get, same_Some}
use Rattle.std.proofs.lemmas.Simd.{map-map}
use Rattle.lemmas.specs.Lists.{with_prefixes, positions}
use Rattle.lemmas.proofs.Options.{All-filter_map}
use Rattle.lemmas.proofs.Passing.{positions-same, positions-map}
use Rattle.lemmas.proofs.Tests.{list_any-map, list_any-filter_map}
use Rattle.cfgwords.specs.FileWords.{Word}
use Rattle.cfgbase.specs.declared.span.Span.{Span}
use Rattle.cfgitems.specs.Items.{Item, ImplicitTokensBegun, ImplicitTokenDeclared, RuleHead}
use Rattle.cfgitems.specs.Syntax.{Rule, Production, word_name, head_name, index_of, indices_of, firsts, token_named, implicit_tokens_said, typed_rule, alternatives, token_words, declared_words, rule_heads, word_entry, marked, rule_of, tables_of, syntax_of}
use Rattle.cfgitems.specs.Building.{has_name}
use Rattle.cfgast.specs.WellFormed.{IsWellFormed}
use Rattle.cfgitems.proofs.Keeps.{All-firsts}
use Rattle.cfgitems.proofs.Names.{AreAmong, is_named-firsts, has_name-names, firsts-distinct, index_of-within, same_offset}
use Rattle.cfgitems.proofs.Fields.{tokens, declared_token, alternative_named, rule_names, production_names}

-- each of the names has an index among those that they are among
indices-within : (some all : List (List ℕ)) → AreAmong some all → All (λ i. i < length all) (indices_of some all)
indices-within some all among = All-map (λ i. i < length all) (λ name. index_of name all) some (λ k d h.
    index_of-within (get_or some k d) all (among (get_or some k d) (list_any_at (bytes_eq (get_or some k d)) some k d h (nat_list_eq_equiv.refl (get_or some k d)))))

-- a rule lists the indices of the productions of its name, which are those of its own index
module _ (items : List Item) where
  done : List (List ℕ × Production)
  done = alternatives items

  distinct : IsDistinct bytes_eq (rule_names items)
  unfolding rule_heads
  distinct = firsts-distinct head_name (filter_map typed_rule (with_prefixes items))

  lists_own : (r : ℕ) (head : RuleHead) → slice_get (rule_heads items) r ≡ Some head
      → positions (λ a. bytes_eq (head_name head) a.0) done ≡ positions (λ other. r == other) (indices_of (production_names items) (rule_names items))
  unfolding done
  lists_own r head at =
      positions-same _ _ done (λ k d h. own (get_or done k d).0 (alternative_named items _ (named k d h)))
      ∙ sym (positions-map (λ n. r == index_of n (rule_names items)) (λ (a : List ℕ × Production). a.0) done)
      ∙ sym (positions-map (λ other. r == other) (λ n. index_of n (rule_names items)) (production_names items))
    where
      name_at : slice_get (rule_names items) r ≡ Some (head_name head)
      name_at = slice_get-map head_name (rule_heads items) r ∙ ap (option_map head_name) at

      named : (k : ℕ) (d : List ℕ × Production) → k < length done → has_name (get_or done k d).0 (production_names items) ≡ true
      named k d h = list_any-map _ _ done ∙ list_any_at (λ a. bytes_eq (get_or done k d).0 a.0) done k d h (nat_list_eq_equiv.refl (get_or done k d).0)

      own : (name : List ℕ) → has_name name (rule_names items) ≡ true → bytes_eq (head_name head) name ≡ (r == index_of name (rule_names items))
      own name there =
          ap (λ n. bytes_eq n name) (sym (get_or_from_slice_get (rule_names items) r (head_name head) [] name_at))
          ∙ same_offset name (rule_names items) distinct there r (slice_get_within (rule_names items) r (head_name head) name_at)

  listed : (r : ℕ) (rule : List ℕ × Rule) → slice_get (map (rule_of done) (rule_heads items)) r ≡ Some rule
      → rule.1.productions ≡ positions (λ other. r == other) (indices_of (production_names items) (rule_names items))
  listed r rule e = at (slice_get (rule_heads items) r) refl (sym (slice_get-map (rule_of done) (rule_heads items) r) ∙ e)
    where
      at : (o : Option RuleHead) → slice_get (rule_heads items) r ≡ o → option_map (rule_of done) o ≡ Some rule
          → rule.1.productions ≡ positions (λ other. r == other) (indices_of (production_names items) (rule_names items))
      at None e is = let no : None ≡ Some rule = is in cc
      at (Some head) e is = ap (λ (r : List ℕ × Rule). r.1.productions) (sym (same_Some (rule_of done head) rule is)) ∙ lists_own r head e

-- each implicit token is a token
module _ (items : List Item) where
  abbrev IsToken : Word → Type 0
  IsToken word = has_name word.name (tokens items) ≡ true

  tokens_named : (k : ℕ) (d : Item) → k < length items → IfSome (token_named (get_or items k d)) IsToken
  unfolding token_words
  tokens_named k d within = go (token_named (get_or items k d)) refl
    where
      go : (o : Option Word) → token_named (get_or items k d) ≡ o → IfSome o IsToken
      go None e = tt
      go (Some word) e =
          let has = λ (w : Word). bytes_eq word.name w.name in
          has_name-names word_name word.name (token_words items) ∙ is_named-firsts word_name word.name (filter_map token_named items) ∙ list_any-filter_map has token_named items
          ∙ list_any_at (λ item. option_map_or has (token_named item) false) items k d within (ap (λ o. option_map_or has o false) e ∙ nat_list_eq_equiv.refl word.name)

  implicit_named : (item : Item) → IfSome (token_named item) IsToken → IfSome (implicit_tokens_said item) (λ o. IfSome o IsToken)
  implicit_named ImplicitTokensBegun h = tt
  implicit_named (ImplicitTokenDeclared word) h = h
  implicit_named _ h = tt

  implicit_are_tokens : IfSome (marked (filter_map implicit_tokens_said items)) (λ table. All (λ entry. list_any (bytes_eq entry.0) (tokens items) ≡ true) table)
  implicit_are_tokens = go (filter_map implicit_tokens_said items) (All-filter_map (λ o. IfSome o IsToken) implicit_tokens_said items (λ k d h. implicit_named (get_or items k d) (tokens_named k d h)))
    where
      go : (said : List (Option Word)) → All (λ o. IfSome o IsToken) said → IfSome (marked said) (λ table. All (λ entry. list_any (bytes_eq entry.0) (tokens items) ≡ true) table)
      go [] h = tt
      go (o ∷ said) h =
          let words = filter_map (λ (o : Option Word). o) (o ∷ said) in
          All-map (λ (entry : List ℕ × Span). list_any (bytes_eq entry.0) (tokens items) ≡ true) word_entry (firsts word_name words)
          (All-firsts word_name IsToken words (All-filter_map IsToken (λ o. o) (o ∷ said) h))

pub syntax_of-IsWellFormed : (items : List Item) → IsWellFormed (syntax_of items)
unfolding syntax_of tables_of token_words done
syntax_of-IsWellFormed items = record {
  rules_named = All-map (λ rule. rule.0 ≡ rule.1.name.name) (rule_of (alternatives items)) (rule_heads items) (λ k d h. refl);
  rules_distinct = subst (IsDistinct bytes_eq) (sym (map-map (λ (rule : List ℕ × Rule). rule.0) (rule_of (alternatives items)) (rule_heads items))) (distinct items);
  tokens_distinct = firsts-distinct word_name (filter_map token_named items);
  production_rules_as_long = length-map (production_names items) (λ (n : List ℕ). index_of n (rule_names items)) ∙ length-map (alternatives items) (λ (a : List ℕ × Production). a.0) ∙ sym (length-map (alternatives items) (λ (a : List ℕ × Production). a.1));
  production_rules_within = subst (λ n. All (λ r. r < n) (indices_of (production_names items) (rule_names items)))
      (length-map (rule_heads items) head_name ∙ sym (length-map (rule_heads items) (rule_of (alternatives items))))
      (indices-within (production_names items) (rule_names items) (alternative_named items));
  productions_listed = listed items;
  spans_as_long = length-map (token_words items) (λ (w : Word). w.span) ∙ sym (length-map (token_words items) word_name);
  directives_within = indices-within (map word_name (declared_words items)) (map word_name (token_words items)) (declared_token items);
  implicit_are_tokens = implicit_are_tokens items;
}
