-- What the builder writes, as plain data.
use Rattle.std.proofs.Common.{◌≡◌, ℕ, true, false, nat_eq, List, [], ◌∷◌, ◌++◌, Option, Some, None, if◌then◌else◌, sym, ap, ◌∙◌}
use Rattle.std.specs.List.{list_any}
use Rattle.lemmas.specs.Lists.{pushed, pushed_unless}
use Rattle.cfgbase.specs.declared.span.Span.{Span}
use Rattle.cfgwords.specs.FileWords.{Word}
use Rattle.cfgitems.specs.Items.{RuleHead, TokenDeclared, TokenQuoted}
use Rattle.cfgitems.specs.Syntax.{Syntax, Rule, head_name, index_of}
use Rattle.cfgitems.specs.Building.{has_name, has_rule, new_rule, with_rule, add}
use Rattle.indexmap.specs.IndexSet.{insert_key}

module _ (s : Syntax) (word : Word) where
  pub quoted-known : has_name word.name s.tokens ≡ true → s ≡ add s (TokenQuoted word)
  unfolding add
  quoted-known known = λ i. record s {
    tokens = pushed_unless (sym known i) s.tokens word.name;
    spans = pushed_unless (sym known i) s.spans word.span;
  }

  pub quoted-new : (tokens : List (List ℕ)) (spans : List Span) → has_name word.name s.tokens ≡ false → tokens ≡ s.tokens ++ word.name ∷ [] → spans ≡ s.spans ++ word.span ∷ []
      → record s { tokens = tokens; spans = spans } ≡ add s (TokenQuoted word)
  unfolding add
  quoted-new tokens spans new names_are spans_are =
      (λ i. record s { tokens = names_are i; spans = spans_are i })
      ∙ (λ i. record s { tokens = pushed_unless (sym new i) s.tokens word.name; spans = pushed_unless (sym new i) s.spans word.span })

  -- the word, if the index is noted
  abbrev pub word_again : Syntax → ℕ → Option Word
  word_again q i = if list_any (nat_eq i) q.token_directives then Some word else None

  pub declared-noted : (quoted : Syntax) (i : ℕ) (offsets : List ℕ) (repeated : List Word) → quoted ≡ add s (TokenQuoted word) → i ≡ index_of word.name quoted.tokens
      → offsets ≡ insert_key nat_eq quoted.token_directives i → repeated ≡ pushed quoted.repeated_tokens (word_again quoted i)
      → record quoted { token_directives = offsets; repeated_tokens = repeated } ≡ add s (TokenDeclared word)
  unfolding add
  declared-noted quoted i offsets repeated same is are again =
      (λ j. record quoted {
        token_directives = (are ∙ ap (insert_key nat_eq quoted.token_directives) is) j;
        repeated_tokens = (again ∙ ap (λ k. pushed quoted.repeated_tokens (word_again quoted k)) is) j;
      })
      ∙ ap {A = Syntax} {B = Syntax} (λ q. record q {
        token_directives = insert_key nat_eq q.token_directives (index_of word.name q.tokens);
        repeated_tokens = pushed q.repeated_tokens (word_again q (index_of word.name q.tokens));
      }) same

module _ (s : Syntax) (head : RuleHead) where
  abbrev pub rule_put : Syntax
  rule_put = record s { rules = with_rule (Some head) s.rules }

  pub rule-known : has_rule (head_name head) s.rules ≡ true → s ≡ rule_put
  rule-known known = λ i. record s { rules = pushed_unless (sym known i) s.rules (new_rule head) }

  pub rule-new : (rules : List (List ℕ × Rule)) → has_rule (head_name head) s.rules ≡ false → rules ≡ s.rules ++ new_rule head ∷ [] → record s { rules = rules } ≡ rule_put
  rule-new rules new are = (λ i. record s { rules = are i }) ∙ (λ i. record s { rules = pushed_unless (sym new i) s.rules (new_rule head) })
