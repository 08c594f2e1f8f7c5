-- What one more item makes of each field of the syntax: one lemma per field.
use Rattle.std.proofs.Common.{◌≡◌, ℕ, ◌-◌, Bool, true, false, List, [], ◌∷◌, ◌++◌, map, length, filter_map, slice_get, Option, Some, None, option_map, if◌then◌else◌, refl, sym, ap, ◌∙◌, true≢false, arith, append-nil, length-append}
use Rattle.std.specs.Option.{option_map_or, option_or}
use Rattle.std.specs.Str.{bytes_eq}
use Rattle.std.specs.Cmp.Lexicographic.{nat_list_eq_equiv}
use Rattle.std.proofs.lemmas.Bool.{false≢true, false_from_ne_true}
use Rattle.std.specs.List.{flat_map}
use Rattle.std.proofs.lemmas.List.{flat_map_more, map-append, length-map}
use Rattle.std.proofs.lemmas.Option.{slice_get-get_or}
use Rattle.std.proofs.lemmas.Simd.{map-map}
use Rattle.std.proofs.Math.Seq.{get_or-append_seam}
use Rattle.lemmas.specs.Lists.{with_prefixes, positions, pushed, pushed_unless}
use Rattle.lemmas.proofs.Pushed.{filter_map-pushed, slice_get-push, map-pushed, map-pushed_unless}
use Rattle.lemmas.proofs.Passing.{positions-none, positions-push}
use Rattle.lemmas.proofs.Prefixes.{with_prefixes-push}
use Rattle.lemmas.proofs.Tests.{list_any-map, list_any-filter_map, list_any_weaker}
use Rattle.cfgwords.specs.FileWords.{Word}
use Rattle.cfgitems.specs.Items.{Item, RuleHead, TokenDeclared, Alternative}
use Rattle.cfgitems.specs.Syntax.{Rule, Production, word_name, head_name, entry_name, is_named, firsts, index_of, indices_of, token_named, token_declared, typed_rule, alternative, alternatives, token_words, declared_words, rule_heads, declared_again, repeated_token, overridden, word_entry, marked, rule_of, last_of}
use Rattle.cfgitems.specs.Building.{has_name, new_rule, listed, with_first, with_name, with_span, is_noted, with_directive, with_overridden, with_rule, with_listed, with_entry, with_marked}
use Rattle.cfgitems.proofs.Names.{AreAmong, put_first, put_first-entry, firsts-filter_map-push, is_named-firsts, has_name-names, names-put, entries-put, put_there, put_grows, indices-stay, noted, indices-put}

abbrev pub tokens : List Item → List (List ℕ)
tokens items = map word_name (token_words items)

abbrev pub declared : List Item → List (List ℕ)
declared items = map word_name (declared_words items)

abbrev pub rule_names : List Item → List (List ℕ)
rule_names items = map head_name (rule_heads items)

abbrev rules : List Item → List (List ℕ × Rule)
rules items = map (rule_of (alternatives items)) (rule_heads items)

abbrev pub production_names : List Item → List (List ℕ)
production_names items = map (λ a. a.0) (alternatives items)

-- a declared token is a token
pub declared_token : (items : List Item) → AreAmong (declared items) (tokens items)
unfolding declared_words token_words
declared_token items name h =
    has_name-names word_name name (token_words items) ∙ is_named-firsts word_name name (filter_map token_named items) ∙ list_any-filter_map has token_named items
    ∙ list_any_weaker (λ x. option_map_or has (token_declared x) false) (λ x. option_map_or has (token_named x) false) go items
    (sym (list_any-filter_map has token_declared items) ∙ sym (is_named-firsts word_name name (filter_map token_declared items)) ∙ sym (has_name-names word_name name (declared_words items)) ∙ h)
  where
    has : Word → Bool
    has word = bytes_eq name word.name

    go : (item : Item) → option_map_or has (token_declared item) false ≡ true → option_map_or has (token_named item) false ≡ true
    go (TokenDeclared word) e = e
    go _ e = absurd (false≢true e)

-- the rule of a production is named
pub alternative_named : (items : List Item) → AreAmong (production_names items) (rule_names items)
unfolding rule_heads alternatives
alternative_named items name h =
    has_name-names head_name name (rule_heads items) ∙ is_named-firsts head_name name (filter_map typed_rule (with_prefixes items))
    ∙ list_any-filter_map has typed_rule (with_prefixes items)
    ∙ list_any_weaker (λ x. option_map_or of_rule (alternative x) false) (λ x. option_map_or has (typed_rule x) false) go (with_prefixes items)
    (sym (list_any-filter_map of_rule alternative (with_prefixes items)) ∙ sym (list_any-map (bytes_eq name) (λ a. a.0) (alternatives items)) ∙ h)
  where
    of_rule : List ℕ × Production → Bool
    of_rule a = bytes_eq name a.0

    has : RuleHead → Bool
    has head = bytes_eq name (head_name head)

    go : (x : List Item × Item) → option_map_or of_rule (alternative x) false ≡ true → option_map_or has (typed_rule x) false ≡ true
    go (prefix, Alternative head body) e = e
    go (prefix, _) e = absurd (false≢true e)

-- a production is listed with each rule of its name
rules-listed : (done : List (List ℕ × Production)) (o : Option (List ℕ × Production)) (heads : List RuleHead)
    → map (rule_of (pushed done o)) heads ≡ with_listed o (length (map (λ a. a.1) done)) (map (rule_of done) heads)
rules-listed done None heads = refl
rules-listed done (Some (name, production)) heads = (λ i. map (λ head. same head i) heads) ∙ sym (map-map (listed name next) (rule_of done) heads)
  where
    next : ℕ
    next = length (map (λ (a : List ℕ × Production). a.1) done)

    next_is : length done ≡ next
    next_is = sym (length-map done (λ (a : List ℕ × Production). a.1))

    rule_with : RuleHead → List ℕ → List ℕ × Rule
    rule_with head ps = (head_name head, record { name = head.name; productions = ps; action_type = head.action_type })

    at : RuleHead → List ℕ
    at head = positions (λ a. bytes_eq (head_name head) a.0) done

    branch : (head : RuleHead) (b : Bool) → rule_with head (if b then at head ++ next ∷ [] else at head) ≡ (if b then rule_with head (at head ++ next ∷ []) else rule_with head (at head))
    branch head true = refl
    branch head false = refl

    same : (head : RuleHead) → rule_of (done ++ (name, production) ∷ []) head ≡ listed name next (rule_of done head)
    same head =
        ap (rule_with head) (positions-push (λ a. bytes_eq (head_name head) a.0) done (name, production)
        ∙ (λ i. if nat_list_eq_equiv.symm (head_name head) name i then at head ++ next_is i ∷ [] else at head))
        ∙ branch head (bytes_eq name (head_name head))

-- one more thing said of marked tokens
words-pushed : (said : List (Option Word)) (o : Option Word) → map word_entry (firsts word_name (filter_map (λ o. o) (said ++ o ∷ [])))
    ≡ with_entry (option_map word_entry o) (map word_entry (firsts word_name (filter_map (λ o. o) said)))
words-pushed said o =
    ap (map word_entry) (firsts-filter_map-push word_name (λ o. o) said o) ∙ entries-put word_name (λ w. w.span) (firsts word_name (filter_map (λ o. o) said)) o

marked-pushed : (said : List (Option Word)) (o : Option (Option Word)) → marked (pushed said o) ≡ with_marked o (marked said)
unfolding firsts
marked-pushed said None = refl
marked-pushed [] (Some o) = ap Some (words-pushed [] o)
marked-pushed (x ∷ said) (Some o) = ap Some (words-pushed (x ∷ said) o)

-- whether a token is declared again depends only on whether its own name is declared
declared_again-same : (known same : List ℕ → Bool) (item : Item) → ((name : List ℕ) → option_map word_name (token_declared item) ≡ Some name → known name ≡ same name)
    → declared_again known item ≡ declared_again same item
declared_again-same known same (TokenDeclared word) h = λ i. if h word.name refl i then Some word else None
declared_again-same known same _ h = refl

overridden-added : (item : Item) (words : List Word) → words ++ overridden item ≡ with_overridden item words
overridden-added (Alternative head body) words = refl
overridden-added _ words = append-nil words

module _ (items : List Item) (item : Item) where
  -- of what the first item says that names it
  pub first-push : {A : Type 0} (named : Item → Option A) → slice_get (filter_map named (items ++ item ∷ [])) 0 ≡ with_first (named item) (slice_get (filter_map named items) 0)
  first-push {A} named = ap (λ xs. slice_get xs 0) (filter_map-pushed named items item) ∙ go (named item)
    where
      go : (o : Option A) → slice_get (pushed (filter_map named items) o) 0 ≡ with_first o (slice_get (filter_map named items) 0)
      go None = refl
      go (Some x) = slice_get-push (filter_map named items) x

  -- of what the last item says that names it
  pub last-push : {A : Type 0} (named : Item → Option A) → last_of (filter_map named (items ++ item ∷ [])) ≡ option_or (named item) (last_of (filter_map named items))
  last-push {A} named = ap last_of (filter_map-pushed named items item) ∙ go (named item)
    where
      go : (o : Option A) → last_of (pushed (filter_map named items) o) ≡ option_or o (last_of (filter_map named items))
      go None = refl
      go (Some x) =
          let xs = filter_map named items in
          let longer = length-append xs (x ∷ []) in
          let at : length (xs ++ x ∷ []) - 1 ≡ length xs = omega (arith, longer) in
          ap (slice_get (xs ++ x ∷ [])) at ∙ slice_get-get_or (xs ++ x ∷ []) (length xs) x (omega (arith, longer)) ∙ ap Some (get_or-append_seam xs x [] x)

  -- of what an item says after those before it: all of it, and the first for each name
  prefixes-push : {A : Type 0} (said : List Item × Item → Option A) → filter_map said (with_prefixes (items ++ item ∷ [])) ≡ pushed (filter_map said (with_prefixes items)) (said (items, item))
  prefixes-push said = ap (filter_map said) (with_prefixes-push items item) ∙ filter_map-pushed said (with_prefixes items) (items, item)

  firsts-push : {A : Type 0} (name_of : A → List ℕ) (said : List Item × Item → Option A)
      → firsts name_of (filter_map said (with_prefixes (items ++ item ∷ []))) ≡ put_first name_of (firsts name_of (filter_map said (with_prefixes items))) (said (items, item))
  firsts-push name_of said = ap (λ xs. firsts name_of (filter_map said xs)) (with_prefixes-push items item) ∙ firsts-filter_map-push name_of said (with_prefixes items) (items, item)

  -- of entries, if the first of each name counts
  pub entries-push : {V : Type 0} (said : Item → Option (List ℕ × V)) → firsts entry_name (filter_map said (items ++ item ∷ [])) ≡ with_entry (said item) (firsts entry_name (filter_map said items))
  entries-push said = firsts-filter_map-push entry_name said items item ∙ put_first-entry (firsts entry_name (filter_map said items)) (said item)

  pub entries_after-push : {V : Type 0} (said : List Item × Item → Option (List ℕ × V))
      → firsts entry_name (filter_map said (with_prefixes (items ++ item ∷ []))) ≡ with_entry (said (items, item)) (firsts entry_name (filter_map said (with_prefixes items)))
  entries_after-push said = firsts-push entry_name said ∙ put_first-entry (firsts entry_name (filter_map said (with_prefixes items))) (said (items, item))

  -- of a table of marked tokens
  pub marked-push : (said : Item → Option (Option Word)) → marked (filter_map said (items ++ item ∷ [])) ≡ with_marked (said item) (marked (filter_map said items))
  marked-push said = ap marked (filter_map-pushed said items item) ∙ marked-pushed (filter_map said items) (said item)

  token_words-push : token_words (items ++ item ∷ []) ≡ put_first word_name (token_words items) (token_named item)
  unfolding token_words
  token_words-push = firsts-filter_map-push word_name token_named items item

  declared_words-push : declared_words (items ++ item ∷ []) ≡ put_first word_name (declared_words items) (token_declared item)
  unfolding declared_words
  declared_words-push = firsts-filter_map-push word_name token_declared items item

  -- the rule that the item names, with the type of its actions
  abbrev named : Option RuleHead
  named = typed_rule (items, item)

  rule_heads-push : rule_heads (items ++ item ∷ []) ≡ put_first head_name (rule_heads items) named
  unfolding rule_heads
  rule_heads-push = firsts-push head_name typed_rule

  alternatives-push : alternatives (items ++ item ∷ []) ≡ pushed (alternatives items) (alternative (items, item))
  unfolding alternatives
  alternatives-push = prefixes-push alternative

  pub tokens-push : tokens (items ++ item ∷ []) ≡ with_name (option_map word_name (token_named item)) (tokens items)
  tokens-push = ap (map word_name) token_words-push ∙ names-put word_name (token_words items) (token_named item)

  pub spans-push : map (λ w. w.span) (token_words (items ++ item ∷ [])) ≡ with_span (token_named item) (tokens items) (map (λ w. w.span) (token_words items))
  spans-push = ap (map (λ w. w.span)) token_words-push ∙ go (token_named item)
    where
      words : List Word
      words = token_words items

      go : (o : Option Word) → map (λ w. w.span) (put_first word_name words o) ≡ with_span o (map word_name words) (map (λ w. w.span) words)
      go None = refl
      go (Some word) = map-pushed_unless (λ (w : Word). w.span) (is_named word_name word.name words) words word
          ∙ ap (λ b. pushed_unless b (map (λ w. w.span) words) word.span) (sym (has_name-names word_name word.name words))

  -- the declared tokens are among the tokens up to this item, with the indices that they have before it,
  declared-among : AreAmong (declared items) (tokens (items ++ item ∷ []))
  declared-among name h = ap (has_name name) tokens-push ∙ put_grows (option_map word_name (token_named item)) (tokens items) name (declared_token items name h)

  declared-stay : indices_of (declared items) (tokens (items ++ item ∷ [])) ≡ indices_of (declared items) (tokens items)
  declared-stay = ap (indices_of (declared items)) tokens-push ∙ indices-stay (declared items) (tokens items) (declared_token items) (option_map word_name (token_named item))

  -- and so is the one that it declares
  declared-there : (name : List ℕ) → option_map word_name (token_declared item) ≡ Some name → has_name name (tokens (items ++ item ∷ [])) ≡ true
  declared-there name e = declared_token (items ++ item ∷ []) name
      (ap (has_name name) (ap (map word_name) declared_words-push ∙ names-put word_name (declared_words items) (token_declared item))
      ∙ ap (λ o. has_name name (with_name o (declared items))) e ∙ put_there name (declared items))

  pub directives-push : indices_of (declared (items ++ item ∷ [])) (tokens (items ++ item ∷ []))
      ≡ with_directive (option_map word_name (token_declared item)) (with_name (option_map word_name (token_named item)) (tokens items)) (indices_of (declared items) (tokens items))
  directives-push =
      ap (λ ns. indices_of ns (tokens (items ++ item ∷ []))) (ap (map word_name) declared_words-push ∙ names-put word_name (declared_words items) (token_declared item))
      ∙ indices-put (declared items) (tokens (items ++ item ∷ [])) declared-among (option_map word_name (token_declared item)) declared-there
      ∙ (λ i. with_directive (option_map word_name (token_declared item)) (tokens-push i) (declared-stay i))

  -- a token is declared again if its index is noted already
  noted-before : (name : List ℕ) → option_map word_name (token_declared item) ≡ Some name → is_named word_name name (filter_map token_declared items)
      ≡ is_noted (with_name (option_map word_name (token_named item)) (tokens items)) (indices_of (declared items) (tokens items)) name
  unfolding declared_words
  noted-before name e =
      sym (is_named-firsts word_name name (filter_map token_declared items)) ∙ sym (has_name-names word_name name (declared_words items))
      ∙ sym (noted (declared items) (tokens (items ++ item ∷ [])) declared-among name (declared-there name e))
      ∙ (λ i. is_noted (tokens-push i) (declared-stay i) name)

  pub repeated_tokens-push : filter_map repeated_token (with_prefixes (items ++ item ∷ [])) ≡ pushed (filter_map repeated_token (with_prefixes items))
      (declared_again (is_noted (with_name (option_map word_name (token_named item)) (tokens items)) (indices_of (declared items) (tokens items))) item)
  repeated_tokens-push = prefixes-push repeated_token ∙ ap (pushed (filter_map repeated_token (with_prefixes items))) (declared_again-same _ _ item noted-before)

  pub overridden-push : flat_map overridden (items ++ item ∷ []) ≡ with_overridden item (flat_map overridden items)
  overridden-push = sym (flat_map_more overridden [] items item) ∙ overridden-added item (flat_map overridden items)

  -- a rule that isn't named yet has no production
  unlisted : (head : RuleHead) → is_named head_name (head_name head) (rule_heads items) ≡ false → rule_of (alternatives items) head ≡ new_rule head
  unlisted head unknown =
      ap (λ (ps : List ℕ). (head_name head, record { name = head.name; productions = ps; action_type = head.action_type }))
      (positions-none (λ a. bytes_eq name a.0) (alternatives items) (false_from_ne_true _ (λ h. true≢false
      (sym (alternative_named items name (list_any-map (bytes_eq name) (λ (a : List ℕ × Production). a.0) (alternatives items) ∙ h)) ∙ has_name-names head_name name (rule_heads items) ∙ unknown))))
    where
      name : List ℕ
      name = head_name head

  -- a rule that doesn't exist yet is named, before a production is listed
  rules-named : (o : Option RuleHead) → map (rule_of (alternatives items)) (put_first head_name (rule_heads items) o) ≡ with_rule o (rules items)
  rules-named None = refl
  rules-named (Some head) =
      go (is_named head_name (head_name head) (rule_heads items)) refl
      ∙ ap (λ b. pushed_unless b (rules items) (new_rule head)) (sym (list_any-map (λ (rule : List ℕ × Rule). bytes_eq (head_name head) rule.0) (rule_of (alternatives items)) (rule_heads items)))
    where
      go : (known : Bool) → is_named head_name (head_name head) (rule_heads items) ≡ known → map (rule_of (alternatives items)) (pushed_unless known (rule_heads items) head) ≡ pushed_unless known (rules items) (new_rule head)
      go true e = refl
      go false e = map-append (rule_of (alternatives items)) (rule_heads items) (head ∷ []) ∙ ap (λ rule. rules items ++ rule ∷ []) (unlisted head e)

  pub rules-push : rules (items ++ item ∷ []) ≡ with_listed (alternative (items, item)) (length (map (λ a. a.1) (alternatives items))) (with_rule named (rules items))
  rules-push =
      (λ i. map (rule_of (alternatives-push i)) (rule_heads-push i))
      ∙ rules-listed (alternatives items) (alternative (items, item)) (put_first head_name (rule_heads items) named)
      ∙ ap (with_listed (alternative (items, item)) (length (map (λ a. a.1) (alternatives items)))) (rules-named named)

  pub productions-push : map (λ a. a.1) (alternatives (items ++ item ∷ [])) ≡ pushed (map (λ a. a.1) (alternatives items)) (option_map (λ a. a.1) (alternative (items, item)))
  productions-push = ap (map (λ a. a.1)) alternatives-push ∙ map-pushed (λ a. a.1) (alternatives items) (alternative (items, item))

  pub production_rules-push : indices_of (production_names (items ++ item ∷ [])) (rule_names (items ++ item ∷ []))
      ≡ pushed (indices_of (production_names items) (rule_names items)) (option_map (λ a. index_of a.0 (map (λ rule. rule.0) (with_rule named (rules items)))) (alternative (items, item)))
  production_rules-push =
      ap (λ ns. indices_of ns names) (ap (map (λ a. a.0)) alternatives-push ∙ map-pushed (λ a. a.0) (alternatives items) (alternative (items, item)))
      ∙ map-pushed (λ n. index_of n names) (production_names items) (option_map (λ a. a.0) (alternative (items, item)))
      ∙ (λ i. pushed (stay i) (option_map (λ n. index_of n names) (option_map (λ a. a.0) (alternative (items, item)))))
      ∙ go (alternative (items, item))
    where
      heads : List RuleHead
      heads = put_first head_name (rule_heads items) named

      names : List (List ℕ)
      names = rule_names (items ++ item ∷ [])

      stay : indices_of (production_names items) names ≡ indices_of (production_names items) (rule_names items)
      stay = ap (indices_of (production_names items)) (ap (map head_name) rule_heads-push ∙ names-put head_name (rule_heads items) named)
          ∙ indices-stay (production_names items) (rule_names items) (alternative_named items) (option_map head_name named)

      names_are : names ≡ map (λ rule. rule.0) (with_rule named (rules items))
      names_are = ap (map head_name) rule_heads-push ∙ sym (map-map (λ (rule : List ℕ × Rule). rule.0) (rule_of (alternatives items)) heads)
          ∙ ap (map (λ rule. rule.0)) (rules-named named)

      go : (o : Option (List ℕ × Production)) → pushed (indices_of (production_names items) (rule_names items)) (option_map (λ n. index_of n names) (option_map (λ a. a.0) o))
          ≡ pushed (indices_of (production_names items) (rule_names items)) (option_map (λ a. index_of a.0 (map (λ rule. rule.0) (with_rule named (rules items)))) o)
      go None = refl
      go (Some a) = ap (λ ns. indices_of (production_names items) (rule_names items) ++ index_of a.0 ns ∷ []) names_are
