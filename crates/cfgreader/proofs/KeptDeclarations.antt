-- What holds of everything that declarations give, construct by construct.
use Rattle.std.proofs.Common.{◌≡◌, ℕ, true, false, List, [], ◌∷◌, length, map, codes, refl}
use Rattle.std.specs.Str.{IsUtf8}
use Rattle.constructs.specs.Leaves.{Leaves, One}
use Rattle.constructs.specs.Construct.{Construct, ends, repeat, while_test}
use Rattle.cfgbase.specs.declared.span.Span.{Span}
use Rattle.cfgwords.specs.declared.fault.Fault.{Fault}
use Rattle.cfgwords.specs.declared.fault.FaultKind.TheVariants.{IllegalInteger, IllegalString, PrematureEnd, UnknownDeclaration, UnknownSymbol}
use Rattle.cfgwords.specs.FileWords.{Word}
use Rattle.cfgwords.specs.TextSpans.{IsPiece}
use Rattle.cfgwords.specs.Text.{offset_of}
use Rattle.cfgwords.proofs.Cuts.{boundary_cut}
use Rattle.cfgwords.proofs.WordOffsets.{is_ascii_word, IsWordAt, ComesAfter, name_at, token_is_at, word_passed, fault_is_at, blank_is_at, line_rest_is_at, epp_string_is_at, colon_text_is_at, piece_after}
use Rattle.cfgitems.specs.declared.precedence.AssocKind.{AssocKind}
use Rattle.cfgitems.specs.declared.precedence.AssocKind.TheVariants.{Left, Right, Nonassoc}
use Rattle.cfgitems.specs.Items.{Item, ExpectDeclared, ExpectReduceReduceDeclared, AvoidInsertBegun, AvoidInsertDeclared, ImplicitTokensBegun, ImplicitTokenDeclared, PrecedenceDeclared}
use Rattle.cfgkinds.specs.declared.kind.YaccKind.{YaccKind}
use Rattle.cfgkinds.specs.declared.kind.YaccKind.TheVariants.{Original, Grmtools, Eco}
use Rattle.cfgreader.specs.Keywords.{Keyword, one_of}
use Rattle.cfgreader.specs.Here.{Strict, Turn, line_blank}
use Rattle.cfgreader.specs.Declarations.{declares, listed_token, list_declaration, start_declaration, action_type_declaration, printed_token, printed_form, epp_declaration, number_declaration, unused_symbol, parse_param_declaration, parse_generics_declaration, line_token, level_token, precedence_declaration, marking_declaration, own_declarations, declaration, separator_fault}
use Rattle.cfgreader.proofs.Kept.{IsItemAt, IsAt, KeepsOffsets, name_goes, name_is, integer_goes, integer_is}

module _ (whole : List ℕ) (utf8 : IsUtf8 whole) where
  abbrev len : ℕ
  len = length whole

  listed_token_kept : (from : List ℕ) (Q : Unit {0} → Type 0) → Q tt → KeepsOffsets whole (listed_token len) from Q
  unfolding listed_token
  listed_token_kept from Q q = (
    λ text word rest t w. let it = token_is_at whole utf8 from text word rest t w in (it.0, (it.1.piece, search (blank_is_at whole utf8, q))),
    fault_is_at whole utf8 IllegalString from,
  )

  list_declaration_kept : (from : List ℕ) (symbol : Strict (Unit {0})) → KeepsOffsets whole symbol from (λ _. Unit {0}) → KeepsOffsets whole (list_declaration len symbol) from (λ _. Unit {0})
  unfolding list_declaration while_test repeat
  list_declaration_kept from symbol kept = (blank_is_at whole utf8 false from, λ _. ((kept, tt), λ _ _. tt))

  start_declaration_kept : (from : List ℕ) (Q : Unit {0} → Type 0) → Q tt → KeepsOffsets whole (start_declaration len) from Q
  unfolding start_declaration
  start_declaration_kept from Q q = search (blank_is_at whole utf8, fault_is_at whole utf8, name_goes whole utf8, name_is whole utf8, q)

  action_type_declaration_kept : (from : List ℕ) (Q : Unit {0} → Type 0) → Q tt → KeepsOffsets whole (action_type_declaration len) from Q
  unfolding action_type_declaration
  action_type_declaration_kept from Q q = (
    blank_is_at whole utf8 false from,
    λ _ text t. (
      line_rest_is_at whole utf8 text,
      λ line rest u. (piece_after whole utf8 text rest u, (blank_is_at whole utf8 true from, λ _. q)),
    ),
  )

  printed_token_kept : (from : List ℕ) (Q : Word → Type 0) → ((word : Word) → IsWordAt whole word → Q word) → KeepsOffsets whole (printed_token len) from Q
  unfolding printed_token
  printed_token_kept from Q q = λ here _. (
    λ text word rest t w.
        let it = token_is_at whole utf8 here text word rest t w in
        (it.0, q _ (record { ordered = it.1.after; begins_at = boundary_cut whole here utf8 t.origin; ends_at = it.1.ends_at })),
    fault_is_at whole utf8 IllegalString here,
  )

  printed_form_kept : (from : List ℕ) (Q : List ℕ × Span → Type 0) → ((form : List ℕ × Span) → IsPiece whole form.1 → Q form) → KeepsOffsets whole (printed_form len) from Q
  unfolding printed_form
  printed_form_kept from Q q = λ text t. (
    epp_string_is_at whole utf8 text,
    λ form rest u. q (form, record { start = offset_of len text; end = offset_of len rest }) (piece_after whole utf8 text rest u),
  )

  epp_declaration_kept : (from : List ℕ) (Q : Unit {0} → Type 0) → Q tt → KeepsOffsets whole (epp_declaration len) from Q
  unfolding epp_declaration
  epp_declaration_kept from Q q = (
    blank_is_at whole utf8 false from,
    λ _. printed_token_kept from _ (λ token at. (
      blank_is_at whole utf8 false from,
      λ _. printed_form_kept from _ (λ form piece. ((at, piece), (blank_is_at whole utf8 true from, λ _. q))),
    )),
  )

  number_declaration_kept : (from : List ℕ) (item : ℕ × Span → Item) → ((number : ℕ × Span) → IsPiece whole number.1 → IsItemAt whole (item number))
      → KeepsOffsets whole (number_declaration len item) from (λ _. Unit {0})
  unfolding number_declaration
  number_declaration_kept from item at = (
    blank_is_at whole utf8 false from,
    λ _. (
      λ text number rest t w. (integer_goes whole utf8 from text number rest t w, (at _ (integer_is whole utf8 from text number rest t w), (blank_is_at whole utf8 true from, λ _. tt))),
      fault_is_at whole utf8 IllegalInteger from,
    ),
  )

  unused_symbol_kept : (from : List ℕ) (Q : Unit {0} → Type 0) → Q tt → KeepsOffsets whole (unused_symbol len) from Q
  unfolding unused_symbol
  unused_symbol_kept from Q q = (
    λ text word rest t w. let it = name_at whole utf8 from text word rest t w in (it.0, (it.1, (blank_is_at whole utf8 true from, λ _. q))),
    (
      λ text word rest t w. let it = token_is_at whole utf8 from text word rest t w in (it.0, (it.1.piece, (blank_is_at whole utf8 true from, λ _. q))),
      fault_is_at whole utf8 UnknownSymbol from,
    ),
  )

  parse_param_declaration_kept : (from : List ℕ) (Q : Unit {0} → Type 0) → Q tt → KeepsOffsets whole (parse_param_declaration len) from Q
  unfolding parse_param_declaration
  parse_param_declaration_kept from Q q =
      search (blank_is_at whole utf8, colon_text_is_at whole utf8, word_passed whole utf8 (codes ":") refl, fault_is_at whole utf8, line_rest_is_at whole utf8, q) depth 9

  parse_generics_declaration_kept : (from : List ℕ) (Q : Unit {0} → Type 0) → Q tt → KeepsOffsets whole (parse_generics_declaration len) from Q
  unfolding parse_generics_declaration
  parse_generics_declaration_kept from Q q = search (blank_is_at whole utf8, line_rest_is_at whole utf8, q)

  -- a token of a list, if its item has the property for every word that is a piece of the text
  line_token_kept : (from : List ℕ) (item : Word → Item) → ((word : Word) → IsWordAt whole word → IsItemAt whole (item word))
      → KeepsOffsets whole (line_token len item) from (λ _. Unit {0})
  unfolding line_token line_blank
  line_token_kept from item at = (
    λ text word rest t w.
        let it = token_is_at whole utf8 from text word rest t w in
        (it.0, (at _ it.1.piece, λ after u. (blank_is_at whole utf8 true after, λ _ _ _. tt))),
    fault_is_at whole utf8 IllegalString from,
  )

  precedence_declaration_kept : (from : List ℕ) (kind : AssocKind) → KeepsOffsets whole (precedence_declaration len kind) from (λ _. Unit {0})
  unfolding precedence_declaration level_token repeat
  precedence_declaration_kept from kind = (
    blank_is_at whole utf8 false from,
    λ _. ((line_token_kept from (PrecedenceDeclared kind) (λ word h. h), tt), λ _ _. (tt, tt)),
  )

  marking_declaration_kept : (from : List ℕ) (begins : Item) (item : Word → Item) → IsItemAt whole begins → ((word : Word) → IsWordAt whole word → IsItemAt whole (item word))
      → KeepsOffsets whole (marking_declaration len begins item) from (λ _. Unit {0})
  unfolding marking_declaration repeat
  marking_declaration_kept from begins item b at = (
    (blank_is_at whole utf8 false from, λ _. (b, (line_token_kept from item at, λ _ _. tt))),
    (b, tt),
  )

  -- an ASCII keyword followed by a construct that keeps the property
  record Kept (from : List ℕ) : Type 1 where
    pub keyword : Keyword
    pub ascii : is_ascii_word (keyword.first ∷ keyword.others) ≡ true
    pub follows : KeepsOffsets whole keyword.follows.construct from (λ _. Unit {0})

  abbrev kept : (from : List ℕ) (name : List ℕ) → is_ascii_word (37 ∷ name) ≡ true → {l : Leaves} (c : Construct Item Fault l (One (Unit {0})))
      → KeepsOffsets whole c from (λ _. Unit {0}) → Kept from
  kept from name ascii c keeps = record { keyword = declares name c; ascii = ascii; follows = keeps }

  -- a table keeps the property if each of its rows does
  one_of_kept : (from : List ℕ) (table : List (Kept from)) (c : Turn (Unit {0})) → KeepsOffsets whole c from (λ _. Unit {0})
      → KeepsOffsets whole (one_of (map (λ sequence. sequence.keyword) table) c) from (λ _. Unit {0})
  one_of_kept from [] c keeps = keeps
  one_of_kept from (sequence ∷ table) c keeps = (word_passed whole utf8 (sequence.keyword.first ∷ sequence.keyword.others) sequence.ascii from, sequence.follows, one_of_kept from table c keeps)

  -- nothing is required of a value
  abbrev any : Unit {0} → Type 0
  any _ = Unit {0}

  own_kept : (from : List ℕ) (kind : YaccKind) → KeepsOffsets whole (one_of (own_declarations len kind) ends) from (λ _. Unit {0})
  own_kept from (Original actions) = one_of_kept from (kept from (codes "actiontype") refl (action_type_declaration len) (action_type_declaration_kept from any tt) ∷ []) ends tt
  own_kept from Grmtools = tt
  own_kept from Eco = one_of_kept from (
      kept from (codes "implicit_tokens") refl (marking_declaration len ImplicitTokensBegun ImplicitTokenDeclared)
      (marking_declaration_kept from ImplicitTokensBegun ImplicitTokenDeclared tt (λ word h. h)) ∷ []
      ) ends tt

  pub declaration_kept : (from : List ℕ) (kind : YaccKind) → KeepsOffsets whole (declaration len kind) from (λ _. Unit {0})
  unfolding declaration
  declaration_kept from kind = one_of_kept from (
      kept from (codes "token") refl (list_declaration len (listed_token len)) (list_declaration_kept from (listed_token len) (listed_token_kept from any tt))
      ∷ kept from (codes "start") refl (start_declaration len) (start_declaration_kept from any tt)
      ∷ kept from (codes "epp") refl (epp_declaration len) (epp_declaration_kept from any tt)
      ∷ kept from (codes "avoid_insert") refl (marking_declaration len AvoidInsertBegun AvoidInsertDeclared)
      (marking_declaration_kept from AvoidInsertBegun AvoidInsertDeclared tt (λ word h. h))
      ∷ kept from (codes "left") refl (precedence_declaration len Left) (precedence_declaration_kept from Left)
      ∷ kept from (codes "right") refl (precedence_declaration len Right) (precedence_declaration_kept from Right)
      ∷ kept from (codes "nonassoc") refl (precedence_declaration len Nonassoc) (precedence_declaration_kept from Nonassoc)
      ∷ kept from (codes "expect-rr") refl (number_declaration len ExpectReduceReduceDeclared) (number_declaration_kept from ExpectReduceReduceDeclared (λ number h. h))
      ∷ kept from (codes "expect-unused") refl (list_declaration len (unused_symbol len)) (list_declaration_kept from (unused_symbol len) (unused_symbol_kept from any tt))
      ∷ kept from (codes "expect") refl (number_declaration len ExpectDeclared) (number_declaration_kept from ExpectDeclared (λ number h. h))
      ∷ kept from (codes "parse-param") refl (parse_param_declaration len) (parse_param_declaration_kept from any tt)
      ∷ kept from (codes "parse-generics") refl (parse_generics_declaration len) (parse_generics_declaration_kept from any tt)
      ∷ []
      ) (one_of (own_declarations len kind) ends) (own_kept from kind)

  pub separator_fault_kept : (from text : List ℕ) → ComesAfter whole from text → IsAt whole (separator_fault len text)
  separator_fault_kept from [] t = fault_is_at whole utf8 PrematureEnd from [] t
  separator_fault_kept from (b ∷ text) t = fault_is_at whole utf8 UnknownDeclaration from (b ∷ text) t
