-- What holds of everything that rules give, construct by construct, and of everything that a whole file gives.
use Rattle.std.proofs.Common.{◌≡◌, ◌==◌, ℕ, suc, ◌-◌, ◌≤◌, Bool, true, false, List, [], ◌∷◌, ◌++◌, filter_map, length, slice_get, option_map, unwrap_or, Option, Some, None, All, codes, refl, sym, ap, subst, arith}
use Rattle.std.specs.Prelude.{IfSome}
use Rattle.std.specs.Str.{IsUtf8, IsCharBoundary}
use Rattle.std.specs.Option.{option_or}
use Rattle.std.proofs.lemmas.List.Elements.{All-append, All-head, All-nil, All-tail, All-weaker}
use Rattle.lemmas.proofs.Options.{All-filter_map}
use Rattle.constructs.specs.Construct.{repeat, while_test, Says}
use Rattle.constructs.proofs.Keeps.{Given, keeps, given_passes}
use Rattle.constructs.proofs.Yields.{Yields}
use Rattle.cfgwords.specs.declared.fault.FaultKind.TheVariants.{IllegalName, IllegalString, IncompleteRule, NonEmptyProduction, ProductionNotTerminated}
use Rattle.cfgwords.specs.Text.{offset_of}
use Rattle.cfgwords.specs.FileWords.{Token, word_at, word_of}
use Rattle.cfgwords.specs.TextSpans.{IsPiece}
use Rattle.cfgwords.proofs.Cuts.{IsCut, offset_cut, boundary_cut}
use Rattle.cfgwords.proofs.NameStarts.{name_begins}
use Rattle.cfgwords.proofs.WordOffsets.{IsWordAt, ComesAfter, IsTokenAfter, whole_cut, is_here, moves_on, name_at, token_is_at, word_passed, fault_is_at, blank_is_at, colon_text_is_at, action_is_at}
use Rattle.cfgitems.specs.Items.{Item, RuleHead}
use Rattle.cfgitems.specs.Syntax.{last_of}
use Rattle.cfgkinds.specs.declared.kind.YaccKind.{YaccKind}
use Rattle.cfgreader.specs.Here.{Turn}
use Rattle.cfgreader.specs.Rules.{Part, SymbolPart, PrecedencePart, EmptyPart, Parts, no_parts, with_parts, part_end, symbol_in, precedence_in, end_of, parts_sequence, precedence, empty, misplaced_empty, prefix_part, symbol_part, part, brace_fault, end_fault, another, finish, production_end, production, rule_type, rule_body, rule}
use Rattle.cfgreader.specs.FileGrammar.{programs, file}
use Rattle.cfgreader.proofs.Kept.{IsNameAt, IsItemAt, IsAt, KeepsOffsets}
use Rattle.cfgreader.proofs.KeptDeclarations.{declaration_kept, separator_fault_kept}

-- a part ends at a character boundary of the text, not before the offset where its production begins
abbrev IsPartAt : (whole from : List ℕ) → Part → Type 0
IsPartAt whole from (SymbolPart token) = IsTokenAfter whole from token
IsPartAt whole from (PrecedencePart token) = IsTokenAfter whole from token
IsPartAt whole from (EmptyPart end) = (offset_of (length whole) from ≤ end) × IsCharBoundary whole end

record ArePartsAt (whole from : List ℕ) (parts : Parts) : Type 0 where
  symbols : All (λ token. IsWordAt whole (word_of token)) parts.symbols
  precedences : All (λ token. IsWordAt whole (word_of token)) parts.precedences
  end : IfSome parts.end (λ end. (offset_of (length whole) from ≤ end) × IsCharBoundary whole end)

last_after : {A : Type 0} (x y : A) (ys : List A) → last_of (x ∷ y ∷ ys) ≡ last_of (y ∷ ys)
last_after x y ys =
    let at : length (x ∷ y ∷ ys) - 1 ≡ suc (length (y ∷ ys) - 1) = omega arith in
    ap (slice_get (x ∷ y ∷ ys)) at

module _ (whole : List ℕ) (utf8 : IsUtf8 whole) where
  abbrev len : ℕ
  len = length whole

  abbrev IsTokenAt : Token → Type 0
  IsTokenAt token = IsWordAt whole (word_of token)

  no_parts_at : (from : List ℕ) → ArePartsAt whole from no_parts
  no_parts_at from = record { symbols = All-nil IsTokenAt; precedences = All-nil IsTokenAt; end = tt }

  symbol_at : (from : List ℕ) (part : Part) → IsPartAt whole from part → IfSome (symbol_in part) IsTokenAt
  symbol_at from (SymbolPart token) at = at.piece
  symbol_at from _ at = tt

  precedence_at : (from : List ℕ) (part : Part) → IsPartAt whole from part → IfSome (precedence_in part) IsTokenAt
  precedence_at from (PrecedencePart token) at = at.piece
  precedence_at from _ at = tt

  -- the tokens of one kind of parts, after those before them
  tokens_at : (from : List ℕ) (said : Part → Option Token) → ((part : Part) → IsPartAt whole from part → IfSome (said part) IsTokenAt)
      → (before : List Token) (more : List Part) → All IsTokenAt before → All (IsPartAt whole from) more → All IsTokenAt (before ++ filter_map said more)
  tokens_at from said each before more at all = All-append IsTokenAt before (filter_map said more) at
      (All-filter_map IsTokenAt said more (All-weaker (IsPartAt whole from) (λ part. IfSome (said part) IsTokenAt) each more all))

  -- an end is at a character boundary of the text, not before the offset where its production begins
  abbrev IsEndAt : (from : List ℕ) → ℕ → Type 0
  IsEndAt from end = (offset_of (length whole) from ≤ end) × IsCharBoundary whole end

  part_end_at : (from : List ℕ) (part : Part) → IsPartAt whole from part → IsEndAt from (part_end part)
  part_end_at from (SymbolPart token) at = (at.after, at.ends_at)
  part_end_at from (PrecedencePart token) at = (at.after, at.ends_at)
  part_end_at from (EmptyPart end) at = at

  end_at : (from : List ℕ) (before : Option ℕ) (parts : List Part) → IfSome before (IsEndAt from) → All (IsPartAt whole from) parts
      → IfSome (option_or (option_map part_end (last_of parts)) before) (IsEndAt from)
  end_at from before [] there all = there
  end_at from before (part ∷ []) there all = part_end_at from part (All-head (IsPartAt whole from) part [] all)
  end_at from before (part ∷ next ∷ parts) there all =
      subst (λ o. IfSome (option_or (option_map part_end o) before) (IsEndAt from)) (sym (last_after part next parts))
      (end_at from before (next ∷ parts) there (All-tail (IsPartAt whole from) part (next ∷ parts) all))

  parts_at : (from : List ℕ) (before : Parts) (more : List Part) → ArePartsAt whole from before → All (IsPartAt whole from) more → ArePartsAt whole from (with_parts before more)
  parts_at from before more at all = record {
    symbols = tokens_at from symbol_in (symbol_at from) before.symbols more at.symbols all;
    precedences = tokens_at from precedence_in (precedence_at from) before.precedences more at.precedences all;
    end = end_at from before.end more at.end all;
  }

  -- a part that ends after an offset ends after each earlier one
  part_on : (from text : List ℕ) → ComesAfter whole from text → (part : Part) → IsPartAt whole text part → IsPartAt whole from part
  part_on from text t (SymbolPart token) at = record { piece = at.piece; after = omega (arith, offset_cut from text t.further, at.after); ends_at = at.ends_at }
  part_on from text t (PrecedencePart token) at = record { piece = at.piece; after = omega (arith, offset_cut from text t.further, at.after); ends_at = at.ends_at }
  part_on from text t (EmptyPart end) at = (omega (arith, offset_cut from text t.further, at.0), at.1)

  precedence_kept : (from : List ℕ) (Q : Part → Type 0) → ((part : Part) → IsPartAt whole from part → Q part) → KeepsOffsets whole (precedence len) from Q
  unfolding precedence
  precedence_kept from Q q = (
    blank_is_at whole utf8 true from,
    λ _. (
      λ text word rest t w.
          let it = token_is_at whole utf8 from text word rest t w in
          (it.0, (it.1.piece, (blank_is_at whole utf8 true from, λ _. q (PrecedencePart _) it.1))),
      fault_is_at whole utf8 IllegalString from,
    ),
  )

  empty_kept : (from text : List ℕ) → ComesAfter whole from text → (Q : Part → Type 0) → ((part : Part) → IsPartAt whole from part → Q part) → KeepsOffsets whole (empty len text) from Q
  unfolding empty
  empty_kept from text t Q q = λ after u. (
    blank_is_at whole utf8 true after,
    λ _. (
      q (EmptyPart (offset_of len after)) (omega (arith, offset_cut from after u.further), boundary_cut whole after utf8 (whole_cut whole utf8 from after u)),
      λ _ _. fault_is_at whole utf8 NonEmptyProduction from text t,
    ),
  )

  misplaced_empty_kept : (from text : List ℕ) → ComesAfter whole from text → (Q : Part → Type 0) → KeepsOffsets whole (misplaced_empty len text) from Q
  unfolding misplaced_empty
  misplaced_empty_kept from text t Q = (blank_is_at whole utf8 true from, λ _ _ _. fault_is_at whole utf8 NonEmptyProduction from text t)

  -- what a turn of a repetition of parts requires of a part
  abbrev KeepsParts : Turn Part → List ℕ → Type 1
  KeepsParts c from = (Q : Option Part → Type 0) → ((part : Part) → IsPartAt whole from part → Q (Some part)) → Q None → KeepsOffsets whole c from Q

  prefix_part_kept : (from : List ℕ) → KeepsParts (prefix_part len) from
  unfolding prefix_part
  prefix_part_kept from Q q none = λ text t. (
    word_passed whole utf8 (codes "%prec") refl text,
    precedence_kept text _ (λ part at. q part (part_on from text t part at)),
    (
      word_passed whole utf8 (codes "%empty") refl text,
      empty_kept text text (is_here whole utf8 from text t) _ (λ part at. q part (part_on from text t part at)),
      none,
    ),
  )

  symbol_part_kept : (from : List ℕ) → KeepsParts (symbol_part len) from
  unfolding symbol_part
  symbol_part_kept from Q q none = (
    λ text word rest t w.
        let it = token_is_at whole utf8 from text word rest t w in
        let here = q (SymbolPart _) it.1 in
        (it.0, (blank_is_at whole utf8 true from, λ _. ((it.1.piece, here), here))),
    none,
  )

  part_kept : (from : List ℕ) → KeepsParts (part len) from
  unfolding part
  part_kept from Q q none = λ text t. (
    word_passed whole utf8 (codes "%prec") refl text,
    precedence_kept text _ (λ part at. q part (part_on from text t part at)),
    (
      word_passed whole utf8 (codes "%empty") refl text,
      misplaced_empty_kept text text (is_here whole utf8 from text t) _,
      symbol_part_kept text Q (λ part at. q part (part_on from text t part at)) none,
    ),
  )

  sequence_kept : (c : Turn Part) (from : List ℕ) (before : Parts) → KeepsParts c from → ArePartsAt whole from before
      → (Q : Parts → Type 0) → ((parts : Parts) → ArePartsAt whole from parts → Q parts) → KeepsOffsets whole (parts_sequence c before) from Q
  unfolding parts_sequence
  sequence_kept c from before kept at Q q = (
    kept (λ _. Unit {0}) (λ _ _. tt) tt,
    λ parts givens. q _ (parts_at from before parts at (All-weaker (λ part. Given (ComesAfter whole) c from (Some part)) (IsPartAt whole from)
        (λ part. given_passes (ComesAfter whole) (IsItemAt whole) (IsAt whole) (is_here whole utf8) (moves_on whole utf8) c from (λ o. IfSome o (IsPartAt whole from)) (kept (λ o. IfSome o (IsPartAt whole from)) (λ part at. at) tt) (Some part)) parts givens)),
  )

  end_fault_kept : (has_action : Bool) (from text : List ℕ) → ComesAfter whole from text → IsAt whole (end_fault len has_action text)
  end_fault_kept true from text t = fault_is_at whole utf8 ProductionNotTerminated from text t
  end_fault_kept false from [] t = fault_is_at whole utf8 IncompleteRule from [] t
  end_fault_kept false from (b ∷ text) t = fault_is_at whole utf8 (brace_fault (b == 123)) from (b ∷ text) t

  finish_kept : (from : List ℕ) (has_action : Bool) (production : Item) → IsItemAt whole production → KeepsOffsets whole (finish len has_action production) from (λ _. Unit {0})
  unfolding finish another
  finish_kept from has_action production p =
      search (word_passed whole utf8 (codes "|") refl, word_passed whole utf8 (codes ";") refl, blank_is_at whole utf8, end_fault_kept has_action, p)

  -- from where a production begins to a later offset, and to where its last part ends
  piece_to : (from text : List ℕ) → IsCut whole from → ComesAfter whole from text → IsPiece whole (record { start = offset_of (length whole) from; end = offset_of (length whole) text })
  piece_to from text cut t = record {
    ordered = omega (arith, offset_cut from text t.further);
    begins_at = boundary_cut whole from utf8 cut;
    ends_at = boundary_cut whole text utf8 (whole_cut whole utf8 from text t);
  }

  parts_piece : (from text : List ℕ) (parts : Parts) → IsCut whole from → ComesAfter whole from text → ArePartsAt whole from parts
      → IsPiece whole (record { start = offset_of (length whole) from; end = end_of parts (offset_of (length whole) text) })
  parts_piece from text parts cut t at = go parts.end at.end
    where
      go : (o : Option ℕ) → IfSome o (λ end. (offset_of (length whole) from ≤ end) × IsCharBoundary whole end)
          → IsPiece whole (record { start = offset_of (length whole) from; end = unwrap_or o (offset_of (length whole) text) })
      go None h = piece_to from text cut t
      go (Some end) h = record { ordered = h.0; begins_at = boundary_cut whole from utf8 cut; ends_at = h.1 }

  production_end_kept : (from : List ℕ) (head : RuleHead) (parts : Parts) → IsCut whole from → IsNameAt whole head.name → ArePartsAt whole from parts
      → KeepsOffsets whole (production_end len head (offset_of len from) parts) from (λ _. Unit {0})
  unfolding production_end
  production_end_kept from head parts cut n at = λ after u. (
    λ text word rest t w.
        let it = action_is_at whole utf8 after text word rest t w in
        (it.0, (blank_is_at whole utf8 true after, λ _. finish_kept after true _ (n, at.symbols, at.precedences, it.1, piece_to from after cut u))),
    finish_kept after false _ (n, at.symbols, at.precedences, tt, parts_piece from after parts cut u at),
  )

  production_kept : (from : List ℕ) (head : RuleHead) → IsNameAt whole head.name → KeepsOffsets whole (production len head) from (λ _. Unit {0})
  unfolding production
  production_kept from head n = λ text t.
      sequence_kept (prefix_part len) text no_parts (prefix_part_kept text) (no_parts_at text) _
      (λ prefix prefix_at. sequence_kept (part len) text prefix (part_kept text) prefix_at _
      (λ parts at. production_end_kept text head parts (whole_cut whole utf8 from text t) n at))

  rule_type_kept : (from : List ℕ) (Q : Option (List ℕ) → Type 0) → ((o : Option (List ℕ)) → Q o) → KeepsOffsets whole (rule_type len) from Q
  unfolding rule_type
  rule_type_kept from Q q = search (blank_is_at whole utf8, word_passed whole utf8 (codes "->") refl, fault_is_at whole utf8, colon_text_is_at whole utf8, q) depth 9

  rule_body_kept : (from : List ℕ) (head : RuleHead) → IsNameAt whole head.name → (Q : Unit {0} → Type 0) → Q tt → KeepsOffsets whole (rule_body len head) from Q
  unfolding rule_body repeat
  rule_body_kept from head n Q q = search (blank_is_at whole utf8, word_passed whole utf8 (codes ":") refl, fault_is_at whole utf8, production_kept, n, q) depth 9

  rule_kept : (from : List ℕ) (kind : YaccKind) (Q : Unit {0} → Type 0) → Q tt → KeepsOffsets whole (rule len kind) from Q
  unfolding rule
  rule_kept from kind Q q = (
    λ text word rest t w.
        let it = name_at whole utf8 from text word rest t w in
        let name : IsNameAt whole (word_at len text word rest) = (it.1, name_begins text word rest w) in
        let head : Option (List ℕ) → RuleHead = λ (action_type : Option (List ℕ)). record { name = word_at len text word rest; action_type = action_type } in
        let body : (action_type : Option (List ℕ)) → IsNameAt whole (word_at len text word rest) × KeepsOffsets whole (rule_body len (head action_type)) from Q =
        λ (action_type : Option (List ℕ)). (name, rule_body_kept from (head action_type) name Q q) in
        (it.0, (it.1, (rule_type_kept from (λ action_type. IsNameAt whole (word_at len text word rest) × KeepsOffsets whole (rule_body len (head action_type)) from Q) body, body None))),
    fault_is_at whole utf8 IllegalName from,
  )

  programs_kept : (from : List ℕ) (Q : Unit {0} → Type 0) → Q tt → KeepsOffsets whole (programs len) from Q
  unfolding programs
  programs_kept from Q q = (word_passed whole utf8 (codes "%%") refl from, (blank_is_at whole utf8 true from, λ _ _ _. (tt, q)), q)

  file_keeps : (from : List ℕ) (kind : YaccKind) → KeepsOffsets whole (file kind len) from (λ _. Unit {0})
  unfolding file while_test repeat
  file_keeps from kind = search (word_passed whole utf8 (codes "%%") refl, blank_is_at whole utf8, separator_fault_kept whole utf8, declaration_kept whole utf8, rule_kept, programs_kept) depth 8

  pub file_kept : (from : List ℕ) (kind : YaccKind) → Yields (ComesAfter whole from) (IsItemAt whole) (IsAt whole) (λ _. Unit {0}) (Says (file kind len))
  file_kept from kind = keeps (ComesAfter whole) (IsItemAt whole) (IsAt whole) (is_here whole utf8) (moves_on whole utf8) (file kind len) from (λ _. Unit {0}) (file_keeps from kind)
