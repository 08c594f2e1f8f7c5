-- Words name kinds of findings one to one.
use Rattle.std.proofs.Common.{◌≡◌, ℕ, Bool, true, false, cond, List, [], ◌∷◌, Some, None, refl, sym, ap, ◌∙◌, arith}
use Rattle.std.specs.Prelude.{◌↔◌}
use Rattle.std.specs.List.{find}
use Rattle.std.specs.Str.{bytes_eq}
use Rattle.std.proofs.lemmas.Slice.Eq.{bytes_eq-Decides}
use Rattle.finding_kinds.specs.declared.finding_kind.FindingKind.{FindingKind}
use Rattle.finding_kinds.specs.FindingKinds.{finding_named, kinds, word_of}

pub word_names : (kind : FindingKind) → finding_named (word_of kind) ≡ Some kind
word_names kind = grind arith

-- the first of some kinds with this word has this word
named_by_word : (word : List ℕ) (kind : FindingKind) (among : List FindingKind) → find (λ kind. bytes_eq (word_of kind) word) among ≡ Some kind → word ≡ word_of kind
named_by_word word kind [] is = let no : None ≡ Some kind = is in cc
named_by_word word kind (named ∷ more) is = go (named_by_word word kind more) (bytes_eq (word_of named) word) refl is
  where
    go : (find (λ kind. bytes_eq (word_of kind) word) more ≡ Some kind → word ≡ word_of kind) → (same : Bool) → bytes_eq (word_of named) word ≡ same → cond same (Some named) (find (λ kind. bytes_eq (word_of kind) word) more) ≡ Some kind → word ≡ word_of kind
    go rest true tested is = let this : named ≡ kind = cc in sym ((bytes_eq-Decides (word_of named) word).0 tested) ∙ ap word_of this
    go rest false _ is = rest is

pub words_name_kinds : (word : List ℕ) (kind : FindingKind) → (finding_named word ≡ Some kind) ↔ (word ≡ word_of kind)
words_name_kinds word kind = (named_by_word word kind kinds, λ is. ap finding_named is ∙ word_names kind)
