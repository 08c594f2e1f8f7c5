-- Names that aren't reserved for the rules that a numbering may add.
use Rattle.std.proofs.Common.{◌≡◌, ℕ, Bool, ◌||◌, true, false, List, refl, sym, ap, ◌∙◌}
use Rattle.std.specs.Str.{bytes_eq}
use Rattle.std.specs.Cmp.Lexicographic.{bytes_decides, nat_list_eq_equiv}
use Rattle.std.proofs.lemmas.Bool.{or_parts}
use Rattle.constructs.specs.Pieces.{starts}
use Rattle.cfgitems.specs.Building.{has_name}
use Rattle.cfgnumbers.specs.Numberable.{reserved_names}
use Rattle.cfgnumbers.specs.Numbered.{start_name, implicit_name, implicit_start_name}

-- names that begin differently are different
other_name : (begins : ℕ → Bool) (name other : List ℕ) → starts begins name ≡ true → starts begins other ≡ false → bytes_eq name other ≡ false
other_name begins name other one no_other = go (bytes_eq name other) refl
  where
    go : (b : Bool) → bytes_eq name other ≡ b → b ≡ false
    go true same = sym one ∙ ap (starts begins) ((bytes_decides name other).0 same) ∙ no_other
    go false e = refl

-- A name is free if it begins as none of the reserved names does: these begin with `^` or `~`.
pub name_free : (begins : ℕ → Bool) (name : List ℕ) → starts begins name ≡ true → begins 94 ≡ false → begins 126 ≡ false → has_name name reserved_names ≡ false
name_free begins name one no_caret no_tilde = λ i.
    other_name begins name start_name one no_caret i
    || (other_name begins name implicit_name one no_tilde i || (other_name begins name implicit_start_name one no_caret i || false))

-- none of the reserved names is a free one
pub free_apart : (name : List ℕ) → has_name name reserved_names ≡ false
    → (bytes_eq start_name name ≡ false) × (bytes_eq implicit_name name ≡ false) × (bytes_eq implicit_start_name name ≡ false)
free_apart name free =
    let first = or_parts (bytes_eq name start_name) _ free in
    let second = or_parts (bytes_eq name implicit_name) _ first.1 in
    let third = or_parts (bytes_eq name implicit_start_name) _ second.1 in (
      nat_list_eq_equiv.symm start_name name ∙ first.0,
      nat_list_eq_equiv.symm implicit_name name ∙ second.0,
      nat_list_eq_equiv.symm implicit_start_name name ∙ third.0,
    )
