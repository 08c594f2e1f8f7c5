-- `token_of` finds the tokens, and nothing else.
use Rattle.std.proofs.Common.{◌≡◌, ℕ, ◌+◌, ◌<◌, Bool, true, false, cond, List, [], ◌∷◌, length, Option, Some, None, refl, ap, ap₂, sym, ◌∙◌, arith}
use Rattle.std.specs.Prelude.{if◌then◌else◌}
use Rattle.std.proofs.lemmas.Bool.Decides.{nat_tests}
use Rattle.std.proofs.lemmas.Option.{some_pair_parts}
use Rattle.constructs.specs.Pieces.{starts}
use Rattle.constructs.specs.WordKind.{IsFinder, IsShorter}
use Rattle.cfgwords.specs.declared.bytes.ByteClass.TheVariants as bytes
use Rattle.cfgwords.specs.Bytes.{holds}
use Rattle.cfgwords.specs.FileWords.{TokenText, IsToken, identifier_of, quoted_of, token_text, token_of}
use Rattle.cfgwords.proofs.NameFinders.{identifier_finder, identifier_length, identifier_shorter}
use Rattle.cfgwords.proofs.QuotedFinder.{quoted_finder, quoted_length, quoted_shorter}

-- a token's text and the rest come from a name
token_parts : (quoted : Bool) (o : Option (List ℕ × List ℕ)) (token : TokenText) (rest : List ℕ) → token_text quoted o ≡ Some (token, rest)
    → (token.quoted ≡ quoted) × (o ≡ Some (token.name, rest))
token_parts quoted None token rest e = cc
token_parts quoted (Some (name, mid)) token rest e =
    let same = some_pair_parts _ _ _ _ e in
    (sym (ap (λ (x : TokenText). x.quoted) same.0), ap₂ (λ x y. Some (x, y)) (ap (λ (x : TokenText). x.name) same.0) same.1)

-- what begins with a quote doesn't begin with a letter
quote_is_no_letter : (text : List ℕ) → starts (holds bytes.IdentifierStart) text ≡ true → starts (holds bytes.Quote) text ≡ false
quote_is_no_letter [] e = refl
quote_is_no_letter (b ∷ text) e = grind (arith, nat_tests)

-- what `token_of` reads, by the first byte
token_quoted : (text : List ℕ) → starts (holds bytes.Quote) text ≡ true → token_of text ≡ token_text true (quoted_of text)
unfolding token_of
token_quoted text e = ap (λ t. cond t (token_text true (quoted_of text)) (token_text false (identifier_of text))) e

token_bare : (text : List ℕ) → starts (holds bytes.Quote) text ≡ false → token_of text ≡ token_text false (identifier_of text)
unfolding token_of
token_bare text e = ap (λ t. cond t (token_text true (quoted_of text)) (token_text false (identifier_of text))) e

-- if a token is found, whether it is quoted says which kind it is
found_quoted : (text name rest : List ℕ) → token_of text ≡ Some (record { name = name; quoted = true }, rest) → quoted_of text ≡ Some (name, rest)
found_quoted text name rest e = go (starts (holds bytes.Quote) text) refl
  where
    go : (t : Bool) → starts (holds bytes.Quote) text ≡ t → quoted_of text ≡ Some (name, rest)
    go true h = (token_parts true (quoted_of text) (record { name = name; quoted = true }) rest (sym (token_quoted text h) ∙ e)).1
    go false h =
        let other = (token_parts false (identifier_of text) (record { name = name; quoted = true }) rest (sym (token_bare text h) ∙ e)).0 in cc

found_bare : (text name rest : List ℕ) → token_of text ≡ Some (record { name = name; quoted = false }, rest) → identifier_of text ≡ Some (name, rest)
found_bare text name rest e = go (starts (holds bytes.Quote) text) refl
  where
    go : (t : Bool) → starts (holds bytes.Quote) text ≡ t → identifier_of text ≡ Some (name, rest)
    go true h =
        let other = (token_parts true (quoted_of text) (record { name = name; quoted = false }) rest (sym (token_quoted text h) ∙ e)).0 in cc
    go false h = (token_parts false (identifier_of text) (record { name = name; quoted = false }) rest (sym (token_bare text h) ∙ e)).1

-- what `token_of` finds is a token
token_sound : (text : List ℕ) (name : List ℕ) (quoted : Bool) (rest : List ℕ) → token_of text ≡ Some (record { name = name; quoted = quoted }, rest)
    → IsToken text (record { name = name; quoted = quoted }) rest
token_sound text name true rest e = quoted_finder.sound text name rest (found_quoted text name rest e)
token_sound text name false rest e = identifier_finder.sound text name rest (found_bare text name rest e)

-- a token is found
token_only : (text : List ℕ) (name : List ℕ) (quoted : Bool) (rest : List ℕ) → IsToken text (record { name = name; quoted = quoted }) rest
    → token_of text ≡ Some (record { name = name; quoted = quoted }, rest)
token_only text name true rest q =
    token_quoted text (ap (starts (holds bytes.Quote)) q.whole ∙ q.is_quote) ∙ ap (token_text true) (quoted_finder.only text name rest q)
token_only text name false rest r =
    token_bare text (quote_is_no_letter text r.begins) ∙ ap (token_text false) (identifier_finder.only text name rest r)

pub token_finder : IsFinder IsToken token_of
token_finder = record {
  sound = λ text token rest e. token_sound text token.name token.quoted rest e;
  only = λ text token rest h. token_only text token.name token.quoted rest h;
}

-- the length of a token's text, with its quotes
found_length : (text name : List ℕ) (quoted : Bool) (rest : List ℕ) → token_of text ≡ Some (record { name = name; quoted = quoted }, rest)
    → length text ≡ (if quoted then 2 else 0) + length name + length rest
found_length text name true rest e = quoted_length text name rest (found_quoted text name rest e)
found_length text name false rest e = let h = identifier_length text name rest (found_bare text name rest e) in omega arith

pub token_length : (text : List ℕ) (token : TokenText) (rest : List ℕ) → token_of text ≡ Some (token, rest)
    → length text ≡ (if token.quoted then 2 else 0) + length token.name + length rest
token_length text token rest e = found_length text token.name token.quoted rest e

found_shorter : (text name : List ℕ) (quoted : Bool) (rest : List ℕ) → token_of text ≡ Some (record { name = name; quoted = quoted }, rest)
    → length rest < length text
found_shorter text name true rest e = quoted_shorter.less text name rest (found_quoted text name rest e)
found_shorter text name false rest e = identifier_shorter.less text name rest (found_bare text name rest e)

-- a token leaves a shorter rest
pub token_shorter : IsShorter token_of
token_shorter = record { less = λ text token rest e. found_shorter text token.name token.quoted rest e }
