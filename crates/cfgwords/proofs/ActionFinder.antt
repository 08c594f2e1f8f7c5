-- `action_of` finds the actions, and nothing else; each leaves a shorter rest.
use Rattle.std.proofs.Common.{◌≡◌, ℕ, List, ◌∷◌, ◌++◌, length, Option, Some, None, codes, refl, sym, ap, ap₂, ◌∙◌, arith, length-append, length-drop, take, drop, get_or, add-one, add-zero}
use Rattle.std.specs.Option.{option_and_then}
use Rattle.std.specs.Str.{trim, IsUtf8, IsCharBoundary}
use Rattle.std.proofs.lemmas.Str.{IsCharBoundary-before_ascii, IsUtf8-drop}
use Rattle.std.proofs.lemmas.List.{append-nil, drop-drop, get_or-drop}
use Rattle.std.proofs.lemmas.Option.{some_pair_parts}
use Rattle.constructs.specs.Pieces.{strip}
use Rattle.constructs.specs.WordKind.{IsFinder, IsShorter}
use Rattle.constructs.proofs.PiecesLemmas.{strip_sound, strip_only}
use Rattle.cfgwords.specs.Actions.{IsAction, split_balanced, trimmed_inside, action_of}
use Rattle.cfgwords.specs.Inner.Ends.{IsClosedAt}
use Rattle.cfgwords.proofs.Boundaries.{after_byte}
use Rattle.cfgwords.proofs.Balance.{after, split_after, split_ends, split_sound, Splits}

-- what is found in a text after its first brace
opened_sound : (text opened word rest : List ℕ) → text ≡ 123 ∷ opened → (o : Option (List ℕ × List ℕ)) → Splits 0 opened o
    → trimmed_inside o ≡ Some (word, rest) → IsAction text word rest
opened_sound text opened word rest e None s h = cc
opened_sound text opened word rest e (Some (inside, left)) (balanced, whole) h =
    let same = some_pair_parts _ _ _ _ h in
    record {
      inside = inside;
      balanced = balanced;
      whole = e ∙ ap (λ x. 123 ∷ x) whole ∙ ap (λ x. 123 ∷ (inside ++ 125 ∷ x)) same.1;
      trimmed = same.0;
    }

action_sound : (text word rest : List ℕ) (o : Option (List ℕ)) → strip (codes "{") text ≡ o
    → option_and_then (λ opened. trimmed_inside (split_balanced 0 opened)) o ≡ Some (word, rest) → IsAction text word rest
action_sound text word rest None e h = cc
action_sound text word rest (Some opened) e h =
    opened_sound text opened word rest (strip_sound (codes "{") text opened e) (split_balanced 0 opened) (split_sound 0 opened) h

action_only : (text word rest : List ℕ) → IsAction text word rest → action_of text ≡ Some (word, rest)
unfolding action_of
action_only text word rest is =
    ap (option_and_then (λ opened. trimmed_inside (split_balanced 0 opened))) (strip_only (codes "{") text (is.inside ++ 125 ∷ rest) is.whole)
    ∙ ap trimmed_inside (split_after 0 is.inside (125 ∷ rest) is.balanced ∙ ap (after is.inside) (split_ends rest) ∙ ap (λ x. Some (x, rest)) (append-nil is.inside))
    ∙ ap (λ x. Some (x, rest)) is.trimmed

pub action_finder : IsFinder IsAction action_of
unfolding action_of
action_finder = record { sound = λ text word rest e. action_sound text word rest (strip (codes "{") text) refl e; only = action_only }

-- an action leaves a shorter rest
pub action_shorter : IsShorter action_of
action_shorter = record {
  less = λ text word rest e.
      let is = action_finder.sound text word rest e in
      omega (arith, ap length is.whole, length-append is.inside (125 ∷ rest));
}

-- What the code finds after the opening brace, if n bytes precede the brace that balances it.
pub after_brace : (opened closed : List ℕ) (n : ℕ) → IsUtf8 opened → IsClosedAt opened n → closed ≡ drop n opened → IsCharBoundary closed 1
after_brace opened closed n utf8 h e =
    let brace : get_or (drop n opened) 0 0 ≡ 125 = rw get_or-drop (rw add-zero h.closes) in
    let boundary : IsCharBoundary opened n = IsCharBoundary-before_ascii opened n h.within (omega (arith, h.closes)) in
    rw e (after_byte (drop n opened) (IsUtf8-drop opened n utf8 boundary) (omega (arith, brace)) (omega (arith, h.within, length-drop n opened)))

pub action_found : (text opened bytes inside closed rest word : List ℕ) (n : ℕ) → strip (codes "{") text ≡ Some opened → bytes ≡ opened → IsClosedAt bytes n
    → inside ≡ take n opened → closed ≡ drop n opened → rest ≡ drop 1 closed → word ≡ trim inside → Some (word, rest) ≡ action_of text
unfolding action_of
action_found text opened bytes inside closed rest word n s e h prefix back last trimmed = sym (
    ap (option_and_then (λ opened. trimmed_inside (split_balanced 0 opened))) s
    ∙ ap trimmed_inside (ap (split_balanced 0) (sym e) ∙ h.splits)
    ∙ ap₂ (λ x y. Some (x, y)) (sym (trimmed ∙ ap trim (prefix ∙ ap (take n) (sym e)))) (sym (last ∙ ap (drop 1) (back ∙ ap (drop n) (sym e)) ∙ drop-drop 1 n bytes ∙ ap (λ k. drop k bytes) (add-one n)))
    )
