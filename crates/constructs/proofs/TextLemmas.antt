-- What std's `strip_prefix` and `split_once` say about a text, in terms of Pieces.
use Rattle.std.proofs.Common.{◌≡◌, ℕ, ◌<◌, ◌≤◌, List, ◌++◌, length, drop, Option, Some, None, Bor, MatchOption, refl, ap, ap₂, sym, ◌∙◌, ◌⊎◌, inl, inr, arith, take-append-drop, drop_at, length-append, append_assoc}
use Rattle.std.proofs.lemmas.Bool.{cases_lt}
use Rattle.std.specs.Option.{option_map}
use Rattle.std.specs.Str.Pattern.{FindsText, FindsTextPrefix, StripsPrefix, SplitsAroundMatch}
use Rattle.constructs.specs.Pieces.{strip, IsFirst, split_first}
use Rattle.constructs.proofs.PiecesLemmas.{strip_only, strip_misses, split_first_only, split_first_misses}

-- `strip_prefix` strips the word
pub strip_prefix_strip : (word text : List ℕ) (r : Option (Bor (List ℕ)))
    → MatchOption r (FindsTextPrefix word text None) (λ x. StripsPrefix (FindsTextPrefix word) text x.now)
    → option_map (λ x. x.now) r ≡ strip word text
strip_prefix_strip word text None h = sym (strip_misses word text h)
strip_prefix_strip word text (Some x) h = sym (strip_only word text x.now (h.1.1 ∙ ap (λ rest. word ++ rest) (sym h.2)))

-- a needle after a prefix begins where the prefix ends
pub drop_prefix : (text prefix needle rest : List ℕ) → text ≡ prefix ++ needle ++ rest → drop (length prefix) text ≡ needle ++ rest
drop_prefix text prefix needle rest e = ap (drop (length prefix)) (e ∙ append_assoc prefix needle rest) ∙ drop_at prefix (needle ++ rest) _ refl

-- the parts that `split_once` gives: the needle between them is the first
pub IsFirst-around : (needle text body rest : List ℕ) → SplitsAroundMatch (FindsText needle) text body rest → IsFirst needle text body rest
IsFirst-around needle text body rest h = record {
  whole = sym (take-append-drop h.0 text) ∙ ap₂ (λ x y. x ++ y) (sym h.3) (h.2.1.split ∙ ap (λ y. needle ++ y) (sym h.4)) ∙ sym (append_assoc body needle rest);
  first = λ x y e. first x y e (cases_lt (length x) h.0);
}
  where
    first : (x y : List ℕ) → text ≡ x ++ needle ++ y → (length x < h.0) ⊎ (h.0 ≤ length x) → length body ≤ length x
    first x y e (inl less) = absurd (h.2.0 (length x) less y (drop_prefix text x needle y e))
    first x y e (inr more) = omega (arith, h.6)

-- `split_once` splits at the first needle
pub split_once_split_first : (needle text : List ℕ) (r : Option (Bor (List ℕ) × Bor (List ℕ)))
    → MatchOption r (FindsText needle text None) (λ x. SplitsAroundMatch (FindsText needle) text x.0.now x.1.now)
    → option_map (λ x. (x.0.now, x.1.now)) r ≡ split_first needle text
split_once_split_first needle text None h = sym (split_first_misses needle text (λ x y e.
    h (length x) (omega (arith, ap length e, length-append (x ++ needle) y, length-append x needle)) y (drop_prefix text x needle y e)))
split_once_split_first needle text (Some x) h = sym (split_first_only needle text x.0.now x.1.now (IsFirst-around needle text x.0.now x.1.now h))
