-- `quoted_of` finds the quoted tokens, and nothing else.
use Rattle.std.proofs.Common.{◌≡◌, ℕ, ◌+◌, cond, not, ◌&&◌, ◌==◌, List, [], ◌∷◌, ◌++◌, length, Some, None, refl, ap, ap₂, sym, ◌∙◌, arith, eqb-true, eq-eqb, length-append}
use Rattle.std.proofs.lemmas.Bool.{and_parts, not-true}
use Rattle.std.proofs.lemmas.Option.{some_pair_parts}
use Rattle.lemmas.proofs.Options.{chosen}
use Rattle.constructs.specs.Pieces.{IsRun, run}
use Rattle.constructs.proofs.PiecesLemmas.{IsRun-run, run_only}
use Rattle.constructs.specs.WordKind.{IsFinder, IsShorter}
use Rattle.cfgwords.specs.declared.bytes.ByteClass.TheVariants as bytes
use Rattle.cfgwords.specs.Bytes.{holds}
use Rattle.cfgwords.specs.FileWords.{is_inside, IsQuoted, closed, quoted_of}

-- the parts of a quoted token, split at the closing quote
closed_parts : (quote first : ℕ) (others tail word rest : List ℕ) → closed quote first (others, tail) ≡ Some (word, rest)
    → (word ≡ first ∷ others) × (tail ≡ quote ∷ rest)
closed_parts quote first others [] word rest e = cc
closed_parts quote first others (b ∷ mid) word rest e =
    let c = chosen (b == quote) (Some (first ∷ others, mid)) (word, rest) e in
    let same = some_pair_parts _ _ _ _ c.1 in
    (sym same.0, ap₂ (λ x y. x ∷ y) (eqb-true b quote c.0) same.1)

-- what `quoted_of` finds is a quoted token
quoted_sound : (text word rest : List ℕ) → quoted_of text ≡ Some (word, rest) → IsQuoted text word rest
unfolding quoted_of
quoted_sound [] word rest e = cc
quoted_sound (quote ∷ []) word rest e = cc
quoted_sound (quote ∷ first ∷ text) word rest e =
    let split = run (is_inside quote) text in
    let c = chosen (holds bytes.Quote quote && not (first == 10)) (closed quote first split) (word, rest) e in
    let tests = and_parts (holds bytes.Quote quote) (not (first == 10)) c.0 in
    let parts = closed_parts quote first split.0 split.1 word rest c.1 in
    let r = IsRun-run (is_inside quote) text in
    record {
      quote = quote;
      first = first;
      others = split.0;
      is_quote = tests.0;
      line = not-true (first == 10) tests.1;
      inside = r.passes;
      word_is = parts.0;
      whole = ap (λ x. quote ∷ first ∷ x) (r.whole ∙ ap (λ x. split.0 ++ x) parts.1);
    }

-- a quoted token is found
quoted_only : (text word rest : List ℕ) → IsQuoted text word rest → quoted_of text ≡ Some (word, rest)
unfolding quoted_of
quoted_only text word rest q =
    ap quoted_of q.whole
    ∙ ap₂ (λ s t. cond (s && not t) (closed q.quote q.first (run (is_inside q.quote) (q.others ++ q.quote ∷ rest))) None) q.is_quote q.line
    ∙ ap (closed q.quote q.first) (run_only (is_inside q.quote) (q.others ++ q.quote ∷ rest) q.others (q.quote ∷ rest) ended)
    ∙ ap (λ t. cond t (Some (q.first ∷ q.others, rest)) None) (eq-eqb q.quote q.quote refl)
    ∙ ap (λ x. Some (x, rest)) (sym q.word_is)
  where
    ended : IsRun (is_inside q.quote) (q.others ++ q.quote ∷ rest) q.others (q.quote ∷ rest)
    ended = record {
      whole = refl;
      passes = q.inside;
      longest = ap (λ t. not t && not (q.quote == 10)) (eq-eqb q.quote q.quote refl);
    }

pub quoted_finder : IsFinder IsQuoted quoted_of
quoted_finder = record { sound = quoted_sound; only = quoted_only }

-- the length of two quotes and the name
pub quoted_length : (text word rest : List ℕ) → quoted_of text ≡ Some (word, rest) → length text ≡ 2 + length word + length rest
quoted_length text word rest e = let q = quoted_sound text word rest e in
    omega (arith, simp length-append at (ap length q.whole), ap length q.word_is)

pub quoted_shorter : IsShorter quoted_of
quoted_shorter = record { less = λ text word rest e. let h = quoted_length text word rest e in omega arith }
