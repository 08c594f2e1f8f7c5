use Rattle.std.proofs.Common.{◌≡◌, ◌<◌, ◌++◌, ℕ, Bool, Bor, List, All, length, map, sym, subst, ap, ◌∙◌, arith}
use Rattle.std.specs.List.{flat_map}
use Rattle.std.proofs.lemmas.List.{length-map}
use Rattle.std.proofs.lemmas.List.Folds.{flat_map-map}
use Rattle.cfgrammar.specs.Lists.{positions}
use Rattle.cfgrammar.proofs.Passing.{positions_from-within}
use Rattle.cfgrammar.specs.TIdx.{TIdx}
use Rattle.cfgrammar.specs.Numbered.{NumberedToken}
use Rattle.cfgrammar.proofs.Turns.{All-shown}
use Rattle.lexcheck.specs.LexerNames.{is_missing, is_unknown, missing_tokens, unknown_positions}
use Rattle.cfgrammar.specs.TokenNames.{token_names}
use Rattle.cfgtool.specs.LexerLines.{missing_line_of, unknown_line_at}
use Rattle.cfgtool.proofs.lexer_lines.lexer_lines.Goals as goal

abbrev shown : List (Bor (List ℕ)) → List (List ℕ)
shown names = map (λ name. name.now) names

below : {A : Type 0} (p : A → Bool) (xs : List A) (n : ℕ) (found : List ℕ) → length xs ≡ n → found ≡ positions p xs → All (λ k. k < n) found
below p xs n found long is = subst (All (λ k. k < n)) (sym is) (λ k d within. let inside = positions_from-within p 0 xs k d within in omega (arith, inside, long))

pub write_unknown-requires : goal.write_unknown-requires
write_unknown-requires c =
    let tokens = token_names c.args.grammar.now in
    let names = c.deref-2.result.now in
    subst (All (λ k. k < length names)) (sym c.deref-3.ensures.value)
    (below (is_unknown tokens) (shown names) (length names) c.in_ok-report.report.unknown.items (length-map names (λ (name : Bor (List ℕ)). name.now))
    (c.in_ok-report.ensures.unknown ∙ ap (λ names. unknown_positions tokens (shown names)) (c.deref.ensures.value ∙ sym c.deref-2.ensures.value)))

pub write_missing-requires : goal.write_missing-requires
write_missing-requires c =
    let tokens = c.args.grammar.now.tokens in
    subst (All (λ (t : TIdx ℕ). t.0 < length tokens)) (sym c.deref-4.ensures.value)
    (All-shown (λ t. t < length tokens) (λ (t : TIdx ℕ). t.0) c.in_ok-report.report.missing.items
    (below (is_missing (shown c.deref.result.now)) (token_names c.args.grammar.now) (length tokens) _ (length-map tokens (λ (token : NumberedToken). token.name)) c.in_ok-report.ensures.missing))

pub returns : goal.returns
returns c =
    let grammar = c.args.grammar.now in
    let tokens = token_names grammar in
    let names = ap shown c.deref.ensures.value ∙ c.in_ok-names.ensures in
    let listed = ap shown c.deref-2.ensures.value ∙ c.in_ok-names.ensures in
    let unknown = c.deref-3.ensures.value ∙ c.in_ok-report.ensures.unknown ∙ ap (unknown_positions tokens) names in
    let missing = c.in_ok-report.ensures.missing ∙ ap (missing_tokens tokens) names in
    let token_lines = ap (flat_map (λ (t : TIdx ℕ). missing_line_of grammar t.0)) c.deref-4.ensures.value
    ∙ sym (flat_map-map (missing_line_of grammar) (λ (t : TIdx ℕ). t.0) c.in_ok-report.report.missing.items) ∙ ap (flat_map (missing_line_of grammar)) missing in
    c.in_ok-write_missing.ensures
    ∙ (λ i. (c.in_ok-write_unknown.ensures ∙ (λ j. c.new-lines.ensures.bytes j ++ flat_map (unknown_line_at (listed j)) (unknown j))) i ++ token_lines i)
