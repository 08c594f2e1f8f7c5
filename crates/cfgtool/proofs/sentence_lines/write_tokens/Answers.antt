use Rattle.std.proofs.Common.{◌≡◌, ℕ, ◌+◌, ◌<◌, List, [], ◌++◌, All, length, map, take, get_or, codes, Bor, Option, option_map, unwrap_or, string_bytes, sym, ap, ◌∙◌, append_assoc, arith}
use Rattle.std.specs.List.{concat}
use Rattle.std.proofs.lemmas.List.{get_or_default}
use Rattle.cfgrammar.specs.Grammar.{Token}
use Rattle.cfgrammar.specs.TIdx.{TIdx}
use Rattle.cfgrammar.specs.Accessors.{sym_name}
use Rattle.cfgrammar.proofs.Shows.{token_named}
use Rattle.cfgrammar.proofs.Turns.{All-shown, more_joined}
use Rattle.cfgtool.specs.SentenceLines.{token_text}
use Rattle.cfgtool.proofs.sentence_lines.write_tokens.Goals as goal

named : (n : ℕ) (tokens : List (TIdx ℕ)) → All (λ t. t + 1 < n) (map (λ (t : TIdx ℕ). t.0) tokens)
    → (i : ℕ) (d : TIdx ℕ) → i < length tokens → (get_or tokens i d).0 + 1 < n
named n tokens all = All-shown (λ t. t + 1 < n) (λ (t : TIdx ℕ). t.0) tokens all

pub token_name-requires : goal.token_name-requires
token_name-requires c =
    let below = named (length c.args.grammar.now.tokens) c.args.tokens.now c.requires c.loop-tidx.tidx-index (record { 0 = 0 }) c.loop-tidx-test.true in
    omega (arith, below)

pub unwrap-name-requires : goal.unwrap-name-requires
unwrap-name-requires c = c.token_name.ensures.named.1
    (named (length c.args.grammar.now.tokens) c.args.tokens.now c.requires c.loop-tidx.tidx-index (record { 0 = 0 }) c.loop-tidx-test.true)

pub loop-tidx-preserved : goal.loop-tidx-preserved
loop-tidx-preserved c =
    let text = token_text c.args.grammar.now in
    let tokens = c.args.tokens.now in
    let next = c.loop-tidx.tidx-index in
    let token = get_or tokens next (record { 0 = 0 }) in
    let before = string_bytes c.args.lines.now in
    let name : sym_name c.args.grammar.now (Token token.0) ≡ c.unwrap-name.result.now =
    token_named c.args.grammar.now _ _ c.token_name.ensures.value
    ∙ ap (λ (o : Option (Bor (List ℕ))). unwrap_or (option_map (λ name. name.now) o) []) c.unwrap-name.ensures in
    c.in_ok-write.ensures.bytes
    ∙ ap (λ n. string_bytes c.loop-tidx.lines ++ (codes " \"" ++ (n ++ codes "\""))) (sym name)
    ∙ ap (λ t. t ++ text token.0) c.loop-tidx.invariant
    ∙ append_assoc before (concat (map text (map (λ (t : TIdx ℕ). t.0) (take next tokens)))) (text token.0)
    ∙ ap (λ t. before ++ t) (more_joined text (λ (t : TIdx ℕ). t.0) tokens next token c.loop-tidx-test.true
    (get_or_default tokens next (record { 0 = 0 }) token c.loop-tidx-test.true))
