use Rattle.std.proofs.Common.{◌≡◌, ℕ, List, ◌++◌, map, take, codes, Vec, Global, string_bytes, sym, subst, ap, ◌∙◌, append_assoc}
use Rattle.std.specs.List.{concat}
use Rattle.cfgrammar.specs.TIdx.{TIdx}
use Rattle.cfgrammar.specs.Sentences.{numbers_of}
use Rattle.cfgrammar.proofs.Turns.{All-shown, more_joined}
use Rattle.cfgtool.specs.SentenceLines.{AreNamed, sentence_line, token_text}
use Rattle.cfgtool.proofs.sentence_lines.write_sentences.Goals as goal

-- three parts after what was written before
three_more : (before first second third one two all : List ℕ) → one ≡ before ++ first → two ≡ one ++ second → all ≡ two ++ third
    → all ≡ before ++ (first ++ (second ++ third))
three_more before first second third one two all e f g =
    g ∙ ap (λ t. t ++ third) (f ∙ ap (λ t. t ++ second) e ∙ append_assoc before first second)
    ∙ append_assoc before (first ++ second) third ∙ ap (λ t. before ++ t) (append_assoc first second third)

pub write_tokens-requires : goal.write_tokens-requires
write_tokens-requires c =
    let g = c.args.grammar.now in
    let sentence = c.sentence-item.result in
    subst (λ (tokens : List (TIdx ℕ)). AreNamed g (map (λ (t : TIdx ℕ). t.0) tokens)) (sym c.deref.ensures.value)
    (subst (λ (v : Vec (TIdx ℕ) Global). AreNamed g (numbers_of (λ (s : ℕ). s) v)) (sym c.sentence-item.is)
    (All-shown (AreNamed g) (numbers_of (λ (s : ℕ). s)) c.args.sentences.now c.requires c.loop-sentence.sentence-index sentence c.loop-sentence-test.true))

pub loop-sentence-preserved : goal.loop-sentence-preserved
loop-sentence-preserved c =
    let g = c.args.grammar.now in
    let line = sentence_line g in
    let numbers = numbers_of (λ (s : ℕ). s) in
    let sentence = c.sentence-item.result in
    let next = c.loop-sentence.sentence-index in
    let before = string_bytes c.args.lines.now in
    let words = c.in_ok-write_tokens.ensures
    ∙ ap (λ (tokens : List (TIdx ℕ)). string_bytes c.push_str.new.self ++ concat (map (token_text g) (map (λ (t : TIdx ℕ). t.0) tokens))) c.deref.ensures.value in
    three_more (string_bytes c.loop-sentence.lines) (codes "-") (concat (map (token_text g) (numbers sentence))) (codes "\n")
    (string_bytes c.push_str.new.self) (string_bytes c.write_tokens.new.lines) (string_bytes c.push_str-in-loop-sentence.new.self)
    c.in_ok-push_str.ensures.bytes words c.in_ok-push_str-2.ensures.bytes
    ∙ ap (λ t. t ++ line (numbers sentence)) c.loop-sentence.invariant
    ∙ append_assoc before (concat (map line (map numbers (take next c.args.sentences.now)))) (line (numbers sentence))
    ∙ ap (λ t. before ++ t) (more_joined line numbers c.args.sentences.now next sentence c.loop-sentence-test.true c.sentence-item.is)
