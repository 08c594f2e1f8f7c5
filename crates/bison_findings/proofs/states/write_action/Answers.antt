use Rattle.std.proofs.Common.{◌≡◌, ℕ, Bool, cond, List, [], ◌++◌, IfSome, append_assoc, codes, length, string_bytes, eq-eqb, sym, ap, subst, ◌∙◌}
use Rattle.std.proofs.lemmas.List.{length-map}
use Rattle.std.proofs.lemmas.Result.{on_ok_weaker}
use Rattle.cfgrammar.specs.Numbered.{Numbered}
use Rattle.lr_states.specs.declared.Item.{Item}
use Rattle.lr_states.specs.Lookaheads.{tokens_of}
use Rattle.lr_conflicts.specs.Conflicts.{ConflictTables}
use Rattle.bison_findings.specs.Shown.{symbols_of, tokens_text}
use Rattle.bison_findings.specs.States.{action_line, action_text, tokens_in}
use Rattle.bison_findings.proofs.Endings.{ended}
use Rattle.bison_findings.proofs.states.write_action.Goals as goal

-- a text to which texts are added one by one
added : (t a b c d e : List ℕ) {ta tb tc td te : List ℕ} → ta ≡ t ++ a → tb ≡ ta ++ b → tc ≡ tb ++ c → td ≡ tc ++ d → te ≡ td ++ e
    → te ≡ t ++ (a ++ (b ++ (c ++ (d ++ e))))
added t a b c d e at tokens colon action end =
    end ∙ ap (λ t. t ++ e) (action ∙ ap (λ t. t ++ d) (colon ∙ ap (λ t. t ++ c) (tokens ∙ ap (λ t. t ++ b) at))) ∙ simp append_assoc

module _ (g : Numbered) (x : ConflictTables) (q : ℕ) (item : Item) (read : item.read ≡ length (symbols_of g item.production)) where
  abbrev line : List Bool → List ℕ
  line bits = codes "    at " ++ (tokens_text g (tokens_in g bits) ++ (codes ": " ++ (action_text g item.production ++ codes "\n")))

  line_is : (bits : List Bool) → bits ≡ tokens_of x.lookaheads q item → line bits ≡ action_line g x q item
  line_is bits is =
      ap line is ∙ ap (λ b. cond b (line (tokens_of x.lookaheads q item)) []) (sym (eq-eqb item.read (length (symbols_of g item.production)) read))

pub returns : goal.returns
returns c =
    let g = c.args.grammar.now in
    let x = c.args.conflicts.now in
    let item = c.args.item in
    let bits = subst (λ o. IfSome o (λ row. row.now ≡ tokens_of c.lookaheads.result.now c.args.state item)) c.unwrap-bits.ensures c.tokens.ensures.some
    ∙ (λ i. tokens_of (c.lookaheads.ensures i) c.args.state item) in
    let read = c.if-item-symbols_of.false ∙ sym (length-map c.symbols_of.result.now _) ∙ ap length c.symbols_of.ensures.symbols in
    on_ok_weaker c.push_str-3.result
    (λ end. added (string_bytes c.args.text.now) (codes "    at ") (tokens_text g (tokens_in g c.unwrap-bits.result.now)) (codes ": ")
    (action_text g item.production) (codes "\n")
    c.in_ok-push_str.ensures.bytes c.in_ok-write_tokens_in.ensures c.in_ok-push_str-2.ensures.bytes c.in_ok-write_reduction.ensures end
    ∙ ap (λ line. string_bytes c.args.text.now ++ line) (line_is g x c.args.state item read c.unwrap-bits.result.now bits))
    (ended c.push_str-3.result (string_bytes c.write_reduction.new.text) (codes "\n") (string_bytes c.push_str-3.new.self) c.push_str-3.ensures.bytes)
