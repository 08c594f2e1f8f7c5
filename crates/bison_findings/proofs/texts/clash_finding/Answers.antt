use Rattle.std.proofs.Common.{◌≡◌, ℕ, List, None, ◌∷◌, ◌++◌, codes, map, ap, ◌∙◌, append_assoc}
use Rattle.cfgrammar.specs.Grammar.{Sym}
use Rattle.cfgrammar.specs.Numbered.{Numbered}
use Rattle.cfgrammar.specs.Span.{Span}
use Rattle.finding_kinds.specs.declared.finding_kind.FindingKind.{FindingKind}
use Rattle.lr_conflicts.specs.declared.clashes.Clash.{Clash}
use Rattle.bison_findings.specs.Shown.{after_text, clash_finding, clash_kind, clash_spans, clash_title, other_text, production_text, read_symbols, tokens_text}
use Rattle.bison_findings.proofs.texts.clash_finding.Goals as goal

-- a text to which texts are added one by one
added : (a b c d e f g h : List ℕ) {ta tb tc td te tf tg th : List ℕ} → ta ≡ a → tb ≡ ta ++ b → tc ≡ tb ++ c → td ≡ tc ++ d → te ≡ td ++ e → tf ≡ te ++ f → tg ≡ tf ++ g → th ≡ tg ++ h
    → th ≡ a ++ (b ++ (c ++ (d ++ (e ++ (f ++ (g ++ h))))))
added a b c d e f g h title tokens colon after may production or other =
    other ∙ ap (λ t. t ++ h) (or ∙ ap (λ t. t ++ g) (production ∙ ap (λ t. t ++ f) (may ∙ ap (λ t. t ++ e) (after ∙ ap (λ t. t ++ d) (colon ∙ ap (λ t. t ++ c) (tokens ∙ ap (λ t. t ++ b) title))))))
    ∙ simp append_assoc

module _ (g : Numbered) (clash : Clash) (tokens : List ℕ) where
  is_finding : {kind : FindingKind} {spans : List Span} {symbols : List Sym} {ta tb tc td te tf tg th : List ℕ} → kind ≡ clash_kind clash → spans ≡ clash_spans g clash
      → ta ≡ clash_title clash → tb ≡ ta ++ tokens_text g tokens → tc ≡ tb ++ codes ": " → symbols ≡ read_symbols g clash → td ≡ tc ++ after_text g symbols
      → te ≡ td ++ codes "it may be reduced by  " → tf ≡ te ++ production_text g clash.production → tg ≡ tf ++ codes "  or " → th ≡ tg ++ other_text g clash
      → record { kind = kind; spans = spans; text = th; hint = None } ≡ clash_finding g clash tokens None
  is_finding {tc = tc} kind spans title listed colon symbols after may production or other =
      let text = added (clash_title clash) (tokens_text g tokens) (codes ": ") (after_text g (read_symbols g clash)) (codes "it may be reduced by  ") (production_text g clash.production)
      (codes "  or ") (other_text g clash) title listed colon (after ∙ ap (λ s. tc ++ after_text g s) symbols) may production or other in
      λ i. record { kind = kind i; spans = spans i; text = text i; hint = None }

pub returns : goal.returns
returns c = c.new.ensures ∙ is_finding c.args.grammar.now c.args.first (map (λ (clash : Clash). clash.token) (c.args.first ∷ c.args.same.now)) c.kind_of.ensures c.in_ok-clash_spans.ensures (c.in_ok-text.ensures.ok ∙ c.title_of.ensures) c.in_ok-write_tokens.ensures
    c.in_ok-push_str.ensures.bytes c.read_symbols.ensures.symbols c.in_ok-write_after.ensures c.in_ok-push_str-2.ensures.bytes c.in_ok-write_production.ensures c.in_ok-push_str-3.ensures.bytes
    c.in_ok-write_other.ensures
