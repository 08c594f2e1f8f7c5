use Rattle.std.proofs.Common.{false, get_or, string_bytes, sym, ap, ◌∙◌}
use Rattle.std.specs.Prelude.{unwrap_or}
use Rattle.std.proofs.lemmas.Option.{unwrap_or-slice_get}
use Rattle.bison_findings.proofs.Ranges.{kept_fewer, kept_more}
use Rattle.bison_findings.proofs.states.write_tokens_in.Goals as goal
use Rattle.bison_findings.proofs.states.write_tokens_in.Goals.{then-unwrap_or+in_ok-push_str+in_ok-write_token, else-unwrap_or}

pub loop-token-preserved : goal.loop-token-preserved
loop-token-preserved c =
    let g = c.args.grammar.now in
    let t = c.loop-token.token in
    let bit = sym (unwrap_or-slice_get c.args.bits.now t false) ∙ ap (λ o. unwrap_or o false) (sym c.get.ensures) ∙ sym c.unwrap_or.ensures in
    elim c.if-unwrap_or.branch [
      | then-unwrap_or+in_ok-push_str+in_ok-write_token w ↦ kept_more g (λ t. get_or c.args.bits.now t false) t _ _ _ _ _ _ c.loop-token.invariant
          (bit ∙ w.if-unwrap_or.true)
          w.in_ok-push_str.ensures.bytes (ap string_bytes w.text-is ∙ w.in_ok-write_token.ensures) (ap (λ s. s.now) w.separator-is)
      | else-unwrap_or w ↦ kept_fewer g (λ t. get_or c.args.bits.now t false) t _ _ _ _ _ c.loop-token.invariant (bit ∙ w.if-unwrap_or.false)
          (ap string_bytes w.text-is) (ap (λ s. s.now) w.separator-is)
    ]
