use Rattle.std.proofs.Common.{◌≡◌, ◌++◌, false, codes, not, string_bytes, ap, ◌∙◌}
use Rattle.std.proofs.lemmas.Bool.{eq-eqb, not-false}
use Rattle.std.proofs.lemmas.Result.{on_ok_weaker}
use Rattle.cfgrammar.specs.Numbered.{Numbered}
use Rattle.lr_conflicts.specs.declared.clashes.Clash.{Clash}
use Rattle.bison_findings.specs.Shown.{other_text}
use Rattle.bison_findings.proofs.Endings.{ended}
use Rattle.bison_findings.proofs.texts.write_other.Goals as goal

accepts : (g : Numbered) (clash : Clash) → not clash.shifts ≡ false → clash.other.production ≡ g.start_production → codes "accepted" ≡ other_text g clash
accepts g clash shifts is = rw (not-false clash.shifts shifts, eq-eqb clash.other.production g.start_production is)

pub returns-then-clash-from : goal.returns-then-clash-from
returns-then-clash-from c =
    let text = string_bytes c.args.text.now in
    on_ok_weaker c.push_str-then-clash-from.result
    (λ written. written ∙ ap (λ other. text ++ other) (accepts c.args.grammar.now c.args.clash c.if-not-clash.false (c.if-clash-from.true ∙ c.from.ensures ∙ c.start_prod.ensures.value)))
    (ended c.push_str-then-clash-from.result text (codes "accepted") (string_bytes c.push_str-then-clash-from.new.self) c.push_str-then-clash-from.ensures.bytes)
