use Rattle.std.proofs.Common.{◌≡◌, ◌++◌, codes, map, take, string_bytes}
use Rattle.std.specs.List.{flat_map}
use Rattle.bison_findings.specs.Shown.{token_text}
use Rattle.bison_findings.proofs.texts.write_tokens.Given as goal

-- the tokens so far are written
abbrev pub invariant-loop-clash : goal.invariant-loop-clash
invariant-loop-clash l = string_bytes l.text ≡ string_bytes l.initial.text
    ++ flat_map (λ other. codes ", " ++ token_text l.grammar other) (map (λ clash. clash.token) (take l.clash-index l.same))
