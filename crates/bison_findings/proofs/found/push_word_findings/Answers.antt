use Rattle.std.proofs.Common.{◌≡◌, ◌++◌, List, map, ap, ◌∙◌, append_assoc}
use Rattle.std.proofs.lemmas.Result.{on_ok_weaker}
use Rattle.bison_words.specs.Words.{word_view}
use Rattle.text_findings.specs.Finding.{ShownFinding}
use Rattle.bison_findings.specs.Aliases.{repeated_aliases}
use Rattle.bison_findings.proofs.found.push_word_findings.Goals as goal

joined : (a0 a1 a2 a3 d r c : List ShownFinding) → a1 ≡ a0 ++ d → a2 ≡ a1 ++ r → a3 ≡ a2 ++ c → a3 ≡ a0 ++ (d ++ (r ++ c))
joined a0 a1 a2 a3 d r c e1 e2 e3 =
    let all : a3 ≡ ((a0 ++ d) ++ r) ++ c = e3 ∙ ap (λ z. z ++ c) (e2 ∙ ap (λ z. z ++ r) e1) in
    all ∙ simp append_assoc

pub returns : goal.returns
returns c =
    let (defines, are_defines, defines_is) = c.in_ok-push_misspelled_defines.ensures in
    on_ok_weaker c.push_stray_commas.result
    (λ h. (
      defines,
      h.0,
      are_defines,
      h.1,
      joined c.args.all.now.items c.push_misspelled_defines.new.all.items c.push_repeated_aliases.new.all.items c.push_stray_commas.new.all.items
          defines (repeated_aliases (map word_view c.args.words.now)) h.0 defines_is c.in_ok-push_repeated_aliases.ensures h.2,
    ))
    c.push_stray_commas.ensures
