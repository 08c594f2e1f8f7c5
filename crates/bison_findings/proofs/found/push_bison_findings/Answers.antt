use Rattle.std.proofs.Common.{◌≡◌, ◌++◌, List, map, length, ap, refl, subst, ◌∙◌}
use Rattle.std.proofs.lemmas.Result.{on_ok_weaker}
use Rattle.bison_words.specs.Words.{Word, word_view}
use Rattle.text_findings.specs.Reports.{ReportsBelow}
use Rattle.bison_findings.specs.Aliases.{repeated_aliases}
use Rattle.bison_findings.specs.Commas.{ReportsStrayComma}
use Rattle.bison_findings.specs.Defines.{ReportsMisspelledDefine}
use Rattle.bison_findings.specs.Found.{words_of}
use Rattle.bison_findings.proofs.found.push_bison_findings.Goals as goal

pub returns : goal.returns
returns c =
    let text = c.args.text.now in
    let before = c.args.all.now.items in
    let words_are : map word_view c.as_slice.result.now ≡ words_of text = ap (map word_view) c.as_slice.ensures.value ∙ c.in_ok-read.ensures.read.words_are in
    on_ok_weaker c.push_word_findings.result
    (λ h. (
      h.0 ++ (repeated_aliases (words_of text) ++ h.1),
      record {
        defines = h.0;
        commas = h.1;
        are_defines = subst (λ (words : List Word). ReportsBelow (ReportsMisspelledDefine words) (length words) h.0) words_are h.2;
        are_commas = subst (λ (words : List Word). ReportsBelow (ReportsStrayComma text words) (length words) h.1) words_are h.3;
        is = refl;
      },
      h.4 ∙ ap (λ words. before ++ (h.0 ++ (repeated_aliases words ++ h.1))) words_are,
    ))
    c.push_word_findings.ensures
