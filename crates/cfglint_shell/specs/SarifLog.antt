-- The log of SARIF 2.1.0 of a run, and what a run writes in each format.
use Rattle.std.specs.Prelude.{ℕ, ◌==◌, List, ◌++◌, codes}
use Rattle.std.specs.List.{after_first}
use Rattle.cfglint_shell.specs.declared.format.Format.{Format}
use Rattle.cfglint_shell.specs.declared.format.Format.TheVariants.{Text, Json, Github, Sarif}

-- what comes before the results: the program and its rules, which are the kinds of findings, of errors, and of files that can't be read as text
unfoldable pub log_start : List ℕ
log_start = codes "{\"version\":\"2.1.0\",\"$schema\":\"https://json.schemastore.org/sarif-2.1.0.json\",\n\"runs\":[{\"tool\":{\"driver\":{\"name\":\"cfglint\",\"version\":\"0.15.0\",\"rules\":[\n{\"id\":\"unused-rule\"},\n{\"id\":\"unused-token\"},\n{\"id\":\"shadowed-rule\"},\n{\"id\":\"start-without-sentence\"},\n{\"id\":\"no-sentence\"},\n{\"id\":\"unusable-rule\"},\n{\"id\":\"unusable-production\"},\n{\"id\":\"useless-symbol\"},\n{\"id\":\"cyclic-rule\"},\n{\"id\":\"repeated-production\"},\n{\"id\":\"unused-precedence\"},\n{\"id\":\"repeated-token\"},\n{\"id\":\"overridden-precedence\"},\n{\"id\":\"glued-keyword\"},\n{\"id\":\"needless-expect-unused\"},\n{\"id\":\"escaped-token\"},\n{\"id\":\"implicit-empty\"},\n{\"id\":\"shift-reduce\"},\n{\"id\":\"reduce-reduce\"},\n{\"id\":\"unmet-expect\"},\n{\"id\":\"undefined-precedence\"},\n{\"id\":\"missing-empty\"},\n{\"id\":\"swallowed-rule\"},\n{\"id\":\"unknown-key\"},\n{\"id\":\"unknown-reference\"},\n{\"id\":\"unread-value\"},\n{\"id\":\"misspelled-define\"},\n{\"id\":\"repeated-alias\"},\n{\"id\":\"stray-comma\"},\n{\"id\":\"illegal-integer\"},\n{\"id\":\"illegal-name\"},\n{\"id\":\"illegal-string\"},\n{\"id\":\"incomplete-rule\"},\n{\"id\":\"incomplete-comment\"},\n{\"id\":\"incomplete-action\"},\n{\"id\":\"missing-colon\"},\n{\"id\":\"missing-right-arrow\"},\n{\"id\":\"mismatched-brace\"},\n{\"id\":\"non-empty-production\"},\n{\"id\":\"premature-end\"},\n{\"id\":\"production-not-terminated\"},\n{\"id\":\"programs-not-supported\"},\n{\"id\":\"unknown-declaration\"},\n{\"id\":\"prec-without-token\"},\n{\"id\":\"duplicate-precedence\"},\n{\"id\":\"duplicate-avoid-insert\"},\n{\"id\":\"duplicate-implicit-tokens\"},\n{\"id\":\"duplicate-expect\"},\n{\"id\":\"duplicate-expect-rr\"},\n{\"id\":\"duplicate-start\"},\n{\"id\":\"duplicate-actiontype\"},\n{\"id\":\"duplicate-epp\"},\n{\"id\":\"reached-eol\"},\n{\"id\":\"invalid-string\"},\n{\"id\":\"no-start-rule\"},\n{\"id\":\"unknown-symbol\"},\n{\"id\":\"invalid-start-rule\"},\n{\"id\":\"unknown-rule\"},\n{\"id\":\"unknown-token\"},\n{\"id\":\"no-precedence\"},\n{\"id\":\"unknown-epp\"},\n{\"id\":\"expected-input\"},\n{\"id\":\"invalid-yacc-kind\"},\n{\"id\":\"storage-too-small\"},\n{\"id\":\"missing-section\"},\n{\"id\":\"section-illegal-name\"},\n{\"id\":\"section-expected-token\"},\n{\"id\":\"section-unexpected-token\"},\n{\"id\":\"section-duplicate-entry\"},\n{\"id\":\"section-invalid-entry\"},\n{\"id\":\"section-conversion\"},\n{\"id\":\"illegal-characters\"},\n{\"id\":\"illegal-identifier\"},\n{\"id\":\"illegal-escape\"},\n{\"id\":\"illegal-bracketed-name\"},\n{\"id\":\"empty-literal\"},\n{\"id\":\"long-literal\"},\n{\"id\":\"unknown-directive\"},\n{\"id\":\"incomplete-literal\"},\n{\"id\":\"incomplete-string\"},\n{\"id\":\"incomplete-tag\"},\n{\"id\":\"incomplete-bracketed-name\"},\n{\"id\":\"incomplete-code\"},\n{\"id\":\"incomplete-prologue\"},\n{\"id\":\"unexpected-word\"},\n{\"id\":\"repeated-in-production\"},\n{\"id\":\"illegal-priority\"},\n{\"id\":\"not-for-rules\"},\n{\"id\":\"several-starts\"},\n{\"id\":\"rule-is-token\"},\n{\"id\":\"undeclared-symbol\"},\n{\"id\":\"no-rules\"},\n{\"id\":\"unreadable-file\"},\n{\"id\":\"invalid-encoding\"}\n]}},\"columnKind\":\"unicodeCodePoints\",\"results\":["

-- what follows the first comma
abbrev pub after_comma : List ℕ → List ℕ
after_comma lines = after_first (λ byte. byte == 44) lines

-- the log of these lines of results: only the comma before the first one is left out
unfoldable pub sarif_log : List ℕ → List ℕ
sarif_log lines = log_start ++ (after_comma lines ++ codes "\n]}]}\n")

-- what is written in a format, where these are the lines about the files
abbrev pub document : Format → List ℕ → List ℕ
document Text lines = lines
document Json lines = lines
document Github lines = lines
document Sarif lines = sarif_log lines
