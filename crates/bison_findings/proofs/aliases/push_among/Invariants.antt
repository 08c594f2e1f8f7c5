use Rattle.std.proofs.Common.{◌≡◌, ◌++◌, drop, false, map}
use Rattle.bison_words.specs.Words.{word_view}
use Rattle.bison_findings.specs.Aliases.{repeated_after}
use Rattle.bison_findings.proofs.aliases.push_among.Given as goal

-- the findings so far, and those about the words that are left
abbrev pub invariant-loop-word : goal.invariant-loop-word
invariant-loop-word l =
    l.all.items ++ repeated_after l.is_listed (map (λ name. name.now) l.known.keys) (map word_view (drop l.word-index l.words))
    ≡ l.fn.all.items ++ repeated_after false (map (λ name. name.now) l.fn.known.keys) (map word_view l.words)
