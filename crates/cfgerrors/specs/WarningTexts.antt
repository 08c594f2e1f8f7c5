-- What `{}` prints of a warning, in bytes.
use Rattle.std.specs.Prelude.{ℕ, List, codes}
use Rattle.cfgerrors.specs.declared.warning.YaccGrammarWarningKind.{YaccGrammarWarningKind}
use Rattle.cfgerrors.specs.declared.warning.YaccGrammarWarningKind.TheVariants.{UnusedRule, UnusedToken}

abbrev pub warning_text : YaccGrammarWarningKind → List ℕ
warning_text UnusedRule = codes "Unused rule"
warning_text UnusedToken = codes "Unused token"
