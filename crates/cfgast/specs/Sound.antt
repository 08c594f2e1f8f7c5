-- What holds of everything that was parsed: the syntax is well formed, its rules have names, and if there are no errors, it passes
-- validation.
use Rattle.std.specs.Prelude.{◌≡◌, List, [], None, All, true}
use Rattle.constructs.specs.Pieces.{starts}
use Rattle.cfgwords.specs.declared.bytes.ByteClass.TheVariants as bytes
use Rattle.cfgwords.specs.Bytes.{holds}
use Rattle.cfgitems.specs.Syntax.{Syntax}
use Rattle.cfgast.specs.WellFormed.{IsWellFormed}
use Rattle.cfgast.specs.Check.{check_of}
use Rattle.cfgerrors.specs.Errors.{GrammarError}

pub record IsSound (syntax : Syntax) (errors : List GrammarError) : Type 0 where
  pub well_formed : IsWellFormed syntax
  -- a rule's name begins with a letter, `_` or `.`
  pub rules_are_names : All (λ rule. starts (holds bytes.NameStart) rule.0 ≡ true) syntax.rules
  pub checked : errors ≡ [] → check_of syntax ≡ None
