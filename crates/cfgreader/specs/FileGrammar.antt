-- The grammar of a grammar file: declarations, `%%`, rules, and the programs after a second `%%`.
use Rattle.std.specs.Prelude.{ℕ, true, codes}
use Rattle.constructs.specs.Construct.{◌>>◌, case_of, here, repeat, while_test, gives, emits, expect}
use Rattle.cfgitems.specs.Items.{ProgramsGiven}
use Rattle.cfgkinds.specs.declared.kind.YaccKind.{YaccKind}
use Rattle.cfgreader.specs.Here.{Strict, Lax, blank_here}
use Rattle.cfgreader.specs.Declarations.{declaration, separator_fault}
use Rattle.cfgreader.specs.Rules.{is_rule_next, rule}

-- the rest of the text, unchanged
unfoldable pub programs : ℕ → Lax (Unit {0})
programs len =
    case_of (codes "%%") (do
      blank_here len true
      here (λ text. emits (ProgramsGiven text)))
    (gives tt)

unfoldable pub file : YaccKind → (len : ℕ) → Strict (Unit {0})
file kind len = do
  blank_here len true
  repeat (declaration len kind)
  expect (codes "%%") (separator_fault len)
  blank_here len true
  repeat (while_test is_rule_next (rule len kind))
  programs len
