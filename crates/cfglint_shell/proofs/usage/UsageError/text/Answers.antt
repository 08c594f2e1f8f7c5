use Rattle.std.proofs.Common.{◌≡◌, ◌++◌, IfOk, codes, string_bytes, ap, subst}
use Rattle.cfglint_shell.specs.declared.usage.UsageError.{UsageError}
use Rattle.cfglint_shell.specs.Inner.{usage_error_view}
use Rattle.cfglint_shell.specs.Requests.{option_names, unknown_text, usage, usage_error_text}
use Rattle.cfglint_shell.proofs.usage.UsageError.text.Goals as goal

pub returns-in-UnknownOption : goal.returns-in-UnknownOption
returns-in-UnknownOption c =
    rw c.in-UnknownOption.is (subst (λ name. IfOk c.unknown.result (λ text. string_bytes text ≡ unknown_text (codes "option") c.in-UnknownOption.option.now name option_names ++ usage))
    c.option_part.ensures c.unknown.ensures)

pub returns-in-UnknownKind : goal.returns-in-UnknownKind
returns-in-UnknownKind c = rw c.in-UnknownKind.is c.unknown-in-UnknownKind.ensures

pub returns-in-UnknownDefaultKind : goal.returns-in-UnknownDefaultKind
returns-in-UnknownDefaultKind c = rw c.in-UnknownDefaultKind.is c.unknown-in-UnknownDefaultKind.ensures

pub returns-in-UnknownFormat : goal.returns-in-UnknownFormat
returns-in-UnknownFormat c = rw c.in-UnknownFormat.is c.unknown-in-UnknownFormat.ensures

pub returns-in-UnknownUnit : goal.returns-in-UnknownUnit
returns-in-UnknownUnit c = rw c.in-UnknownUnit.is c.unknown-in-UnknownUnit.ensures

pub returns-in-UnknownColor : goal.returns-in-UnknownColor
returns-in-UnknownColor c = rw c.in-UnknownColor.is c.unknown-in-UnknownColor.ensures

pub returns-in-UnknownFinding : goal.returns-in-UnknownFinding
returns-in-UnknownFinding c = rw c.in-UnknownFinding.is c.unknown-in-UnknownFinding.ensures
