use Rattle.std.proofs.Common.{refl, ◌∙◌, Err, subst}
use Rattle.cfgsyntax.specs.Inner.Steps.{IsReadSection}
use Rattle.cfgsyntax.proofs.After.{shorter}
use Rattle.cfgsyntax.proofs.OneReading.{one_reading, read_by, read_on}
use Rattle.cfgsyntax.proofs.read.read.Goals as goal

pub returns-in-Ok-clause-one : goal.returns-in-Ok-clause-one
returns-in-Ok-clause-one c = one_reading c.args.kind c.args.text.now

pub returns-in-Err-Errors-clause-one : goal.returns-in-Err-Errors-clause-one
returns-in-Err-Errors-clause-one c = one_reading c.args.kind c.args.text.now

pub returns-in-Err-OutOfMemory-clause-one : goal.returns-in-Err-OutOfMemory-clause-one
returns-in-Err-OutOfMemory-clause-one c = one_reading c.args.kind c.args.text.now

pub read_after-requires : goal.read_after-requires
read_after-requires c =
    let after = subst (IsReadSection c.args.text.now) c.in-Ok.is c.requires in
    shorter c.args.text.now c.utf8.text _ c.in-Ok.rest.now after.1

pub returns-in-Ok-clause-read : goal.returns-in-Ok-clause-read
returns-in-Ok-clause-read c =
    let after = subst (IsReadSection c.args.text.now) c.in-Ok.is c.requires in
    read_on c.args.kind c.args.text.now c.in-Ok.rest.now _ refl after.0 after.1 c.read_after.result c.read_after.ensures

pub returns-in-Err-Errors-clause-read : goal.returns-in-Err-Errors-clause-read
returns-in-Err-Errors-clause-read c =
    let given = subst (IsReadSection c.args.text.now) c.in-Err-Errors.is c.requires in
    let after = rw c.in-Err-Errors.field-0-is at given in
    rw c.in-Err-Errors.field-0-is (read_by c.args.kind c.args.text.now (Err _) _ _ after (c.tree_of.ensures ∙ c.none-nothing.ensures) refl)
