use Rattle.std.proofs.Common.{subst}
use Rattle.constructs.specs.Construct.{computes}
use Rattle.constructs.specs.Steps.{Stops}
use Rattle.bison_reader.specs.FileGrammar.{file}
use Rattle.bison_reader.specs.Inner.Builds.{fault_of, rest_of, word_reader}
use Rattle.bison_reader.proofs.Whole.{all_read}
use Rattle.bison_reader.proofs.read.read_file.Goals as goal

pub returns-in-Ok : goal.returns-in-Ok
returns-in-Ok c = all_read c.args.reader.now c.file.new.self c.requires c.in-Ok.ensures.2

pub returns-in-Err-Unexpected : goal.returns-in-Err-Unexpected
returns-in-Err-Unexpected c =
    let old = c.args.reader.now in
    let stops = subst (λ stop. Stops word_reader old c.file.new.self (fault_of stop) (computes (file old.sorts.now) (rest_of old))) c.in-Err-Unexpected.field-0-is c.in-Err-Unexpected.ensures in
    all_read old c.file.new.self c.requires stops.1
