use Rattle.std.proofs.Common.{rules}
use Rattle.cfgreader.specs.Declarations.{epp_declaration, printed_token, printed_form}
use Rattle.cfgreader.proofs.reader.Reader.epp_declaration.Goals as goal

pub returns : goal.returns
unfolding epp_declaration printed_token printed_form
returns c = search rules
