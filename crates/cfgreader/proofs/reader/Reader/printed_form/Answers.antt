use Rattle.std.proofs.Common.{arith}
use Rattle.constructs.proofs.Agree.{leaves}
use Rattle.cfgreader.specs.Here.{epp_string_here}
use Rattle.cfgreader.proofs.reader.Reader.printed_form.Goals as goal

pub new-requires : goal.new-requires
new-requires c =
    let further = (leaves (epp_string_here c.args.self.now.len)).least c.args.self.now.rest.now _ _ c.in_ok-form.ensures.0 in
    omega (arith, further, c.offset-start.ensures, c.offset.ensures, c.in_ok-form.ensures.1)
