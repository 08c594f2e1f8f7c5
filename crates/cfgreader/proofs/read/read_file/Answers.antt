use Rattle.cfgreader.proofs.Built.{file_read}
use Rattle.cfgreader.proofs.read.read_file.Goals as goal

pub returns : goal.returns
returns c =
    file_read c.args.kind c.args.len c.args.rest.now c.new-reader.result c.new-reader.ensures.offset.0 c.new-reader.ensures.offset.1
    c.stop_in-stop.new.reader _ _ _ c.new-reader.ensures.tree c.into_syntax.ensures c.stop_in-stop.ensures c.with_end.ensures.both
