use Rattle.cfgtool.specs.Report.{AreRequestedLines}
use Rattle.cfgtool.proofs.OfText.{made_reported}
use Rattle.cfgtool.proofs.engine.write_requested.Goals as goal

pub returns-clause-reported : goal.returns-clause-reported
returns-clause-reported g c =
    let it = c.read_text-made.ensures in
    let text = c.args.text.now in
    (it.0, it.1, made_reported (AreRequestedLines c.args.request text) text it.0 c.read_text-made.result _ _ c.write_report.result it.2 c.write_report.ensures.reported)
