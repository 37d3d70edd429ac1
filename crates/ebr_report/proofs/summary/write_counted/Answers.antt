use Rattle.std.specs.Fmt.{decimal}
use Rattle.ebr_report.proofs.Additions.{AddsPart-after}
use Rattle.ebr_report.proofs.summary.write_counted.Goals as goal

pub returns-clause-part : goal.returns-clause-part
returns-clause-part g c = AddsPart-after _ _ _ c.args.text.now (decimal c.args.number) c.if-not-write_text.ensures.whole c.write_number.ensures.part
