use Rattle.ebr_script.specs.Pieces.{scanned_of}
use Rattle.ebr_script.proofs.Scanned.{scans_so}
use Rattle.ebr_script.proofs.script.scanned.Goals as goal

pub returns-clause-value : goal.returns-clause-value
returns-clause-value c = c.scan.ensures.only (scanned_of c.args.text.now) (scans_so c.args.text.now)
