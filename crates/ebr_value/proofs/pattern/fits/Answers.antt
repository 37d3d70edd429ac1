use Rattle.std.proofs.Common.{sym}
use Rattle.ebr_value.proofs.Likeness.{too-short}
use Rattle.ebr_value.proofs.pattern.fits.Goals as goal

pub returns-then-text-part : goal.returns-then-text-part
returns-then-text-part c = sym (too-short c.args.part.now c.args.text.now c.if-text-part.true)
