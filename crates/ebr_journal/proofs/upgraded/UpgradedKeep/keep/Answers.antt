use Rattle.std.proofs.Common.{sym, subst}
use Rattle.ebr_encoding.specs.Spelled.{HasForm}
use Rattle.ebr_journal.proofs.Layouts.{long_form}
use Rattle.ebr_journal.proofs.upgraded.UpgradedKeep.keep.Goals as goal

pub append-requires-clause-fits : goal.append-requires-clause-fits
append-requires-clause-fits g c = subst (λ form. HasForm form c.args.r.now) (sym c.self.invariant) (long_form c.args.r.now c.requires.payload)
