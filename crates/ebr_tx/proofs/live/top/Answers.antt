use Rattle.std.proofs.Common.{Some, None, sym, ap, ◌∙◌}
use Rattle.std.specs.Option.{option_copied}
use Rattle.ebr_tx.proofs.LiveLemmas.{top-is}
use Rattle.ebr_tx.proofs.live.top.Goals as goal

pub returns-in-Some : goal.returns-in-Some
returns-in-Some c = c.id.ensures ∙ top-is c.args.s c.args.live.now (Some c.in-Some.x.now) (sym (ap option_copied c.in-Some.is) ∙ c.last.ensures)

pub returns-in-None : goal.returns-in-None
returns-in-None c = top-is c.args.s c.args.live.now None (sym (ap option_copied c.in-None.is) ∙ c.last.ensures)
