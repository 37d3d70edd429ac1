use Rattle.std.proofs.Common.{Some, None}
use Rattle.ebr_value.proofs.Search.{place_found}
use Rattle.ebr_value.proofs.part.place_of.Goals as goal

pub returns-in-Some : goal.returns-in-Some
returns-in-Some c = place_found c.args.text.now c.args.some.now (Some c.in-Some.skipped) c.requires c.in-Some.ensures

pub returns-in-None : goal.returns-in-None
returns-in-None c = place_found c.args.text.now c.args.some.now None c.requires c.in-None.ensures
