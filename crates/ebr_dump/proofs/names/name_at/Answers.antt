use Rattle.std.proofs.Common.{◌∙◌}
use Rattle.ebr_dump.proofs.Numbered.{none_name, some_name}
use Rattle.ebr_dump.proofs.names.name_at.Goals as goal

pub returns-in-Some : goal.returns-in-Some
returns-in-Some c = c.as_slice.ensures.bytes ∙ some_name c.args.names.now c.args.at c.in-Some.name.now c.in-Some.ensures.lookup.0 c.in-Some.ensures.lookup.1

pub returns-in-None : goal.returns-in-None
returns-in-None c = none_name c.args.names.now c.args.at c.in-None.ensures.lookup.3
