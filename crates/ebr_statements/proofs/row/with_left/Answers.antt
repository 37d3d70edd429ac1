use Rattle.std.proofs.Common.{[], sym, ap, ◌∙◌}
use Rattle.std.specs.Prelude.{unwrap_or}
use Rattle.std.specs.Option.{option_copied}
use Rattle.ebr_bodies.specs.Bodies.{put}
use Rattle.ebr_statements.proofs.Putting.{put_none}
use Rattle.ebr_statements.proofs.row.with_left.Goals as goal

pub returns-in-None : goal.returns-in-None
returns-in-None c = sym (ap (λ o. put c.args.places.now (unwrap_or (option_copied o) []) c.args.new) c.in-None.is ∙ put_none c.args.places.now c.args.new)
