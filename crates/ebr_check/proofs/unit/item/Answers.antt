use Rattle.std.proofs.lemmas.Result.{on_ok_weaker}
use Rattle.ebr_scope.specs.Lent.{env}
use Rattle.ebr_check.proofs.Parts.{head_noted}
use Rattle.ebr_check.proofs.unit.item.Goals as goal

pub returns-in-Head-clause-least : goal.returns-in-Head-clause-least
returns-in-Head-clause-least c =
    rw c.in-Head.is
    (on_ok_weaker c.head.result (head_noted c.in-Head.it (env c.args.place.now c.args.known.now) c.args.least.now c.head.new.least) c.head.ensures)
