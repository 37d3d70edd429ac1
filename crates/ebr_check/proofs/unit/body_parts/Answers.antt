use Rattle.std.proofs.Common.{rules}
use Rattle.std.proofs.lemmas.Result.{on_ok_weaker}
use Rattle.ebr_check.proofs.Parts.{body_noted}
use Rattle.ebr_check.proofs.unit.body_parts.Goals as goal

pub returns : goal.returns
returns c =
    on_ok_weaker c.handlers.result
    (body_noted c.args.it.now c.args.place.now c.within_block-inner.result c.args.known.now c.declarations.new.known c.subprograms.new.known c.statements.new.known
    c.args.least.now c.declarations.new.least c.subprograms.new.least c.statements.new.least c.handlers.new.least
    (search rules) (search rules) (search rules) c.in_ok-subprograms.ensures.known c.within_block-inner.ensures
    c.in_ok-statements.ensures.least c.in_ok-statements.ensures.known)
    c.handlers.ensures.least
