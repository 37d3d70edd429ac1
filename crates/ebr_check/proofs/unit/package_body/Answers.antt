use Rattle.std.proofs.Common.{rules}
use Rattle.std.proofs.lemmas.Result.{on_ok_weaker}
use Rattle.ebr_check.proofs.Parts.{package_body_noted}
use Rattle.ebr_check.proofs.unit.package_body.Goals as goal

pub returns : goal.returns
returns c =
    on_ok_weaker c.body_parts.result
    (package_body_noted c.args.it.now c.args.place.now c.within_package-inner.result c.args.known.now c.add_specification.new.known c.add_subprograms.new.known c.depth.result
    c.args.least.now c.implements.new.least c.declares_body.new.least c.pragmas.new.least c.body_parts.new.least
    c.implements.ensures (search rules) (search rules) (search rules) c.depth.ensures c.within_package-inner.ensures (search rules))
    c.body_parts.ensures
