use Rattle.std.proofs.Common.{◌≡◌, IfOk, subst}
use Rattle.ebr_check.proofs.Distinct.{distinct_paths}
use Rattle.ebr_check.proofs.handlers.are_distinct.Goals as goal

pub returns : goal.returns
returns c = subst (λ all. IfOk c.are_fresh.result (λ distinct. distinct ≡ all)) (distinct_paths c.args.paths.now) c.are_fresh.ensures
