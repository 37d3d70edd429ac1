use Rattle.std.proofs.Common.{◌≡◌, IfOk, subst}
use Rattle.ebr_check.proofs.Distinct.{distinct_names}
use Rattle.ebr_check.proofs.scope.are_distinct.Goals as goal

pub returns : goal.returns
returns c = subst (λ all. IfOk c.are_fresh.result (λ distinct. distinct ≡ all)) (distinct_names c.args.names.now) c.are_fresh.ensures
